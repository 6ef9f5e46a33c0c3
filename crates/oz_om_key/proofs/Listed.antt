-- The names that are listed, from row to row.
use Rattle.std.proofs.Common.{◌≡◌, ◌≤◌, ℕ, Bool, true, false, ◌&&◌, List, [], ◌∷◌, ◌++◌, length, take, filter, Option, None, Some, IsSome, is_some, nat_eq, cond, refl, sym, ◌∙◌, ap, subst, arith, inl, inr, ◌⊎◌, append-nil, append_assoc}
use mathlib.Core.Bool.{false≢true}
use Rattle.std.proofs.lemmas.Bool.Decides.{nat_tests}
use Rattle.std.proofs.lemmas.Cmp.{nat_list_cmp_total, nat_cmp_total, tied_itself}
use Rattle.std.proofs.lemmas.List.{take_all, take_at}
use Rattle.std.specs.Cmp.Lexicographic.{slice_cmp}
use Rattle.std.specs.FinMap.{nat_cmp-IsAntisymmetric, keys as names_in, contains_key-keys}
use Rattle.std.specs.List.{AllByRecursion, starts_with}
use Rattle.std.specs.Ordering.{nat_cmp, is_eq, is_lt, ordering_then, ordering_reverse}
use Rattle.std.specs.declared.cmp.Ordering.{Ordering}
use Rattle.std.specs.declared.cmp.Ordering.TheVariants.{Less, Equal, Greater}
use Rattle.oz_fields.specs.declared.block.Piece.{Piece}
use Rattle.oz_model.specs.Buckets.{is_listed}
use Rattle.oz_namespace.specs.Namespace.{ByName}
use Rattle.oz_rows.specs.declared.key.RowKey.{RowKey}
use Rattle.oz_rows.specs.declared.key.RowKey.TheVariants as keys
use Rattle.oz_rows.specs.declared.row.Row.{Row}
use Rattle.oz_rows.specs.Order.{key_order}
use Rattle.oz_rows.specs.Rows.{kind_of}
use Rattle.oz_rows.specs.laws.Order.{above_below}
use Rattle.oz_rows.specs.laws.Same.{same_is_one}
use Rattle.oz_rows.specs.RowMaps.{Rows, IsBelow, IsAbove, IsNext}
use Rattle.oz_decision.specs.laws.Between.{cmp, not_under_nothing}
use Rattle.oz_decision.specs.laws.Counting.{one_name, NamesRise, is_in}
use Rattle.oz_decision.specs.laws.Rising.{each_in_turn, keys_rise, among_cases, among_head, among_later}
use Rattle.oz_om_key.specs.declared.place.Source.{Source}
use Rattle.oz_om_key.specs.declared.place.Source.TheVariants as sources
use Rattle.oz_om_key.specs.Places.{place_of}
use Rattle.oz_om_key.specs.Walking.{HaveRows, IsFound, IsLast, AreFirst}

tied : (a : List ℕ) → cmp a a ≡ Equal
tied a = tied_itself nat_list_cmp_total a

-- what an order is not
less_equal : Less ≡ Equal → ⊥
less_equal e = false≢true (sym (ap is_lt e))

greater_less : Greater ≡ Less → ⊥
greater_less e = false≢true (ap is_lt e)

equal_less : Equal ≡ Less → ⊥
equal_less e = false≢true (ap is_lt e)

not_itself : (a : List ℕ) → cmp a a ≡ Less → ⊥
not_itself a e = equal_less (sym (tied a) ∙ e)

turned : (a b : List ℕ) → cmp a b ≡ ordering_reverse (cmp b a)
turned a b = nat_list_cmp_total.antisymm a b

not_both : (a b : List ℕ) → cmp a b ≡ Less → cmp b a ≡ Less → ⊥
not_both a b here there = greater_less (sym (turned a b ∙ ap ordering_reverse there) ∙ here)

-- what isn't above a name is below what is above it
lower : (b a c : List ℕ) → (cmp a b ≡ Less → ⊥) → cmp a c ≡ Less → cmp b c ≡ Less
lower b a c over above = by_order (cmp b a) refl
  where
    by_order : (o : Ordering) → cmp b a ≡ o → cmp b c ≡ Less
    by_order Less e = nat_list_cmp_total.trans b a c e above
    by_order Equal e = subst (λ n. cmp n c ≡ Less) (sym (one_name b a e)) above
    by_order Greater e = absurd (over (turned a b ∙ ap ordering_reverse e))

both : (a b : Bool) → a && b ≡ true → record { first : a ≡ true; second : b ≡ true }
both true b e = record { first = refl; second = e }
both false b e = absurd (false≢true e)

pub less_from : (o : Ordering) → is_lt o ≡ true → o ≡ Less
less_from Less e = refl
less_from Equal e = absurd (false≢true e)
less_from Greater e = absurd (false≢true e)

same_byte : (a b : ℕ) → nat_eq a b ≡ true → a ≡ b
same_byte a b e = grind (arith, nat_tests, e)

itself_byte : (a : ℕ) → nat_eq a a ≡ true
itself_byte a = grind (arith, nat_tests)

-- names with a prefix
pub starts_itself : (p : List ℕ) → starts_with nat_eq p p ≡ true
starts_itself [] = refl
starts_itself (a ∷ p) = ap (λ (t : Bool). t && starts_with nat_eq p p) (itself_byte a) ∙ starts_itself p

not_under_prefix : (p x : List ℕ) → starts_with nat_eq x p ≡ true → cmp x p ≡ Less → ⊥
not_under_prefix [] x has under = not_under_nothing x under
not_under_prefix (a ∷ p) [] has under = false≢true has
not_under_prefix (a ∷ p) (d ∷ x) has under =
    let parts = both (nat_eq a d) (starts_with nat_eq x p) has in
    let byte : nat_cmp d a ≡ Equal = ap (nat_cmp d) (same_byte a d parts.first) ∙ tied_itself nat_cmp_total d in
    not_under_prefix p x parts.second (sym (ap (λ o. ordering_then o (cmp x p)) byte) ∙ under)

-- a name between a prefix and a name with the prefix has it
between_starts : (p y x : List ℕ) → (cmp y p ≡ Less → ⊥) → cmp y x ≡ Less → starts_with nat_eq x p ≡ true → starts_with nat_eq y p ≡ true
between_starts [] y x over under has = refl
between_starts (a ∷ p) [] x over under has = absurd (over refl)
between_starts (a ∷ p) (c ∷ y) [] over under has = absurd (false≢true has)
between_starts (a ∷ p) (c ∷ y) (d ∷ x) over under has = by_order (nat_cmp c d) refl under (between_starts p y x)
  where
    parts : record { first : nat_eq a d ≡ true; second : starts_with nat_eq x p ≡ true }
    parts = both (nat_eq a d) (starts_with nat_eq x p) has

    byte : a ≡ d
    byte = same_byte a d parts.first

    by_order : (o : Ordering) → nat_cmp c d ≡ o → ordering_then o (cmp y x) ≡ Less → ((cmp y p ≡ Less → ⊥) → cmp y x ≡ Less → starts_with nat_eq x p ≡ true → starts_with nat_eq y p ≡ true) → nat_eq a c && starts_with nat_eq y p ≡ true
    by_order Less e under next = absurd (over (ap (λ o. ordering_then o (cmp y p)) (ap (nat_cmp c) byte ∙ e)))
    by_order Equal e under next =
        let equal : a ≡ c = byte ∙ sym (nat_cmp-IsAntisymmetric c d e) in
        let later = next (λ below. over (ap (λ o. ordering_then o (cmp y p)) (ap (nat_cmp c) byte ∙ e) ∙ below)) under parts.second in
        ap (λ (t : Bool). t && starts_with nat_eq y p) (ap (nat_eq a) (sym equal) ∙ itself_byte a) ∙ later
    by_order Greater e under next = absurd (greater_less under)

-- lists of names that rise
abbrev AllBelow : List ℕ → List (List ℕ) → Type 0
AllBelow x l = AllByRecursion (λ y. cmp x y ≡ Less) l

in_cases : {Q : Type 0} (q x : List ℕ) (l : List (List ℕ)) → is_in q (x ∷ l) ≡ true → (q ≡ x → Q) → (is_in q l ≡ true → Q) → Q
in_cases q x l = among_cases (slice_cmp nat_cmp) nat_list_cmp_total one_name q x l

in_later : (q x : List ℕ) (l : List (List ℕ)) → is_in q l ≡ true → is_in q (x ∷ l) ≡ true
in_later q x l = among_later (slice_cmp nat_cmp) nat_list_cmp_total one_name q x l

in_head : (x : List ℕ) (l : List (List ℕ)) → is_in x (x ∷ l) ≡ true
in_head x l = among_head (slice_cmp nat_cmp) nat_list_cmp_total one_name x l

of_each : (P : List ℕ → Type 0) (l : List (List ℕ)) (q : List ℕ) → AllByRecursion P l → is_in q l ≡ true → P q
of_each P [] q all e = absurd (false≢true e)
of_each P (x ∷ l) q all e = in_cases q x l e (λ same. subst P (sym same) all.0) (of_each P l q all.1)

module _ (p : List ℕ → Bool) where
  in_filter : (l : List (List ℕ)) (q : List ℕ) → is_in q l ≡ true → p q ≡ true → is_in q (filter p l) ≡ true
  in_filter [] q e holds = e
  in_filter (x ∷ l) q e holds = by_test (p x) refl (λ later. in_filter l q later holds)
    where
      by_test : (t : Bool) → p x ≡ t → (is_in q l ≡ true → is_in q (filter p l) ≡ true) → is_in q (cond t (x ∷ filter p l) (filter p l)) ≡ true
      by_test true is next = in_cases q x l e (λ same. subst (λ y. is_in q (y ∷ filter p l) ≡ true) same (in_head q (filter p l))) (λ later. in_later q x (filter p l) (next later))
      by_test false is next = in_cases q x l e (λ same. absurd (false≢true (sym is ∙ ap p (sym same) ∙ holds))) next

  from_filter : (l : List (List ℕ)) (q : List ℕ) → is_in q (filter p l) ≡ true → record { here : is_in q l ≡ true; holds : p q ≡ true }
  from_filter [] q e = absurd (false≢true e)
  from_filter (x ∷ l) q e = by_test (p x) refl e (λ e. let found = from_filter l q e in record { here = in_later q x l found.here; holds = found.holds })
    where
      by_test : (t : Bool) → p x ≡ t → is_in q (cond t (x ∷ filter p l) (filter p l)) ≡ true → (is_in q (filter p l) ≡ true → record { here : is_in q (x ∷ l) ≡ true; holds : p q ≡ true }) → record { here : is_in q (x ∷ l) ≡ true; holds : p q ≡ true }
      by_test true is e later = in_cases q x (filter p l) e (λ same. record { here = subst (λ y. is_in q (y ∷ l) ≡ true) same (in_head q l); holds = ap p same ∙ is }) later
      by_test false is e later = later e

  filter_below : (x : List ℕ) (l : List (List ℕ)) → AllBelow x l → AllBelow x (filter p l)
  filter_below x [] all = tt
  filter_below x (y ∷ l) all = by_test (p y) (filter_below x l all.1)
    where
      by_test : (t : Bool) → AllBelow x (filter p l) → AllBelow x (cond t (y ∷ filter p l) (filter p l))
      by_test true later = (all.0, later)
      by_test false later = later

  filter_rises : (l : List (List ℕ)) → NamesRise l → NamesRise (filter p l)
  filter_rises [] rise = tt
  filter_rises (x ∷ l) rise = by_test (p x) (filter_rises l rise.1)
    where
      by_test : (t : Bool) → NamesRise (filter p l) → NamesRise (cond t (x ∷ filter p l) (filter p l))
      by_test true later = (filter_below x l rise.0, later)
      by_test false later = later

behind_rises : (f r : List (List ℕ)) → NamesRise (f ++ r) → NamesRise r
behind_rises [] r rise = rise
behind_rises (x ∷ f) r rise = behind_rises f r rise.1

in_either : (q : List ℕ) (f r : List (List ℕ)) → is_in q (f ++ r) ≡ true → (is_in q f ≡ true) ⊎ (is_in q r ≡ true)
in_either q [] r e = inr e
in_either q (x ∷ f) r e = in_cases q x (f ++ r) e (λ same. inl (subst (λ y. is_in q (y ∷ f) ≡ true) same (in_head q f))) (λ later. elim (in_either q f r later) [
  | inl here ↦ inl (in_later q x f here)
  | inr there ↦ inr there
])

in_behind : (q : List ℕ) (f r : List (List ℕ)) → is_in q r ≡ true → is_in q (f ++ r) ≡ true
in_behind q [] r e = e
in_behind q (x ∷ f) r e = in_later q x (f ++ r) (in_behind q f r e)

one_more : (P : List ℕ → Type 0) (f : List (List ℕ)) (x : List ℕ) → AllByRecursion P f → P x → AllByRecursion P (f ++ x ∷ [])
one_more P [] x all p = (p, tt)
one_more P (y ∷ f) x all p = (all.0, one_more P f x all.1 p)

-- fields of keys, from left to right
first_same : (x y : List ℕ) (o p : Ordering) → ordering_then (cmp x y) o ≡ Less → ordering_then (cmp y x) p ≡ Less → x ≡ y
first_same x y o p below above = by_order (cmp x y) refl below
  where
    by_order : (q : Ordering) → cmp x y ≡ q → ordering_then q o ≡ Less → x ≡ y
    by_order Less e below = absurd (greater_less (sym (ap (λ r. ordering_then r p) (turned y x ∙ ap ordering_reverse e)) ∙ above))
    by_order Equal e below = one_name x y e
    by_order Greater e below = absurd (greater_less below)

rest_of : (x y : List ℕ) (o : Ordering) → x ≡ y → ordering_then (cmp x y) o ≡ Less → o ≡ Less
rest_of x y o same below = sym (ap (λ p. ordering_then p o) (ap (cmp x) (sym same) ∙ tied x)) ∙ below

tied_then : (x : List ℕ) (o : Ordering) → ordering_then (cmp x x) o ≡ o
tied_then x o = ap (λ p. ordering_then p o) (tied x)

last_less : (o : Ordering) → ordering_then o Equal ≡ Less → o ≡ Less
last_less Less e = refl
last_less Equal e = absurd (equal_less e)
last_less Greater e = absurd (greater_less e)

head_number : (n m : ℕ) → n ∷ [] ≡ m ∷ [] → n ≡ m
head_number n m e = cc

module _ (v b : List ℕ) (s : Source) where
  abbrev place : List ℕ → RowKey
  place key = place_of v b s key

  place_rises : (a c : List ℕ) → cmp a c ≡ Less → IsBelow (place a) (place c)
  place_rises a c e = by_source s
    where
      by_source : (s : Source) → IsBelow (place_of v b s a) (place_of v b s c)
      by_source sources.Bucket = tied_then v _ ∙ tied_then b _ ∙ ap (λ o. ordering_then o Equal) e
      by_source (sources.Snapshot n) = tied_then v _ ∙ tied_then b _ ∙ tied_then (n ∷ []) _ ∙ ap (λ o. ordering_then o Equal) e

  place_falls : (a c : List ℕ) → IsBelow (place a) (place c) → cmp a c ≡ Less
  place_falls a c e = by_source s e
    where
      by_source : (s : Source) → IsBelow (place_of v b s a) (place_of v b s c) → cmp a c ≡ Less
      by_source sources.Bucket e = last_less _ (rest_of b b _ refl (rest_of v v _ refl e))
      by_source (sources.Snapshot n) e = last_less _ (rest_of (n ∷ []) (n ∷ []) _ refl (rest_of b b _ refl (rest_of v v _ refl e)))

  place_kind : (a c : List ℕ) → kind_of (place a) ≡ kind_of (place c)
  place_kind a c = by_source s
    where
      by_source : (s : Source) → kind_of (place_of v b s a) ≡ kind_of (place_of v b s c)
      by_source sources.Bucket = refl
      by_source (sources.Snapshot n) = refl

key_between : (v b a c : List ℕ) (key : RowKey) → kind_of key ≡ 3 → IsBelow (keys.Key v b a) key → IsBelow key (keys.Key v b c) → (y : List ℕ) × (key ≡ keys.Key v b y)
key_between v b a c (keys.Key w d y) kind below above =
    let first = first_same v w _ _ below above in
    let second = first_same b d _ _ (rest_of v w _ first below) (rest_of w v _ (sym first) above) in
    (y, λ i. keys.Key (sym first i) (sym second i) y)
key_between v b a c (keys.Volume w) kind below above = absurd (omega (arith, kind))
key_between v b a c (keys.Bucket w d) kind below above = absurd (omega (arith, kind))
key_between v b a c (keys.Open w d k n) kind below above = absurd (omega (arith, kind))
key_between v b a c (keys.Deleted w d o k l) kind below above = absurd (omega (arith, kind))
key_between v b a c (keys.Snapshot w d n) kind below above = absurd (omega (arith, kind))
key_between v b a c (keys.SnapshotKey w d n k) kind below above = absurd (omega (arith, kind))
key_between v b a c (keys.Renamed w d o l) kind below above = absurd (omega (arith, kind))
key_between v b a c (keys.Stripe t) kind below above = absurd (omega (arith, kind))

snapshot_key_between : (v b a c : List ℕ) (n : ℕ) (key : RowKey) → kind_of key ≡ 7 → IsBelow (keys.SnapshotKey v b n a) key → IsBelow key (keys.SnapshotKey v b n c) → (y : List ℕ) × (key ≡ keys.SnapshotKey v b n y)
snapshot_key_between v b a c n (keys.SnapshotKey w d m y) kind below above =
    let first = first_same v w _ _ below above in
    let second = first_same b d _ _ (rest_of v w _ first below) (rest_of w v _ (sym first) above) in
    let third = first_same (n ∷ []) (m ∷ []) _ _ (rest_of b d _ second (rest_of v w _ first below)) (rest_of d b _ (sym second) (rest_of w v _ (sym first) above)) in
    let number = head_number n m third in
    (y, λ i. keys.SnapshotKey (sym first i) (sym second i) (sym number i) y)
snapshot_key_between v b a c n (keys.Volume w) kind below above = absurd (omega (arith, kind))
snapshot_key_between v b a c n (keys.Bucket w d) kind below above = absurd (omega (arith, kind))
snapshot_key_between v b a c n (keys.Key w d k) kind below above = absurd (omega (arith, kind))
snapshot_key_between v b a c n (keys.Open w d k m) kind below above = absurd (omega (arith, kind))
snapshot_key_between v b a c n (keys.Deleted w d o k l) kind below above = absurd (omega (arith, kind))
snapshot_key_between v b a c n (keys.Snapshot w d m) kind below above = absurd (omega (arith, kind))
snapshot_key_between v b a c n (keys.Renamed w d o l) kind below above = absurd (omega (arith, kind))
snapshot_key_between v b a c n (keys.Stripe t) kind below above = absurd (omega (arith, kind))

place_between : (v b : List ℕ) (s : Source) (a c : List ℕ) (key : RowKey) → kind_of key ≡ kind_of (place_of v b s a) → IsBelow (place_of v b s a) key → IsBelow key (place_of v b s c) → (y : List ℕ) × (key ≡ place_of v b s y)
place_between v b sources.Bucket a c key kind below above = key_between v b a c key kind below above
place_between v b (sources.Snapshot n) a c key kind below above = snapshot_key_between v b a c n key kind below above

its_row : (o : Option Row) → IsSome o → (row : Row) × (o ≡ Some row)
its_row None some = absurd (false≢true some)
its_row (Some row) some = (row, refl)

module _ (all : Rows) (v b : List ℕ) (s : Source) (m : ByName (List Piece)) (have : HaveRows all v b s m) (prefix start : List ℕ) where
  abbrev whole : List (List ℕ)
  whole = filter (is_listed prefix start) (names_in m)

  abbrev at_place : List ℕ → RowKey
  at_place key = place_of v b s key

  rise_whole : NamesRise whole
  rise_whole = filter_rises (is_listed prefix start) (names_in m) (keys_rise (slice_cmp nat_cmp) nat_list_cmp_total one_name m)

  listed_there : (y : List ℕ) → IsSome (all (at_place y)) → starts_with nat_eq y prefix ≡ true → cmp start y ≡ Less → is_in y whole ≡ true
  listed_there y some has over = in_filter (is_listed prefix start) (names_in m) y (sym (contains_key-keys m y) ∙ have y ∙ some) (ap (λ (t : Bool). t && is_lt (cmp start y)) has ∙ ap is_lt over)

  pub record IsListed (y : List ℕ) : Type 0 where
    pub there : IsSome (all (at_place y))
    pub has_prefix : starts_with nat_eq y prefix ≡ true
    pub over : cmp start y ≡ Less

  there_listed : (y : List ℕ) → is_in y whole ≡ true → IsListed y
  there_listed y e =
      let found = from_filter (is_listed prefix start) (names_in m) y e in
      let parts = both (starts_with nat_eq y prefix) (is_lt (cmp start y)) found.holds in
      record { there = sym (have y) ∙ contains_key-keys m y ∙ found.here; has_prefix = parts.first; over = less_from (cmp start y) parts.second }

  module _ (last : RowKey) (found : List (List ℕ)) (first : AreFirst m v b s prefix start last found) where
    -- one further name
    pub steps : (key : RowKey) (name : List ℕ) → IsFound all v b s prefix last key name → AreFirst m v b s prefix start key (found ++ name ∷ [])
    steps key name is = by_rest first.rest first.whole first.above in_rest
      where
        under : cmp first.at name ≡ Less
        under = place_falls v b s first.at name (subst (λ k. IsBelow k (at_place name)) first.last_is (subst (IsBelow last) is.its_name is.is_next.is_above.above))

        in_whole : is_in name whole ≡ true
        in_whole = listed_there name (subst (λ k. IsSome (all k)) is.its_name is.is_next.is_above.has_row) is.has_prefix (lower start first.at name first.over_start under)

        in_rest : is_in name first.rest ≡ true
        in_rest = elim (in_either name found first.rest (ap (is_in name) (sym first.whole) ∙ in_whole)) [
          | inl here ↦ absurd (of_each (λ n. cmp first.at n ≡ Less → ⊥) found name first.done here under)
          | inr there ↦ there
        ]

        by_rest : (rest : List (List ℕ)) → whole ≡ found ++ rest → AllBelow first.at rest → is_in name rest ≡ true → AreFirst m v b s prefix start key (found ++ name ∷ [])
        by_rest [] is_whole above among = absurd (false≢true among)
        by_rest (x ∷ rest) is_whole above among = in_cases name x rest among here there
          where
            rise : NamesRise (x ∷ rest)
            rise = behind_rises found (x ∷ rest) (subst NamesRise is_whole rise_whole)

            here : name ≡ x → AreFirst m v b s prefix start key (found ++ name ∷ [])
            here same = record {
              rest = rest;
              whole = is_whole ∙ ap (λ n. found ++ n ∷ rest) (sym same) ∙ sym (append_assoc found (name ∷ []) rest);
              at = name;
              last_is = is.its_name;
              over_prefix = not_under_prefix prefix name is.has_prefix;
              over_start = λ below. not_both name start below (lower start first.at name first.over_start under);
              above = subst (λ n. AllBelow n rest) (sym same) rise.0;
              done = one_more (λ n. cmp name n ≡ Less → ⊥) found name (each_in_turn _ _ (λ n not below. not (nat_list_cmp_total.trans first.at name n under below)) found first.done) (not_itself name);
            }

            there : is_in name rest ≡ true → AreFirst m v b s prefix start key (found ++ name ∷ [])
            there later =
                let listed = there_listed x (ap (is_in x) is_whole ∙ in_behind x found (x ∷ rest) (in_head x rest)) in
                absurd (is.is_next.least (at_place x) (record {
                  has_row = listed.there;
                  same_kind = place_kind v b s x first.at ∙ ap kind_of (sym first.last_is);
                  above = subst (λ k. IsBelow k (at_place x)) (sym first.last_is) (place_rises v b s first.at x above.0);
                }) (subst (IsBelow (at_place x)) (sym is.its_name) (place_rises v b s x name (of_each (λ n. cmp x n ≡ Less) rest name rise.0 later))))

    -- no further name
    pub ends : IsLast all v b s prefix last → whole ≡ found
    ends none = by_rest first.rest first.whole first.above
      where
        by_rest : (rest : List (List ℕ)) → whole ≡ found ++ rest → AllBelow first.at rest → whole ≡ found
        by_rest [] is_whole above = is_whole ∙ append-nil found
        by_rest (x ∷ rest) is_whole above = absurd (none x row.0 listed.has_prefix (subst (λ k. IsNext all k (at_place x) row.0) (sym first.last_is) (record {
          is_above = record { has_row = listed.there; same_kind = place_kind v b s x first.at; above = place_rises v b s first.at x above.0 };
          its_row = row.1;
          least = least;
        })))
          where
            rise : NamesRise (x ∷ rest)
            rise = behind_rises found (x ∷ rest) (subst NamesRise is_whole rise_whole)

            listed : IsListed x
            listed = there_listed x (ap (is_in x) is_whole ∙ in_behind x found (x ∷ rest) (in_head x rest))

            row : (row : Row) × (all (at_place x) ≡ Some row)
            row = its_row (all (at_place x)) listed.there

            no_name : (y : List ℕ) → IsSome (all (at_place y)) → cmp first.at y ≡ Less → cmp y x ≡ Less → ⊥
            no_name y some over under =
                let low : cmp y prefix ≡ Less → ⊥ = λ below. not_both y prefix below (lower prefix first.at y first.over_prefix over) in
                let among = listed_there y some (between_starts prefix y x low under listed.has_prefix) (lower start first.at y first.over_start over) in
                elim (in_either y found (x ∷ rest) (ap (is_in y) (sym is_whole) ∙ among)) [
                  | inl here ↦ of_each (λ n. cmp first.at n ≡ Less → ⊥) found y first.done here over
                  | inr there ↦ in_cases y x rest there (λ same. not_itself x (subst (λ n. cmp n x ≡ Less) same under)) (λ later. not_both y x under (of_each (λ n. cmp x n ≡ Less) rest y rise.0 later))
                ]

            least : (other : RowKey) → IsAbove all (at_place first.at) other → IsBelow other (at_place x) → ⊥
            least other is under =
                let it = place_between v b s first.at x other is.same_kind is.above under in
                no_name it.0 (subst (λ k. IsSome (all k)) it.1 is.has_row) (place_falls v b s first.at it.0 (subst (IsBelow (at_place first.at)) it.1 is.above)) (place_falls v b s it.0 x (subst (λ k. IsBelow k (at_place x)) it.1 under))

    pub taken_all : (count : ℕ) → IsLast all v b s prefix last → length found ≤ count → take count whole ≡ found
    taken_all count none few = ap (take count) (ends none) ∙ take_all count found few

    pub taken_full : (count : ℕ) → length found ≡ count → take count whole ≡ found
    taken_full count full = ap (take count) first.whole ∙ take_at found first.rest count full

  -- before the first name
  each_over : (l : List (List ℕ)) → ((y : List ℕ) → is_in y l ≡ true → cmp start y ≡ Less) → AllBelow start l
  each_over [] f = tt
  each_over (x ∷ l) f = (f x (in_head x l), each_over l (λ y e. f y (in_later y x l e)))

  pub begins_at_start : (cmp start prefix ≡ Less → ⊥) → (key : RowKey) → key ≡ at_place start → AreFirst m v b s prefix start key []
  begins_at_start over key is = record {
    rest = whole;
    whole = refl;
    at = start;
    last_is = is;
    over_prefix = over;
    over_start = not_itself start;
    above = each_over whole (λ y e. (there_listed y e).over);
    done = tt;
  }

  module _ (under : cmp start prefix ≡ Less) where
    -- a listed name isn't below the prefix
    low : (y : List ℕ) → is_in y whole ≡ true → cmp y prefix ≡ Less → ⊥
    low y e = not_under_prefix prefix y (there_listed y e).has_prefix

    over_it : (y : List ℕ) → is_in y whole ≡ true → (y ≡ prefix → ⊥) → cmp prefix y ≡ Less
    over_it y e apart = by_order (cmp prefix y) refl
      where
        by_order : (o : Ordering) → cmp prefix y ≡ o → cmp prefix y ≡ Less
        by_order Less is = is
        by_order Equal is = absurd (apart (sym (one_name prefix y is)))
        by_order Greater is = absurd (low y e (turned y prefix ∙ ap ordering_reverse is))

    each_above : (l : List (List ℕ)) → ((y : List ℕ) → is_in y l ≡ true → cmp prefix y ≡ Less) → AllBelow prefix l
    each_above [] f = tt
    each_above (x ∷ l) f = (f x (in_head x l), each_above l (λ y e. f y (in_later y x l e)))

    pub begins_behind : all (at_place prefix) ≡ None → (key : RowKey) → key ≡ at_place prefix → AreFirst m v b s prefix start key []
    begins_behind absent key is = record {
      rest = whole;
      whole = refl;
      at = prefix;
      last_is = is;
      over_prefix = not_itself prefix;
      over_start = λ below. not_both prefix start below under;
      above = each_above whole (λ y e. over_it y e (λ same. false≢true (sym (ap is_some absent) ∙ ap (λ n. is_some (all (at_place n))) (sym same) ∙ (there_listed y e).there)));
      done = tt;
    }

    pub begins_with : IsSome (all (at_place prefix)) → (key : RowKey) → key ≡ at_place prefix → AreFirst m v b s prefix start key (prefix ∷ [])
    begins_with some key is = by_whole whole refl rise_whole (listed_there prefix some (starts_itself prefix) under)
      where
        by_whole : (l : List (List ℕ)) → whole ≡ l → NamesRise l → is_in prefix l ≡ true → AreFirst m v b s prefix start key (prefix ∷ [])
        by_whole [] e rise among = absurd (false≢true among)
        by_whole (x ∷ l) e rise among = in_cases prefix x l among
            (λ same. record {
              rest = l;
              whole = e ∙ ap (λ n. n ∷ l) (sym same);
              at = prefix;
              last_is = is;
              over_prefix = not_itself prefix;
              over_start = λ below. not_both prefix start below under;
              above = subst (λ n. AllBelow n l) (sym same) rise.0;
              done = (not_itself prefix, tt);
            })
            (λ later. absurd (low x (ap (is_in x) e ∙ in_head x l) (of_each (λ n. cmp x n ≡ Less) l prefix rise.0 later)))

    pub begins_under : (key : RowKey) → key ≡ at_place prefix → (names : List (List ℕ)) → names ≡ cond (is_some (all key)) (prefix ∷ []) [] → AreFirst m v b s prefix start key names
    begins_under key is names names_are = subst (AreFirst m v b s prefix start key) (sym names_are) (by_row (all key) refl)
      where
        by_row : (o : Option Row) → all key ≡ o → AreFirst m v b s prefix start key (cond (is_some o) (prefix ∷ []) [])
        by_row None e = begins_behind (ap all (sym is) ∙ e) key is
        by_row (Some row) e = begins_with (ap is_some (ap all (sym is) ∙ e)) key is

-- there is one next row
pub same_next : (all : Rows) (last a b : RowKey) (row other : Row) → IsNext all last a row → IsNext all last b other → a ≡ b
same_next all last a b row other one two = by_order (key_order a b) refl
  where
    by_order : (o : Ordering) → key_order a b ≡ o → a ≡ b
    by_order Less e = absurd (two.least a one.is_above e)
    by_order Equal e = same_is_one a b (ap is_eq e)
    by_order Greater e = absurd (one.least b two.is_above (above_below a b e))

pub place_apart : (v b : List ℕ) (s : Source) (a c : List ℕ) → place_of v b s a ≡ place_of v b s c → a ≡ c
place_apart v b sources.Bucket a c e = cc
place_apart v b (sources.Snapshot n) a c e = cc
