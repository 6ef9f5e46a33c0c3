-- The live snapshot of a name among the snapshots of a bucket, and the snapshots without it.
use Rattle.std.proofs.Common.{◌≡◌, ◌≢◌, inl, inr, ℕ, ◌<◌, ◌≤◌, nat_le, Bool, true, false, not, ◌||◌, ◌==◌, List, [], ◌∷◌, Option, None, Some, is_some, cond, refl, sym, ◌∙◌, ap, subst, arith}
use mathlib.Core.Bool.{false≢true}
use Rattle.std.proofs.lemmas.Bool.Decides.{nat_tests}
use Rattle.std.specs.Cmp.Lexicographic.{same_text, other_text}
use Rattle.std.specs.List.{AllByRecursion}
use Rattle.std.specs.Prelude.{filter}
use Rattle.oz_namespace.specs.declared.namespace.Snapshot.{Snapshot}
use Rattle.oz_model.specs.Buckets.{is_same_name, snapshot_keys}
use Rattle.oz_reclaim.specs.Marks.{HasNumber, IsNamed}
use Rattle.oz_reclaim.specs.Numbered.{NoneUpTo, is_named}
use Rattle.oz_reclaim.specs.Work.{IsNextOwner}
use Rattle.oz_rows.specs.declared.key.RowKey.TheVariants as keys
use Rattle.oz_rows.specs.declared.row.Row.{Row}
use Rattle.oz_rows.specs.declared.row.Row.TheVariants as rows
use Rattle.oz_rows.specs.declared.row.SnapshotState.TheVariants.{Live}
use Rattle.oz_rows.specs.RowMaps.{Rows}
use Rattle.oz_sound.specs.Sound.{NamesAreSound}
use Rattle.oz_sound.specs.StandsFor.{AreSnapshots, IsSnapshot, NumbersRise, is_among, pieces_in}

pub one_number : (n m : ℕ) → (m == n) ≡ true → m ≡ n
one_number n m e = grind (arith, nat_tests, e)

pub number_itself : (n m : ℕ) → m ≡ n → (m == n) ≡ true
number_itself n m e = grind (arith, nat_tests, e)

pub same_name : (a b : List ℕ) → is_same_name a b ≡ true → a ≡ b
same_name a b e = same_text a b (sym e)

pub apart_name : (a b : List ℕ) → is_same_name a b ≡ false → a ≢ b
apart_name a b e = other_text a b (sym e)

pub name_itself : (a : List ℕ) → is_same_name a a ≡ true
name_itself a = by_test (is_same_name a a) refl
  where
    by_test : (t : Bool) → is_same_name a a ≡ t → is_same_name a a ≡ true
    by_test true e = e
    by_test false e = absurd (apart_name a a e refl)

name_of : Option Row → List ℕ
name_of (Some (rows.Snapshot name previous state)) = name
name_of row = []

-- ---- one number after another

named_row : (o : Option Row) (name : List ℕ) → is_named o name ≡ true → (previous : ℕ) × (o ≡ Some (rows.Snapshot name previous Live))
named_row (Some (rows.Snapshot other previous Live)) name e = (previous, ap (λ (x : List ℕ). Some (rows.Snapshot x previous Live)) (same_name other name e))
named_row o name e = absurd (false≢true e)

not_above : (n m : ℕ) → nat_le n m ≡ true → n ≤ m
not_above n m e = grind (arith, nat_tests, e)

above : (n m : ℕ) → nat_le n m ≡ false → m < n
above n m e = grind (arith, nat_tests, e)

module _ (all : Rows) (v b name : List ℕ) (last : ℕ) where
  pub none_at_first : NoneUpTo all v b name 0
  none_at_first n least most one = omega (arith, least, most)

  -- where no snapshot comes behind, none has the name
  pub none_behind : NoneUpTo all v b name last → IsNextOwner all v b last 0 → HasNumber all v b name None
  none_behind none (inr (later, least)) = absurd (let under = later.0 in omega (arith, under))
  none_behind none (inl (is, no_later)) = λ n least one. by_test (nat_le n last) n refl least one
    where
      by_test : (t : Bool) (n : ℕ) → nat_le n last ≡ t → 1 ≤ n → IsNamed all v b name n → ⊥
      by_test true n e least one = none n least (not_above n last e) one
      by_test false n e least one = no_later n (above n last e, ap is_some one.1)

  module _ (number : ℕ) (next : IsNextOwner all v b last number) where
    -- the next one isn't the one
    pub not_this : NoneUpTo all v b name last → is_named (all (keys.Snapshot v b number)) name ≡ false → NoneUpTo all v b name number
    not_this none other = λ n least most one. by_test (nat_le n last) (nat_le number n) n refl refl least most one next
      where
        by_test : (t s : Bool) (n : ℕ) → nat_le n last ≡ t → nat_le number n ≡ s → 1 ≤ n → n ≤ number → IsNamed all v b name n → IsNextOwner all v b last number → ⊥
        by_test true s n e f least most one next = none n least (not_above n last e) one
        by_test false s n e f least most one (inl (is, no_later)) = no_later n (above n last e, ap is_some one.1)
        by_test false false n e f least most one (inr (later, first)) =
            let no_less = first n (above n last e, ap is_some one.1) in
            let less = above number n f in
            omega (arith, no_less, less)
        by_test false true n e f least most one (inr (later, first)) =
            let no_less = not_above number n f in
            let same : n ≡ number = omega (arith, no_less, most) in
            false≢true (sym other ∙ ap (λ k. is_named (all (keys.Snapshot v b k)) name) (sym same) ∙ ap (λ (o : Option Row). is_named o name) one.1 ∙ name_itself name)

    pub is_this : number ≢ 0 → is_named (all (keys.Snapshot v b number)) name ≡ true → HasNumber all v b name (Some number)
    is_this some is = (omega (arith, some), named_row (all (keys.Snapshot v b number)) name is)

-- ---- what is left of a list

all_left : {A : Type 0} (P : A → Type 0) (p : A → Bool) (l : List A) → AllByRecursion P l → AllByRecursion P (filter p l)
all_left P p [] each = tt
all_left P p (x ∷ l) each = by_test (p x) (all_left P p l each.1)
  where
    by_test : (t : Bool) → AllByRecursion P (filter p l) → AllByRecursion P (cond t (x ∷ filter p l) (filter p l))
    by_test true later = (each.0, later)
    by_test false later = later

pub rise_left : (p : ℕ → Bool) (l : List ℕ) → NumbersRise l → NumbersRise (filter p l)
rise_left p [] rise = tt
rise_left p (x ∷ l) rise = by_test (p x) (rise_left p l rise.1)
  where
    by_test : (t : Bool) → NumbersRise (filter p l) → NumbersRise (cond t (x ∷ filter p l) (filter p l))
    by_test true later = (all_left (λ other. x < other) p l rise.0, later)
    by_test false later = later

pub among_left : (p : ℕ → Bool) (m : ℕ) (l : List ℕ) → p m ≡ true → is_among m l ≡ true → is_among m (filter p l) ≡ true
among_left p m [] passes is = is
among_left p m (x ∷ l) passes is = by_test (p x) refl (x == m) refl is (among_left p m l passes)
  where
    by_test : (t : Bool) → p x ≡ t → (s : Bool) → (x == m) ≡ s → s || is_among m l ≡ true → (is_among m l ≡ true → is_among m (filter p l) ≡ true) → is_among m (cond t (x ∷ filter p l) (filter p l)) ≡ true
    by_test true e true same is later = ap (λ (s : Bool). s || is_among m (filter p l)) same
    by_test true e false same is later = ap (λ (s : Bool). s || is_among m (filter p l)) same ∙ later is
    by_test false e true same is later = absurd (false≢true (sym e ∙ ap p (one_number m x same) ∙ passes))
    by_test false e false same is later = later is

-- a snapshot that has another name
abbrev pub has_other_name : List ℕ → Snapshot → Bool
has_other_name name snapshot = not (is_same_name snapshot.name name)

-- among the snapshots of other names none has the name
pub none_left : (name : List ℕ) (l : List Snapshot) → is_some (snapshot_keys (filter (has_other_name name) l) name) ≡ false
none_left name [] = refl
none_left name (s ∷ l) = by_test (is_same_name s.name name) refl (none_left name l)
  where
    by_test : (t : Bool) → is_same_name s.name name ≡ t → is_some (snapshot_keys (filter (has_other_name name) l) name) ≡ false
        → is_some (snapshot_keys (cond (not t) (s ∷ filter (has_other_name name) l) (filter (has_other_name name) l)) name) ≡ false
    by_test true e later = later
    by_test false e later = ap (λ (t : Bool). is_some (cond t (Some s.keys) (snapshot_keys (filter (has_other_name name) l) name))) e ∙ later

-- ---- what the rows say

module _ (all : Rows) (v b name : List ℕ) where
  -- where no row has the name no snapshot has it
  pub has_none : ((n : ℕ) → IsNamed all v b name n → ⊥) → (numbers : List ℕ) (l : List Snapshot) → AreSnapshots all v b numbers l → is_some (snapshot_keys l name) ≡ false
  has_none none [] [] are = refl
  has_none none [] (s ∷ l) are = absurd are
  has_none none (m ∷ numbers) [] are = absurd are
  has_none none (m ∷ numbers) (s ∷ l) are = by_test (is_same_name s.name name) refl (has_none none numbers l are.1)
    where
      by_test : (t : Bool) → is_same_name s.name name ≡ t → is_some (snapshot_keys l name) ≡ false → is_some (cond t (Some s.keys) (snapshot_keys l name)) ≡ false
      by_test true e later = absurd (none m (are.0.previous, are.0.row ∙ ap (λ (x : List ℕ). Some (rows.Snapshot x are.0.previous Live)) (same_name s.name name e)))
      by_test false e later = later

  module _ (n : ℕ) (one : IsNamed all v b name n) where
    -- a number with another name is another
    pub other_number : (m : ℕ) (other : List ℕ) (before : ℕ) → all (keys.Snapshot v b m) ≡ Some (rows.Snapshot other before Live) → is_same_name other name ≡ false → (m == n) ≡ false
    unfolding name_of
    other_number m other before row apart = by_test (m == n) refl
      where
        by_test : (t : Bool) → (m == n) ≡ t → t ≡ false
        by_test false e = refl
        by_test true e = absurd (apart_name other name apart (ap name_of (sym row ∙ ap (λ k. all (keys.Snapshot v b k)) (one_number n m e) ∙ one.1)))

    pub has_one : (numbers : List ℕ) (l : List Snapshot) → AreSnapshots all v b numbers l → is_among n numbers ≡ true → is_some (snapshot_keys l name) ≡ true
    has_one [] [] are among = absurd (false≢true among)
    has_one [] (s ∷ l) are among = absurd are
    has_one (m ∷ numbers) [] are among = absurd are
    has_one (m ∷ numbers) (s ∷ l) are among = by_test (is_same_name s.name name) refl (has_one numbers l are.1)
      where
        by_test : (t : Bool) → is_same_name s.name name ≡ t → (is_among n numbers ≡ true → is_some (snapshot_keys l name) ≡ true) → is_some (cond t (Some s.keys) (snapshot_keys l name)) ≡ true
        by_test true e later = refl
        by_test false e later = later (sym (ap (λ (t : Bool). t || is_among n numbers) (other_number m s.name are.0.previous are.0.row e)) ∙ among)

    -- without the snapshot of the name the others stand, where their rows are as they were
    module _ (names : NamesAreSound all) (now : Rows) (others : (m : ℕ) → (m == n) ≡ false → (now (keys.Snapshot v b m) ≡ all (keys.Snapshot v b m)) × ((k : List ℕ) → now (keys.SnapshotKey v b m k) ≡ all (keys.SnapshotKey v b m k))) where
      abbrev is_other : ℕ → Bool
      is_other m = not (m == n)

      pub each_left : (numbers : List ℕ) (l : List Snapshot) → AreSnapshots all v b numbers l → AreSnapshots now v b (filter is_other numbers) (filter (has_other_name name) l)
      each_left [] [] are = tt
      each_left [] (s ∷ l) are = absurd are
      each_left (m ∷ numbers) [] are = absurd are
      each_left (m ∷ numbers) (s ∷ l) are = by_name (is_same_name s.name name) refl (each_left numbers l are.1)
        where
          by_name : (t : Bool) → is_same_name s.name name ≡ t → AreSnapshots now v b (filter is_other numbers) (filter (has_other_name name) l) → AreSnapshots now v b (filter is_other (m ∷ numbers)) (cond (not t) (s ∷ (filter (has_other_name name) l)) (filter (has_other_name name) l))
          by_name true e later =
              let row = are.0.row ∙ ap (λ (x : List ℕ). Some (rows.Snapshot x are.0.previous Live)) (same_name s.name name e) in
              let same : m ≡ n = names.one_snapshot v b name m are.0.previous n one.0 row one.1 in
              subst (λ (t : Bool). AreSnapshots now v b (cond (not t) (m ∷ (filter is_other numbers)) (filter is_other numbers)) (filter (has_other_name name) l)) (sym (number_itself n m same)) later
          by_name false e later =
              let apart = other_number m s.name are.0.previous are.0.row e in
              let same = others m apart in
              let kept : IsSnapshot now v b m s = record { previous = are.0.previous; row = same.0 ∙ are.0.row; pieces = λ k. are.0.pieces k ∙ ap pieces_in (sym (same.1 k)) } in
              subst (λ (t : Bool). AreSnapshots now v b (cond (not t) (m ∷ (filter is_other numbers)) (filter is_other numbers)) (s ∷ (filter (has_other_name name) l))) (sym apart) (kept, later)
