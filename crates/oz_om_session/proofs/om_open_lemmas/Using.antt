-- A bucket has as many keys and sessions as its rows show.
use Rattle.std.proofs.Common.{◌≡◌, ◌↔◌, ◌+◌, ℕ, Bool, true, false, ◌&&◌, ◌||◌, List, [], ◌∷◌, ◌++◌, map, length, suc, Option, None, Some, IsSome, is_some, refl, sym, ◌∙◌, ap, subst, arith}
use mathlib.Core.Bool.{false≢true}
use Rattle.std.proofs.lemmas.Cmp.{nat_cmp_total, nat_list_cmp_total}
use Rattle.std.proofs.lemmas.List.Folds.{list_any-append}
use Rattle.std.specs.Cmp.Lexicographic.{slice_cmp}
use Rattle.std.specs.FinMap.{len, get, keys as keys_in, contains_key-keys, nat_cmp-IsAntisymmetric}
use Rattle.std.specs.List.{list_any}
use Rattle.std.specs.Ordering.{nat_cmp, is_eq}
use Rattle.oz_fields.specs.declared.block.Block.{Block}
use Rattle.oz_namespace.specs.declared.namespace.Bucket.{Bucket}
use Rattle.oz_namespace.specs.declared.namespace.Session.{Session}
use Rattle.oz_rows.specs.declared.key.RowKey.TheVariants as keys
use Rattle.oz_rows.specs.declared.row.Row.{Row}
use Rattle.oz_rows.specs.declared.row.Row.TheVariants as rows
use Rattle.oz_rows.specs.laws.Lengths.{no_longer}
use Rattle.oz_rows.specs.RowMaps.{Rows}
use Rattle.oz_rows.specs.Rows.{ValueFits}
use Rattle.oz_sound.specs.Sound.{AtMost, IsUsing}
use Rattle.oz_sound.specs.StandsFor.{pieces_in}
use Rattle.oz_sound.specs.laws.BucketChanges.{is_name, one_name, itself}
use Rattle.oz_decision.specs.Meets.{AreInGrammar}
use Rattle.oz_decision.specs.laws.Lookups.{has_pieces}
use Rattle.oz_decision.specs.laws.Rising.{each_in_turn, len_keys}
use Rattle.oz_decision.specs.laws.SessionRows.{front, back, both}
use Rattle.oz_decision.specs.laws.Shown.{is_number, one_number}

-- a key, or a session with its key
abbrev Use : Type 0
Use = List ℕ × Option ℕ

abbrev is_use : Use → Use → Bool
is_use (q, None) (r, None) = is_name q r
is_use (q, Some m) (r, Some n) = is_name q r && is_number m n
is_use one other = false

one_use : (x y : Use) → is_use x y ≡ true → x ≡ y
one_use (q, None) (r, None) e = λ i. (one_name q r e i, None)
one_use (q, Some m) (r, Some n) e =
    let name = one_name q r (front (is_name q r) _ e) in
    let number = one_number m n (back (is_name q r) _ e) in
    λ i. (name i, Some (number i))
one_use x y e = absurd (false≢true e)

or_right : (a b : Bool) → b ≡ true → a || b ≡ true
or_right true b e = refl
or_right false b e = e

any_left : {A : Type 0} (f : A → Bool) (a b : List A) → list_any f a ≡ true → list_any f (a ++ b) ≡ true
any_left f a b e = list_any-append f a b ∙ ap (λ (t : Bool). t || list_any f b) e

any_right : {A : Type 0} (f : A → Bool) (a b : List A) → list_any f b ≡ true → list_any f (a ++ b) ≡ true
any_right f a b e = list_any-append f a b ∙ or_right (list_any f a) (list_any f b) e

size_mapped : {A B : Type 0} (f : A → B) (l : List A) → length (map f l) ≡ length l
size_mapped f [] = refl
size_mapped f (a ∷ l) = ap suc (size_mapped f l)

size_joined : {A : Type 0} (a b : List A) → length (a ++ b) ≡ length a + length b
size_joined [] b = omega arith
size_joined (x ∷ a) b = omega (arith, size_joined a b)

abbrev key_or_none : Option Session → List ℕ
key_or_none None = []
key_or_none (Some session) = session.key

module _ (all : Rows) (fit : AreInGrammar all) (v b : List ℕ) (bucket : Bucket) (pieces : (q : List ℕ) → get bucket.keys q ≡ pieces_in (all (keys.Key v b q)))
    (sessions : (m : ℕ) (s : Session) → (get bucket.sessions m ≡ Some s) ↔ (all (keys.Open v b s.key m) ≡ Some (rows.Open s.blocks))) where
  abbrev as_key : List ℕ → Use
  as_key q = (q, None)

  abbrev as_session : ℕ → Use
  as_session m = (key_or_none (get bucket.sessions m), Some m)

  abbrev uses : List Use
  uses = map as_key (keys_in bucket.keys) ++ map as_session (keys_in bucket.sessions)

  among_keys : (q : List ℕ) (l : List (List ℕ)) → list_any (is_use (q, None)) (map as_key l) ≡ list_any (is_name q) l
  among_keys q [] = refl
  among_keys q (r ∷ l) = ap (λ (t : Bool). is_name q r || t) (among_keys q l)

  key_used : (q : List ℕ) (o : Option Row) → all (keys.Key v b q) ≡ o → IsSome o → is_some (pieces_in o) ≡ true
  key_used q None e some = absurd (false≢true some)
  key_used q (Some row) e some = has_pieces v b q row (fit (keys.Key v b q) row e).1

  of_row : (q : List ℕ) (m : ℕ) (row : Row) → all (keys.Open v b q m) ≡ Some row → ValueFits (keys.Open v b q m) row → (blocks : List Block) × (get bucket.sessions m ≡ Some (record { key = q; blocks = blocks }))
  of_row q m (rows.Open blocks) e fits = (blocks, (sessions m (record { key = q; blocks = blocks })).1 e)
  of_row q m row e fits = absurd fits

  its_session : (q : List ℕ) (m : ℕ) (o : Option Row) → all (keys.Open v b q m) ≡ o → IsSome o → (blocks : List Block) × (get bucket.sessions m ≡ Some (record { key = q; blocks = blocks }))
  its_session q m None e some = absurd (false≢true some)
  its_session q m (Some row) e some = of_row q m row e (fit (keys.Open v b q m) row e).1

  among_sessions : (q : List ℕ) (m : ℕ) → key_or_none (get bucket.sessions m) ≡ q → (l : List ℕ) → list_any (is_number m) l ≡ true → list_any (is_use (q, Some m)) (map as_session l) ≡ true
  among_sessions q m of [] any = absurd (false≢true any)
  among_sessions q m of (n ∷ l) any = by_test (is_number m n) refl (among_sessions q m of l)
    where
      by_test : (t : Bool) → is_number m n ≡ t → (list_any (is_number m) l ≡ true → list_any (is_use (q, Some m)) (map as_session l) ≡ true) → is_use (q, Some m) (as_session n) || list_any (is_use (q, Some m)) (map as_session l) ≡ true
      by_test true e later =
          let name : is_name q (key_or_none (get bucket.sessions n)) ≡ true = ap (λ x. is_name q (key_or_none (get bucket.sessions x))) (sym (one_number m n e)) ∙ ap (is_name q) of ∙ itself q in
          ap (λ (t : Bool). t || list_any (is_use (q, Some m)) (map as_session l)) (both (is_name q (key_or_none (get bucket.sessions n))) (is_number m n) name e)
      by_test false e later = or_right (is_use (q, Some m) (as_session n)) _ (later (subst (λ (t : Bool). t || list_any (is_number m) l ≡ true) e any))

  member : (one : Use) → IsUsing all v b one → list_any (is_use one) uses ≡ true
  member (q, None) some =
      any_left (is_use (q, None)) (map as_key (keys_in bucket.keys)) (map as_session (keys_in bucket.sessions))
      (among_keys q (keys_in bucket.keys) ∙ sym (contains_key-keys bucket.keys q) ∙ ap is_some (pieces q) ∙ key_used q (all (keys.Key v b q)) refl some)
  member (q, Some m) some =
      let its = its_session q m (all (keys.Open v b q m)) refl some in
      any_right (is_use (q, Some m)) (map as_key (keys_in bucket.keys)) (map as_session (keys_in bucket.sessions))
      (among_sessions q m (ap key_or_none its.1) (keys_in bucket.sessions) (sym (contains_key-keys bucket.sessions m) ∙ ap is_some its.1))

  pub uses_counted : AtMost (len bucket.keys + len bucket.sessions) (IsUsing all v b)
  uses_counted items differ using =
      let size = no_longer is_use one_use items uses differ (each_in_turn _ _ member items using) in
      let parts = size_joined (map as_key (keys_in bucket.keys)) (map as_session (keys_in bucket.sessions)) in
      let first = size_mapped as_key (keys_in bucket.keys) in
      let second = size_mapped as_session (keys_in bucket.sessions) in
      let names = len_keys (slice_cmp nat_cmp) nat_list_cmp_total (λ x y e. one_name x y (ap is_eq e)) bucket.keys in
      let numbers = len_keys nat_cmp nat_cmp_total nat_cmp-IsAntisymmetric bucket.sessions in
      omega (arith, size, parts, first, second, names, numbers)
