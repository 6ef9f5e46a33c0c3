-- What stood in one key's row stands in another's.
use Rattle.std.proofs.Common.{◌≡◌, ◌≢◌, ℕ, suc, Bool, true, false, List, [], ◌∷◌, map, length, Option, None, Some, IsSome, is_some, cond, refl, sym, ◌∙◌, ap, subst, arith, inr}
use mathlib.Core.Bool.{false≢true}
use Rattle.std.proofs.lemmas.Option.{same_Some}
use Rattle.std.specs.List.{AllByRecursion, list_any}
use Rattle.std.specs.Ordering.{is_eq}
use Rattle.oz_rows.specs.declared.key.RowKey.{RowKey}
use Rattle.oz_rows.specs.declared.key.RowKey.TheVariants as keys
use Rattle.oz_rows.specs.declared.row.Row.{Row}
use Rattle.oz_rows.specs.Counts.{AllDiffer}
use Rattle.oz_rows.specs.RowMaps.{Rows, is_same, is_block, put, gone, after_changes}
use Rattle.oz_rows.specs.Rows.{RowFits}
use Rattle.oz_rows.specs.laws.Order.{itself}
use Rattle.oz_rows.specs.laws.Same.{same_is_one}
use Rattle.oz_sound.specs.Sound.{blocks_of, IsUsing, AtMost, IsSoundButRenames}
use Rattle.oz_decision.specs.Meets.{AreInGrammar}
use Rattle.oz_decision.specs.laws.OneRow.{it_fits, none_fits}
use Rattle.oz_sound.specs.frames.Parts.{parted, IsParted, KeepsNumbers}
use Rattle.oz_sound.specs.frames.laws.Bare.{bare_stripes}
use Rattle.oz_sound.specs.frames.laws.Parting.{parted_moves}
use Rattle.oz_om_key.proofs.om_change_lemmas.Moves.{Goes, moves, changes_fit}

some_apart : {A : Type 0} {a : A} → Some a ≡ None → ⊥
some_apart e = false≢true (sym (ap is_some e))

pub itself_key : (q : RowKey) → is_same q q ≡ true
itself_key q = ap is_eq (itself q)

-- at most so many things, where each is known as another
through : {A B : Type 0} (f : A → B) (P : A → Type 0) (Q : B → Type 0) (n : ℕ) → ((a c : A) → P a → P c → f a ≡ f c → a ≡ c) → ((a : A) → P a → Q (f a)) → AtMost n Q → AtMost n P
through f P Q n inverse holds most items apart all = let few = most (map f items) (apart_too items apart all) (all_too items all) in omega (arith, few, size items)
  where
    size : (l : List _) → length (map f l) ≡ length l
    size [] = refl
    size (a ∷ l) = ap suc (size l)

    all_too : (l : List _) → AllByRecursion P l → AllByRecursion Q (map f l)
    all_too [] all = tt
    all_too (a ∷ l) all = (holds a all.0, all_too l all.1)

    head_apart : (a : _) → P a → (l : List _) → AllByRecursion P l → AllByRecursion (λ c. a ≢ c) l → AllByRecursion (λ d. f a ≢ d) (map f l)
    head_apart a p [] all apart = tt
    head_apart a p (c ∷ l) all apart = ((λ e. apart.0 (inverse a c p all.0 e)), head_apart a p l all.1 apart.1)

    apart_too : (l : List _) → AllDiffer l → AllByRecursion P l → AllDiffer (map f l)
    apart_too [] apart all = tt
    apart_too (a ∷ l) apart all = (head_apart a all.0 l all.1 apart.0, apart_too l apart.1 all.1)

module _ (all : Rows) (v b k to : List ℕ) (row : Row) (there : all (keys.Key v b k) ≡ Some row) (free : all (keys.Key v b to) ≡ None) where
  abbrev of_key : RowKey
  of_key = keys.Key v b k

  abbrev of_new : RowKey
  of_new = keys.Key v b to

  abbrev now : Rows
  now = after_changes (parted of_key None of_new (Some row)) all

  two_names : is_same of_key of_new ≡ false
  two_names = by_test (is_same of_key of_new) refl
    where
      by_test : (t : Bool) → is_same of_key of_new ≡ t → t ≡ false
      by_test false e = refl
      by_test true e = absurd (some_apart (sym there ∙ ap all (same_is_one of_key of_new e) ∙ free))

  becomes : IsParted all of_key None of_new (Some row)
  becomes = record {
    home = tt;
    new_home = tt;
    keeper = λ keeper. tt;
    same_bucket = refl;
    apart = two_names;
    left_from = λ block has. absurd (some_apart (sym has.1));
    moved_from = λ block has. record {
      row = row;
      there = there;
      has = ap (λ (r : Row). list_any (is_block block) (blocks_of r)) (same_Some row has.0 has.1) ∙ has.2;
    };
    all_there = λ block stands. inr (row, refl, ap (λ (r : Row). list_any (is_block block) (blocks_of r)) (same_Some row stands.row (sym there ∙ stands.there)) ∙ stands.has);
    not_both = λ block one two. some_apart (sym one.1);
    was_empty = λ block stands. some_apart (sym stands.there ∙ free);
  }

  -- the new name is counted as the old one
  as_old : List ℕ → List ℕ → List ℕ × Option ℕ → List ℕ × Option ℕ
  as_old w c (q, Some m) = (q, Some m)
  as_old w c (q, None) = (cond (is_same of_new (keys.Key w c q)) k q, None)

  old_there : (w c q : List ℕ) → is_same of_new (keys.Key w c q) ≡ true → of_key ≡ keys.Key w c k
  old_there w c q e =
      let same = same_is_one of_new (keys.Key w c q) e in
      let volume : v ≡ w = cc in
      let bucket : b ≡ c = cc in
      λ i. keys.Key (volume i) (bucket i) k

  other_before : (w c q : List ℕ) → is_same of_new (keys.Key w c q) ≡ false → IsSome (now (keys.Key w c q)) → (is_same of_key (keys.Key w c q) ≡ false) × IsSome (all (keys.Key w c q))
  other_before w c q e some = by_test (is_same of_key (keys.Key w c q)) refl (subst (λ (t : Bool). IsSome (cond t (Some row) (cond (is_same of_key (keys.Key w c q)) None (all (keys.Key w c q))))) e some)
    where
      by_test : (t : Bool) → is_same of_key (keys.Key w c q) ≡ t → IsSome (cond t None (all (keys.Key w c q))) → (t ≡ false) × IsSome (all (keys.Key w c q))
      by_test true f some = absurd (false≢true some)
      by_test false f some = (refl, some)

  holds : (w c : List ℕ) (one : List ℕ × Option ℕ) → IsUsing now w c one → IsUsing all w c (as_old w c one)
  unfolding as_old
  holds w c (q, Some m) some = some
  holds w c (q, None) some = by_test (is_same of_new (keys.Key w c q)) refl
    where
      by_test : (t : Bool) → is_same of_new (keys.Key w c q) ≡ t → IsUsing all w c (cond t k q, None)
      by_test true e = subst (λ x. IsSome (all x)) (old_there w c q e) (ap is_some there)
      by_test false e = (other_before w c q e some).1

  abbrev key_or_session : List ℕ → Option ℕ → List ℕ × Option ℕ
  key_or_session q m = (q, m)

  -- the old name isn't used any more
  not_old : {P : Type 0} (w c q p : List ℕ) → is_same of_new (keys.Key w c q) ≡ true → is_same of_new (keys.Key w c p) ≡ false → IsSome (now (keys.Key w c p)) → k ≡ p → P
  not_old w c q p e f some same =
      absurd (false≢true (sym (other_before w c p f some).0 ∙ ap (is_same of_key) (sym (ap (λ x. keys.Key w c x) same)) ∙ ap (is_same of_key) (sym (old_there w c q e)) ∙ itself_key of_key))

  inverse_keys : (w c q p : List ℕ) → IsSome (now (keys.Key w c q)) → IsSome (now (keys.Key w c p)) → cond (is_same of_new (keys.Key w c q)) k q ≡ cond (is_same of_new (keys.Key w c p)) k p → q ≡ p
  inverse_keys w c q p here there = by_tests (is_same of_new (keys.Key w c q)) refl (is_same of_new (keys.Key w c p)) refl
    where
      by_tests : (s : Bool) → is_same of_new (keys.Key w c q) ≡ s → (t : Bool) → is_same of_new (keys.Key w c p) ≡ t → cond s k q ≡ cond t k p → q ≡ p
      by_tests false e false f same = same
      by_tests true e false f same = not_old w c q p e f there same
      by_tests false e true f same = not_old w c p q f e here (sym same)
      by_tests true e true f same =
          let one = same_is_one of_new (keys.Key w c q) e in
          let two = same_is_one of_new (keys.Key w c p) f in
          cc

  inverse : (w c : List ℕ) (one other : List ℕ × Option ℕ) → IsUsing now w c one → IsUsing now w c other → as_old w c one ≡ as_old w c other → one ≡ other
  unfolding as_old
  inverse w c (q, Some m) (p, Some l) here there e = e
  inverse w c (q, None) (p, None) here there e = ap (λ x. key_or_session x None) (inverse_keys w c q p here there (ap (λ (x : List ℕ × Option ℕ). x.0) e))
  inverse w c (q, Some m) (p, None) here there e = absurd (some_apart (ap (λ (x : List ℕ × Option ℕ). x.1) e))
  inverse w c (q, None) (p, Some l) here there e = absurd (some_apart (sym (ap (λ (x : List ℕ × Option ℕ). x.1) e)))

  keeps : IsSoundButRenames all → AreInGrammar all → KeepsNumbers all now
  keeps sound fit = record {
    bare = bare_stripes all fit;
    open_key = λ w c q m block stands. (m, record { row = stands.row; there = stands.there; has = stands.has });
    sessions = λ w c q m some. some;
    owners = λ w c q o l some apart. some;
    few = λ w c. through (as_old w c) (IsUsing now w c) (IsUsing all w c) 4096 (inverse w c) (holds w c) (sound.counts.keys_and_sessions w c);
  }

  pub renaming_goes : IsSoundButRenames all → AreInGrammar all → RowFits of_new row → Goes all now
  renaming_goes sound fit fits =
      moves all now (parted_moves all of_key None of_new (Some row) becomes sound (keeps sound fit)) sound (changes_fit (gone of_key ∷ put of_new row ∷ []) all (none_fits of_key, (it_fits of_new row fits, tt)) fit)
