-- A session's row goes, and a key's row comes with blocks of it.
use Rattle.std.proofs.Common.{
  ◌≡◌,
  ◌≢◌,
  ℕ,
  suc,
  Bool,
  true,
  false,
  List,
  [],
  ◌∷◌,
  map,
  length,
  Option,
  None,
  Some,
  IsSome,
  is_some,
  cond,
  refl,
  sym,
  ◌∙◌,
  ap,
  subst,
  arith,
  inl,
  inr,
  ◌⊎◌,
}
use mathlib.Core.Bool.{false≢true}
use Rattle.std.proofs.lemmas.Option.{same_Some}
use Rattle.std.specs.List.{AllByRecursion, list_any}
use Rattle.std.specs.Ordering.{is_eq}
use Rattle.oz_fields.specs.declared.block.Block.{Block}
use Rattle.oz_fields.specs.declared.block.Piece.{Piece}
use Rattle.oz_rows.specs.declared.key.RowKey.{RowKey}
use Rattle.oz_rows.specs.declared.key.RowKey.TheVariants as keys
use Rattle.oz_rows.specs.declared.row.Row.{Row}
use Rattle.oz_rows.specs.declared.row.Row.TheVariants as rows
use Rattle.oz_rows.specs.RowMaps.{after_changes}
use Rattle.oz_rows.specs.RowMaps.{is_block}
use Rattle.oz_rows.specs.RowMaps.{Rows, is_same}
use Rattle.oz_rows.specs.Counts.{AllDiffer}
use Rattle.oz_sound.specs.Sound.{StandsIn, blocks_of, AtMost, IsUsing, IsSoundButRenames}
use Rattle.oz_rows.specs.laws.Order.{itself}
use Rattle.oz_rows.specs.laws.Same.{same_is_one}
use Rattle.oz_sound.specs.frames.Parts.{parted, IsParted, KeepsNumbers}
use Rattle.oz_sound.specs.frames.Moves.{NamesStay}
use Rattle.oz_sound.specs.frames.Sessions.{MayBecome}

some_apart : {A : Type 0} {a : A} → Some a ≡ None → ⊥
some_apart e = false≢true (sym (ap is_some e))

itself_key : (q : RowKey) → is_same q q ≡ true
itself_key q = ap is_eq (itself q)

-- at most so many things, where each is known as another
through : {A B : Type 0} (f : A → B) (P : A → Type 0) (Q : B → Type 0) (n : ℕ) → ((a c : A) → P a → P c → f a ≡ f c → a ≡ c) → ((a : A) → P a → Q (f a))
    → AtMost n Q → AtMost n P
through f P Q n inverse holds most items apart all = let few =
    most (map f items) (apart_too items apart all) (all_too items all) in omega (arith, few, size items)
  where
    size : (l : List _) → length (map f l) ≡ length l
    size [] = refl
    size (a ∷ l) = ap suc (size l)

    all_too : (l : List _) → AllByRecursion P l → AllByRecursion Q (map f l)
    all_too [] all = tt
    all_too (a ∷ l) all = (holds a all.0, all_too l all.1)

    head_apart : (a : _) → P a → (l : List _) → AllByRecursion P l → AllByRecursion (λ c. a ≢ c) l → AllByRecursion (λ d. f a ≢ d) (map f l)
    head_apart a p [] all apart = tt
    head_apart a p (c ∷ l) all apart = ((λ e. apart.0 (inverse a c p all.0 e)), head_apart a p l all.1 apart.1)

    apart_too : (l : List _) → AllDiffer l → AllByRecursion P l → AllDiffer (map f l)
    apart_too [] apart all = tt
    apart_too (a ∷ l) apart all = (head_apart a all.0 l all.1 apart.0, apart_too l apart.1 all.1)

module _ (all : Rows) (v b k : List ℕ) (n : ℕ) (blocks : List Block) (pieces : List Piece) (may : MayBecome all v b k n blocks pieces) where
  abbrev from : RowKey
  from = keys.Open v b k n

  abbrev to : RowKey
  to = keys.Key v b k

  abbrev row : Row
  row = rows.Key n pieces

  abbrev now : Rows
  now = after_changes (parted from None to (Some row)) all

  pub becomes : IsParted all from None to (Some row)
  becomes = record {
    home = tt;
    new_home = tt;
    keeper = λ keeper. tt;
    same_bucket = refl;
    apart = refl;
    left_from = λ block has. absurd (some_apart (sym has.1));
    moved_from = λ block has. record {
      row = rows.Open blocks;
      there = may.session;
      has = sym (may.used block) ∙ ap (λ (r : Row). list_any (is_block block) (blocks_of r)) (same_Some row has.0 has.1) ∙ has.2;
    };
    was_empty = λ block stands. some_apart (sym stands.there ∙ may.free);
    not_both = λ block one two. some_apart (sym one.1);
    all_there = λ block stands. inr (
      row,
      refl,
      may.used block ∙ ap (λ (r : Row). list_any (is_block block) (blocks_of r))
          (same_Some (rows.Open blocks) stands.row (sym may.session ∙ stands.there)) ∙ stands.has,
    );
  }

  pub key_stood : NamesStay all now
  key_stood w c q block stands = by_test (is_same to (keys.Key w c q)) refl stands.there
    where
      by_test : (t : Bool) → is_same to (keys.Key w c q) ≡ t → cond t (Some row) (all (keys.Key w c q)) ≡ Some stands.row
          → StandsIn all block (keys.Key w c q) ⊎ ((name : List ℕ) × (number : ℕ) × StandsIn all block (keys.Open w c name number))
      by_test false e there = inl (record { row = stands.row; there = there; has = stands.has })
      by_test true e there =
          let same = same_is_one to (keys.Key w c q) e in
          let volume : v ≡ w = cc in
          let bucket : b ≡ c = cc in
          let it = becomes.moved_from block (stands.row, there, stands.has) in
          inr (k, n, subst (λ x. StandsIn all block (keys.Open x c k n)) volume (subst (λ x. StandsIn all block (keys.Open v x k n)) bucket it))

  open_before : (w c q : List ℕ) (m : ℕ) (block : Block) → StandsIn now block (keys.Open w c q m) → StandsIn all block (keys.Open w c q m)
  open_before w c q m block stands = by_test (is_same from (keys.Open w c q m)) stands.there
    where
      by_test : (t : Bool) → cond t None (all (keys.Open w c q m)) ≡ Some stands.row → StandsIn all block (keys.Open w c q m)
      by_test true there = absurd (some_apart (sym there))
      by_test false there = record { row = stands.row; there = there; has = stands.has }

  session_before : (w c q : List ℕ) (m : ℕ) → IsSome (now (keys.Open w c q m)) → (is_same from (keys.Open w c q m) ≡ false) × IsSome (all (keys.Open w c q m))
  session_before w c q m some = by_test (is_same from (keys.Open w c q m)) refl some
    where
      by_test : (t : Bool) → is_same from (keys.Open w c q m) ≡ t → IsSome (cond t None (all (keys.Open w c q m)))
          → (is_same from (keys.Open w c q m) ≡ false) × IsSome (all (keys.Open w c q m))
      by_test true e some = absurd (false≢true some)
      by_test false e some = (e, some)

  -- the key that came is counted as the session that went
  counted : List ℕ → List ℕ → List ℕ × Option ℕ → List ℕ × Option ℕ
  counted w c (q, Some m) = (q, Some m)
  counted w c (q, None) = (q, cond (is_same to (keys.Key w c q)) (Some n) None)

  holds : (w c : List ℕ) (one : List ℕ × Option ℕ) → IsUsing now w c one → IsUsing all w c (counted w c one)
  unfolding counted
  holds w c (q, Some m) some = (session_before w c q m some).1
  holds w c (q, None) some = by_test (is_same to (keys.Key w c q)) refl some
    where
      by_test : (t : Bool) → is_same to (keys.Key w c q) ≡ t → IsSome (cond t (Some row) (all (keys.Key w c q))) → IsUsing all w c (q, cond t (Some n) None)
      by_test false e some = some
      by_test true e some =
          let same = same_is_one to (keys.Key w c q) e in
          let opened : keys.Open v b k n ≡ keys.Open w c q n = let volume : v ≡ w = cc in let bucket : b ≡ c = cc in let key : k ≡ q =
          cc in (λ i. keys.Open (volume i) (bucket i) (key i) n) in
          subst (λ x. IsSome (all x)) opened (ap is_some may.session)

  abbrev as_key : List ℕ → Option ℕ → List ℕ × Option ℕ
  as_key q m = (q, m)

  clash : (w c q : List ℕ) (m : ℕ) (p : List ℕ) → IsSome (now (keys.Open w c q m))
      → as_key q (Some m) ≡ as_key p (cond (is_same to (keys.Key w c p)) (Some n) None) → as_key q (Some m) ≡ as_key p None
  clash w c q m p some e = by_test (is_same to (keys.Key w c p)) refl (ap (λ (x : List ℕ × Option ℕ). x.1) e)
    where
      by_test : (t : Bool) → is_same to (keys.Key w c p) ≡ t → Some m ≡ cond t (Some n) None → as_key q (Some m) ≡ as_key p None
      by_test false f e' = absurd (some_apart e')
      by_test true f e' =
          let same = same_is_one to (keys.Key w c p) f in
          let number : m ≡ n = same_Some m n e' in
          let name : q ≡ p = ap (λ (x : List ℕ × Option ℕ). x.0) e in
          let opened : keys.Open v b k n ≡ keys.Open w c q m = let volume : v ≡ w = cc in let bucket : b ≡ c = cc in let key : k ≡ p =
          cc in (λ i. keys.Open (volume i) (bucket i) ((key ∙ sym name) i) (sym number i)) in
          absurd (false≢true (sym (session_before w c q m some).0 ∙ ap (is_same from) (sym opened) ∙ itself_key from))

  inverse : (w c : List ℕ) (one other : List ℕ × Option ℕ) → IsUsing now w c one → IsUsing now w c other → counted w c one ≡ counted w c other → one ≡ other
  unfolding counted
  inverse w c (q, Some m) (p, Some l) here there e = e
  inverse w c (q, None) (p, None) here there e = λ i. ((e i).0, None)
  inverse w c (q, Some m) (p, None) here there e = clash w c q m p here e
  inverse w c (q, None) (p, Some l) here there e = sym (clash w c p l q there (sym e))

  pub keeps : IsSoundButRenames all → KeepsNumbers all now
  keeps sound = record {
    bare = may.bare;
    open_key = λ w c q m block stands. (m, open_before w c q m block stands);
    sessions = λ w c q m some. (session_before w c q m some).1;
    owners = λ w c q o l some apart. some;
    few = λ w c. through (counted w c) (IsUsing now w c) (IsUsing all w c) 4096 (inverse w c) (holds w c) (sound.counts.keys_and_sessions w c);
  }
