-- A session gets a block that stood nowhere.
use Rattle.std.proofs.Common.{
  ◌≡◌,
  ◌==◌,
  ◌&&◌,
  ◌||◌,
  ℕ,
  Bool,
  true,
  false,
  List,
  [],
  ◌∷◌,
  ◌++◌,
  Option,
  None,
  Some,
  IsSome,
  is_some,
  cond,
  refl,
  sym,
  ◌∙◌,
  ap,
  subst,
  arith,
  inl,
  inr,
  ◌⊎◌,
}
use mathlib.Core.Bool.{false≢true}
use Rattle.std.proofs.lemmas.Option.{same_Some}
use Rattle.std.proofs.lemmas.Bool.Decides.{nat_tests}
use Rattle.std.specs.List.{list_any}
use Rattle.std.proofs.lemmas.List.Folds.{list_any-append}
use Rattle.std.specs.Ordering.{is_eq}
use Rattle.oz_fields.specs.declared.block.Block.{Block}
use Rattle.oz_rows.specs.declared.key.RowKey.{RowKey}
use Rattle.oz_rows.specs.declared.key.RowKey.TheVariants as keys
use Rattle.oz_rows.specs.declared.row.Row.{Row}
use Rattle.oz_rows.specs.declared.row.Row.TheVariants as rows
use Rattle.oz_rows.specs.RowMaps.{after_changes}
use Rattle.oz_rows.specs.RowMaps.{put, is_block}
use Rattle.oz_rows.specs.RowMaps.{Rows, is_same}
use Rattle.oz_sound.specs.Kept.{HasHome}
use Rattle.oz_sound.specs.Sound.{StandsIn, blocks_of, bucket_of_row, IsKeeper, IsHome, IsUsing, IsSoundButRenames}
use Rattle.oz_sound.specs.StandsFor.{drawn_in}
use Rattle.oz_rows.specs.laws.Order.{itself}
use Rattle.oz_rows.specs.laws.Same.{same_is_one}
use Rattle.oz_sound.specs.frames.Moves.{StoodIn, IsGranted, BlocksMove}
use Rattle.oz_sound.specs.frames.Sessions.{MayGet}
use Rattle.oz_sound.specs.frames.laws.Moving.{at_most}

block_of : ℕ → ℕ → Block
block_of container local = record { container = container; local = local }

front : (a b : Bool) → a && b ≡ true → a ≡ true
front true b e = refl
front false b e = e

back : (a b : Bool) → a && b ≡ true → b ≡ true
back true b e = e
back false b e = absurd (false≢true e)

one_number : (a b : ℕ) → (a == b) ≡ true → a ≡ b
one_number a b e = grind (arith, nat_tests, e)

one_block : (a b : Block) → is_block a b ≡ true → b ≡ a
unfolding block_of
one_block a b e =
    let container = one_number b.container a.container (front _ _ e) in
    let local = one_number b.local a.local (back (b.container == a.container) (b.local == a.local) e) in
    λ i. block_of (container i) (local i)

-- among a list with one more at its end
among : (a new : Block) (l : List Block) → list_any (is_block a) (l ++ new ∷ []) ≡ true → (list_any (is_block a) l ≡ true) ⊎ (new ≡ a)
among a new [] e = by_test (is_block a new) refl e
  where
    by_test : (t : Bool) → is_block a new ≡ t → t || false ≡ true → (list_any (is_block a) [] ≡ true) ⊎ (new ≡ a)
    by_test true is e = inr (one_block a new is)
    by_test false is e = absurd (false≢true e)
among a new (x ∷ l) e = by_test (is_block a x) e (among a new l)
  where
    by_test : (t : Bool) → t || list_any (is_block a) (l ++ new ∷ []) ≡ true
        → (list_any (is_block a) (l ++ new ∷ []) ≡ true → (list_any (is_block a) l ≡ true) ⊎ (new ≡ a)) → (t || list_any (is_block a) l ≡ true) ⊎ (new ≡ a)
    by_test true e later = inl refl
    by_test false e later = later e

module _ (all : Rows) (v b k : List ℕ) (n : ℕ) (blocks : List Block) (new : Block) (may : MayGet all v b k n blocks new) where
  abbrev session : RowKey
  session = keys.Open v b k n

  abbrev row : Row
  row = rows.Open (blocks ++ new ∷ [])

  abbrev now : Rows
  now = after_changes (put session row ∷ []) all

  -- where a block stands now
  data Where (block : Block) (key : RowKey) : Type 0 where
    granted : key ≡ session → new ≡ block → Where block key
    stood_open : key ≡ session → StandsIn all block session → Where block key
    elsewhere : is_same session key ≡ false → StandsIn all block key → Where block key

  stood : (block : Block) (key : RowKey) → StandsIn now block key → Where block key
  stood block key stands = by_test (is_same session key) refl stands.there
    where
      by_test : (t : Bool) → is_same session key ≡ t → cond t (Some row) (all key) ≡ Some stands.row → Where block key
      by_test false e there = elsewhere e (record { row = stands.row; there = there; has = stands.has })
      by_test true e there =
          elim (among block new blocks (ap (λ (r : Row). list_any (is_block block) (blocks_of r)) (same_Some row stands.row there) ∙ stands.has)) [
            | inl has ↦ stood_open (sym (same_is_one session key e)) (record { row = rows.Open blocks; there = may.session; has = has })
            | inr same ↦ granted (sym (same_is_one session key e)) same
          ]

  is_new : (block : Block) → new ≡ block → IsGranted all (Some new) block
  is_new block same = record { this_one = ap Some same; fresh = λ twin key stands e. may.fresh twin key stands (e ∙ ap (λ (x : Block). x.local) (sym same)) }

  nowhere : {P : Type 0} (block : Block) (key : RowKey) → new ≡ block → StandsIn all block key → P
  nowhere block key same stands = absurd (may.fresh block key stands (ap (λ (x : Block). x.local) (sym same)))

  apart : {P : Type 0} (key : RowKey) → is_same session key ≡ false → session ≡ key → P
  apart key e same = absurd (false≢true (sym e ∙ ap (is_same session) (sym same) ∙ ap is_eq (itself session)))

  module _ (sound : IsSoundButRenames all) where
    one_home : (block : Block) (key other : RowKey) → IsHome key → IsHome other → StandsIn now block key → StandsIn now block other → key ≡ other
    one_home block key other home home' here there = both (stood block key here) (stood block other there)
      where
        both : Where block key → Where block other → key ≡ other
        both (granted same is) (granted same' is') = same ∙ sym same'
        both (granted same is) (stood_open same' stands) = same ∙ sym same'
        both (granted same is) (elsewhere e stands) = nowhere block other is stands
        both (stood_open same stands) (granted same' is') = same ∙ sym same'
        both (stood_open same stands) (stood_open same' stands') = same ∙ sym same'
        both (stood_open same stands) (elsewhere e stands') = apart other e (sound.blocks.one_home block session other tt home' stands stands')
        both (elsewhere e stands) (granted same is) = nowhere block key is stands
        both (elsewhere e stands) (stood_open same stands') = apart key e (sound.blocks.one_home block session key tt home stands' stands)
        both (elsewhere e stands) (elsewhere e' stands') = sound.blocks.one_home block key other home home' stands stands'

    came : (block : Block) (key : RowKey) → IsHome key → StandsIn now block key → StoodIn all block (bucket_of_row key) ⊎ IsGranted all (Some new) block
    came block key home here = by (stood block key here)
      where
        by : Where block key → StoodIn all block (bucket_of_row key) ⊎ IsGranted all (Some new) block
        by (granted same is) = inr (is_new block is)
        by (stood_open same stands) = inl (record { key = session; home = tt; here = stands; same_bucket = ap bucket_of_row (sym same) })
        by (elsewhere e stands) = inl (record { key = key; home = home; here = stands; same_bucket = refl })

    -- a row of a key or a deleted one is as it was
    keeper_row : (key : RowKey) → IsKeeper key → now key ≡ all key
    keeper_row (keys.Key w c q) keeper = refl
    keeper_row (keys.Deleted w c o q l) keeper = refl
    keeper_row key keeper = absurd keeper

    keeper_home : (key : RowKey) → IsKeeper key → IsHome key
    keeper_home (keys.Key w c q) keeper = tt
    keeper_home (keys.Deleted w c o q l) keeper = tt
    keeper_home key keeper = absurd keeper

    before : (block : Block) (key : RowKey) → IsKeeper key → StandsIn now block key → StandsIn all block key
    before block key keeper stands = record { row = stands.row; there = sym (keeper_row key keeper) ∙ stands.there; has = stands.has }

    open_key : (w c q : List ℕ) (m : ℕ) (block : Block) → StandsIn now block (keys.Open w c q m) → ((l : ℕ) × StandsIn all block (keys.Open w c q l))
        ⊎ IsGranted all (Some new) block
    open_key w c q m block here = by (stood block (keys.Open w c q m) here)
      where
        by : Where block (keys.Open w c q m) → ((l : ℕ) × StandsIn all block (keys.Open w c q l)) ⊎ IsGranted all (Some new) block
        by (granted same is) = inr (is_new block is)
        by (stood_open same stands) = inl (m, subst (StandsIn all block) (sym same) stands)
        by (elsewhere e stands) = inl (m, stands)

    session_before : (w c q : List ℕ) (m : ℕ) → IsSome (now (keys.Open w c q m)) → IsSome (all (keys.Open w c q m))
    session_before w c q m some = by_test (is_same session (keys.Open w c q m)) refl some
      where
        by_test : (t : Bool) → is_same session (keys.Open w c q m) ≡ t → IsSome (cond t (Some row) (all (keys.Open w c q m))) → IsSome (all (keys.Open w c q m))
        by_test true e some = subst (λ x. IsSome (all x)) (same_is_one session (keys.Open w c q m) e) (ap is_some may.session)
        by_test false e some = some

    using_before : (w c : List ℕ) (one : List ℕ × Option ℕ) → IsUsing now w c one → IsUsing all w c one
    using_before w c (q, None) some = some
    using_before w c (q, Some m) some = session_before w c q m some

    others : (key : RowKey) → (IsHome key → ⊥) → now key ≡ all key
    others key no_home = by_test (is_same session key) refl
      where
        by_test : (t : Bool) → is_same session key ≡ t → cond t (Some row) (all key) ≡ all key
        by_test true e = absurd (no_home (subst IsHome (same_is_one session key e) tt))
        by_test false e = refl

    -- a block of the session stands before the new one
    none_lost : (block : Block) → HasHome all block → HasHome now block
    none_lost block had = by_test (is_same session had.key) refl
      where
        by_test : (t : Bool) → is_same session had.key ≡ t → HasHome now block
        by_test false e = record {
          key = had.key;
          home = had.home;
          here = record { row = had.here.row; there = ap (λ (t : Bool). cond t (Some row) (all had.key)) e ∙ had.here.there; has = had.here.has };
        }
        by_test true e =
            let same = same_is_one session had.key e in
            let stood : rows.Open blocks ≡ had.here.row = same_Some (rows.Open blocks) had.here.row (sym may.session ∙ ap all same ∙ had.here.there) in
            let has : list_any (is_block block) blocks ≡ true = ap (λ (r : Row). list_any (is_block block) (blocks_of r)) stood ∙ had.here.has in
            record {
              key = session;
              home = tt;
              here = record {
                row = row;
                there = ap (λ (t : Bool). cond t (Some row) (all session)) (ap is_eq (itself session));
                has = list_any-append (is_block block) blocks (new ∷ []) ∙ ap (λ (t : Bool). t || list_any (is_block block) (new ∷ [])) has;
              };
            }

    pub block_is_granted : BlocksMove all now (Some new)
    block_is_granted = record {
      others = λ key no_home kind. others key no_home;
      bare = λ s block stands. may.bare s block (record { row = stands.row; there = stands.there; has = stands.has });
      came = came;
      none_lost = none_lost;
      stays = λ block key keeper stands. (key, keeper, record { row = stands.row; there = keeper_row key keeper ∙ stands.there; has = stands.has });
      one_home = one_home;
      together = λ block other key keeper here there. record {
        key = key;
        home = keeper_home key keeper;
        here = before block key keeper here;
        there = before other key keeper there;
        same_bucket = refl;
      };
      open_key = open_key;
      drawn = λ s. let m = drawn_in (all (keys.Stripe s)) in omega arith;
      sessions = λ w c q m some. sound.numbers.sessions w c q m (session_before w c q m some);
      owners = λ w c q o l some apart. some;
      few = λ w c. at_most _ _ 4096 (using_before w c) (sound.counts.keys_and_sessions w c);
    }
