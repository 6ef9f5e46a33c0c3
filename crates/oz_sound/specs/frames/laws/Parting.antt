-- The blocks of one row are parted between it and another.
use Rattle.std.proofs.Common.{◌≡◌, ℕ, Bool, true, false, Option, None, Some, cond, refl, sym, ◌∙◌, ap, subst, arith, inl, inr, ◌⊎◌}
use mathlib.Core.Bool.{false≢true}
use Rattle.std.specs.Ordering.{is_eq}
use Rattle.oz_fields.specs.declared.block.Block.{Block}
use Rattle.oz_names.specs.Names.{stripe_of}
use Rattle.oz_rows.specs.declared.key.RowKey.{RowKey}
use Rattle.oz_rows.specs.declared.key.RowKey.TheVariants as keys
use Rattle.oz_rows.specs.declared.row.Row.{Row}
use Rattle.oz_rows.specs.RowMaps.{after_changes}
use Rattle.oz_rows.specs.RowMaps.{Rows, is_same}
use Rattle.oz_sound.specs.Kept.{HasHome}
use Rattle.oz_sound.specs.Sound.{StandsIn, bucket_of_row, IsKeeper, IsHome, IsSoundButRenames}
use Rattle.oz_sound.specs.StandsFor.{drawn_in}
use Rattle.oz_rows.specs.laws.Order.{itself}
use Rattle.oz_rows.specs.laws.Same.{same_is_one}
use Rattle.oz_sound.specs.frames.Moves.{StoodIn, StoodTogether, BlocksMove}
use Rattle.oz_sound.specs.frames.Parts.{parted, Has, IsParted, KeepsNumbers}

itself_key : (q : RowKey) → is_same q q ≡ true
itself_key q = ap is_eq (itself q)

keeper_home : (key : RowKey) → IsKeeper key → IsHome key
keeper_home (keys.Key v b k) keeper = tt
keeper_home (keys.Deleted v b o k l) keeper = tt
keeper_home key keeper = absurd keeper

module _ (all : Rows) (from : RowKey) (left : Option Row) (to : RowKey) (moved : Option Row) (is : IsParted all from left to moved) where
  abbrev now : Rows
  now = after_changes (parted from left to moved) all

  by_key : (P : Option Row → Type 0) (q : RowKey) → (q ≡ to → P moved) → (q ≡ from → P left) → (is_same from q ≡ false → is_same to q ≡ false → P (all q))
      → P (now q)
  by_key P q is_to is_from other = first (is_same to q) refl
    where
      second : (t : Bool) → is_same from q ≡ t → is_same to q ≡ false → P (cond t left (all q))
      second true e f = is_from (sym (same_is_one from q e))
      second false e f = other e f

      first : (t : Bool) → is_same to q ≡ t → P (cond t moved (cond (is_same from q) left (all q)))
      first true e = is_to (sym (same_is_one to q e))
      first false e = second (is_same from q) refl e

  -- where a block stands now
  data Where (block : Block) (key : RowKey) : Type 0 where
    in_to : key ≡ to → Has moved block → Where block key
    in_from : key ≡ from → Has left block → Where block key
    elsewhere : is_same from key ≡ false → is_same to key ≡ false → StandsIn all block key → Where block key

  stood : (block : Block) (key : RowKey) → StandsIn now block key → Where block key
  stood block key stands = by_key (λ (o : Option Row). o ≡ Some stands.row → Where block key) key
      (λ same e. in_to same (stands.row, e, stands.has))
      (λ same e. in_from same (stands.row, e, stands.has))
      (λ f g e. elsewhere f g (record { row = stands.row; there = e; has = stands.has }))
      stands.there

  at_to : (block : Block) → Has moved block → StandsIn now block to
  at_to block has = record { row = has.0; there = ap (λ (t : Bool). cond t moved (cond (is_same from to) left (all to))) (itself_key to) ∙ has.1; has = has.2 }

  turned : is_same to from ≡ false
  turned = by_test (is_same to from) refl
    where
      by_test : (t : Bool) → is_same to from ≡ t → is_same to from ≡ false
      by_test false e = e
      by_test true e = absurd (false≢true (sym is.apart ∙ ap (λ q. is_same q to) (sym (same_is_one to from e)) ∙ itself_key to))

  at_from : (block : Block) → Has left block → StandsIn now block from
  at_from block has = record {
    row = has.0;
    there = ap (λ (t : Bool). cond t moved (cond (is_same from from) left (all from))) turned ∙ ap (λ (t : Bool). cond t left (all from)) (itself_key from)
        ∙ has.1;
    has = has.2;
  }

  -- a block that stood in a row stands in one that is like it
  goes_on : (Q : RowKey → Type 0) → (Q from → Q to) → (block : Block) (key : RowKey) → Q key → StandsIn all block key → (q : RowKey) × Q q
      × StandsIn now block q
  goes_on Q on block key holds stands = by_key (λ (o : Option Row). now key ≡ o → (q : RowKey) × Q q × StandsIn now block q) key
      (λ same e. absurd (is.was_empty block (subst (StandsIn all block) same stands)))
      (λ same e. elim (is.all_there block (subst (StandsIn all block) same stands)) [
        | inl has ↦ (from, subst Q same holds, at_from block has)
        | inr has ↦ (to, on (subst Q same holds), at_to block has)
      ])
      (λ f g e. (key, holds, record { row = stands.row; there = e ∙ stands.there; has = stands.has }))
      refl

  none_lost : (block : Block) → HasHome all block → HasHome now block
  none_lost block had =
      let it = goes_on IsHome (λ home. is.new_home) block had.key had.home had.here in
      record { key = it.0; home = it.1; here = it.2 }

  not_from : {P : Type 0} (key : RowKey) → is_same from key ≡ false → from ≡ key → P
  not_from key apart same = absurd (false≢true (sym apart ∙ ap (is_same from) (sym same) ∙ itself_key from))

  module _ (sound : IsSoundButRenames all) where
    here_or : (block : Block) (key : RowKey) → IsHome key → is_same from key ≡ false → StandsIn all block from → StandsIn all block key → ⊥
    here_or block key home apart one two = not_from key apart (sound.blocks.one_home block from key is.home home one two)

    one_home : (block : Block) (key other : RowKey) → IsHome key → IsHome other → StandsIn now block key → StandsIn now block other → key ≡ other
    one_home block key other home home' here there = both (stood block key here) (stood block other there)
      where
        both : Where block key → Where block other → key ≡ other
        both (in_to same has) (in_to same' has') = same ∙ sym same'
        both (in_to same has) (in_from same' has') = absurd (is.not_both block has' has)
        both (in_to same has) (elsewhere f g stands) = absurd (here_or block other home' f (is.moved_from block has) stands)
        both (in_from same has) (in_to same' has') = absurd (is.not_both block has has')
        both (in_from same has) (in_from same' has') = same ∙ sym same'
        both (in_from same has) (elsewhere f g stands) = absurd (here_or block other home' f (is.left_from block has) stands)
        both (elsewhere f g stands) (in_to same' has') = absurd (here_or block key home f (is.moved_from block has') stands)
        both (elsewhere f g stands) (in_from same' has') = absurd (here_or block key home f (is.left_from block has') stands)
        both (elsewhere f g stands) (elsewhere f' g' stands') = sound.blocks.one_home block key other home home' stands stands'

    together : (block other : Block) (key : RowKey) → IsHome key → StandsIn now block key → StandsIn now other key
        → StoodTogether all block other (bucket_of_row key)
    together block other key home here there = both (stood block key here) (stood other key there)
      where
        in_one : (key ≡ from) ⊎ (key ≡ to) → StandsIn all block from → StandsIn all other from → StoodTogether all block other (bucket_of_row key)
        in_one (inl same) one two = record { key = from; home = is.home; here = one; there = two; same_bucket = ap bucket_of_row (sym same) }
        in_one (inr same) one two = record { key = from; home = is.home; here = one; there = two; same_bucket = is.same_bucket ∙ ap bucket_of_row (sym same) }

        clash : {P : Type 0} (q : RowKey) → is_same q key ≡ false → key ≡ q → P
        clash q apart same = absurd (false≢true (sym apart ∙ ap (λ k. is_same q k) same ∙ itself_key q))

        both : Where block key → Where other key → StoodTogether all block other (bucket_of_row key)
        both (in_to same has) (in_to same' has') = in_one (inr same) (is.moved_from block has) (is.moved_from other has')
        both (in_to same has) (in_from same' has') = in_one (inr same) (is.moved_from block has) (is.left_from other has')
        both (in_to same has) (elsewhere f g stands) = clash to g same
        both (in_from same has) (in_to same' has') = in_one (inl same) (is.left_from block has) (is.moved_from other has')
        both (in_from same has) (in_from same' has') = in_one (inl same) (is.left_from block has) (is.left_from other has')
        both (in_from same has) (elsewhere f g stands) = clash from f same
        both (elsewhere f g stands) (in_to same' has') = clash to g same'
        both (elsewhere f g stands) (in_from same' has') = clash from f same'
        both (elsewhere f g stands) (elsewhere f' g' stands') = record { key = key; home = home; here = stands; there = stands'; same_bucket = refl }

    came : (block : Block) (key : RowKey) → IsHome key → StandsIn now block key → StoodIn all block (bucket_of_row key)
    came block key home here = by (stood block key here)
      where
        by : Where block key → StoodIn all block (bucket_of_row key)
        by (in_to same has) = record { key = from; home = is.home; here = is.moved_from block has; same_bucket = is.same_bucket ∙ ap bucket_of_row (sym same) }
        by (in_from same has) = record { key = from; home = is.home; here = is.left_from block has; same_bucket = ap bucket_of_row (sym same) }
        by (elsewhere f g stands) = record { key = key; home = home; here = stands; same_bucket = refl }

    -- a row of no home stays
    others : (key : RowKey) → (IsHome key → ⊥) → now key ≡ all key
    others key no_home = by_key (λ (o : Option Row). o ≡ all key) key
        (λ same. absurd (no_home (subst IsHome (sym same) is.new_home)))
        (λ same. absurd (no_home (subst IsHome (sym same) is.home)))
        (λ f g. refl)

    stripe_row : (s : ℕ) → now (keys.Stripe s) ≡ all (keys.Stripe s)
    stripe_row s = others (keys.Stripe s) (λ h. h)

    pub parted_moves : KeepsNumbers all now → BlocksMove all now None
    parted_moves keeps = record {
      others = λ key no_home kind. others key no_home;
      bare = λ s block stands. keeps.bare s block (record { row = stands.row; there = sym (stripe_row s) ∙ stands.there; has = stands.has });
      came = λ block key home stands. inl (came block key home stands);
      none_lost = none_lost;
      stays = goes_on IsKeeper is.keeper;
      one_home = one_home;
      together = λ block other key keeper here there. together block other key (keeper_home key keeper) here there;
      open_key = λ v b k n block stands. inl (keeps.open_key v b k n block stands);
      drawn = λ s. let same = ap drawn_in (stripe_row s) in omega (arith, same);
      sessions = λ v b k n some.
          let before = sound.numbers.sessions v b k n (keeps.sessions v b k n some) in
          let same = ap drawn_in (stripe_row (stripe_of v)) in
          omega (arith, before, same);
      owners = keeps.owners;
      few = keeps.few;
    }
