-- No two stripes name blocks of one local id.
use Rattle.std.proofs.Common.{◌≡◌, ⊎_elim, ◌⊎◌, ℕ, true, List, [], Option, None, Some, IsSome, Contains, refl, sym, ◌∙◌, ap, subst, arith}
use mathlib.Core.Bool.{false≢true}
use Rattle.std.specs.List.{list_any}
use Rattle.oz_core.specs.declared.event.Event.{Event}
use Rattle.oz_core.specs.declared.opening.Opening.{Opening}
use Rattle.oz_core.specs.Law.{IsLegal}
use Rattle.oz_decision.specs.Meets.{AreInGrammar}
use Rattle.oz_fields.specs.declared.block.Block.{Block}
use Rattle.oz_store.specs.granted.Granted.{AreOld, handed_out}
use Rattle.oz_store.specs.granted.laws.Grants.{local_from, one_stripe}
use Rattle.oz_store.specs.granted.laws.Handed.{handed_granted}
use Rattle.oz_names.specs.Names.{stripe_of}
use Rattle.oz_rows.specs.declared.key.RowKey.{RowKey}
use Rattle.oz_rows.specs.declared.key.RowKey.TheVariants as keys
use Rattle.oz_rows.specs.declared.row.Row.{Row}
use Rattle.oz_rows.specs.declared.row.Row.TheVariants as rows
use Rattle.oz_rows.specs.Rows.{RowFits}
use Rattle.oz_rows.specs.RowMaps.{Rows, is_block}
use Rattle.oz_sound.specs.Sound.{IsSoundButRenames, StandsIn, blocks_of, bucket_of_row}
use Rattle.oz_store.specs.Store.{IsInARow, RowsAreCoherent}
use Rattle.oz_sound.specs.stripes.Stripes.{only, stripe_of_key}
use Rattle.oz_headline.specs.restored.laws.Sound.{its_own, stands_from}

-- ---- a row that names a block is of a bucket of its stripe

record IsOfBucket (key : RowKey) : Type 0 where
  volume : List ℕ
  bucket : List ℕ
  place : bucket_of_row key ≡ Some (volume, bucket)
  its : stripe_of_key key ≡ stripe_of volume

none_named : (block : Block) (row : Row) → blocks_of row ≡ [] → list_any (is_block block) (blocks_of row) ≡ true → ⊥
none_named block row none has = false≢true (sym (ap (list_any (is_block block)) none) ∙ has)

of_bucket : (block : Block) (key : RowKey) (row : Row) → RowFits key row → list_any (is_block block) (blocks_of row) ≡ true → IsOfBucket key
of_bucket block (keys.Volume volume) rows.Volume fits has = absurd (none_named block rows.Volume refl has)
of_bucket block (keys.Volume volume) row fits has = absurd fits.1
of_bucket block (keys.Bucket volume bucket) row fits has = record { volume = volume; bucket = bucket; place = refl; its = refl }
of_bucket block (keys.Key volume bucket key) row fits has = record { volume = volume; bucket = bucket; place = refl; its = refl }
of_bucket block (keys.Open volume bucket key number) row fits has = record { volume = volume; bucket = bucket; place = refl; its = refl }
of_bucket block (keys.Deleted volume bucket owner key local) row fits has = record { volume = volume; bucket = bucket; place = refl; its = refl }
of_bucket block (keys.Snapshot volume bucket number) row fits has = record { volume = volume; bucket = bucket; place = refl; its = refl }
of_bucket block (keys.SnapshotKey volume bucket snapshot key) row fits has = record { volume = volume; bucket = bucket; place = refl; its = refl }
of_bucket block (keys.Renamed volume bucket owner local) row fits has = record { volume = volume; bucket = bucket; place = refl; its = refl }
of_bucket block (keys.Stripe stripe) (rows.Stripe number) fits has = absurd (none_named block (rows.Stripe number) refl has)
of_bucket block (keys.Stripe stripe) row fits has = absurd fits.1

first_volume : Option (List ℕ × List ℕ) → List ℕ
first_volume None = []
first_volume (Some place) = place.0

-- rows of one bucket are of one stripe
same_stripe : (key other : RowKey) → IsOfBucket key → IsOfBucket other → bucket_of_row key ≡ bucket_of_row other → stripe_of_key key ≡ stripe_of_key other
unfolding first_volume
same_stripe key other one two same =
    one.its ∙ ap (λ (place : Option (List ℕ × List ℕ)). stripe_of (first_volume place)) (sym one.place ∙ same ∙ two.place) ∙ sym two.its

-- ---- blocks that were loaded

module _ (loaded : Rows) (fit : AreInGrammar loaded) (sound : IsSoundButRenames loaded) where
  loaded_in : (block : Block) (key : RowKey) → StandsIn loaded block key → IsOfBucket key
  loaded_in block key it = of_bucket block key it.row (fit key it.row it.there) it.has

  loaded_apart : (stripe other : ℕ) (block twin : Block) → IsInARow (only stripe loaded) block → IsInARow (only other loaded) twin
      → block.local ≡ twin.local → stripe ≡ other
  loaded_apart stripe other block twin one two same =
      let here = stands_from loaded stripe block one.0 one.1 in
      let there = stands_from loaded other twin two.0 two.1 in
      let is = sound.blocks.one_local block twin one.0 two.0 here there same in
      let twin_there : StandsIn loaded block two.0 = subst (λ (b : Block). StandsIn loaded b two.0) (sym is) there in
      let place = sound.blocks.one_bucket block one.0 two.0 here twin_there in
      sym (its_own loaded stripe one.0 (subst IsSome (sym one.1.there) refl))
      ∙ same_stripe one.0 two.0 (loaded_in block one.0 here) (loaded_in twin two.0 there) place
      ∙ its_own loaded other two.0 (subst IsSome (sym two.1.there) refl)

-- ---- and those that were handed out

module _ (opening : Opening) (loaded : Rows) (fit : AreInGrammar loaded) (sound : IsSoundButRenames loaded) (coherent : RowsAreCoherent loaded opening)
    (story : List Event) (legal : IsLegal opening story) where
  -- a block that was loaded has no id of one that was handed out
  handed_new : (stripe other : ℕ) (block twin : Block) → IsInARow (only stripe loaded) block → Contains (handed_out other story) twin
      → block.local ≡ twin.local → ⊥
  handed_new stripe other block twin row handed same =
      let of = handed_granted opening story legal other twin handed in
      let from = local_from opening story legal other twin of.0 of.1 in
      let below = coherent.fresh block (row.0, stands_from loaded stripe block row.0 row.1) in
      absurd (omega (arith, from, below, same))

  handed_apart : (stripe other : ℕ) (block twin : Block) → Contains (handed_out stripe story) block → Contains (handed_out other story) twin
      → block.local ≡ twin.local → stripe ≡ other
  handed_apart stripe other block twin one two same =
      let here = handed_granted opening story legal stripe block one in
      let there = handed_granted opening story legal other twin two in
      one_stripe opening story legal stripe here.0 other there.0 block twin here.1 there.1 same

  either : (stripe other : ℕ) (block twin : Block) → IsInARow (only stripe loaded) block ⊎ Contains (handed_out stripe story) block
      → IsInARow (only other loaded) twin ⊎ Contains (handed_out other story) twin → block.local ≡ twin.local → stripe ≡ other
  either stripe other block twin one two same = ⊎_elim
      (λ row. ⊎_elim
      (λ beside. loaded_apart loaded fit sound stripe other block twin row beside same)
      (λ handed. absurd (handed_new stripe other block twin row handed same)) two)
      (λ handed. ⊎_elim
      (λ row. absurd (handed_new other stripe twin block row handed (sym same)))
      (λ beside. handed_apart stripe other block twin handed beside same) two)
      one

  pub stripes_apart : (stripe other : ℕ) (now beside : Rows) → AreOld (only stripe loaded) (handed_out stripe story) now
      → AreOld (only other loaded) (handed_out other story) beside
      → (block twin : Block) (key place : RowKey) → StandsIn now block key → StandsIn beside twin place → block.local ≡ twin.local → stripe ≡ other
  stripes_apart stripe other now beside old also block twin key place one two same =
      either stripe other block twin (old block key one) (also twin place two) same
