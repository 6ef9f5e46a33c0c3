-- Rows of no body: there are none, and what renamed rows say is sound.
use Rattle.std.proofs.Common.{◌≡◌, ℕ, List, [], None, Some, sym, subst}
use Rattle.oz_effects.specs.Build.{BuildsFrom}
use Rattle.oz_fields.specs.declared.block.Block.{Block}
use Rattle.oz_loaded.specs.Loads.{IsLoaded}
use Rattle.oz_loaded.specs.Unseated.{UnseatedView}
use Rattle.oz_rows.specs.declared.entry.RowEntry.{RowEntry}
use Rattle.oz_rows.specs.RowMaps.{row_of}
use Rattle.oz_sound.specs.Sound.{IsSound, IsSoundButRenames, RenamesAreSound, SnapshotHas}

no_snapshot_has : {X : Type 0} (volume bucket name : List ℕ) (number : ℕ) (block : Block) → SnapshotHas (row_of []) volume bucket number block name → X
no_snapshot_has volume bucket name number block has = let there : None ≡ Some has.stands.row = has.stands.there in absurd (cc)

no_renames : RenamesAreSound (row_of [])
no_renames = record {
  renamed = λ volume bucket name another number owner block has rename. no_snapshot_has volume bucket name number block has;
  noted = λ volume bucket name number block has anew. no_snapshot_has volume bucket name number block has;
}

pub no_rows_are_sound : IsSoundButRenames (row_of []) → IsSound (row_of [])
no_rows_are_sound sound = record { blocks = sound.blocks; names = sound.names; renames = no_renames; numbers = sound.numbers; counts = sound.counts }

none_loaded : (unseated : UnseatedView) (this : IsLoaded [] unseated) → this.all ≡ []
unfolding BuildsFrom
none_loaded unseated this = this.builds.1.0

pub unwritten_rows_are_sound : (unseated : UnseatedView) (this : IsLoaded [] unseated) → IsSoundButRenames (row_of this.all) → IsSound (row_of this.all)
unwritten_rows_are_sound unseated this sound =
    let none = none_loaded unseated this in
    subst (λ (all : List RowEntry). IsSound (row_of all)) (sym none)
    (no_rows_are_sound (subst (λ (all : List RowEntry). IsSoundButRenames (row_of all)) none sound))
