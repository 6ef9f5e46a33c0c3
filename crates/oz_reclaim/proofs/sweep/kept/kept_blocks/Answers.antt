use Rattle.std.proofs.Common.{◌≡◌, false, List, refl, sym, subst, rules}
use Rattle.oz_effects.specs.Parts.{IsPart, front_of}
use Rattle.oz_effects.specs.changes.Steps.{holds}
use Rattle.oz_effects.specs.declared.parts.Part.TheVariants as parts
use Rattle.oz_fields.specs.declared.block.Block.{Block}
use Rattle.oz_reclaim.proofs.sweep_lemmas.Parts.{set_is_right}
use Rattle.oz_rows.specs.declared.entry.RowEntry.{RowEntry}
use Rattle.oz_reclaim.proofs.sweep.kept.kept_blocks.Goals as goal

pub returns : goal.returns
returns c =
    let all : List RowEntry = c.args.durable.now.rows in
    let found : List RowEntry = c.as_slice.result.now in
    let front = front_of parts.SnapshotKeys c.args.volume.now c.args.bucket.now in
    let is = subst (λ (part : List RowEntry). IsPart all front part) (sym c.as_slice.ensures.value) (c.in_ok-found.ensures all (record { in_order = c.rows_are_in_order.ensures; rows_are = λ key. refl })) in
    set_is_right all c.args.volume.now c.args.bucket.now found c.new-blocks.result c.add_live.new.blocks c.rows_are_in_order.ensures is
    (λ (block : Block). let none : holds c.new-blocks.result block ≡ false = search rules in none) c.in_ok-add_live.ensures
