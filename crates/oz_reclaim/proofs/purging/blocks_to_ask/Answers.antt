use Rattle.std.proofs.Common.{◌≡◌, false, rules}
use Rattle.oz_effects.specs.changes.Steps.{holds}
use Rattle.oz_fields.specs.declared.block.Block.{Block}
use Rattle.oz_reclaim.proofs.Removing.{all_tell, known_tells}
use Rattle.oz_reclaim.proofs.purging.blocks_to_ask.Goals as goal

pub returns-then-are_known : goal.returns-then-are_known
returns-then-are_known g c =
    let none : (block : Block) → holds c.new.result block ≡ false = λ block. search rules in
    known_tells (g.M.RowMap.rows c.args.rows.now) (holds c.new.result) c.args.known.now c.requires none c.args.named.now (c.are_known.ensures c.if-are_known.true)

pub returns : goal.returns
returns g c = all_tell (g.M.RowMap.rows c.args.rows.now) (holds c.in_ok-shown.shown) c.in_ok-shown.ensures c.args.named.now
