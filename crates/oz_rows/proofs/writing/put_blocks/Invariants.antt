use Rattle.std.proofs.Common.{◌≡◌, ◌++◌, length, take}
use Rattle.std.specs.List.{flat_map}
use Rattle.oz_fields.specs.Number.{u16_bytes}
use Rattle.oz_rows.specs.Rows.{block_bytes}
use Rattle.oz_rows.proofs.writing.put_blocks.Given as goal

abbrev pub invariant-loop-block : goal.invariant-loop-block
invariant-loop-block l = l.out.items ≡ l.fn.out.items ++ (u16_bytes (length l.blocks) ++ flat_map block_bytes (take l.block-index l.block-items))
