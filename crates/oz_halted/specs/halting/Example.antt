-- A datanode that halted as it was to apply a transaction: what a stop may leave of it.
use Rattle.std.specs.Prelude.{◌≡◌, ◌⊎◌, ◌==◌, [], ◌∷◌, replicate, None, Some, if◌then◌else◌}
use Rattle.oz_container.specs.declared.state.State.TheVariants.{Open, Closed}
use Rattle.oz_entries.specs.declared.entry.Entry.TheVariants.{Apply}
use Rattle.oz_entries.specs.declared.row.BlockRow.{BlockRow}
use Rattle.oz_entries.specs.Node.{Node, is_same_block, after_entry}
use Rattle.oz_halted.specs.Example.{block, txn}
use Rattle.oz_halted.specs.halting.Leaves.{GivenBytes, Remains}

-- the block's row: three bytes in the first slot
abbrev pub row : BlockRow
row = record { length = 3; chunks = record { slot = 0; digest = replicate 32 0 } ∷ [] }

-- the datanode that holds the block, and has closed its replica
abbrev pub was : Node
was = record {
  rows = λ other. if is_same_block block other then Some row else None;
  states = λ container. if 1 == container then Closed else Open;
  greatest = λ container. 0;
  users = λ slot. if slot == 0 then Some block else None;
}

-- the same once it has deleted the block
abbrev pub deleted : Node
deleted = after_entry (Apply txn) was

abbrev pub given : GivenBytes
given of = Some (7 ∷ 8 ∷ 9 ∷ [])

-- either may be left, with the block's bytes
abbrev pub remains : Remains
remains node bytes = ((node ≡ was) ⊎ (node ≡ deleted)) × (bytes ≡ given)
