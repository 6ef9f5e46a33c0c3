-- The bodies of the manager's journal, by their bytes.
use Rattle.std.specs.Prelude.{ℕ, List, ◌++◌}
use Rattle.oz_rows.specs.Operations.{head_bytes, new_head}

-- a body of this index with the bytes of its batches
abbrev pub body_bytes : ℕ → List ℕ → List ℕ
body_bytes index batches = head_bytes (new_head index) ++ batches
