-- What a write on a shelf answers of a disk that fails.
use Rattle.std.specs.Prelude.{Bool, true, false, Result, Ok, Err}
use Rattle.oz_block.specs.declared.shelf.shelf.Unwritten.{Unwritten}
use Rattle.oz_block.specs.declared.shelf.shelf.Unwritten.TheVariants.{Full, Failed, OutOfMemory}

-- the call answers that the disk failed
abbrev pub says_failed : {T : Type 0} → Result T Unwritten → Bool
says_failed (Ok x) = false
says_failed (Err (Full full)) = false
says_failed (Err Failed) = true
says_failed (Err OutOfMemory) = false
