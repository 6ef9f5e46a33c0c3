-- What a source in memory stands for.
use Rattle.std.specs.Prelude.{ℕ, List, drop}
use Rattle.oz_world.specs.declared.calls.Calls.{Calls}
use Rattle.oz_world.specs.declared.memory_source.MemorySource.{MemorySource}

-- the bytes that are left to read
abbrev pub left_of_source : MemorySource → List ℕ
left_of_source source = drop source.at source.bytes.items

-- its calls
abbrev pub source_calls : MemorySource → Calls
source_calls source = source.calls
