-- What a sink in memory stands for.
use Rattle.std.specs.Prelude.{ℕ, List}
use Rattle.oz_world.specs.declared.calls.Calls.{Calls}
use Rattle.oz_world.specs.declared.memory_sink.MemorySink.{MemorySink}

-- the bytes that were written
abbrev pub held_by : MemorySink → List ℕ
held_by sink = sink.bytes.items

-- its calls
abbrev pub sink_calls : MemorySink → Calls
sink_calls sink = sink.calls
