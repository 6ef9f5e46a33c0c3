-- What a memory disk stands for.
use Rattle.std.specs.Prelude.{ℕ, List}
use Rattle.oz_world.specs.declared.calls.Calls.{Calls}
use Rattle.oz_world.specs.declared.history.Change.{Change}
use Rattle.oz_world.specs.declared.memory_disk.MemoryDisk.{MemoryDisk}
use Rattle.oz_world.specs.Disk.{Images}
use Rattle.oz_world.specs.History.{images_of, left_of}

-- what a read gives
abbrev pub disk_bytes : MemoryDisk → List ℕ
disk_bytes disk = disk.bytes.items

-- the present moment
abbrev pub disk_clock : MemoryDisk → ℕ
disk_clock disk = disk.history.clock

-- what a stop at each moment may leave, by the record
abbrev pub disk_images : MemoryDisk → Images
disk_images disk = images_of disk.history

-- what is left where this part of each change came about that no sync followed
abbrev pub disk_left : (Change → List ℕ → List ℕ) → MemoryDisk → List ℕ
disk_left part disk = left_of part disk.history

-- how many bytes it has room for
abbrev pub disk_room : MemoryDisk → ℕ
disk_room disk = disk.room

-- its calls
abbrev pub disk_calls : MemoryDisk → Calls
disk_calls disk = disk.calls
