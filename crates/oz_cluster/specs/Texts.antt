-- What is written where the work didn't begin: in place of a report, or of what a transfer does.
use Rattle.std.specs.Prelude.{ℕ, List, ◌++◌, codes, decimal}
use Rattle.oz_running.specs.Printed.{memory_fault}
use Rattle.oz_running.specs.disk_name.DiskName.{DiskName}
use Rattle.oz_running.specs.disk_name.DiskName.TheVariants.{Manager, Scm, Meta, Slots}
use Rattle.oz_running.specs.fault.StoreFault.{StoreFault}
use Rattle.oz_running.specs.fault.StoreFault.TheVariants as store

-- the words are wrong at this place, from 1
abbrev pub words_fault : ℕ → List ℕ
words_fault place = codes "words " ++ decimal place ++ codes "\n"

-- the script is wrong at this line, from 1, or at 0 as a whole
abbrev pub script_fault : ℕ → List ℕ → List ℕ
script_fault line cause = codes "script " ++ decimal line ++ codes " " ++ cause ++ codes "\n"

-- the disks by their names
abbrev pub disk_text : DiskName → List ℕ
disk_text Manager = codes "manager"
disk_text Scm = codes "scm"
disk_text (Meta dn) = codes "dn" ++ decimal dn ++ codes ".meta"
disk_text (Slots dn) = codes "dn" ++ decimal dn ++ codes ".slots"

-- A disk failed while it was loaded, or is damaged at this offset; the storage container manager's names another number
-- of datanodes than was given; or an id that was seen isn't below the next.
abbrev pub store_text : StoreFault → List ℕ
store_text (store.Disk name) = codes "disk " ++ disk_text name ++ codes " fault\n"
store_text (store.Damaged name offset) = codes "damaged " ++ disk_text name ++ codes " at " ++ decimal offset ++ codes "\n"
store_text (store.Nodes recorded given) = codes "nodes " ++ decimal recorded ++ codes " " ++ decimal given ++ codes "\n"
store_text (store.Ids next seen) = codes "ids " ++ decimal next ++ codes " " ++ decimal seen ++ codes "\n"
store_text store.OutOfMemory = memory_fault

-- the script couldn't be read
abbrev pub read_fault : List ℕ
read_fault = codes "read fault\n"

-- the bytes of a put are more than it takes
abbrev pub too_long : List ℕ
too_long = codes "longer than 1048576 bytes\n"
