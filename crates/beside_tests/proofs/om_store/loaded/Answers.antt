use Rattle.std.proofs.Common.{◌∙◌, Some}
use Rattle.oz_world.specs.MemoryDisk.{disk_bytes}
use Rattle.beside_tests.proofs.OmEmpty.{empty_parts}
use Rattle.beside_tests.proofs.om_store.loaded.Goals as goal

pub returns-in-Ok : goal.returns-in-Ok
returns-in-Ok c =
    empty_parts _ (Some (disk_bytes c.in-Ok.loaded.1.disk)) _ (c.in_ok-disk.ensures.bytes ∙ c.new.ensures.items) c.in-Ok.ensures.loads
