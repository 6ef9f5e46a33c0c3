-- What wasn't loaded is as loading may leave it.
use Rattle.std.proofs.Common.{ℕ, List, [], ◌∷◌, Option, None, Some, refl, arith}
use Rattle.std.specs.List.{AllZip}
use Rattle.oz_datanode.specs.declared.disks.NodeDisks.{NodeDisks}
use Rattle.oz_journal.specs.Load.{IsLeftAlone}
use Rattle.oz_world.specs.Disk.{Images, Seen, Same, Stands, seen}
use Rattle.oz_world.specs.laws.Moments.{stands_span}
use Rattle.oz_nodes_loaded.specs.Disks.{LeavesJournal, LeavesNode, LeavesSlots}

no_time : (clock : ℕ) (image : Images) → Stands clock clock image image
no_time clock image = record { moment = refl; images = λ t bytes. (λ h. h, λ h. h) }

meta_seen : (told : Option (List ℕ)) (clock : ℕ) (image : Images) (faults : ℕ)
    → LeavesJournal (seen told clock image faults) (seen told clock image faults)
meta_seen None clock image faults = record {
  telling = (λ h. h, λ h. h);
  contents = tt;
  never_falls = omega arith;
  time = (stands_span IsLeftAlone clock clock image image (no_time clock image)).elapses;
  moments = tt;
  loadable = tt;
}
meta_seen (Some bytes) clock image faults = record {
  telling = (λ h. h, λ h. h);
  contents = λ long. refl;
  never_falls = omega arith;
  time = (stands_span IsLeftAlone clock clock image image (no_time clock image)).elapses;
  moments = λ loads. stands_span IsLeftAlone clock clock image image (no_time clock image);
  loadable = λ loads. loads;
}

slots_seen : (told : Option (List ℕ)) (clock : ℕ) (image : Images) (faults : ℕ)
    → LeavesSlots (seen told clock image faults) (seen told clock image faults)
slots_seen told clock image faults = record {
  contents = refl;
  never_falls = omega arith;
  moments = stands_span Same clock clock image image (no_time clock image);
}

pub meta_itself : (disk : Seen) → LeavesJournal disk disk
meta_itself disk = meta_seen disk.told disk.clock disk.image disk.faults

pub slots_itself : (disk : Seen) → LeavesSlots disk disk
slots_itself disk = slots_seen disk.told disk.clock disk.image disk.faults

pub nodes_themselves : {D : Type 0} (see : D → Seen) (nodes : List (NodeDisks D)) → AllZip (LeavesNode see) nodes nodes
nodes_themselves see [] = tt
nodes_themselves see (disks ∷ nodes) =
    ((meta_itself (see disks.meta), slots_itself (see disks.slots)), nodes_themselves see nodes)
