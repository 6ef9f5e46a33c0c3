-- A story in which a datanode and the storage container manager halt, and what it leaves where each has one body more.
use Rattle.std.specs.Prelude.{List, [], ◌∷◌, Some}
use Rattle.std.specs.FinMap.{from_entries}
use Rattle.oz_container.specs.declared.state.State.TheVariants.{Closed}
use Rattle.oz_dellog.specs.declared.txn.Txn.{Txn}
use Rattle.oz_fields.specs.declared.block.Block.{Block}
use Rattle.oz_script.specs.declared.lines.script.Script.{Script}
use Rattle.oz_namespace.specs.Namespace.{nothing}
use Rattle.oz_core.specs.declared.event.Event.{Event}
use Rattle.oz_core.specs.declared.event.EventKind.TheVariants.{Halt, Delete}
use Rattle.oz_core.specs.declared.event.Node.TheVariants.{Scm, Datanode}
use Rattle.oz_core.specs.declared.opening.Container.{Container}
use Rattle.oz_core.specs.declared.opening.NodeOpening.{NodeOpening}
use Rattle.oz_core.specs.declared.opening.Opening.{Opening}
use Rattle.oz_core.specs.Contents.{OpeningBytes}
use Rattle.oz_core.specs.Scm.{Containers}
use Rattle.oz_core.specs.Seats.{scm_seat, datanode_seat}

-- a block, and the transaction that deletes it
abbrev pub block : Block
block = record { container = 1; local = 5 }

abbrev pub txn : Txn
txn = record { number = 1; container = 1; locals = 5 ∷ [] }

-- its container, which is closed and lies on all three datanodes
abbrev pub closed_container : Container
closed_container = record { pipeline = 0; state = Closed; granted = 64 }

abbrev pub containers_made : Containers
containers_made = from_entries ((1, closed_container) ∷ [])

-- a datanode that holds the block, and applied no transaction yet
abbrev pub holding : NodeOpening
holding = record {
  held = record { block = block; length = 3 } ∷ [];
  replicas = record { container = 1; state = Closed; greatest = 0 } ∷ [];
}

-- all three hold it, and none has acknowledged the transaction
abbrev pub opening : Opening
opening = record {
  namespace = nothing;
  last_index = 0;
  left = [];
  next_id = 64;
  last_txn = 1;
  containers = containers_made;
  unretired = record { txn = txn; acknowledgers = [] } ∷ [];
  nodes = holding ∷ holding ∷ holding ∷ [];
}

-- the block's bytes, and a script without lines
abbrev pub bytes : OpeningBytes
bytes dn of = Some (7 ∷ 8 ∷ 9 ∷ [])

abbrev pub script : Script
script = record { clients = []; lines = [] }

-- the datanode 1 deletes the block, and the disks of the datanode 0 and of the storage container manager fail
abbrev pub story : List Event
story =
    record { seat = datanode_seat 1; kind = Delete 1 1 (5 ∷ []) }
    ∷ record { seat = datanode_seat 0; kind = Halt (Datanode 0) 1 }
    ∷ record { seat = scm_seat; kind = Halt Scm 1 } ∷ []

-- a datanode that deleted the block
abbrev pub emptied : NodeOpening
emptied = record { held = []; replicas = record { container = 1; state = Closed; greatest = 1 } ∷ [] }

-- the datanode 0 has deleted it too, and the acknowledgement of the datanode 1 is noted
abbrev pub left : Opening
left = record {
  namespace = nothing;
  last_index = 0;
  left = [];
  next_id = 64;
  last_txn = 1;
  containers = containers_made;
  unretired = record { txn = txn; acknowledgers = 1 ∷ [] } ∷ [];
  nodes = emptied ∷ emptied ∷ holding ∷ [];
}
