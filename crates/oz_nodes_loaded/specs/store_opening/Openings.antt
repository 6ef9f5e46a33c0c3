-- The opening of a store whose disks were all loaded, and the bytes of the blocks on them.
use Rattle.std.specs.Prelude.{ℕ, ◌+◌, ◌-◌, Bool, true, ◌&&◌, List, [], ◌∷◌, map, filter_map, slice_get, bytes_eq}
use Rattle.std.specs.Prelude.{Option, None, Some, option_map, option_and_then, if◌then◌else◌, filter, length}
use Rattle.std.specs.FinMap.{FinMap, empty, entries, insert}
use Rattle.std.specs.List.{range_with_len}
use Rattle.std.specs.Ordering.{nat_cmp}
use Rattle.oz_chunk.specs.declared.table.TheConstants.{SLOT_SIZE}
use Rattle.oz_core.specs.declared.opening.Container.{Container}
use Rattle.oz_core.specs.declared.opening.NodeOpening.{NodeOpening}
use Rattle.oz_core.specs.declared.opening.Opening.{Opening}
use Rattle.oz_core.specs.declared.opening.Replica.{Replica}
use Rattle.oz_core.specs.declared.opening.Unretired.{Unretired}
use Rattle.oz_core.specs.Contents.{OpeningBytes}
use Rattle.oz_core.specs.Scm.{Containers}
use Rattle.oz_datanode.specs.Datanode.{State as Datanode, node_in, slots_of}
use Rattle.oz_datanode.specs.Pairs.{bytes_of, part_of}
use Rattle.oz_dellog.specs.Logged.{is_acknowledged_by, txn_of}
use Rattle.oz_dellog.specs.declared.logged.Logged.{Logged}
use Rattle.oz_entries.specs.Held.{HeldView, node_of}
use Rattle.oz_entries.specs.Node.{Node}
use Rattle.oz_entries.specs.declared.replica.Replica.{Replica as KeptReplica}
use Rattle.oz_entries.specs.declared.row.BlockRow.{BlockRow}
use Rattle.oz_entries.specs.declared.row.Chunk.{Chunk}
use Rattle.oz_fields.specs.declared.block.Block.{Block}
use Rattle.oz_fields.specs.declared.block.Piece.{Piece}
use Rattle.oz_scm.specs.declared.grants.container.Container.{Container as MadeContainer}
use Rattle.oz_scm.specs.grants.Made.{Made}
use Rattle.oz_loaded.specs.Unseated.{UnseatedView}
use Rattle.oz_namespace.specs.declared.namespace.Namespace.{Namespace}
use Rattle.oz_world.specs.Disk.{Seen}
use Rattle.sha2.specs.Sha256.{sha256}

-- a container that was made, as an opening has it, and such containers by their numbers, which rise from this one
abbrev pub opened_container : MadeContainer → Container
opened_container made = record { pipeline = made.pipeline; state = made.state; granted = made.granted }

abbrev pub containers_from : ℕ → List MadeContainer → Containers
containers_from number [] = empty
containers_from number (made ∷ others) = insert (containers_from (number + 1) others) number (opened_container made)

-- of these blocks those that are held, with their lengths, and the replicas of these containers
abbrev pub pieces_of : Node → List Block → List Piece
pieces_of node blocks =
    filter_map (λ (block : Block).
    option_map (λ (row : BlockRow). record { block = block; length = row.length }) (node.rows block)) blocks

abbrev pub replicas_of : Node → List ℕ → List Replica
replicas_of node containers =
    map (λ (container : ℕ).
    record { container = container; state = node.states container; greatest = node.greatest container }) containers

-- what a datanode holds: all blocks that have a row, and all replicas that were named
abbrev pub opened_node : HeldView → NodeOpening
opened_node held = record {
  held = pieces_of (node_of held) (map (λ (entry : Block × Option BlockRow). entry.0) held.rows);
  replicas = replicas_of (node_of held) (map (λ (entry : ℕ × KeptReplica). entry.0) held.replicas);
}

-- the datanodes that acknowledged a transaction, rising
abbrev pub acknowledged_by : Logged → List ℕ
acknowledged_by logged = filter (is_acknowledged_by logged) (range_with_len 0 (length logged.acknowledged))

-- what stands under a number of the log of deleted blocks, as an opening has it
abbrev pub opened_txn : ℕ × Logged → Unretired
opened_txn entry = record { txn = txn_of entry.0 entry.1; acknowledgers = acknowledged_by entry.1 }

-- the log, in the order of its numbers
abbrev pub opened_log : FinMap nat_cmp Logged → List Unretired
opened_log log = map opened_txn (entries log)

-- What was loaded: of the manager, which stands for the namespace, of the storage container manager, and of all datanodes.
abbrev pub opening_of : {D : Type 0} → UnseatedView → Namespace → Made → List (Datanode D) → Opening
opening_of {D} unseated namespace made nodes = record {
  namespace = namespace;
  last_index = unseated.last_index;
  left = unseated.left;
  next_id = made.next_id;
  last_txn = made.last_txn;
  containers = containers_from 1 made.containers;
  unretired = opened_log made.unretired;
  nodes = map (λ (node : Datanode D). opened_node node.blocks.held) nodes;
}

-- the digests that are kept of chunks are those of their bytes
abbrev pub have_digests : ℕ → List Chunk → List ℕ → Bool
have_digests size [] slots = true
have_digests size (chunk ∷ chunks) slots =
    bytes_eq chunk.digest (sha256 (part_of size chunk slots)) && have_digests (size - SLOT_SIZE) chunks slots

-- the bytes of a block of this row on a disk of slots, where their digests are the kept ones
abbrev pub intact_bytes : BlockRow → List ℕ → Option (List ℕ)
intact_bytes row slots = if have_digests row.length row.chunks slots then Some (bytes_of row slots) else None

module _ {D : Type 0} (see : D → Seen) where
  -- what the disk of slots of a datanode tells of a block that is held
  abbrev pub bytes_on : Datanode D → Block → Option (List ℕ)
  bytes_on node block =
      option_and_then (λ (row : BlockRow). option_and_then (intact_bytes row) (see (slots_of node)).told)
      ((node_in node).rows block)

  abbrev pub opening_bytes : List (Datanode D) → OpeningBytes
  opening_bytes nodes dn block = option_and_then (λ (node : Datanode D). bytes_on node block) (slice_get nodes dn)
