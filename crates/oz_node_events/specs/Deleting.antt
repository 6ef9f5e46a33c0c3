-- What a transaction of the log of deleted blocks does at a datanode.
use Rattle.std.specs.Prelude.{◌≡◌, ℕ, ◌==◌, max, List, filter, Option, None, Some, Result, Ok, Err, Contains, if◌then◌else◌}
use Rattle.oz_block.specs.Blocks.{StandsFor}
use Rattle.oz_core.specs.declared.event.Event.{Event}
use Rattle.oz_core.specs.declared.event.EventKind.{EventKind}
use Rattle.oz_core.specs.declared.event.EventKind.TheVariants.{Delete}
use Rattle.oz_core.specs.declared.opening.Opening.{Opening}
use Rattle.oz_core.specs.Scm.{logs, members}
use Rattle.oz_datanode.specs.Datanode.{State, DisksGoOn, Runs, meta_of, node_in}
use Rattle.oz_datanode.specs.Pairs.{Content, NodeHolds}
use Rattle.oz_dellog.specs.declared.txn.Txn.{Txn}
use Rattle.oz_entries.specs.Node.{Node, is_held, names}
use Rattle.oz_fields.specs.declared.block.Block.{Block}
use Rattle.oz_world.specs.Disk.{Images}
use Rattle.oz_node_events.specs.declared.refusal.ChangeRefusal.{ChangeRefusal}

-- the story has logged it, and the datanode is a member of its container
pub record MayApply (opening : Opening) (story : List Event) (dn : ℕ) (txn : Txn) : Type 0 where
  pub logged : Contains (logs opening story) txn
  pub member : Contains (members opening story txn.container) dn

-- those of its blocks that are held, by their own numbers, in its order
abbrev pub held_locals : Node → Txn → List ℕ
held_locals node txn = filter (λ local. is_held node (record { container = txn.container; local = local })) txn.locals

-- the event that tells of it
abbrev pub delete_kind : ℕ → Node → Txn → EventKind
delete_kind dn node txn = Delete dn txn.number (held_locals node txn)

-- A datanode that runs holds none of its blocks any more. Of its container the greatest number that was applied is the greatest
-- so far. All else is as it was, and the journal tells so.
pub record HasApplied {D : Type 0} (told : D → Option (List ℕ)) (clock : D → ℕ) (image : D → Images) (faults : D → ℕ) (txn : Txn)
    (old new : State D) : Type 0 where
  pub ran : Runs faults old
  pub runs : Runs faults new
  pub id : new.id ≡ old.id
  pub line : new.stopped ≡ old.stopped
  pub rows : (block : Block) → (node_in new).rows block ≡ (if names txn block then None else (node_in old).rows block)
  pub states : (container : ℕ) → (node_in new).states container ≡ (node_in old).states container
  pub greatest : (container : ℕ) → (node_in new).greatest container
      ≡ (if txn.container == container then max ((node_in old).greatest container) txn.number else (node_in old).greatest container)
  pub stands : (bytes : List ℕ) → told (meta_of new) ≡ Some bytes → StandsFor bytes (node_in new)
  pub pairs : (contents : Block → Content) → NodeHolds told clock image faults contents old
      → NodeHolds told clock image faults contents new
  pub goes_on : DisksGoOn told faults old new

-- whether it was applied, or why not
abbrev pub as_done : Result ℕ ChangeRefusal → Result (Unit {0}) ChangeRefusal
as_done (Ok count) = Ok tt
as_done (Err refusal) = Err refusal
