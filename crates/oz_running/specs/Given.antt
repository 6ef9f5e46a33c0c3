-- For private calls: what a run begins with.
use Rattle.std.specs.Prelude.{◌≡◌, ℕ, false, List, [], Option, IfSome, IsSome}
use Rattle.oz_core.specs.declared.event.Node.{Node}
use Rattle.oz_core.specs.declared.event.Node.TheVariants as node
use Rattle.oz_core.specs.declared.opening.Opening.{Opening}
use Rattle.oz_core.specs.Contents.{OpeningBytes}
use Rattle.oz_datanode.specs.Datanode.{State as Datanode}
use Rattle.oz_flusher.specs.Stops.{StopsHold}
use Rattle.oz_headline.specs.NodeSeat.{NumbersAreOld, StandsFor}
use Rattle.oz_journal.specs.Grammar.{IsJournal}
use Rattle.oz_journal.specs.Journal.{State as Journal}
use Rattle.oz_scm.specs.Scm.{State as Scm}
use Rattle.oz_script.specs.declared.lines.script.Script.{Script}
use Rattle.oz_worker.specs.servers.Begun.{NodesStand, ScmStands}
use Rattle.oz_world.specs.Disk.{Images, Seen, TellsAsBefore}
use Rattle.oz_world.specs.Moments.{Elapses}

module _ {D : Type 0} (told : D → Option (List ℕ)) (clock : D → ℕ) (image : D → Images) (failed : D → ℕ) (Coherent : Type 0) where
  -- The manager's journal: no write of it has failed, and of what was seen of its disk nothing has changed since. Where the
  -- disks agree it tells a journal of these bodies, and so does what a stop leaves.
  pub record JournalIsGiven (bodies : List (List ℕ)) (mounted : Seen) (journal : Journal D) : Type 0 where
    pub running : journal.stopped ≡ false
    pub faults : failed journal.disk ≡ mounted.faults
    pub telling : TellsAsBefore mounted.told (told journal.disk)
    pub time : Elapses mounted.clock (clock journal.disk) mounted.image (image journal.disk)
    pub tells : Coherent → IfSome (told journal.disk) (λ it. IsJournal it bodies)
    pub stops : Coherent → IsSome (told journal.disk) → StopsHold bodies [] mounted.clock (clock journal.disk) (image journal.disk)

  -- The other nodes: each stands for what was opened of it, and where the disks agree no number of the opening is new.
  pub record NodesAreGiven (opening : Opening) (bytes : OpeningBytes) (script : Script) (counts : Node → ℕ) (scm : Scm D)
      (nodes : List (Datanode D)) : Type 0 where
    pub scm_stands : ScmStands opening (counts node.Scm) scm (failed scm.disk)
    pub nodes_stand : NodesStand (StandsFor told clock image failed Coherent opening bytes script counts) opening nodes
    pub old : Coherent → NumbersAreOld opening
