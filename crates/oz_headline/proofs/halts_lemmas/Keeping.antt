-- A story that keeps the headline over the manager's disk keeps it over the disks of all nodes.
use Rattle.std.proofs.Common.{ℕ, ◌+◌, List, [], ◌∷◌}
use Rattle.oz_core.specs.declared.event.Event.{Event}
use Rattle.oz_core.specs.declared.opening.Opening.{Opening}
use Rattle.oz_core.specs.Contents.{OpeningBytes}
use Rattle.oz_datanode.specs.Datanode.{State as NodeState}
use Rattle.oz_datanode.specs.declared.disks.NodeDisks.{NodeDisks}
use Rattle.oz_headline.specs.Disks.{OfEach, RunDisk}
use Rattle.oz_headline.specs.Headline.{Headline, IsFlushedOn}
use Rattle.oz_headline.specs.halts.Disks.{OtherDisks, OtherNodes, all_disks, datanode_disks}
use Rattle.oz_script.specs.declared.lines.script.Script.{Script}
use Rattle.oz_world.specs.Disk.{Seen}

module _ {D : Type 0} (see : D → Seen) (story : List Event) where
  -- of the disks of datanodes nothing is said to be flushed
  none_flushed : (number : ℕ) (before : List (NodeDisks D)) (loaded after : List (NodeState D)) → OfEach (λ disk. IsFlushedOn story disk.name disk.after.clock) (datanode_disks see number before loaded after)
  none_flushed number [] loaded after = tt
  none_flushed number (b ∷ before) [] after = tt
  none_flushed number (b ∷ before) (l ∷ loaded) [] = tt
  none_flushed number (b ∷ before) (l ∷ loaded) (a ∷ after) = (tt, (tt, none_flushed (number + 1) before loaded after))

  pub keeps : (opening : Opening) (bytes : OpeningBytes) (script : Script) (manager : RunDisk) (before : OtherDisks D) (loaded after : OtherNodes D)
      → Headline opening bytes script (manager ∷ []) story → Headline opening bytes script (all_disks see manager before loaded after) story
  keeps opening bytes script manager before loaded after headline = record {
    one_history = headline.one_history;
    at_that_point = headline.at_that_point;
    after_all_seen = headline.after_all_seen;
    acknowledged = headline.acknowledged;
    flushed = (headline.flushed.0, (tt, none_flushed 0 before.datanodes loaded.datanodes after.datanodes));
    deletes = headline.deletes;
    reads = headline.reads;
    no_bad = headline.no_bad;
  }
