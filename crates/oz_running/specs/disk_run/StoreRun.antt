-- What a run over the disks of a store leaves.
use Rattle.std.specs.Prelude.{◌≡◌, Bool, List, All, length, map}
use Rattle.oz_core.specs.declared.event.Event.{Event}
use Rattle.oz_datanode.specs.Datanode.{node_in}
use Rattle.oz_running.specs.declared.disk_run.disks.Disks.{Disks}
use Rattle.oz_running.specs.disk_run.Disks.{others_of}
use Rattle.oz_running.specs.disk_run.Reopens.{NodeReopens, ScmReopens}
use Rattle.oz_running.specs.disk_run.RunOver.{IsRunOver}
use Rattle.oz_headline.specs.halts.Disks.{OtherNodes, some_halted}
use Rattle.oz_script.specs.declared.lines.script.Script.{Script}
use Rattle.oz_headline.specs.Ids.{AreBelow}
use Rattle.oz_headline.specs.Loads.{AreNodesFrom, IsScmFrom, disks_in}
use Rattle.oz_world.specs.Disk.{Seen}

-- All disks were loaded, and no id on them is granted again. From the opening of all of them the lines ran over the nodes
-- that were loaded, and what comes back are the disks of these nodes at the end. It says whether any node halted.
pub record IsStoreRun {D : Type 0} (see : D → Seen) (script : Script) (before after : Disks D) (any_halted : Bool)
    (story : List Event) (is_done : Bool) : Type 0 where
  -- the storage container manager and the datanodes as they were loaded, and at the end
  pub nodes : OtherNodes D
  pub left : OtherNodes D
  pub scm_loaded : IsScmFrom see (length before.nodes.items) before.scm nodes.scm
  pub nodes_loaded : AreNodesFrom see 0 before.nodes.items nodes.datanodes
  -- whether a write of the manager's disk failed
  pub stopped : Bool
  pub over : IsRunOver see script before.manager after.manager stopped (others_of before) nodes left story is_done
  pub fresh : AreBelow over.unseated.greatest_id (map node_in nodes.datanodes) nodes.scm.made.next_id
  pub halted : any_halted ≡ some_halted stopped left
  pub scm_left : after.scm ≡ left.scm.disk
  pub nodes_left : after.nodes.items ≡ map disks_in left.datanodes
  -- What of these disks didn't fail is loaded again as what it stands for.
  pub scm_reopens : ScmReopens see (length before.nodes.items) left.scm
  pub nodes_reopen : All (NodeReopens see) left.datanodes
