-- What a run promises of the story that it prints, where its disks agree as it begins.
use Rattle.std.specs.Prelude.{ℕ, List}
use Rattle.oz_script.specs.declared.lines.script.Script.{Script}
use Rattle.oz_core.specs.declared.event.Event.{Event}
use Rattle.oz_core.specs.declared.opening.Opening.{Opening}
use Rattle.oz_core.specs.Contents.{OpeningBytes}
use Rattle.oz_core.specs.Fits.{Fits}
use Rattle.oz_core.specs.Law.{IsLegal}
use Rattle.oz_nodes_loaded.specs.declared.disk_name.DiskName.{DiskName}
use Rattle.oz_nodes_loaded.specs.declared.disk_name.DiskName.TheVariants.{Manager}
use Rattle.oz_headline.specs.Deletes.{DeletesAreOutOfReach}
use Rattle.oz_headline.specs.Disks.{RunDisk, OfEach}
use Rattle.oz_headline.specs.History.{RepliesAreOneThreads, AllAreInTurn, ToldIsStable, AllAreBy}
use Rattle.oz_headline.specs.Reads.{NoneIsBad, ReadsAreContents}

-- what the story says is flushed is on the manager's disk by the end
abbrev pub IsFlushedOn : List Event → DiskName → ℕ → Type 0
IsFlushedOn story Manager clock = AllAreBy clock story
IsFlushedOn story _ clock = Unit {0}

-- The story is one history: it follows the law and is that of the script. Each reply is the one-thread namespace's at
-- its place, each line asks after all that it waits for, and what was acknowledged is stable. What is flushed was so by
-- the end. No datanode deletes a block that a key, an open key or a snapshot reaches. A line that reads is told the
-- contents of the blocks that it looked up, and no datanode finds bytes bad.
pub record Headline (opening : Opening) (bytes : OpeningBytes) (script : Script) (disks : List RunDisk)
    (story : List Event) : Type 0 where
  pub one_history : IsLegal opening story × Fits opening bytes script story
  pub at_that_point : RepliesAreOneThreads opening story
  pub after_all_seen : AllAreInTurn opening script story
  pub acknowledged : ToldIsStable opening story
  pub flushed : OfEach (λ disk. IsFlushedOn story disk.name disk.after.clock) disks
  pub deletes : DeletesAreOutOfReach opening story
  pub reads : ReadsAreContents opening bytes script story
  pub no_bad : NoneIsBad story
