-- A story that is one history keeps the headline.
use Rattle.std.proofs.Common.{◌≡◌, ℕ, ◌≤◌, Bool, List, [], ◌∷◌, Option, IfSome, sym, subst}
use Rattle.oz_core.specs.declared.event.Event.{Event}
use Rattle.oz_core.specs.declared.opening.Opening.{Opening}
use Rattle.oz_core.specs.Coherent.{LogIsCoherent}
use Rattle.oz_core.specs.Contents.{OpeningBytes}
use Rattle.oz_core.specs.Fits.{Fits}
use Rattle.oz_core.specs.Law.{IsLegal}
use Rattle.oz_core.specs.Manager.{flushed_moment}
use Rattle.oz_script.specs.declared.lines.script.Script.{Script}
use Rattle.oz_world.specs.Disk.{Seen}
use Rattle.oz_headline.specs.Disks.{manager_disk}
use Rattle.oz_headline.specs.Headline.{Headline}
use Rattle.oz_headline.specs.Reads.{NoneIsBad}
use Rattle.oz_headline.proofs.Deletes.{deletes}
use Rattle.oz_headline.proofs.History.{answers, asks, replies}
use Rattle.oz_headline.proofs.Moments.{all_are_by}
use Rattle.oz_headline.proofs.Reading.{reads}

module _ (opening : Opening) (bytes : OpeningBytes) (script : Script) (story : List Event) (faults first : ℕ) (stopped : Bool) (before after : Seen) where
  pub headline_holds : LogIsCoherent opening → IsLegal opening story → Fits opening bytes script story → IfSome (flushed_moment story) (λ moment. moment ≤ after.clock) → NoneIsBad story
      → Headline opening bytes script (manager_disk faults first stopped before after ∷ []) story
  headline_holds log legal fits by sound = record {
    one_history = (legal, fits);
    at_that_point = replies opening story legal;
    after_all_seen = asks opening bytes script story legal fits;
    acknowledged = answers opening bytes script story legal fits;
    flushed = (all_are_by opening after.clock story legal by, tt);
    deletes = deletes opening story log legal;
    reads = reads opening bytes script story fits;
    no_bad = sound;
  }

-- the flusher's last is the story's
pub by_flushers : (story mine : List Event) (clock : ℕ) → flushed_moment story ≡ flushed_moment mine → IfSome (flushed_moment mine) (λ moment. moment ≤ clock)
    → IfSome (flushed_moment story) (λ moment. moment ≤ clock)
by_flushers story mine clock same by = subst (λ (last : Option ℕ). IfSome last (λ moment. moment ≤ clock)) (sym same) by
