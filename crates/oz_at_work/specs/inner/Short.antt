-- For private calls: a line whose stripe has no block for it.
use Rattle.std.specs.Prelude.{◌≡◌, ℕ, ◌+◌, false, List}
use Rattle.oz_client.specs.declared.step.Step.{Step}
use Rattle.oz_client.specs.declared.step.Step.TheVariants as steps
use Rattle.oz_core.specs.declared.event.Event.{Event}
use Rattle.oz_core.specs.declared.opening.Opening.{Opening}
use Rattle.oz_core.specs.Manager.{asked_late}
use Rattle.oz_names.specs.Names.{stripe_of}
use Rattle.oz_underway.specs.granted.Empty.{IsPoolEmpty}
use Rattle.oz_requests.specs.declared.request.Exclude.{Exclude}
use Rattle.oz_requests.specs.declared.request.Request.TheVariants as requests
use Rattle.oz_at_work.specs.AtWork.{WorkView, id_of}

-- The line has asked what it asks next, in time, and behind what was seen its stripe has no block for that.
pub record IsShort (opening : Opening) (seen : List Event) (work : WorkView) : Type 0 where
  pub stripe : ℕ
  pub empty : IsPoolEmpty opening seen (id_of work.line (work.asked + 1)) stripe
  pub its : work.next
      ≡ steps.Ask (requests.AllocateBlock empty.volume empty.bucket empty.key empty.session empty.exclude)
  pub in_time : asked_late (id_of work.line (work.asked + 1)) seen ≡ false

-- the step asks this stripe for a block, and excludes these
abbrev pub WantsBlock : Step → ℕ → Exclude → Type 0
WantsBlock (steps.Ask (requests.AllocateBlock volume bucket key session excluded)) stripe exclude =
    (stripe ≡ stripe_of volume) × (exclude ≡ excluded)
WantsBlock _ stripe exclude = ⊥
