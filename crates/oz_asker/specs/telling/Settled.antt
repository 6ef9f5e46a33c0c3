-- Whether what was decided for a line is on the manager's disk, and will be.
use Rattle.std.specs.Prelude.{◌≡◌, ℕ, List, Option, None, Some}
use Rattle.oz_core.specs.declared.event.Event.{Event}
use Rattle.oz_core.specs.declared.event.Node.TheVariants.{Manager}
use Rattle.oz_core.specs.declared.opening.Opening.{Opening}
use Rattle.oz_core.specs.Manager.{halt_of}
use Rattle.oz_requests.specs.declared.request.AskId.{AskId}
use Rattle.oz_asker.specs.declared.telling.settlement.Settlement.{Settlement}
use Rattle.oz_asker.specs.declared.telling.settlement.Settlement.TheVariants as told
use Rattle.oz_asker.specs.telling.Tells.{AllIsStable, HadStopped, SomeIsUnstable}

-- What is told of a line, by what it asked last. Each excludes the others, and one of them always holds.
abbrev pub IsLineSettlement : Opening → List Event → ℕ → ℕ → Option AskId → Settlement → Type 0
IsLineSettlement opening story client line last told.Stable =
    AllIsStable opening story client line × (HadStopped story last → ⊥)
IsLineSettlement opening story client line last told.Waits =
    SomeIsUnstable opening story client line × (halt_of Manager story ≡ None)
IsLineSettlement opening story client line last (told.Unacknowledged count) =
    SomeIsUnstable opening story client line × (halt_of Manager story ≡ Some count)
IsLineSettlement opening story client line last (told.Stopped count) =
    AllIsStable opening story client line × HadStopped story last × (halt_of Manager story ≡ Some count)
