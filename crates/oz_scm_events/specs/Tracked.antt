-- Which event says that a datanode is up, or down.
use Rattle.std.specs.Prelude.{◌≡◌, ◌≢◌, ℕ, Bool, true, false, List, [], ◌∷◌, ◌++◌, Result, Ok, Err}
use Rattle.oz_core.specs.declared.event.Event.{Event}
use Rattle.oz_core.specs.declared.event.EventKind.{EventKind}
use Rattle.oz_core.specs.declared.event.EventKind.TheVariants.{Up, Down}
use Rattle.oz_core.specs.Scm.{is_up}
use Rattle.oz_scm_events.specs.Granted.{by_scm}

abbrev pub up_event : ℕ → Bool → EventKind
up_event dn true = Up dn
up_event dn false = Down dn

-- The events that the storage container manager gave, after a call that is to take a datanode for up or down. It answers
-- whether the datanode wasn't so before, and gives one event more where it wasn't.
abbrev pub IsTracked : {E : Type 0} → ℕ → Bool → List Event → List Event → Result Bool E → Type 0
IsTracked dn up mine after (Ok true) = (is_up dn mine ≢ up) × (after ≡ mine ++ by_scm (up_event dn up) ∷ [])
IsTracked dn up mine after (Ok false) = (is_up dn mine ≡ up) × (after ≡ mine)
IsTracked dn up mine after (Err fault) = after ≡ mine
