-- What is so at each place of a story.
use Rattle.std.specs.Prelude.{◌≡◌, List, ◌∷◌, ◌++◌}
use Rattle.oz_core.specs.declared.event.Event.{Event}
use Rattle.oz_core.specs.declared.event.EventKind.{EventKind}

-- so it is of each event behind those before it
abbrev pub AtEachPlace : (List Event → EventKind → Type 0) → List Event → Type 0
AtEachPlace Holds story =
    (before behind : List Event) (event : Event) → story ≡ before ++ event ∷ behind → Holds before event.kind
