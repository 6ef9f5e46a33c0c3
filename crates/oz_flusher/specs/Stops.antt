-- What a stop leaves of the manager's journal: a prefix of the history.
use Rattle.std.specs.Prelude.{◌≡◌, ℕ, ◌<◌, ◌≤◌, List, ◌++◌}
use Rattle.std.specs.List.{AllByRecursion}
use Rattle.oz_core.specs.declared.event.Event.{Event}
use Rattle.oz_core.specs.declared.event.EventKind.{EventKind}
use Rattle.oz_core.specs.declared.event.EventKind.TheVariants.{Flushed}
use Rattle.oz_flusher.specs.Taken.{bodies_of}
use Rattle.oz_journal.specs.Grammar.{IsJournal}
use Rattle.oz_world.specs.Disk.{Images}

-- what is flushed is stable from a later moment on
abbrev pub IsLater : ℕ → EventKind → Type 0
IsLater moment (Flushed index at) = moment < at
IsLater moment _ = Unit {0}

-- Bytes that a stop at a moment leaves: the bodies that were loaded, and then those that the story took up to a place. All
-- that is flushed behind that place is stable from a later moment on.
pub record IsPrefix (loaded : List (List ℕ)) (story : List Event) (moment : ℕ) (left : List ℕ) : Type 0 where
  pub front : List Event
  pub behind : List Event
  pub parts : story ≡ front ++ behind
  pub journal : IsJournal left (loaded ++ bodies_of front)
  pub later : AllByRecursion (λ (event : Event). IsLater moment event.kind) behind

-- so it is at each moment from the first to the last
abbrev pub StopsHold : List (List ℕ) → List Event → ℕ → ℕ → Images → Type 0
StopsHold loaded story first last image =
    (moment : ℕ) (left : List ℕ) → first ≤ moment → moment ≤ last → image moment left
    → IsPrefix loaded story moment left
