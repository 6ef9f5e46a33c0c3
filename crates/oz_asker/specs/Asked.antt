-- What an asker appends to the story, and why it may not.
use Rattle.std.specs.Prelude.{◌≡◌, ◌≢◌, ◌⊎◌, ℕ, ◌≤◌, true, false, List, [], ◌∷◌, ◌++◌, None, Some, slice_get}
use Rattle.oz_buffer.specs.Became.{times_said}
use Rattle.oz_core.specs.declared.event.Event.{Event}
use Rattle.oz_core.specs.declared.event.EventKind.TheVariants.{Ask}
use Rattle.oz_core.specs.declared.event.Node.TheVariants.{Manager}
use Rattle.oz_core.specs.declared.opening.Opening.{Opening}
use Rattle.oz_core.specs.Asks.{is_asked, is_of_line, is_told, line_index, pending}
use Rattle.oz_core.specs.Law.{AskIsEnabled}
use Rattle.oz_core.specs.Manager.{asked_late, durable_index, halt_of}
use Rattle.oz_requests.specs.declared.request.AskId.{AskId}
use Rattle.oz_requests.specs.declared.request.Request.{Request}

-- the id asked this at a place of the story
abbrev pub IsAskAt : List Event → ℕ → AskId → Request → Type 0
IsAskAt story place id request =
    (seat : ℕ) × (slice_get story place ≡ Some (record { seat = seat; kind = Ask id request }))

-- an asker's own events stay, or go on by this Ask
abbrev pub MayAdd : ℕ → AskId → Request → List Event → List Event → Type 0
MayAdd seat id request before after =
    (after ≡ before) ⊎ (after ≡ before ++ record { seat = seat; kind = Ask id request } ∷ [])

-- not so often something was said of the blocks of the id's line
abbrev pub IsSaidOtherwise : List Event → AskId → ℕ → Type 0
IsSaidOtherwise story id said = times_said id.client id.line story ≢ said

-- Nothing that the id asked is undecided, and the law doesn't let it ask this behind the story.
pub record IsEarly (opening : Opening) (story : List Event) (seat : ℕ) (id : AskId) (request : Request) : Type 0 where
  pub decided : pending id story ≡ None
  pub refused : AskIsEnabled opening story seat id request → ⊥

-- The manager had halted before the id asked last, with this count.
pub record IsLate (story : List Event) (id : AskId) (count : ℕ) : Type 0 where
  pub late : asked_late id story ≡ true
  pub halted : halt_of Manager story ≡ Some count

-- For private calls.

-- what the law wants of a script's id, whoever asks it
pub record MayAsk (opening : Opening) (story : List Event) (id : AskId) : Type 0 where
  pub unasked : is_asked id story ≡ false
  pub untold : is_told id.client id.line story ≡ false
  pub decided : (earlier : AskId) → is_of_line id.client id.line earlier ≡ true → pending earlier story ≡ None
  pub stable : line_index id.client id.line story ≤ durable_index opening story
