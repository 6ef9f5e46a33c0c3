-- What a story has taken to be written.
use Rattle.std.specs.Prelude.{ℕ, List, [], ◌∷◌, ◌++◌}
use Rattle.oz_journal.specs.batches.Body.{body_bytes}
use Rattle.oz_buffer.specs.Buffer.{buffer_of}
use Rattle.oz_core.specs.declared.event.Event.{Event}
use Rattle.oz_core.specs.declared.event.EventKind.{EventKind}
use Rattle.oz_core.specs.declared.event.EventKind.TheVariants.{Swap}

-- a Swap takes one body, of its index and the batches of the Decides since the Swap before it, in their order
abbrev pub body_taken : List Event → EventKind → List (List ℕ)
body_taken before (Swap index) = body_bytes index (buffer_of before) ∷ []
body_taken before _ = []

unfoldable pub bodies_from : List Event → List Event → List (List ℕ)
bodies_from before [] = []
bodies_from before (event ∷ story) = body_taken before event.kind ++ bodies_from (before ++ event ∷ []) story

-- the bodies that a story took, in order
abbrev pub bodies_of : List Event → List (List ℕ)
bodies_of story = bodies_from [] story
