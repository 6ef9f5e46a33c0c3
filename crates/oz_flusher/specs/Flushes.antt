-- What one flush does.
use Rattle.std.specs.Prelude.{◌≡◌, ◌≢◌, ℕ, List, [], ◌∷◌, ◌++◌, Option, None, Some, Result, Ok, Err}
use Rattle.oz_journal.specs.batches.Body.{body_bytes}
use Rattle.oz_buffer.specs.Buffer.{buffer_of}
use Rattle.oz_core.specs.declared.event.Event.{Event}
use Rattle.oz_core.specs.declared.opening.Opening.{Opening}
use Rattle.oz_core.specs.Manager.{last_index}
use Rattle.oz_flusher.specs.declared.flushed.Flushed.{Flushed}
use Rattle.oz_flusher.specs.Steps.{swap_event, flushed_event, halt_event}
use Rattle.oz_journal.specs.Appends.{Appends}
use Rattle.oz_turn.specs.Told.{BeginsWith}
use Rattle.oz_world.specs.Disk.{Seen}
use Rattle.oz_world.specs.declared.failed.Failed.{Failed}

-- The story had come to a place, where something was decided and not taken yet. A Swap took it, with the last index; it was
-- written as one body; and then, behind what others had appended meanwhile, one event says what came of that.
pub record IsFlush (opening : Opening) (index : ℕ) (end : Event) (seen mine seen_after mine_after : List Event)
    (now later : Seen) (result : Result (Option Flushed) Failed) : Type 0 where
  pub before : List Event
  pub begins : BeginsWith before seen
  pub some : buffer_of before ≢ []
  pub last : index ≡ last_index opening before
  pub more : List Event
  pub story : seen_after ≡ ((before ++ swap_event index ∷ []) ++ more) ++ end ∷ []
  pub given : mine_after ≡ (mine ++ swap_event index ∷ []) ++ end ∷ []
  pub written : Appends (body_bytes index (buffer_of before)) now later result

-- Nothing was decided that isn't taken, and nothing is appended; it is stable from the present moment on; or the disk
-- failed, and the manager halts with its count.
abbrev pub FlushEnds : Opening → List Event → List Event → List Event → List Event → Seen → Seen
    → Result (Option Flushed) Failed → Type 0
FlushEnds opening seen mine seen_after mine_after now later (Ok None) =
    BeginsWith seen_after seen × (buffer_of seen_after ≡ []) × (mine_after ≡ mine)
FlushEnds opening seen mine seen_after mine_after now later (Ok (Some flushed)) =
    (flushed.moment ≡ later.clock)
    × IsFlush opening flushed.index (flushed_event flushed.index flushed.moment) seen mine seen_after mine_after now later
    (Ok (Some flushed))
FlushEnds opening seen mine seen_after mine_after now later (Err failed) =
    (index : ℕ)
    × IsFlush opening index (halt_event later.faults) seen mine seen_after mine_after now later (Err failed)
