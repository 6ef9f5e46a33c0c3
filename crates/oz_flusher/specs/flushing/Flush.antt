-- What a flush answers of a journal of which no write had failed.
use Rattle.std.specs.Prelude.{◌≡◌, ℕ, List, Option, Result, Ok, Err}
use Rattle.oz_core.specs.declared.event.Event.{Event}
use Rattle.oz_core.specs.declared.opening.Opening.{Opening}
use Rattle.oz_flusher.specs.declared.flushed.Flushed.{Flushed}
use Rattle.oz_flusher.specs.Flushes.{FlushEnds}
use Rattle.oz_turn.specs.Told.{BeginsWith}
use Rattle.oz_world.specs.Disk.{Seen}
use Rattle.oz_world.specs.declared.failed.Failed.{Failed}

-- What the flusher answered. Where that failed the manager has halted with the disk's count, and the seat may have seen
-- what others appended since.
abbrev pub FlushTells : Opening → List Event → List Event → List Event → List Event → Seen → Seen
    → Result (Option Flushed) ℕ → Type 0
FlushTells opening seen mine seen_after mine_after now later (Ok flushed) =
    FlushEnds opening seen mine seen_after mine_after now later (Ok flushed)
FlushTells opening seen mine seen_after mine_after now later (Err count) =
    (count ≡ later.faults)
    × ((until : List Event) × (failed : Failed) × BeginsWith seen_after until
    × FlushEnds opening seen mine until mine_after now later (Err failed))
