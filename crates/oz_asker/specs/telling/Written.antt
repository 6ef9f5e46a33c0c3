-- What is appended when it is said that a block was written, and what keeps it from being said.
use Rattle.std.specs.Prelude.{◌≡◌, ◌≢◌, ℕ, ◌+◌, List, [], ◌∷◌, ◌++◌}
use Rattle.oz_buffer.specs.Became.{times_said}
use Rattle.oz_core.specs.declared.event.Event.{Event}
use Rattle.oz_core.specs.declared.event.EventKind.TheVariants.{Wrote}
use Rattle.oz_fields.specs.declared.block.Block.{Block}
use Rattle.oz_requests.specs.declared.request.AskId.{AskId}
use Rattle.oz_turn.specs.Told.{BeginsWith}
use Rattle.oz_asker.specs.declared.telling.writing.Unwritten.{Unwritten}
use Rattle.oz_asker.specs.declared.telling.writing.Unwritten.TheVariants as causes

abbrev pub wrote_event : ℕ → Block → AskId → Event
wrote_event seat block id = record { seat = seat; kind = Wrote block id }

-- The story had come to a place where so often something was said of the line's blocks, and the seat appended that the
-- block was written, by which something was said once more.
pub record IsWritten (seat : ℕ) (block : Block) (id : AskId) (said : ℕ) (seen mine seen_after mine_after : List Event)
    : Type 0 where
  pub before : List Event
  pub begins : BeginsWith before seen
  pub as_said : times_said id.client id.line before ≡ said
  pub story : seen_after ≡ before ++ wrote_event seat block id ∷ []
  pub given : mine_after ≡ mine ++ wrote_event seat block id ∷ []
  pub now_said : times_said id.client id.line seen_after ≡ said + 1

-- Each excludes the other.
abbrev pub KeepsUnwritten : List Event → AskId → ℕ → Unwritten → Type 0
KeepsUnwritten story id said causes.OtherBlocks = times_said id.client id.line story ≢ said
KeepsUnwritten story id said causes.OutOfMemory = times_said id.client id.line story ≡ said
