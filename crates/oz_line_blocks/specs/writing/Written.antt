-- What a story has of a block that a line wrote.
use Rattle.std.specs.Prelude.{◌≡◌, ℕ, ◌+◌, Bool, true, nat_le, List, Option, Some, count_by, is_none, if◌then◌else◌}
use Rattle.oz_buffer.specs.Became.{times_said}
use Rattle.oz_core.specs.declared.event.Event.{Event}
use Rattle.oz_core.specs.declared.event.PutRefusal.{PutRefusal}
use Rattle.oz_core.specs.Asks.{last_ask}
use Rattle.oz_core.specs.Law.{writes}
use Rattle.oz_core.specs.Stories.{has_event}
use Rattle.oz_fields.specs.declared.block.Block.{Block}
use Rattle.oz_requests.specs.declared.request.AskId.{AskId}
use Rattle.oz_underway.specs.UnderWay.{HaveAnswered}

-- two of the members put the block
abbrev pub is_quorum : List (Option PutRefusal) → Bool
is_quorum answers = nat_le 2 (count_by is_none answers)

-- the line asked nothing after this, and so much is said of its blocks
pub record IsStill (id : AskId) (said : ℕ) (story : List Event) : Type 0 where
  pub asked : last_ask id.client id.line story ≡ Some id
  pub as_said : times_said id.client id.line story ≡ said

-- All members have answered so, and it is written where two of them put it. The line asked nothing more, and so much is said of its
-- blocks by then, where so much was before.
pub record IsWritten (id : AskId) (block : Block) (members : List ℕ) (before : ℕ) (answers : List (Option PutRefusal))
    (now : ℕ) (story : List Event) : Type 0 where
  pub answered : HaveAnswered story id block members answers
  pub still : IsStill id now story
  pub more : now ≡ (if is_quorum answers then before + 4 else before + 3)
  pub written : is_quorum answers ≡ true → has_event (writes block) story ≡ true
