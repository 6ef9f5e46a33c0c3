-- When a block left reach.
use Rattle.std.specs.Prelude.{◌≡◌, ◌⊎◌, ℕ, ◌≤◌, List, Some, slice_get, take}
use Rattle.oz_fields.specs.declared.block.Block.{Block}
use Rattle.oz_requests.specs.declared.reply.Reply.{Reply}
use Rattle.oz_requests.specs.declared.request.AskId.{AskId}
use Rattle.oz_model.specs.Reach.{IsReached}
use Rattle.oz_core.specs.declared.event.Event.{Event}
use Rattle.oz_core.specs.declared.event.EventKind.TheVariants.{Decide}
use Rattle.oz_core.specs.declared.opening.Opening.{Opening}
use Rattle.oz_core.specs.Manager.{IsUsed, last_index, namespace_at}

-- the event at this place is a Decide of the index
pub record IsDecidedAt (story : List Event) (place index : ℕ) : Type 0 where
  pub seat : ℕ
  pub id : AskId
  pub reply : Reply
  pub batch : List ℕ
  pub there : slice_get story place ≡ Some (record { seat = seat; kind = Decide id index reply batch })

-- The index at which a block left reach, 0 for one that nothing reached as the run began: from it on nothing reaches the
-- block, and right before its Decide something did.
pub record LeftAt (opening : Opening) (story : List Event) (block : Block) (since : ℕ) : Type 0 where
  pub away : (place : ℕ) → IsUsed opening (take place story) block → since ≤ last_index opening (take place story)
      → IsReached (namespace_at opening story place) block → ⊥
  pub before : (since ≡ 0)
      ⊎ ((place : ℕ) × IsDecidedAt story place since × IsReached (namespace_at opening story place) block)
