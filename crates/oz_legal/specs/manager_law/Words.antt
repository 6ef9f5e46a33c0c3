-- Words for private calls: which requests change something that one thread replies to so, how the index goes on, and
-- which block is granted.
use Rattle.std.specs.Prelude.{◌≡◌, ◌↔◌, ℕ, ◌+◌, ◌-◌, Bool, true, false, ◌&&◌, ◌||◌, ◌==◌, nat_le, nat_lt, List, [], Contains}
use Rattle.oz_fields.specs.declared.block.Block.{Block}
use Rattle.oz_names.specs.Names.{stripe_of}
use Rattle.oz_requests.specs.declared.reply.Reply.{Reply}
use Rattle.oz_requests.specs.declared.reply.Reply.TheVariants as replies
use Rattle.oz_requests.specs.declared.request.AskId.{AskId}
use Rattle.oz_requests.specs.declared.request.Family.{Family}
use Rattle.oz_requests.specs.declared.request.Family.TheVariants.{Service}
use Rattle.oz_requests.specs.declared.request.Request.{Request}
use Rattle.oz_requests.specs.declared.request.Request.TheVariants.{CreateVolume, DeleteVolume, CreateBucket, DeleteBucket}
use Rattle.oz_requests.specs.declared.request.Request.TheVariants.{CreateKey, AllocateBlock, CommitKey, DeleteKey}
use Rattle.oz_requests.specs.declared.request.Request.TheVariants.{RenameKey, ExpireOpen, CreateSnapshot}
use Rattle.oz_requests.specs.declared.request.Request.TheVariants.{DeleteSnapshot}
use Rattle.oz_requests.specs.Names.{volume_in}
use Rattle.oz_model.specs.Answers.{Answers}
use Rattle.oz_core.specs.declared.event.Event.{Event}
use Rattle.oz_core.specs.declared.event.EventKind.{EventKind}
use Rattle.oz_core.specs.declared.event.EventKind.TheVariants.{Grant}
use Rattle.oz_core.specs.declared.opening.Opening.{Opening}
use Rattle.oz_core.specs.Law.{GrantIsAllowed, IndexGoesOn}
use Rattle.oz_core.specs.Manager.{asked_late, last_index, namespace_of}
use Rattle.oz_core.specs.Seats.{stripe_seat}

-- the block and the pipeline of a grant, or else any
abbrev pub granted_or : Reply → Block × ℕ
granted_or (replies.Granted block pipeline) = (block, pipeline)
granted_or reply = (record { container = 0; local = 0 }, 0)

-- it counts something
abbrev pub counts_some : Reply → Bool
counts_some (replies.Count count) = nat_lt 0 count
counts_some reply = false

-- a request that isn't refused changes something, one that ends sessions only where there are some
abbrev pub changes_if_done : Request → Reply → Bool
changes_if_done (CreateVolume volume) reply = true
changes_if_done (DeleteVolume volume) reply = true
changes_if_done (CreateBucket volume bucket) reply = true
changes_if_done (DeleteBucket volume bucket) reply = true
changes_if_done (CreateKey volume bucket key) reply = true
changes_if_done (AllocateBlock volume bucket key session exclude) reply = true
changes_if_done (CommitKey volume bucket key session pieces) reply = true
changes_if_done (DeleteKey volume bucket key) reply = true
changes_if_done (RenameKey volume bucket key to) reply = true
changes_if_done (ExpireOpen volume bucket) reply = counts_some reply
changes_if_done (CreateSnapshot volume bucket snapshot) reply = true
changes_if_done (DeleteSnapshot volume bucket snapshot) reply = true
changes_if_done request reply = false

abbrev pub changes : Request → Reply → Bool
changes request (replies.Code code) = false
changes request reply = changes_if_done request reply

-- the index is the next one; how it goes on behind this one
abbrev pub is_next : ℕ → ℕ → Bool
is_next last index = index == last + 1

abbrev pub is_service : Family → Bool
is_service Service = true
is_service family = false

abbrev pub goes_on : Bool → Bool → ℕ → ℕ → Bool
goes_on true changes last index = index == last || is_next last index
goes_on false true last index = is_next last index
goes_on false false last index = index == last

-- a Grant has the block
abbrev pub grants_it : ℕ → Block → ℕ → EventKind → Bool
grants_it stripe block pipeline (Grant to container on first count) =
    to == stripe && container == block.container && on == pipeline && nat_le first block.local
    && nat_lt (block.local - first) count
grants_it stripe block pipeline _ = false

-- the request that is pending may be decided so
pub record DecidesSo (opening : Opening) (story : List Event) (seat : ℕ) (id : AskId) (request : Request) (index : ℕ)
    (reply : Reply) (batch : List ℕ) : Type 0 where
  pub in_time : asked_late id story ≡ false
  pub of_stripe : seat ≡ stripe_seat (stripe_of (volume_in request))
  pub one_thread : Answers (namespace_of opening story) request reply
  pub granted : GrantIsAllowed opening story request reply
  pub index_goes_on : IndexGoesOn opening story request reply index
  pub recorded : (batch ≡ []) ↔ (index ≡ last_index opening story)

-- the block is none of these
pub record IsNoneOf (blocks : List Block) (block : Block) : Type 0 where
  pub away : Contains blocks block → ⊥
