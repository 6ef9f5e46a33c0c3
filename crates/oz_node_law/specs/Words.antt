-- Words for private calls: what a datanode applies, and where a block was granted.
use Rattle.std.specs.Prelude.{◌≡◌, ◌⊎◌, ℕ, ◌+◌, ◌*◌, ◌≤◌, Bool, true, false, not, ◌&&◌, ◌||◌, ◌==◌, List, [], ◌∷◌, ◌++◌, filter}
use Rattle.std.specs.Prelude.{Contains, All, count_by, Option, Some, None, if◌then◌else◌, slice_get}
use Rattle.std.specs.List.{list_any}
use Rattle.std.specs.Option.{option_map_or}
use Rattle.oz_dellog.specs.declared.txn.Txn.{Txn}
use Rattle.oz_fields.specs.declared.block.Block.{Block}
use Rattle.oz_fields.specs.declared.block.TheConstants.{LONGEST_PIECE}
use Rattle.oz_requests.specs.declared.request.AskId.{AskId}
use Rattle.oz_requests.specs.declared.reply.Reply.{Reply}
use Rattle.oz_requests.specs.declared.reply.Reply.TheVariants.{Granted}
use Rattle.oz_core.specs.declared.event.Event.{Event}
use Rattle.oz_core.specs.declared.event.EventKind.{EventKind}
use Rattle.oz_core.specs.declared.event.EventKind.TheVariants.{Decide, Put, Copy}
use Rattle.oz_core.specs.declared.limits.TheConstants.{MOST_OTHER_SLOTS}
use Rattle.oz_core.specs.declared.opening.NodeOpening.{NodeOpening}
use Rattle.oz_core.specs.declared.opening.Opening.{Opening}
use Rattle.oz_model.specs.Reach.{blocks_of}
use Rattle.oz_core.specs.Asks.{asks, is_id, is_asked}
use Rattle.oz_core.specs.Contents.{WasGranted, piece_number}
use Rattle.oz_core.specs.Nodes.{is_running, is_closed, holds, is_block, slots_of, TakesSlots}
use Rattle.oz_core.specs.Law.{puts, refuses, writes}
use Rattle.oz_core.specs.Scm.{members, logs}
use Rattle.oz_core.specs.Seats.{IsLineSeat, IsDatanodeSeat}
use Rattle.oz_core.specs.Stories.{all_told, has_event}

-- what a datanode holds of a container's blocks, by their local ids
abbrev pub held_of : Opening → List Event → ℕ → ℕ → List ℕ → List ℕ
held_of opening story dn container locals =
    filter (λ local. holds opening story dn (record { container = container; local = local })) locals

-- a transaction has this number, the datanode is a member of its container, and holds these of its blocks
pub record IsApplied (opening : Opening) (story : List Event) (dn number : ℕ) (locals : List ℕ) (txn : Txn)
    : Type 0 where
  pub of_number : txn.number ≡ number
  pub member : Contains (members opening story txn.container) dn
  pub held : locals ≡ held_of opening story dn txn.container txn.locals

-- the log has such a transaction
pub record HasApplied (opening : Opening) (story : List Event) (dn number : ℕ) (locals : List ℕ) : Type 0 where
  pub txn : Txn
  pub logged : Contains (logs opening story) txn
  pub applied : IsApplied opening story dn number locals txn

-- a Decide of this id granted the block
abbrev pub grants_block : Block → Reply → Bool
grants_block block (Granted granted pipeline) = is_block block granted
grants_block block _ = false

abbrev pub grants : AskId → Block → EventKind → Bool
grants id block (Decide other index reply batch) = is_id id other && grants_block block reply
grants id block _ = false

-- an Ask of the id is its last, and behind it the block was granted
abbrev pub gives : AskId → Block → EventKind → List Event → Bool
gives id block kind behind = asks id kind && (not (is_asked id behind) && has_event (grants id block) behind)

-- a place of the story behind which the block was granted to this ask, so that its bytes are the line's from this one on
pub record IsPieceAt (story : List Event) (id : AskId) (block : Block) (first : ℕ) : Type 0 where
  pub before : List Event
  pub granted : WasGranted story id block before
  pub place : first ≡ LONGEST_PIECE * piece_number id before

-- a member that runs, has its replica open, and lacks the block
pub record MayTake (opening : Opening) (story : List Event) (seat dn : ℕ) (block : Block) : Type 0 where
  pub of_datanode : IsDatanodeSeat opening dn seat
  pub runs : is_running dn story ≡ true
  pub member : Contains (members opening story block.container) dn
  pub unclosed : is_closed opening story dn block.container ≡ false
  pub new : holds opening story dn block ≡ false

-- a datanode has put the block, or refused it for this ask
abbrev pub has_answered : List Event → Block → AskId → ℕ → Bool
has_answered story block id dn = has_event (puts dn block) story || has_event (refuses dn block id) story

-- all of these have answered, and two of them have put the block
pub record IsAnswered (story : List Event) (block : Block) (id : AskId) (dns : List ℕ) : Type 0 where
  pub answered : All (λ dn. (has_event (puts dn block) story ≡ true) ⊎ (has_event (refuses dn block id) story ≡ true)) dns
  pub quorum : 2 ≤ count_by (λ dn. has_event (puts dn block) story) dns

-- a line's seat, and a block that isn't written
pub record MayWrite (story : List Event) (seat : ℕ) (block : Block) : Type 0 where
  pub of_line : IsLineSeat seat
  pub unwritten : has_event (writes block) story ≡ false

-- ---- how many slots are taken

-- the block that a datanode was given
abbrev pub given : ℕ → EventKind → Option Block
given dn (Put other block id first count) = if other == dn then Some block else None
given dn (Copy source target block) = if target == dn then Some block else None
given dn _ = None

-- the blocks that its disks had, and all that it may hold, some of them more than once
abbrev pub had_blocks : Opening → ℕ → List Block
had_blocks opening dn =
    option_map_or (λ (node : NodeOpening). blocks_of node.held) (slice_get opening.nodes dn) []

abbrev pub had_or_given : Opening → List Event → ℕ → List Block
had_or_given opening story dn = had_blocks opening dn ++ all_told (given dn) story

-- a count of a block that isn't among these
abbrev pub fresh : (Block → ℕ) → List Block → Block → ℕ
fresh count blocks block = if list_any (is_block block) blocks then 0 else count block

-- the sum of a count of blocks, each counted once: at the last place that it has
abbrev pub sum_once : (Block → ℕ) → List Block → ℕ
sum_once count [] = 0
sum_once count (block ∷ blocks) = fresh count blocks block + sum_once count blocks

-- the slots of a block that a datanode holds, and the sum of them
abbrev pub held_slots : Opening → List Event → ℕ → Block → ℕ
held_slots opening story dn block = if holds opening story dn block then slots_of opening story block else 0

abbrev pub taken_slots : Opening → List Event → ℕ → List Block → ℕ
taken_slots opening story dn blocks = sum_once (held_slots opening story dn) blocks

-- so many slots are those of the blocks that a datanode holds, and few others
pub record AreSlots (opening : Opening) (story : List Event) (dn all : ℕ) : Type 0 where
  pub slots : ℕ
  pub others : ℕ
  pub taken : TakesSlots opening story dn slots
  pub few : others ≤ MOST_OTHER_SLOTS
  pub together : all ≡ slots + others
