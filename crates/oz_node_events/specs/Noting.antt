-- What who notes for an ask has to know, and which events come of the notes.
use Rattle.std.specs.Prelude.{◌≡◌, ℕ, ◌*◌, ◌≤◌, false, List, [], ◌∷◌, ◌++◌, length, map, Contains, Some}
use Rattle.std.specs.Borrow.{GName}
use Rattle.oz_buffer.specs.Buffer.{AllFollow, Follows}
use Rattle.oz_core.specs.declared.event.Event.{Event}
use Rattle.oz_core.specs.declared.event.EventKind.TheVariants.{Put, Refused, Halt, Bad}
use Rattle.oz_core.specs.declared.event.Node.TheVariants.{Datanode}
use Rattle.oz_core.specs.declared.opening.Opening.{Opening}
use Rattle.oz_core.specs.Asks.{is_told}
use Rattle.oz_core.specs.Contents.{OpeningBytes, HasContent, WasGranted, piece_number}
use Rattle.oz_core.specs.Fits.{OwnHasStarted}
use Rattle.oz_core.specs.Law.{IsNamedOrOwn}
use Rattle.oz_core.specs.Nodes.{length_of}
use Rattle.oz_core.specs.Scm.{members}
use Rattle.oz_core.specs.Seats.{datanode_seat}
use Rattle.oz_fields.specs.declared.block.TheConstants.{LONGEST_PIECE}
use Rattle.oz_script.specs.declared.lines.script.Script.{Script}
use Rattle.oz_replicas.specs.Notes.{Subject}
use Rattle.oz_replicas.specs.declared.note.Note.{Note}
use Rattle.oz_replicas.specs.declared.note.Note.TheVariants as notes
use Rattle.oz_requests.specs.declared.request.AskId.{AskId}
use Rattle.oz_turn.specs.Told.{BeginsWith}
use Rattle.oz_node_events.specs.NodeSeat.{SeatView}

-- The bytes are those of the piece that the block was granted for, which begins there in the line's data; whoever has put
-- the block had as many, and the datanodes that are asked are members of its container.
pub record IsItsPiece (opening : Opening) (bytes : OpeningBytes) (script : Script) (id : AskId) (first : ℕ) (subject : Subject)
    (story : List Event) : Type 0 where
  pub before : List Event
  pub granted : WasGranted story id subject.block before
  pub place : first ≡ LONGEST_PIECE * piece_number id before
  pub content : HasContent opening bytes script story subject.block subject.bytes
  pub alike : (count : ℕ) → length_of opening story subject.block ≡ Some count → count ≡ length subject.bytes
  pub members : (dn : ℕ) → Contains subject.members dn → Contains (members opening story subject.block.container) dn

-- A Decide of the id named the block, or it is a line's own; and if there are bytes to be put, they are its piece.
pub record MayNote (opening : Opening) (bytes : OpeningBytes) (script : Script) (id : AskId) (first : ℕ) (subject : Subject)
    (story : List Event) : Type 0 where
  pub named : IsNamedOrOwn story id subject.block
  pub started : OwnHasStarted script story id
  pub piece : 1 ≤ length subject.bytes → IsItsPiece opening bytes script id first subject story

-- the event that comes of a note for an ask
abbrev pub event_of : AskId → ℕ → Note → Event
event_of id first (notes.Put dn block size) = record { seat = datanode_seat dn; kind = Put dn block id first size }
event_of id first (notes.Refused dn block refusal) = record { seat = datanode_seat dn; kind = Refused dn block id refusal }
event_of id first (notes.Halt dn count) = record { seat = datanode_seat dn; kind = Halt (Datanode dn) count }
event_of id first (notes.Bad dn block) = record { seat = datanode_seat dn; kind = Bad dn block id }

-- these events stand in the story, in this order
abbrev pub StandIn : List Event → List Event → Type 0
StandIn [] story = Unit {0}
StandIn (event ∷ events) story =
    (front : List Event) × ((behind : List Event) × ((story ≡ front ++ event ∷ behind) × StandIn events behind))

-- The story went on, and what came of these notes stands in what was told since.
pub record AreTold (id : AskId) (first : ℕ) (said : List Note) (seen later : List Event) : Type 0 where
  pub since : List Event
  pub goes_on : later ≡ seen ++ since
  pub told : StandIn (map (event_of id first) said) since

-- What contracts see of a noter: the reference to the seat of who works for the line, that seat's number, what it has seen, the
-- events that it gave and its room; the ask, the place of the piece in the line's data, and what is noted of.
pub record NotingView : Type 0 where
  pub reference : GName
  pub by : ℕ
  pub seen : List Event
  pub mine : List Event
  pub room : ℕ
  pub id : AskId
  pub first : ℕ
  pub subject : Subject

-- what is known of the ask and what is noted of: it may be noted from here on, where the opening is coherent, and the bytes are no
-- more than a piece has
pub record IsNoting (Coherent : Type 0) (opening : Opening) (bytes : OpeningBytes) (script : Script) (id : AskId) (first : ℕ)
    (subject : Subject) (seen : List Event) : Type 0 where
  pub may : Coherent → (story : List Event) → BeginsWith story seen
      → AllFollow (Follows Coherent opening bytes script) [] story → MayNote opening bytes script id first subject story
  pub most : length subject.bytes ≤ LONGEST_PIECE

-- a noter noted this, and is the same but for what it has seen
pub record IsNotedBy (before : NotingView) (said : List Note) (after : NotingView) : Type 0 where
  pub same : after ≡ record before { seen = after.seen }
  pub told : AreTold before.id before.first said before.seen after.seen

-- a noter is the same but for what it has seen, and that goes on from what it had seen
pub record IsSameNoter (before after : NotingView) : Type 0 where
  pub same : after ≡ record before { seen = after.seen }
  pub goes_on : BeginsWith after.seen before.seen

-- the noter's seat has seen all that the datanode's has
abbrev pub HasSeen : NotingView → SeatView → Type 0
HasSeen noter seat = BeginsWith noter.seen seat.seen

-- the ask's line wasn't told by what the datanode's seat has seen
abbrev pub MayPut : NotingView → SeatView → Type 0
MayPut noter seat = is_told noter.id.client noter.id.line seat.seen ≡ false
