-- What the story has of the answers to a block that was written.
use Rattle.std.specs.Prelude.{◌≡◌, ◌⊎◌, ℕ, ◌≤◌, Bool, true, false, List, [], ◌∷◌, Option, None, Some, Contains, count_by, is_none}
use Rattle.oz_core.specs.declared.event.Event.{Event}
use Rattle.oz_core.specs.declared.event.EventKind.{EventKind}
use Rattle.oz_core.specs.declared.event.EventKind.TheVariants.{Copy, Refused}
use Rattle.oz_core.specs.declared.event.PutRefusal.{PutRefusal}
use Rattle.oz_core.specs.declared.opening.Opening.{Opening}
use Rattle.oz_core.specs.Contents.{WasGranted}
use Rattle.oz_core.specs.Law.{puts, writes}
use Rattle.oz_core.specs.Nodes.{holds, is_block}
use Rattle.oz_core.specs.Scm.{members}
use Rattle.oz_core.specs.Seats.{IsLineSeat, datanode_seat}
use Rattle.oz_core.specs.Stories.{has_event}
use Rattle.oz_fields.specs.declared.block.Block.{Block}
use Rattle.oz_requests.specs.declared.request.AskId.{AskId}
use Rattle.oz_turn.specs.Told.{BeginsWith}

-- at a moment from which this story went on, the datanode held the block
pub record HadIt (Coherent : Type 0) (opening : Opening) (block : Block) (story : List Event) (dn : ℕ) : Type 0 where
  pub moment : List Event
  pub goes_on : BeginsWith story moment
  pub held : Coherent → holds opening moment dn block ≡ true

-- a datanode that has the block has put it or held it before; one that refused it has said so for this ask
abbrev pub AnswerStands : Type 0 → Opening → AskId → Block → List Event → ℕ → Option PutRefusal → Type 0
AnswerStands Coherent opening id block story dn None =
    (has_event (puts dn block) story ≡ true) ⊎ HadIt Coherent opening block story dn
AnswerStands Coherent opening id block story dn (Some refusal) =
    Contains story (record { seat = datanode_seat dn; kind = Refused dn block id refusal })

-- so it is of each of these members
abbrev pub AnswersStand : Type 0 → Opening → AskId → Block → List Event → List ℕ → List (Option PutRefusal) → Type 0
AnswersStand Coherent opening id block story [] [] = Unit {0}
AnswersStand Coherent opening id block story [] (answer ∷ answers) = ⊥
AnswersStand Coherent opening id block story (dn ∷ members) [] = ⊥
AnswersStand Coherent opening id block story (dn ∷ members) (answer ∷ answers) =
    AnswerStands Coherent opening id block story dn answer
    × AnswersStand Coherent opening id block story members answers

-- a datanode came to hold the block by a copy
abbrev pub copies : Block → EventKind → Bool
copies block (Copy source target copied) = is_block block copied
copies block _ = false

-- What has to stand besides the answers of these members, which were told in what was seen, so that the block may be written in a
-- story that goes on from there: it was granted to the ask, these are the members of its container, two of them have it, none got
-- it by a copy, and it isn't written yet.
pub record HasQuorum (opening : Opening) (id : AskId) (block : Block) (dns : List ℕ) (answers : List (Option PutRefusal))
    (seen story : List Event) (seat : ℕ) : Type 0 where
  pub of_line : IsLineSeat seat
  pub goes_on : BeginsWith story seen
  pub before : List Event
  pub granted : WasGranted story id block before
  pub its_members : members opening story block.container ≡ dns
  pub two : 2 ≤ count_by is_none answers
  pub uncopied : has_event (copies block) seen ≡ false
  pub unwritten : has_event (writes block) story ≡ false
