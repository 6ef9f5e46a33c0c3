-- Why it isn't known what came of a block that was written at its members.
use Rattle.std.specs.Prelude.{◌≡◌, ◌⊎◌, ℕ, ◌+◌, ◌^◌, ◌≤◌, true, false, List, [], ◌∷◌, Option, None, Contains, drop, length}
use Rattle.oz_core.specs.declared.event.Event.{Event}
use Rattle.oz_core.specs.declared.event.PutRefusal.{PutRefusal}
use Rattle.oz_core.specs.declared.opening.Opening.{Opening}
use Rattle.oz_core.specs.Law.{puts, writes}
use Rattle.oz_core.specs.Stories.{has_event}
use Rattle.oz_fields.specs.declared.block.Block.{Block}
use Rattle.oz_line_blocks.specs.declared.writing.fault.Unwritten.{Unwritten}
use Rattle.oz_line_blocks.specs.declared.writing.fault.Unwritten.TheVariants as causes
use Rattle.oz_node_events.specs.Answers.{HadIt}
use Rattle.oz_requests.specs.declared.request.AskId.{AskId}
use Rattle.oz_underway.specs.UnderWay.{HasAnswered, HaveAnswered}
use Rattle.oz_line_blocks.specs.writing.Written.{IsStill}

-- What a member answered stands in the story since; or it had the block already and told nothing.
abbrev pub Came : Type 0 → Opening → AskId → Block → List Event → List Event → ℕ → Option PutRefusal → Type 0
Came Coherent opening id block story since dn answer =
    HasAnswered since id block dn answer ⊎ ((answer ≡ None) × HadIt Coherent opening block story dn)

-- so it is of each of these members, in their order
abbrev pub AllCame : Type 0 → Opening → AskId → Block → List Event → List Event → List ℕ → List (Option PutRefusal) → Type 0
AllCame Coherent opening id block story since [] [] = Unit {0}
AllCame Coherent opening id block story since [] (answer ∷ answers) = ⊥
AllCame Coherent opening id block story since (dn ∷ members) [] = ⊥
AllCame Coherent opening id block story since (dn ∷ members) (answer ∷ answers) =
    Came Coherent opening id block story since dn answer × AllCame Coherent opening id block story since members answers

-- A member had the block already, and no Put of it stands behind what was seen before.
pub record HadItAlready (Coherent : Type 0) (opening : Opening) (block : Block) (members : List ℕ) (since story : List Event)
    : Type 0 where
  pub dn : ℕ
  pub member : Contains members dn
  pub had : HadIt Coherent opening block story dn
  pub unput : has_event (puts dn block) since ≡ false

-- Something else was said of the line's blocks than so often, or, where the block is written, than the second number; or
-- the line asked something after this.
abbrev pub HasOther : AskId → Block → ℕ → ℕ → List Event → Type 0
HasOther id block put wrote story =
    (IsStill id put story → ⊥) ⊎ ((has_event (writes block) story ≡ true) × (IsStill id wrote story → ⊥))

-- why it wasn't told that the block is written, where so much was said of the line's blocks before, and would be by it
abbrev pub IsUntold : AskId → Block → ℕ → ℕ → List Event → Unwritten → Type 0
IsUntold id block put wrote story causes.OtherStory = HasOther id block put wrote story
IsUntold id block put wrote story causes.OutOfMemory = Unit {0}

-- All members have answered, and the story has of the line something else than what came of that.
pub record IsToldOtherwise (id : AskId) (block : Block) (members : List ℕ) (said : ℕ) (story : List Event) : Type 0 where
  pub answers : List (Option PutRefusal)
  pub answered : HaveAnswered story id block members answers
  pub other : HasOther id block (said + 3) (said + 4) story

-- Why it isn't known what came of the block, behind what was seen before. So often something had been said of the line's blocks.
abbrev pub IsUnknown : Type 0 → Opening → AskId → Block → List ℕ → ℕ → List Event → List Event → Unwritten → Type 0
IsUnknown Coherent opening id block members said seen story causes.OtherStory =
    (2 ^ 64 ≤ said + 4) ⊎ HadItAlready Coherent opening block members (drop (length seen) story) story
    ⊎ IsToldOtherwise id block members said story
IsUnknown Coherent opening id block members said seen story causes.OutOfMemory = Unit {0}
