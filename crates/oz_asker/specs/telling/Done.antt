-- What a line that had something done to a datanode is told.
use Rattle.std.specs.Prelude.{◌≡◌, ℕ, List, [], ◌∷◌, ◌++◌, Option, None, Some}
use Rattle.oz_core.specs.declared.event.Event.{Event}
use Rattle.oz_core.specs.declared.event.Node.TheVariants.{Datanode}
use Rattle.oz_core.specs.declared.opening.Opening.{Opening}
use Rattle.oz_core.specs.Manager.{halt_of}
use Rattle.oz_requests.specs.declared.answer.Answer.{Answer}
use Rattle.oz_requests.specs.declared.answer.Answer.TheVariants as answers
use Rattle.oz_requests.specs.declared.answer.Values.TheVariants as values
use Rattle.oz_requests.specs.declared.request.AskId.{AskId}
use Rattle.oz_turn.specs.Told.{BeginsWith}
use Rattle.oz_asker.specs.telling.Tells.{MayTell, told_event}

-- that it is done; or with which count the datanode halted
abbrev pub answer_done : ℕ → Option ℕ → Answer
answer_done dn None = answers.Ok values.Done
answer_done dn (Some count) = answers.NodeHalted dn count

-- The story had come to a place where the line may be told what is so of the datanode there, and the seat appended that it is told.
pub record IsToldDone (opening : Opening) (seat client line : ℕ) (last : Option AskId) (said dn : ℕ)
    (seen mine seen_after mine_after : List Event) : Type 0 where
  pub before : List Event
  pub begins : BeginsWith before seen
  pub may : MayTell opening before client line last said [] (answer_done dn (halt_of (Datanode dn) before))
  pub story : seen_after
      ≡ before ++ told_event seat client line (answer_done dn (halt_of (Datanode dn) before)) ∷ []
  pub given : mine_after ≡ mine ++ told_event seat client line (answer_done dn (halt_of (Datanode dn) before)) ∷ []
