-- Why it isn't known what came of a block, by why it wasn't told that it is written.
use Rattle.std.proofs.Common.{◌≡◌, inr, ℕ, ◌+◌, List, Option, subst}
use Rattle.oz_core.specs.declared.event.Event.{Event}
use Rattle.oz_core.specs.declared.event.PutRefusal.{PutRefusal}
use Rattle.oz_core.specs.declared.opening.Opening.{Opening}
use Rattle.oz_fields.specs.declared.block.Block.{Block}
use Rattle.oz_line_blocks.specs.declared.writing.fault.Unwritten.{Unwritten}
use Rattle.oz_line_blocks.specs.declared.writing.fault.Unwritten.TheVariants as causes
use Rattle.oz_requests.specs.declared.request.AskId.{AskId}
use Rattle.oz_underway.specs.UnderWay.{HaveAnswered}
use Rattle.oz_line_blocks.specs.writing.Unknown.{HasOther, IsUnknown, IsUntold}

pub unknown_of : (Coherent : Type 0) (opening : Opening) (id : AskId) (block : Block) (members : List ℕ) (said put wrote : ℕ) (answers : List (Option PutRefusal)) (seen story : List Event)
    → put ≡ said + 3 → wrote ≡ said + 4 → HaveAnswered story id block members answers
    → (error : Unwritten) → IsUntold id block put wrote story error → IsUnknown Coherent opening id block members said seen story error
unknown_of Coherent opening id block members said put wrote answers seen story three four have causes.OtherStory untold =
    inr (inr (record {
      answers = answers;
      answered = have;
      other = subst (λ (n : ℕ). HasOther id block (said + 3) n story) four (subst (λ (n : ℕ). HasOther id block n wrote story) three untold);
    }))
unknown_of Coherent opening id block members said put wrote answers seen story three four have causes.OutOfMemory untold = tt
