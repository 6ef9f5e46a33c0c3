use Rattle.std.proofs.Common.{◌≡◌, ⊎_elim, ℕ, List, Option, refl, sym, ◌∙◌}
use Rattle.std.proofs.lemmas.Bool.{false≢true}
use Rattle.oz_core.specs.declared.event.Event.{Event}
use Rattle.oz_core.specs.declared.opening.Opening.{Opening}
use Rattle.oz_requests.specs.declared.answer.Answer.{Answer}
use Rattle.oz_requests.specs.declared.request.AskId.{AskId}
use Rattle.oz_asker.specs.declared.telling.still.Still.{Still}
use Rattle.oz_asker.specs.declared.telling.untold.Untold.{Untold}
use Rattle.oz_asker.specs.declared.telling.untold.Untold.TheVariants as causes
use Rattle.oz_asker.specs.telling.Tells.{KeepsUntold, MayTell}
use Rattle.oz_asker.proofs.telling.laws.what_keeps_a_line_untold.Goals as goal

by_memory : (opening : Opening) (story : List Event) (client line : ℕ) (last : Option AskId) (said : ℕ) (stills : List Still) (answer : Answer) (cause : Untold)
    → MayTell opening story client line last said stills answer → KeepsUntold opening story client line last said stills answer cause → cause ≡ causes.OutOfMemory
by_memory opening story client line last said stills answer causes.Told may keeps = absurd (false≢true (sym may.untold ∙ keeps))
by_memory opening story client line last said stills answer causes.OtherAsk may (untold, other) = absurd (other may.asked)
by_memory opening story client line last said stills answer causes.OtherBlocks may (untold, asked, other) = absurd (other may.as_said)
by_memory opening story client line last said stills answer causes.Moved may (known, moved) = absurd (moved may.still)
by_memory opening story client line last said stills answer causes.NotDue may (known, still, other) = absurd (other may.cause)
by_memory opening story client line last said stills answer (causes.LeftUp dn) may (known, still, stands, other, few, left) = ⊎_elim
    (λ memory. absurd (other memory))
    (λ down. absurd (false≢true (sym (down dn few left.0) ∙ left.1)))
    may.down
by_memory opening story client line last said stills answer causes.Unstable may (known, still, stands, down, unstable, late) = absurd (late may.in_time)
by_memory opening story client line last said stills answer causes.OutOfMemory may keeps = refl

pub returns : goal.returns
returns c opening story client line last said stills answer cause may keeps = by_memory opening story client line last said stills answer cause may keeps
