-- What was asked once isn't asked again.
use Rattle.std.proofs.Common.{◌≡◌, true, List, [], ◌∷◌, Option, None, refl}
use Rattle.std.specs.List.{list_any}
use Rattle.oz_requests.specs.declared.request.Request.{Request}
use Rattle.oz_requests.specs.declared.reply.Reply.{Reply}
use Rattle.oz_steps.specs.declared.came.Came.{Came}
use Rattle.oz_steps.specs.Requests.{once_by}

any-reply : (given : List Reply) → (given ≡ [] → ⊥) → list_any (λ (reply : Reply). true) given ≡ true
any-reply [] some = absurd (some refl)
any-reply (reply ∷ given) some = refl

pub none-again : (came : Came) (request : Option Request) → (came.replies ≡ [] → ⊥) → once_by came request ≡ None
none-again came request some = rw (any-reply came.replies some) refl
