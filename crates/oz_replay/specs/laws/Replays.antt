-- What one event more makes of a replay that looks at the events before it.
use Rattle.std.proofs.Common.{◌≡◌, ℕ, ◌+◌, ◌<◌, Bool, List, [], ◌∷◌, ◌++◌, length, take, get_or, sym, ◌∙◌, ap, append_assoc, append-nil}
use Rattle.std.proofs.lemmas.List.{take_more}
use Rattle.oz_namespace.specs.declared.namespace.Namespace.{Namespace}
use Rattle.oz_core.specs.declared.event.Event.{Event}
use Rattle.oz_core.specs.Manager.{namespace_step, namespace_from}

namespace_last : (counts : ℕ → Bool) (before : List Event) (namespace : Namespace) (story : List Event) (event : Event)
    → namespace_from counts before namespace (story ++ event ∷ [])
    ≡ namespace_step counts (before ++ story) (namespace_from counts before namespace story) event.kind
unfolding namespace_from
namespace_last counts before namespace [] event = ap (λ (l : List Event). namespace_step counts l namespace event.kind) (sym (append-nil before))
namespace_last counts before namespace (first ∷ story) event =
    let next = namespace_step counts before namespace first.kind in
    namespace_last counts (before ++ first ∷ []) next story event
    ∙ ap (λ (l : List Event). namespace_step counts l (namespace_from counts (before ++ first ∷ []) next story) event.kind)
    (append_assoc before (first ∷ []) story)

pub namespace_more : (counts : ℕ → Bool) (namespace : Namespace) (story : List Event) (i : ℕ) (d : Event) → i < length story
    → namespace_from counts [] namespace (take (i + 1) story)
    ≡ namespace_step counts (take i story) (namespace_from counts [] namespace (take i story)) (get_or story i d).kind
namespace_more counts namespace story i d within =
    ap (namespace_from counts [] namespace) (take_more story i d within) ∙ namespace_last counts [] namespace (take i story) (get_or story i d)
