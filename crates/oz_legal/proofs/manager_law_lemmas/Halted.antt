-- What one event more makes of a replay that looks at the events before it.
use Rattle.std.proofs.Common.{◌≡◌, ℕ, ◌+◌, ◌<◌, Bool, List, [], ◌∷◌, ◌++◌, length, take, get_or, sym, ◌∙◌, ap, append_assoc, append-nil}
use Rattle.std.proofs.lemmas.List.{take_more}
use Rattle.oz_requests.specs.declared.request.AskId.{AskId}
use Rattle.oz_core.specs.declared.event.Event.{Event}
use Rattle.oz_core.specs.Manager.{late_step, late_from}

late_last : (id : AskId) (before : List Event) (late : Bool) (story : List Event) (event : Event)
    → late_from id before late (story ++ event ∷ []) ≡ late_step id (before ++ story) (late_from id before late story) event.kind
unfolding late_from
late_last id before late [] event = ap (λ (l : List Event). late_step id l late event.kind) (sym (append-nil before))
late_last id before late (first ∷ story) event =
    let next = late_step id before late first.kind in
    late_last id (before ++ first ∷ []) next story event
    ∙ ap (λ (l : List Event). late_step id l (late_from id (before ++ first ∷ []) next story) event.kind) (append_assoc before (first ∷ []) story)

pub late_more : (id : AskId) (late : Bool) (story : List Event) (i : ℕ) (d : Event) → i < length story
    → late_from id [] late (take (i + 1) story) ≡ late_step id (take i story) (late_from id [] late (take i story)) (get_or story i d).kind
late_more id late story i d within = ap (late_from id [] late) (take_more story i d within) ∙ late_last id [] late (take i story) (get_or story i d)
