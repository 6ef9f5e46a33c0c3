-- What a story tells a transfer's line, event by event.
use Rattle.std.proofs.Common.{◌≡◌, ℕ, ◌+◌, ◌<◌, MatchOption, get_or, List, [], ◌∷◌, ◌++◌, Option, None, Some, length, take, refl, sym, ◌∙◌, ap, subst, append-nil}
use Rattle.std.proofs.lemmas.List.{take_more}
use Rattle.std.proofs.lemmas.List.Elements.{filter_map-append}
use Rattle.std.proofs.lemmas.List.Sums.{fold-append}
use Rattle.std.specs.List.{cons_option, filter_map}
use Rattle.oz_cluster.specs.files.Asked.{told_in}
use Rattle.oz_core.specs.declared.event.Event.{Event}
use Rattle.oz_core.specs.declared.event.EventKind.{EventKind}
use Rattle.oz_core.specs.declared.event.EventKind.TheVariants.{Told}
use Rattle.oz_core.specs.Asks.{answer_to, answers_to}
use Rattle.oz_core.specs.Stories.{last_in}
use Rattle.oz_requests.specs.declared.answer.Answer.{Answer}

-- ---- the last answer

last_pushed : {X : Type 0} (xs : List X) (x : X) → last_in (xs ++ x ∷ []) ≡ Some x
last_pushed {X} xs x = fold-append (λ (before : Option X) (y : X). Some y) None xs (x ∷ [])

answers_on : (story : List Event) (event : Event) → answers_to 1 1 (story ++ event ∷ []) ≡ answers_to 1 1 story ++ cons_option (answer_to 1 1 event.kind) []
answers_on story event = filter_map-append (λ (e : Event). answer_to 1 1 e.kind) story (event ∷ [])

pub told_next : (story : List Event) (event : Event) (answer : Answer) → event.kind ≡ Told 1 1 answer → told_in (story ++ event ∷ []) ≡ Some answer
told_next story event answer is =
    ap last_in (answers_on story event)
    ∙ (ap (λ (o : Option Answer). last_in (answers_to 1 1 story ++ cons_option o [])) (ap (answer_to 1 1) is)
    ∙ last_pushed (answers_to 1 1 story) answer)

pub told_same : (story : List Event) (event : Event) → answer_to 1 1 event.kind ≡ None → told_in (story ++ event ∷ []) ≡ told_in story
told_same story event none =
    ap last_in (answers_on story event)
    ∙ (ap (λ (o : Option Answer). last_in (answers_to 1 1 story ++ cons_option o [])) none
    ∙ ap last_in (append-nil (answers_to 1 1 story)))

-- what is no Told tells nothing
pub no_answer : (kind : EventKind) → ((client line : ℕ) (answer : Answer) → kind ≡ Told client line answer → ⊥) → answer_to 1 1 kind ≡ None
no_answer (Told client line answer) other = absurd (other client line answer refl)
no_answer kind other = refl

-- ---- one event more

-- the events up to a place, and the next
pub events_on : (story : List Event) (place : ℕ) (event : Event) → place < length story → event ≡ get_or story place event → take (place + 1) story ≡ take place story ++ event ∷ []
events_on story place event within there = take_more story place event within ∙ sym (ap (λ (e : Event). take place story ++ e ∷ []) there)

-- the answer that is lent, if there is one, is the last of the story
abbrev pub IsLast : {R : Type 0} → (R → Answer) → List Event → Option R → Type 0
IsLast now story last = MatchOption last (told_in story ≡ None) (λ answer. told_in story ≡ Some (now answer))

pub last_is_this : {R : Type 0} (now : R → Answer) (story : List Event) (place : ℕ) (event : Event) (last : Option R) (answer : R) → place < length story → event ≡ get_or story place event
    → last ≡ Some answer → event.kind ≡ Told 1 1 (now answer) → IsLast now (take (place + 1) story) last
last_is_this now story place event last answer within there last_is tells =
    subst (IsLast now (take (place + 1) story)) (sym last_is)
    (ap told_in (events_on story place event within there) ∙ told_next (take place story) event (now answer) tells)

pub last_as_before : {R : Type 0} (now : R → Answer) (story : List Event) (place : ℕ) (event : Event) (last : Option R) → place < length story → event ≡ get_or story place event → answer_to 1 1 event.kind ≡ None
    → IsLast now (take place story) last → IsLast now (take (place + 1) story) last
last_as_before now story place event None within there none was = ap told_in (events_on story place event within there) ∙ (told_same (take place story) event none ∙ was)
last_as_before now story place event (Some answer) within there none was =
    ap told_in (events_on story place event within there) ∙ (told_same (take place story) event none ∙ was)
