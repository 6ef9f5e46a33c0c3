-- What longer stories took.
use Rattle.std.specs.Prelude.{false}
use Rattle.std.proofs.Common.{◌≡◌, ℕ, List, [], ◌∷◌, ◌++◌, refl, sym, ap, ◌∙◌, append_assoc}
use Rattle.std.proofs.lemmas.Bool.{false≢true}
use Rattle.std.proofs.lemmas.List.{append-nil}
use Rattle.oz_journal.specs.batches.Body.{body_bytes}
use Rattle.oz_buffer.specs.Buffer.{buffer_of}
use Rattle.oz_core.specs.declared.event.Event.{Event}
use Rattle.oz_core.specs.declared.event.EventKind.{EventKind}
use Rattle.oz_core.specs.declared.event.EventKind.TheVariants.{Swap}
use Rattle.oz_flusher.specs.Taken.{body_taken, bodies_from, bodies_of}
use Rattle.oz_flusher.specs.Steps.{by_flusher, swap_event}
use Rattle.oz_flusher.proofs.Own.{is_ours, AreOthers}

pub bodies_from-append : (before xs ys : List Event) → bodies_from before (xs ++ ys) ≡ bodies_from before xs ++ bodies_from (before ++ xs) ys
unfolding bodies_from
bodies_from-append before [] ys = ap (λ (l : List Event). bodies_from l ys) (sym (append-nil before))
bodies_from-append before (event ∷ xs) ys =
    let rest = bodies_from-append (before ++ event ∷ []) xs ys in
    let place : (before ++ event ∷ []) ++ xs ≡ before ++ (event ∷ xs) = append_assoc before (event ∷ []) xs in
    ap (λ l. body_taken before event.kind ++ l) (rest ∙ ap (λ (l : List Event). bodies_from (before ++ event ∷ []) xs ++ bodies_from l ys) place)
    ∙ sym (append_assoc (body_taken before event.kind) (bodies_from (before ++ event ∷ []) xs) (bodies_from (before ++ (event ∷ xs)) ys))

none_taken : (before : List Event) (kind : EventKind) → is_ours kind ≡ false → body_taken before kind ≡ []
none_taken before (Swap index) not = absurd (false≢true (sym not))
none_taken before kind not = refl

-- others take nothing
no_bodies : (before more : List Event) → AreOthers more → bodies_from before more ≡ []
unfolding bodies_from
no_bodies before [] others = refl
no_bodies before (event ∷ more) others =
    ap (λ l. l ++ bodies_from (before ++ event ∷ []) more) (none_taken before event.kind others.0) ∙ no_bodies (before ++ event ∷ []) more others.1

pub bodies_longer : (story more : List Event) → AreOthers more → bodies_of (story ++ more) ≡ bodies_of story
bodies_longer story more others =
    bodies_from-append [] story more ∙ (ap (λ l. bodies_of story ++ l) (no_bodies story more others) ∙ append-nil (bodies_of story))

bodies_of_one : (before : List Event) (event : Event) → bodies_from before (event ∷ []) ≡ body_taken before event.kind
unfolding bodies_from
bodies_of_one before event = append-nil (body_taken before event.kind)

-- a Swap takes one more
pub bodies_swapped : (story : List Event) (index : ℕ) → bodies_of (story ++ swap_event index ∷ []) ≡ bodies_of story ++ body_bytes index (buffer_of story) ∷ []
bodies_swapped story index = bodies_from-append [] story (swap_event index ∷ []) ∙ ap (λ l. bodies_of story ++ l) (bodies_of_one story (swap_event index))

-- and what comes of that takes nothing
pub bodies_ended : (story : List Event) (kind : EventKind) → body_taken story kind ≡ [] → bodies_of (story ++ by_flusher kind ∷ []) ≡ bodies_of story
bodies_ended story kind none =
    bodies_from-append [] story (by_flusher kind ∷ []) ∙ (ap (λ l. bodies_of story ++ l) (bodies_of_one story (by_flusher kind) ∙ none) ∙ append-nil (bodies_of story))

-- all that one flush appends
pub bodies_flushed : (seen before more all : List Event) (more0 : List Event) (index : ℕ) (kind : EventKind)
    → before ≡ seen ++ more0 → AreOthers more0 → AreOthers more → body_taken ((before ++ swap_event index ∷ []) ++ more) kind ≡ []
    → all ≡ ((before ++ swap_event index ∷ []) ++ more) ++ by_flusher kind ∷ []
    → bodies_of all ≡ bodies_of seen ++ body_bytes index (buffer_of before) ∷ []
bodies_flushed seen before more all more0 index kind goes others0 others none is =
    ap bodies_of is
    ∙ (bodies_ended ((before ++ swap_event index ∷ []) ++ more) kind none
    ∙ (bodies_longer (before ++ swap_event index ∷ []) more others
    ∙ (bodies_swapped before index
    ∙ ap (λ l. l ++ body_bytes index (buffer_of before) ∷ []) (ap bodies_of goes ∙ bodies_longer seen more0 others0))))
