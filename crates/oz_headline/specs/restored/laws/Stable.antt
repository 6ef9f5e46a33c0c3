-- What is stable at the end of a story is what its last Flushed said, or what the opening has.
use Rattle.std.proofs.Common.{ℕ, suc, ◌≤◌, List, [], ◌∷◌, fold, Option, None, Some, IfSome, Contains, arith, refl}
use Rattle.oz_core.specs.declared.event.Event.{Event}
use Rattle.oz_core.specs.declared.event.EventKind.{EventKind}
use Rattle.oz_core.specs.declared.event.EventKind.TheVariants.{Flushed}
use Rattle.oz_core.specs.declared.opening.Opening.{Opening}
use Rattle.oz_core.specs.Manager.{flushed_moment, stable_index, stable_moment}
use Rattle.oz_core.specs.Stories.{all_told, last_told}
use Rattle.oz_kept.specs.reopened.Left.{MayBeLast}
use Rattle.oz_headline.specs.restored.Opens.{OpensUpTo}

-- the moment of the last Flushed, or else this
abbrev moment_after : Option ℕ → List Event → Option ℕ
moment_after before story = fold (λ before x. Some x) before (all_told stable_moment story)

module _ (most moment : ℕ) where
  abbrev Kept : List Event → Type 0
  Kept story = (seat index at : ℕ) → Contains story (record { seat = seat; kind = Flushed index at }) → at ≤ moment → index ≤ most

  abbrev IsWithin : List Event → Type 0
  IsWithin story = (index : ℕ) (before : Option ℕ) → Kept story → (IfSome before (λ at. at ≤ moment) → index ≤ most)
      → IfSome (moment_after before story) (λ at. at ≤ moment) → last_told stable_index index story ≤ most

  later : (event : Event) (story : List Event) → Kept (event ∷ story) → Kept story
  later event story kept seat index at there = kept seat index at (suc there.0, omega (arith, there.1), there.2)

  one_more : (seat : ℕ) (kind : EventKind) (story : List Event) → IsWithin story → IsWithin (record { seat = seat; kind = kind } ∷ story)
  one_more seat (Flushed last at) story rest index before kept fits early =
      rest last (Some at) (later (record { seat = seat; kind = Flushed last at }) story kept)
      (λ by_then. kept seat last at (0, omega arith, refl) by_then) early
  one_more seat kind story rest index before kept fits early = rest index before (later (record { seat = seat; kind = kind }) story kept) fits early

  all_within : (story : List Event) → IsWithin story
  all_within [] = λ index before kept fits early. fits early
  all_within (event ∷ story) = one_more event.seat event.kind story (all_within story)

pub within_stable : (opening : Opening) (story : List Event) (moment : ℕ) (left : List ℕ) (it : OpensUpTo opening story moment left)
    → IfSome (flushed_moment story) (λ at. at ≤ moment)
    → MayBeLast opening story it.most
within_stable opening story moment left it early = record {
  stable = all_within it.most moment story opening.last_index None it.stable (λ none. it.opened) early;
  decided = it.decided;
}
