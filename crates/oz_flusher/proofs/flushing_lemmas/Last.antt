-- The last event that the flusher gave in a story, found from the end on.
use Rattle.std.specs.Prelude.{true, false}
use Rattle.std.proofs.Common.{◌≡◌, ℕ, ◌+◌, ◌-◌, ◌<◌, ◌≤◌, List, [], ◌∷◌, ◌++◌, length, drop, take, sym, ap, ◌∙◌, subst, arith, length-append}
use Rattle.std.proofs.lemmas.List.{drop_more, take-append-drop}
use Rattle.std.proofs.lemmas.List.Elements.{filter-append}
use Rattle.std.proofs.Math.ListN.{get_or}
use Rattle.oz_core.specs.declared.event.Event.{Event}
use Rattle.oz_core.specs.declared.event.EventKind.TheVariants.{Halt}
use Rattle.oz_core.specs.declared.event.Node.TheVariants.{Manager}
use Rattle.oz_flusher.specs.Steps.{halt_event}
use Rattle.oz_flusher.specs.flushing.Halts.{EndsInHalt}
use Rattle.oz_flusher.proofs.flushing_lemmas.Own.{own, is_own, own_kept, own_left}

same_count : (one other : ℕ) → Halt Manager one ≡ Halt Manager other → one ≡ other
same_count one other same = cc same

-- lists that end in one thing each
last_same : (xs ys : List Event) (x y : Event) → xs ++ x ∷ [] ≡ ys ++ y ∷ [] → x ≡ y
last_same [] [] x y same = cc same
last_same [] (b ∷ ys) x y same = absurd (omega (arith, ap length same, length-append ys (y ∷ [])))
last_same (a ∷ xs) [] x y same = absurd (omega (arith, ap length same, length-append xs (x ∷ [])))
last_same (a ∷ xs) (b ∷ ys) x y same = last_same xs ys x y (cc same)

-- an event, and what stands behind it
pub parts_at : (story : List Event) (place : ℕ) (event : Event) → 0 < place → place ≤ length story → event ≡ get_or story (place - 1) event → drop (place - 1) story ≡ event ∷ drop place story
parts_at story place event some within is =
    drop_more story (place - 1) event (omega (arith, some, within))
    ∙ (ap (λ (e : Event). e ∷ drop (place - 1 + 1) story) (sym is) ∙ ap (λ n. event ∷ drop n story) (omega (arith, some)))

module _ (story : List Event) (at place : ℕ) (event : Event) (parts : drop at story ≡ event ∷ drop place story) (none : own (drop place story) ≡ []) where
  -- an event that the flusher didn't give
  pub still_none : is_own event ≡ false → own (drop at story) ≡ []
  still_none not = ap own parts ∙ (own_left event (drop place story) not ∙ none)

  -- and the last one that it gave
  pub own_parts : is_own event ≡ true → own story ≡ own (take at story) ++ event ∷ []
  own_parts is =
      ap own (sym (take-append-drop at story))
      ∙ (filter-append is_own (take at story) (drop at story)
      ∙ ap (λ l. own (take at story) ++ l) (ap own parts ∙ (own_kept event (drop place story) is ∙ ap (λ l. event ∷ l) none)))

  pub is_last : (count : ℕ) → is_own event ≡ true → EndsInHalt (own story) count → event ≡ halt_event count
  is_last count is ends = last_same (own (take at story)) ends.0 event (halt_event count) (sym (own_parts is) ∙ ends.1)

  pub ends_so : (was count : ℕ) → is_own event ≡ true → EndsInHalt (own story) was → event.kind ≡ Halt Manager count → EndsInHalt (own story) count
  ends_so was count is ends kind =
      let same : was ≡ count = same_count was count (ap (λ (e : Event). e.kind) (sym (is_last was is ends)) ∙ kind) in
      subst (λ n. EndsInHalt (own story) n) same ends
