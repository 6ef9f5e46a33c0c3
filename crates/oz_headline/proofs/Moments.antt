-- Nothing is flushed later than the last that is.
use Rattle.std.proofs.Common.{◌≡◌, ℕ, ◌≤◌, ◌<◌, List, [], ◌∷◌, ◌++◌, Option, None, Some, IfSome, sym, ap, ◌∙◌, subst, append-nil, arith}
use Rattle.std.proofs.lemmas.List.Elements.{filter_map-append}
use Rattle.std.proofs.lemmas.List.Sums.{fold-append}
use Rattle.std.specs.List.{cons_option}
use Rattle.std.specs.Option.{option_or}
use Rattle.oz_core.specs.declared.event.Event.{Event}
use Rattle.oz_core.specs.declared.event.EventKind.{EventKind}
use Rattle.oz_core.specs.declared.event.EventKind.TheVariants.{Flushed}
use Rattle.oz_core.specs.declared.opening.Opening.{Opening}
use Rattle.oz_core.specs.Law.{IsLegal, IsLegalFrom, KindIsEnabled}
use Rattle.oz_core.specs.Manager.{flushed_moment, stable_moment}
use Rattle.oz_core.specs.Stories.{all_told, last_in}
use Rattle.oz_kept.specs.laws.Places.{legal_behind, legal_first, legal_rest, moved_over}
use Rattle.oz_headline.specs.History.{AllAreBy, IsBy}

last_push : {X : Type 0} (xs : List X) (more : Option X) → last_in (xs ++ cons_option more []) ≡ option_or more (last_in xs)
last_push xs None = ap last_in (append-nil xs)
last_push xs (Some x) = fold-append (λ before y. Some y) None xs (x ∷ [])

moment_push : (story : List Event) (event : Event) → flushed_moment (story ++ event ∷ []) ≡ option_or (stable_moment event.kind) (flushed_moment story)
moment_push story event =
    ap (λ (l : List ℕ). last_in l) (filter_map-append (λ (e : Event). stable_moment e.kind) story (event ∷ []))
    ∙ last_push (all_told stable_moment story) (stable_moment event.kind)

module _ (opening : Opening) (clock : ℕ) where
  abbrev LastIsBy : Option ℕ → Type 0
  LastIsBy last = IfSome last (λ moment. moment ≤ clock)

  earlier_is_by : (last : Option ℕ) (moment : ℕ) → IfSome last (λ earlier. earlier < moment) → moment ≤ clock → LastIsBy last
  earlier_is_by None moment later by = tt
  earlier_is_by (Some earlier) moment later by = omega (arith, later, by)

  -- what the last was before an event
  by_before : (before : List Event) (seat : ℕ) (kind : EventKind) → KindIsEnabled opening before seat kind → LastIsBy (option_or (stable_moment kind) (flushed_moment before))
      → LastIsBy (flushed_moment before)
  by_before before seat (Flushed index moment) may by = earlier_is_by (flushed_moment before) moment may.later by
  by_before before seat kind may by = by

  by_front : (rest before : List Event) → IsLegalFrom opening before rest → LastIsBy (flushed_moment (before ++ rest)) → LastIsBy (flushed_moment before)
  by_front [] before legal by = subst (λ (l : List Event). LastIsBy (flushed_moment l)) (append-nil before) by
  by_front (event ∷ rest) before legal by =
      let front = by_front rest (before ++ event ∷ []) (legal_rest opening before event rest legal)
      (subst (λ (l : List Event). LastIsBy (flushed_moment l)) (sym (moved_over before rest event)) by) in
      by_before before event.seat event.kind (legal_first opening before event rest legal)
      (subst LastIsBy (moment_push before event) front)

  its_by : (kind : EventKind) (before : Option ℕ) → LastIsBy (option_or (stable_moment kind) before) → IsBy clock kind
  its_by (Flushed index moment) before by = by
  its_by kind before by = tt

  pub all_are_by : (story : List Event) → IsLegal opening story → LastIsBy (flushed_moment story) → AllAreBy clock story
  all_are_by story legal by before behind event parts =
      let whole = legal_behind opening [] before (event ∷ behind) (subst (λ (l : List Event). IsLegal opening l) parts legal) in
      let front = by_front behind (before ++ event ∷ []) (legal_rest opening before event behind whole)
      (subst (λ (l : List Event). LastIsBy (flushed_moment l)) (parts ∙ sym (moved_over before behind event)) by) in
      its_by event.kind (flushed_moment before) (subst LastIsBy (moment_push before event) front)
