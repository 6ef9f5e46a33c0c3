-- A container that was closed is so, is being deleted, or is deleted.
use Rattle.std.proofs.Common.{◌≡◌, ℕ, Bool, true, false, cond, List, [], ◌∷◌, ◌++◌, Option, None}
use Rattle.std.proofs.Common.{Some, refl, sym, ◌∙◌, ap, subst, append-nil}
use Rattle.std.proofs.lemmas.Bool.{eqb-true}
use Rattle.std.proofs.lemmas.Cmp.{nat_cmp_total}
use Rattle.std.proofs.lemmas.List.Sums.{fold_push}
use Rattle.std.proofs.lemmas.Option.{none-some, same_Some}
use Rattle.std.specs.Cmp.{unsigned_ties}
use Rattle.std.specs.FinMap.{get, insert, get-insert}
use Rattle.std.specs.Ordering.{nat_cmp, eq_by_cmp}
use Rattle.oz_container.specs.declared.state.State.{State}
use Rattle.oz_container.specs.declared.state.State.TheVariants as states
use Rattle.oz_container.specs.declared.state.Event.{Event as Step}
use Rattle.oz_container.specs.declared.state.Event.TheVariants as step
use Rattle.oz_container.specs.Steps.{next}
use Rattle.oz_core.specs.declared.event.Event.{Event}
use Rattle.oz_core.specs.declared.event.EventKind.{EventKind}
use Rattle.oz_core.specs.declared.event.EventKind.TheVariants as kinds
use Rattle.oz_core.specs.declared.opening.Container.{Container}
use Rattle.oz_core.specs.declared.opening.Opening.{Opening}
use Rattle.oz_core.specs.Law.{AreEmpty, IsLegal, IsLegalFrom, KindIsEnabled}
use Rattle.oz_core.specs.Scm.{Containers, come_to, containers, containers_after, granted_in}
use Rattle.oz_kept.specs.laws.Places.{legal_behind, legal_first, legal_rest, moved_over}
use Rattle.oz_repl.specs.declared.repl.view.View.{View}
use Rattle.oz_repl.specs.repl.View.{IsNext}
use Rattle.oz_repl.specs.views.View.{IsViewOf}
use Rattle.oz_repl.specs.views.laws.Shown.{comes_next}

abbrev pub IsLate : State → Type 0
IsLate states.Open = ⊥
IsLate states.Closing = ⊥
IsLate states.QuasiClosed = ⊥
IsLate states.Closed = Unit {0}
IsLate states.Deleting = Unit {0}
IsLate states.Deleted = Unit {0}

late_step : (from to : State) (by : Step) → IsLate from → next from by ≡ Some to → IsLate to
late_step states.Open to by late leads = absurd late
late_step states.Closing to by late leads = absurd late
late_step states.QuasiClosed to by late leads = absurd late
late_step states.Closed to step.Finalize late leads = absurd (none-some to leads)
late_step states.Closed to step.QuasiClose late leads = absurd (none-some to leads)
late_step states.Closed to step.Close late leads = absurd (none-some to leads)
late_step states.Closed to step.ForceClose late leads = absurd (none-some to leads)
late_step states.Closed to step.Delete late leads = subst IsLate (same_Some states.Deleting to leads) tt
late_step states.Closed to step.Cleanup late leads = absurd (none-some to leads)
late_step states.Deleting to step.Finalize late leads = absurd (none-some to leads)
late_step states.Deleting to step.QuasiClose late leads = absurd (none-some to leads)
late_step states.Deleting to step.Close late leads = absurd (none-some to leads)
late_step states.Deleting to step.ForceClose late leads = absurd (none-some to leads)
late_step states.Deleting to step.Delete late leads = absurd (none-some to leads)
late_step states.Deleting to step.Cleanup late leads = subst IsLate (same_Some states.Deleted to leads) tt
late_step states.Deleted to step.Finalize late leads = absurd (none-some to leads)
late_step states.Deleted to step.QuasiClose late leads = absurd (none-some to leads)
late_step states.Deleted to step.Close late leads = absurd (none-some to leads)
late_step states.Deleted to step.ForceClose late leads = absurd (none-some to leads)
late_step states.Deleted to step.Delete late leads = absurd (none-some to leads)
late_step states.Deleted to step.Cleanup late leads = absurd (none-some to leads)

record IsLateIn (all : Containers) (number : ℕ) : Type 0 where
  container : Container
  made : get all number ≡ Some container
  late : IsLate container.state

-- a container that is put in the place of one leaves it late, where it is as late
put_late : (all : Containers) (at : ℕ) (new : Container) (number : ℕ) → ((old : Container) → get all at ≡ Some old
    → IsLate old.state → IsLate new.state) → IsLateIn all number → IsLateIn (insert all at new) number
put_late all at new number as_late is = by (eq_by_cmp nat_cmp number at) refl
  where
    there : get (insert all at new) number ≡ cond (eq_by_cmp nat_cmp number at) (Some new) (get all number)
    there = get-insert nat_cmp_total all at new number

    by : (t : Bool) → eq_by_cmp nat_cmp number at ≡ t → IsLateIn (insert all at new) number
    by true e =
        let same : number ≡ at = eqb-true number at (unsigned_ties number at ∙ e) in
        let old : get all at ≡ Some is.container = ap (λ n. get all n) (sym same) ∙ is.made in
        record { container = new; made = there ∙ ap (λ (t : Bool). cond t (Some new) (get all number)) e; late = as_late is.container old is.late }
    by false e = record { container = is.container; made = there ∙ ap (λ (t : Bool). cond t (Some new) (get all number)) e ∙ is.made; late = is.late }

kind_late : (opening : Opening) (before : List Event) (seat : ℕ) (kind : EventKind) (number : ℕ)
    → KindIsEnabled opening before seat kind → IsLateIn (containers opening before) number
    → IsLateIn (containers_after (containers opening before) kind) number
kind_late opening before seat (kinds.Grant stripe at pipeline first count) number enabled is =
    put_late (containers opening before) at (granted_in (get (containers opening before) at) pipeline count) number
    (λ old there late. granted (get (containers opening before) at) old there late) is
  where
    granted : (o : Option Container) (old : Container) → o ≡ Some old → IsLate old.state → IsLate (granted_in o pipeline count).state
    granted None old there late = absurd (none-some old there)
    granted (Some container) old there late = subst (λ (c : Container). IsLate c.state) (sym (same_Some container old there)) late
kind_late opening before seat (kinds.Closed at state) number enabled is = by (get (containers opening before) at) refl
  where
    by : (o : Option Container) → get (containers opening before) at ≡ o → IsLateIn (come_to (containers opening before) at state o) number
    by None e = is
    by (Some container) e =
        put_late (containers opening before) at (record container { state = state }) number
        (λ old there late.
        let same : enabled.container ≡ old = same_Some enabled.container old (sym enabled.made ∙ there) in
        late_step old.state state enabled.by late (subst (λ (c : Container). next c.state enabled.by ≡ Some state) same enabled.leads)) is
kind_late opening before seat kind number enabled is = is

late_behind : (opening : Opening) (number : ℕ) (behind before : List Event) → IsLegalFrom opening before behind
    → IsLateIn (containers opening before) number → IsLateIn (containers opening (before ++ behind)) number
late_behind opening number [] before legal is = subst (λ (l : List Event). IsLateIn (containers opening l) number) (sym (append-nil before)) is
late_behind opening number (event ∷ behind) before legal is =
    let next = kind_late opening before event.seat event.kind number (legal_first opening before event behind legal) is in
    let grown : containers opening (before ++ event ∷ []) ≡ containers_after (containers opening before) event.kind =
    fold_push (λ before (event : Event). containers_after before event.kind) opening.containers before event in
    subst (λ (l : List Event). IsLateIn (containers opening l) number) (moved_over before behind event)
    (late_behind opening number behind (before ++ event ∷ []) (legal_rest opening before event behind legal)
    (subst (λ (all : Containers). IsLateIn all number) (sym grown) next))

pub deleted_or_not : (opening : Opening) (start behind : List Event) (number : ℕ) (before : Container) (view : View)
    → IsLegal opening (start ++ behind) → get (containers opening start) number ≡ Some before
    → before.state ≡ states.Closed → IsViewOf opening (start ++ behind) number view
    → ((event : Step) → IsNext view event → ⊥) → AreEmpty opening (start ++ behind) number → view.state ≡ states.Deleted
deleted_or_not opening start behind number before view legal made closed is none empty =
    let late = late_behind opening number behind start (legal_behind opening [] start behind legal)
    (record { container = before; made = made; late = subst IsLate (sym closed) tt }) in
    let same : late.container ≡ is.container = same_Some late.container is.container (sym late.made ∙ is.made) in
    by view.state refl (subst IsLate (ap (λ (c : Container). c.state) same ∙ sym is.state) late.late)
  where
    by : (state : State) → view.state ≡ state → IsLate state → view.state ≡ states.Deleted
    by states.Open e late = absurd late
    by states.Closing e late = absurd late
    by states.QuasiClosed e late = absurd late
    by states.Closed e late = absurd
        (none step.Delete (comes_next opening (start ++ behind) number view is step.Delete states.Deleting
        (ap (λ (s : State). next s step.Delete) e) empty))
    by states.Deleting e late = absurd
        (none step.Cleanup (comes_next opening (start ++ behind) number view is step.Cleanup states.Deleted
        (ap (λ (s : State). next s step.Cleanup) e) tt))
    by states.Deleted e late = e
