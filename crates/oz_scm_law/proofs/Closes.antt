-- Steps between states, what they want of the members, and the places where that held.
use Rattle.std.proofs.Common.{◌≡◌, ◌≢◌, ◌↔◌, ℕ, Bool, true, false, not, List, length, take, drop, Option, Some, None, refl, sym, ◌∙◌, ap, subst, arith, length-append}
use Rattle.std.proofs.Math.Seq.{take-append_seam, drop-append_seam}
use Rattle.std.proofs.lemmas.List.{take-append-drop}
use Rattle.std.specs.List.{All}
use Rattle.std.specs.Option.{unwrap_or}
use Rattle.oz_container.specs.declared.state.State.{State}
use Rattle.oz_container.specs.declared.state.State.TheVariants as states
use Rattle.oz_container.specs.declared.state.Event.{Event as Step}
use Rattle.oz_container.specs.declared.state.Event.TheVariants as step
use Rattle.oz_container.specs.Steps.{next}
use Rattle.oz_core.specs.declared.event.Event.{Event}
use Rattle.oz_core.specs.declared.opening.Container.{Container}
use Rattle.oz_core.specs.declared.opening.Opening.{Opening}
use Rattle.oz_core.specs.Law.{Agree, AllowsStep, IsSinceScm}
use Rattle.oz_core.specs.Scm.{members}
use Rattle.oz_core.specs.Seats.{scm_seat}
use Rattle.oz_scm_law.specs.Words.{state_in, step_between, AgreesWith, AreAlike, HoldsNothing, IsAllowedBy, MayStep}

some_is : {A : Type 0} (a b : A) → Some a ≡ Some b → a ≡ b
some_is a b e = ap (λ o. unwrap_or o a) e

none_some : {A X : Type 0} (a : A) → None ≡ Some a → X
none_some a e = absurd (cc)

pub not_so : (b : Bool) → (b ≡ true → ⊥) → not b ≡ true
not_so true h = absurd (h refl)
not_so false h = refl

pub so_not : (b : Bool) → not b ≡ true → b ≡ true → ⊥
so_not true h is = cc
so_not false h is = cc

-- ---- there is one step from a state to another

pub leads : (from : State) (by : Step) (to : State) → next from by ≡ Some to → step_between from to ≡ Some by
leads states.Open step.Finalize to h = subst (λ (s : State). step_between states.Open s ≡ Some step.Finalize) (some_is states.Closing to h) refl
leads states.Closing step.QuasiClose to h = subst (λ (s : State). step_between states.Closing s ≡ Some step.QuasiClose) (some_is states.QuasiClosed to h) refl
leads states.Closing step.Close to h = subst (λ (s : State). step_between states.Closing s ≡ Some step.Close) (some_is states.Closed to h) refl
leads states.QuasiClosed step.ForceClose to h = subst (λ (s : State). step_between states.QuasiClosed s ≡ Some step.ForceClose) (some_is states.Closed to h) refl
leads states.Closed step.Delete to h = subst (λ (s : State). step_between states.Closed s ≡ Some step.Delete) (some_is states.Deleting to h) refl
leads states.Deleting step.Cleanup to h = subst (λ (s : State). step_between states.Deleting s ≡ Some step.Cleanup) (some_is states.Deleted to h) refl
leads from by to h = none_some to h

pub leads_back : (from to : State) (by : Step) → step_between from to ≡ Some by → next from by ≡ Some to
leads_back states.Open states.Closing by h = subst (λ (s : Step). next states.Open s ≡ Some states.Closing) (some_is step.Finalize by h) refl
leads_back states.Closing states.QuasiClosed by h = subst (λ (s : Step). next states.Closing s ≡ Some states.QuasiClosed) (some_is step.QuasiClose by h) refl
leads_back states.Closing states.Closed by h = subst (λ (s : Step). next states.Closing s ≡ Some states.Closed) (some_is step.Close by h) refl
leads_back states.QuasiClosed states.Closed by h = subst (λ (s : Step). next states.QuasiClosed s ≡ Some states.Closed) (some_is step.ForceClose by h) refl
leads_back states.Closed states.Deleting by h = subst (λ (s : Step). next states.Closed s ≡ Some states.Deleting) (some_is step.Delete by h) refl
leads_back states.Deleting states.Deleted by h = subst (λ (s : Step). next states.Deleting s ≡ Some states.Deleted) (some_is step.Cleanup by h) refl
leads_back from to by h = none_some by h

-- ---- what is wanted of the members

agreed : (opening : Opening) (story : List Event) (number : ℕ) → All (AgreesWith opening story number (members opening story number)) (members opening story number) → Agree opening story number
unfolding AreAlike
agreed opening story number all = record {
  up = λ k d below. (all k d below).up;
  closed = λ k d below. (all k d below).closed;
  alike = λ k d below. (all k d below).alike;
}

agreed-back : (opening : Opening) (story : List Event) (number : ℕ) → Agree opening story number → All (AgreesWith opening story number (members opening story number)) (members opening story number)
unfolding AreAlike
agreed-back opening story number is k d below = record { up = is.up k d below; closed = is.closed k d below; alike = is.alike k d below }

pub allowed : (opening : Opening) (story : List Event) (number : ℕ) (by : Step) → IsAllowedBy opening story number (members opening story number) by ↔ AllowsStep opening story number by
unfolding HoldsNothing
allowed opening story number step.Finalize = (λ is. is, λ is. is)
allowed opening story number step.QuasiClose = (
  λ is. record { dn = is.dn; member = is.member; up = is.up; closed = is.closed; apart = λ agree. is.apart (agreed-back opening story number agree) },
  λ is. record { dn = is.dn; member = is.member; up = is.up; closed = is.closed; apart = λ agree. is.apart (agreed opening story number agree) },
)
allowed opening story number step.Close = (agreed opening story number, agreed-back opening story number)
allowed opening story number step.ForceClose = (agreed opening story number, agreed-back opening story number)
allowed opening story number step.Delete = (
  λ all. record { up = λ k d below. (all k d below).up; empty = λ k d below. (all k d below).empty },
  λ is k d below. record { up = is.up k d below; empty = is.empty k d below },
)
allowed opening story number step.Cleanup = (λ is. is, λ is. is)

-- ---- a container that has a state

pub record HasState (o : Option Container) (state : State) : Type 0 where
  pub container : Container
  pub made : o ≡ Some container
  pub its : container.state ≡ state

pub has_state : (o : Option Container) (state : State) → Some state ≡ state_in o → HasState o state
has_state None state e = none_some state (sym e)
has_state (Some container) state e = record { container = container; made = refl; its = sym (some_is state container.state e) }

pub its_state : (o : Option Container) (container : Container) (state : State) → o ≡ Some container → Some state ≡ state_in o → container.state ≡ state
its_state o container state made e = sym (some_is state container.state (e ∙ ap state_in made))

-- ---- places

pub since : (story : List Event) (place : ℕ) → All (λ (event : Event). event.seat ≢ scm_seat) (drop place story) → IsSinceScm story (take place story)
since story place others = record { behind = drop place story; parts = sym (take-append-drop place story); others = others }

pub stepped : (opening : Opening) (story : List Event) (number : ℕ) (by : Step) (place : List Event) → IsSinceScm story place → AllowsStep opening place number by → MayStep opening story number by
stepped opening story number by place is allows =
    let back : drop (length place) story ≡ is.behind = ap (drop (length place)) is.parts ∙ drop-append_seam place is.behind in
    let front : take (length place) story ≡ place = ap (take (length place)) is.parts ∙ take-append_seam place is.behind in
    record {
      place = length place;
      within = omega (arith, ap length is.parts, length-append place is.behind);
      may = record {
        others = subst (λ (l : List Event). All (λ (event : Event). event.seat ≢ scm_seat) l) (sym back) is.others;
        allowed = subst (λ (l : List Event). AllowsStep opening l number by) (sym front) allows;
      };
    }
