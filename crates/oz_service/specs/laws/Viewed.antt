-- What comes next of a container by what is seen of it comes next by its view.
use Rattle.std.proofs.Common.{◌≡◌, ◌↔◌, ℕ, ◌<◌, Bool, true, List, length, map, get_or, slice_get, Some, sym, ◌∙◌, ap, arith}
use Rattle.std.specs.Prelude.{All}
use Rattle.std.proofs.lemmas.List.{length-map}
use Rattle.std.proofs.lemmas.Option.{same_Some, slice_get-get_or}
use Rattle.oz_container.specs.declared.state.Event.{Event as Step}
use Rattle.oz_container.specs.declared.state.Event.TheVariants as step
use Rattle.oz_core.specs.declared.event.Event.{Event}
use Rattle.oz_core.specs.declared.opening.Opening.{Opening}
use Rattle.oz_core.specs.Nodes.{is_closed}
use Rattle.oz_core.specs.Scm.{is_up}
use Rattle.oz_repl.specs.declared.repl.view.View.{View}
use Rattle.oz_repl.specs.repl.View.{Agree, AgreeInPart, Allows, IsNext}
use Rattle.oz_service.specs.Emptied.{IsDone}
use Rattle.oz_service.specs.Viewed.{IsSeenAs}

-- both lists of flags have one for each member, and the same for each that is up
module _ (view : View) (other : List Bool) (long : length view.closed ≡ length view.up) (long_other : length other ≡ length view.up)
    (same : (place : ℕ) → slice_get view.up place ≡ Some true → slice_get view.closed place ≡ slice_get other place) where
  abbrev shown : View
  shown = record view { closed = other }

  agree_so : Agree view → Agree shown
  agree_so agree = record {
    up = agree.up;
    closed = λ k d lt.
        let up_lt : k < length view.up = omega (arith, lt, long_other) in
        let closed_lt : k < length view.closed = omega (arith, up_lt, long) in
        let up : slice_get view.up k ≡ Some true = slice_get-get_or view.up k d up_lt ∙ ap Some (agree.up k d up_lt) in
        sym (same_Some (get_or view.closed k d) (get_or other k d)
        (sym (slice_get-get_or view.closed k d closed_lt) ∙ same k up ∙ slice_get-get_or other k d lt))
        ∙ agree.closed k d closed_lt;
    alike = agree.alike;
  }

  agree_back : Agree shown → Agree view
  agree_back agree = record {
    up = agree.up;
    closed = λ k d lt.
        let up_lt : k < length view.up = omega (arith, lt, long) in
        let other_lt : k < length other = omega (arith, up_lt, long_other) in
        let up : slice_get view.up k ≡ Some true = slice_get-get_or view.up k d up_lt ∙ ap Some (agree.up k d up_lt) in
        same_Some (get_or view.closed k d) (get_or other k d)
        (sym (slice_get-get_or view.closed k d lt) ∙ same k up ∙ slice_get-get_or other k d other_lt)
        ∙ agree.closed k d other_lt;
    alike = agree.alike;
  }

  allows_so : (event : Step) → Allows view event → Allows shown event
  allows_so step.Finalize it = it
  allows_so step.QuasiClose it = record {
    some = it.some;
    closed = λ place up. sym (same place up) ∙ it.closed place up;
    apart = λ agree. it.apart (agree_back agree);
  }
  allows_so step.Close it = agree_so it
  allows_so step.ForceClose it = agree_so it
  allows_so step.Delete it = record { up = it.up; empty = it.empty }
  allows_so step.Cleanup it = it

  allows_back : (event : Step) → Allows shown event → Allows view event
  allows_back step.Finalize it = it
  allows_back step.QuasiClose it = record {
    some = it.some;
    closed = λ place up. same place up ∙ it.closed place up;
    apart = λ agree. it.apart (agree_so agree);
  }
  allows_back step.Close it = agree_back it
  allows_back step.ForceClose it = agree_back it
  allows_back step.Delete it = record { up = it.up; empty = it.empty }
  allows_back step.Cleanup it = it

pub next_as_seen : (opening : Opening) (story : List Event) (number : ℕ) (view : View) (event : Step) → (seen : IsSeenAs opening story number view)
    → IsNext view event ↔ IsNext (record view { closed = seen.closed }) event
next_as_seen opening story number view event seen =
    let many_up : length view.up ≡ length view.members = ap length seen.is_view.up ∙ length-map view.members (λ dn. is_up dn story) in
    let many_closed : length seen.closed ≡ length view.members =
    ap length seen.is_view.closed ∙ length-map view.members (λ dn. is_closed opening story dn number) in
    let long : length view.closed ≡ length view.up = seen.many ∙ sym many_up in
    let long_other : length seen.closed ≡ length view.up = many_closed ∙ sym many_up in (
      λ it. record { state = it.state; leads = it.leads; allowed = allows_so view seen.closed long long_other seen.same event it.allowed },
      λ it. record { state = it.state; leads = it.leads; allowed = allows_back view seen.closed long long_other seen.same event it.allowed },
    )

pub done_as_seen : (opening : Opening) (story : List Event) (number : ℕ) (view : View) → IsSeenAs opening story number view
    → ((event : Step) → IsNext view event → ⊥) → IsDone opening story number
done_as_seen opening story number view seen none = record {
  view = record view { closed = seen.closed };
  is_view = seen.is_view;
  none_next = λ event next. none event ((next_as_seen opening story number view event seen).1 next);
}
