use Rattle.std.proofs.Common.{◌≡◌, ℕ, ◌-◌, Some, get_or, arith, sym, ap, ◌∙◌, ⊎_elim}
use Rattle.std.proofs.lemmas.Bool.{cases_lt, false≢true}
use Rattle.std.proofs.lemmas.Bool.Decides.{nat_tests}
use Rattle.std.proofs.lemmas.Option.{slice_get-get_or}
use Rattle.std.specs.List.{slice_get}
use Rattle.oz_core.specs.declared.event.Event.{Event}
use Rattle.oz_core.specs.declared.event.EventKind.{EventKind}
use Rattle.oz_core.specs.declared.event.EventKind.TheVariants.{Ask}
use Rattle.oz_kept.specs.laws.Deleted.{found_at}
use Rattle.oz_om.proofs.finding.last_ask_of.Goals as goal

pub returns-then-asks-clause-some : goal.returns-then-asks-clause-some
returns-then-asks-clause-some c =
    let within = c.loop-place.invariant.within in
    let event = get_or c.args.story.now (c.loop-place.place - 1) c.index-story-place.result in
    let got : slice_get c.args.story.now (c.loop-place.place - 1) ≡ Some event =
    slice_get-get_or c.args.story.now (c.loop-place.place - 1) c.index-story-place.result (grind (arith, nat_tests, within, c.loop-place-test.true)) in
    let found = c.asks.ensures.0 c.if-asks.true in
    record {
      request = found.0;
      there = (event.seat, got ∙ ap (λ (k : EventKind). Some (record { seat = event.seat; kind = k })) found.1);
      last = λ later seat other lt is. c.loop-place.invariant.none later seat other (omega (arith, lt)) is;
    }

pub loop-place-preserved : goal.loop-place-preserved
loop-place-preserved c =
    let within = c.loop-place.invariant.within in
    let event = get_or c.args.story.now (c.loop-place.place - 1) c.index-story-place.result in
    let got : slice_get c.args.story.now (c.loop-place.place - 1) ≡ Some event =
    slice_get-get_or c.args.story.now (c.loop-place.place - 1) c.index-story-place.result (grind (arith, nat_tests, within, c.loop-place-test.true)) in
    record {
      within = omega (arith, within);
      none = λ k seat request le is. ⊎_elim
          (λ lt.
          let at : k ≡ c.loop-place.place - 1 = omega (arith, le, lt) in
          let here = sym got ∙ (ap (slice_get c.args.story.now) (sym at) ∙ is) in
          let same : event ≡ record { seat = seat; kind = Ask c.args.id request } = cc in
          false≢true (sym c.if-asks.false ∙ c.asks.ensures.1 (request, ap (λ (e : Event). e.kind) same)))
          (λ ge. c.loop-place.invariant.none k seat request ge is)
          (cases_lt k c.loop-place.place);
    }

pub returns-clause-none : goal.returns-clause-none
returns-clause-none c = λ seat request there.
    c.loop-place.invariant.none there.0 seat request (grind (arith, nat_tests, c.loop-place-test.false)) (found_at c.args.story.now (record { seat = seat; kind = Ask c.args.id request }) there)
