use Rattle.std.proofs.Common.{◌≡◌, Some, sym, ◌∙◌, subst, take, rules}
use Rattle.std.specs.FinMap.{get}
use Rattle.oz_container.specs.declared.state.State.{State}
use Rattle.oz_container.specs.Steps.{next}
use Rattle.oz_core.specs.Scm.{containers}
use Rattle.oz_scm_law.proofs.Closes.{HasState, has_state, its_state, since, stepped}
use Rattle.oz_scm_law.proofs.closing.closed_is_enabled.Goals as goal

pub returns-then-is_none : goal.returns-then-is_none
returns-then-is_none c =
    let opening = c.args.opening.now in
    let story = c.args.story.now in
    let here = get (containers opening story) c.args.number in
    let at = sym c.in-Some.is ∙ c.state_of.ensures in (
      λ h.
          let comes = c.comes_to.ensures.0 h in
          let has : HasState here c.in-Some.from = has_state here c.in-Some.from at in record {
            of_scm = search rules;
            unhalted = search rules;
            container = has.container;
            made = has.made;
            by = comes.by;
            leads = subst (λ (s : State). next s comes.by ≡ Some c.args.state) (sym has.its) comes.leads;
            place = take comes.may.place story;
            since = since story comes.may.place comes.may.may.others;
            allowed = comes.may.may.allowed;
          },
      λ is. c.comes_to.ensures.1 (record {
        by = is.by;
        leads = subst (λ (s : State). next s is.by ≡ Some c.args.state) (its_state here is.container c.in-Some.from is.made at) is.leads;
        may = stepped opening story c.args.number is.by is.place is.since is.allowed;
      }),
    )
