use Rattle.std.proofs.Common.{ℕ, List, refl, [], Option, sym, subst}
use Rattle.std.specs.Prelude.{MatchOption}
use Rattle.oz_tables.specs.declared.built.body.Step.{Step}
use Rattle.oz_rows.specs.declared.entry.RowEntry.{RowEntry}
use Rattle.oz_effects.specs.Build.{NoneAtFault, IsNextBody}
use Rattle.oz_tables.specs.built.Steps.{operations_of, FirstAtFault}
use Rattle.oz_tables.proofs.built_lemmas.Bodies.{body_follows, orphan_left}
use Rattle.oz_tables.proofs.built.body.follow.Goals as goal

pub returns-in-Some-clause-damaged : goal.returns-in-Some-clause-damaged
returns-in-Some-clause-damaged c =
    let bytes = c.args.bytes.now in
    let rest = c.in_ok-head.rest.now in
    let steps : List Step = c.in_ok-steps.steps.items in
    let after : List RowEntry = c.batch.new.tables.rows in
    let none = λ (steps : List Step). NoneAtFault after (operations_of steps) (operations_of steps) [] in
    let found = subst (λ (found : Option ℕ). MatchOption found (none steps) (FirstAtFault after steps)) c.in-Some.is
    (subst (λ (steps : List Step). MatchOption c.in_ok-left.field-0 (none steps) (FirstAtFault after steps)) c.as_slice.ensures.value c.in_ok-left.ensures) in
    orphan_left c.args.last c.args.tables.now.rows bytes c.in_ok-head.head rest c.in_ok-head.ensures.head steps after c.in_ok-steps.ensures.leads c.in-Some.left found

pub returns-clause-follows : goal.returns-clause-follows
returns-clause-follows c =
    let last = c.args.last in
    let before = c.args.tables.now.rows in
    let bytes = c.args.bytes.now in
    let head = c.in_ok-head.head in
    let rest = c.in_ok-head.rest.now in
    let steps : List Step = c.in_ok-steps.steps.items in
    let after : List RowEntry = c.batch.new.tables.rows in
    let none = λ (steps : List Step). NoneAtFault after (operations_of steps) (operations_of steps) [] in
    let found = subst (λ (found : Option ℕ). MatchOption found (none steps) (FirstAtFault after steps)) c.in-None.is
    (subst (λ (steps : List Step). MatchOption c.in_ok-left.field-0 (none steps) (FirstAtFault after steps)) c.as_slice.ensures.value c.in_ok-left.ensures) in
    record {
      body = record { layout = head.layout; index = head.index; items = operations_of steps };
      next = subst (λ (rows : List RowEntry). IsNextBody last before bytes (record { layout = head.layout; index = head.index; items = operations_of steps }) rows) (sym c.reach.ensures.rows)
          (body_follows last before bytes head rest c.in_ok-head.ensures.head steps after c.in_ok-steps.ensures.leads c.requires found);
      head_is = refl;
      index = sym c.reach.ensures.last_index;
    }
