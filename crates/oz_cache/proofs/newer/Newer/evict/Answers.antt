use Rattle.std.proofs.Common.{sym, ◌∙◌, ap, subst}
use Rattle.oz_cache.specs.Linked.{NewerView, AreLinked}
use Rattle.oz_cache.specs.Places.{found, written_in, if_later}
use Rattle.oz_cache.proofs.Links.{front_of, popped_linked, popped_rows, later_rows}
use Rattle.oz_cache.proofs.newer.Newer.evict.Goals as goal

pub invariant_of-self : goal.invariant_of-self
invariant_of-self g c =
    let rows = c.self.inside.rows.rows.entries in
    let es = c.self.inside.epochs.entries in
    let front = front_of c.args.epoch es (c.in-Some._epoch, c.in-Some.key) (sym c.in-Some.ensures.front) in
    record {
      linked = subst (AreLinked (found c.take.new.self.rows.entries)) (sym c.in-Some.ensures.rest)
          (popped_linked c.args.epoch (found rows) (found c.take.new.self.rows.entries) es c.self.invariant.linked c.in-Some.key front c.take.ensures.rows);
      order = c.in-Some.ensures.order;
    }

pub returns-in-Some-clause-rows : goal.returns-in-Some-clause-rows
returns-in-Some-clause-rows g c = λ key.
    let rows = c.self.inside.rows.rows.entries in
    let es = c.self.inside.epochs.entries in
    let front = front_of c.args.epoch es (c.in-Some._epoch, c.in-Some.key) (sym c.in-Some.ensures.front) in
    popped_rows c.args.epoch (found rows) (found c.take.new.self.rows.entries) es c.self.invariant.linked c.in-Some.key front c.take.ensures.rows key
    ∙ ap (λ (w : NewerView). if_later c.args.epoch (written_in w.rows key)) c.self.view_is

pub returns-in-None-clause-all_later : goal.returns-in-None-clause-all_later
returns-in-None-clause-all_later g c = λ _ key.
    later_rows c.args.epoch (found c.self.inside.rows.rows.entries) c.self.inside.epochs.entries c.self.invariant.linked c.self.invariant.order.epochs (sym c.in-None.ensures.front) key
