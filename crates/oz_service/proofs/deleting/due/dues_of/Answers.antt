use Rattle.std.proofs.Common.{◌++◌, ℕ, All, filter_map, sym, subst, ◌∙◌}
use Rattle.std.proofs.lemmas.List.Elements.{All-head, All-nil, All-tail}
use Rattle.std.proofs.lemmas.Map.Iter.{rest_more}
use Rattle.std.specs.Map.Iter.{deref_pair}
use Rattle.oz_dellog.specs.declared.logged.Logged.{Logged}
use Rattle.oz_scm.specs.grants.Log.{IsLocalCount}
use Rattle.oz_service.specs.Sending.{IsSound, due_in, dues_in}
use Rattle.oz_service.proofs.Due.{each_counted}
use Rattle.oz_service.proofs.Entries.{all_more, given_more}
use Rattle.oz_service.proofs.deleting.due.dues_of.Goals as goal

abbrev Counted : ℕ × Logged → Type 0
Counted entry = IsLocalCount entry.1.locals

pub loop-number-init : goal.loop-number-init
loop-number-init g c =
    let rest = c.into_iter-number-iterator.ensures.into_iter_gives ∙ c.unretired-number-items.ensures.rest in
    record {
      dues = (λ i. c.new-dues.ensures.items i ++ filter_map (due_in g.O.Opened.opening c.args.scm.now.mine) (rest i));
      sound = subst (All (IsSound c.args.count)) (sym c.new-dues.ensures.items) (All-nil (IsSound c.args.count));
      counted = subst (All Counted) (sym rest) (each_counted c.args.scm.now.scm.made c.are_counted.ensures);
    }

pub due_of-requires-clause-counted : goal.due_of-requires-clause-counted
due_of-requires-clause-counted g c =
    All-head Counted (c.in-Some.number.now, c.in-Some.logged.now) c.next.new.self
    (subst (All Counted) (rest_more deref_pair _ _ _ _ c.in-Some.is c.next.ensures.steps) c.loop-number.invariant.counted)

pub loop-number-preserved : goal.loop-number-preserved
loop-number-preserved g c =
    let kept = c.loop-number.invariant in
    let entry : ℕ × Logged = (c.in-Some.number.now, c.in-Some.logged.now) in
    let more = rest_more deref_pair _ _ _ _ c.in-Some.is c.next.ensures.steps in
    record {
      dues = given_more (due_in g.O.Opened.opening c.args.scm.now.mine) c.loop-number.dues.items c.push_some.new.dues.items (dues_in g.O.Opened.opening c.args.scm.now.mine c.args.scm.now.scm.made) entry
          c.next.new.self c.loop-number.number-iterator c.in_ok-due.due more
          c.in_ok-due.ensures.due c.in_ok-push_some.ensures kept.dues;
      sound = all_more (IsSound c.args.count) c.loop-number.dues.items c.push_some.new.dues.items c.in_ok-due.due kept.sound c.in_ok-due.ensures.sound c.in_ok-push_some.ensures;
      counted = All-tail Counted entry c.next.new.self (subst (All Counted) more kept.counted);
    }
