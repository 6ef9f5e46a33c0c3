use Rattle.std.proofs.Common.{All, rules, sym, subst}
use Rattle.std.proofs.lemmas.List.{take_all}
use Rattle.std.proofs.lemmas.List.Elements.{All-drop}
use Rattle.oz_service.specs.Purges.{MayBeNamed, WasPurged}
use Rattle.oz_service.proofs.Going.{goes_then, stays}
use Rattle.oz_service.proofs.Purged.{all_may_on, front_then, none_yet}
use Rattle.oz_service.proofs.pass.purging.Service+Ledger+O+O+R.purge_rows.Goals as goal

pub loop-place-init : goal.loop-place-init
loop-place-init g c = record {
  within = search rules;
  none = c.requires.none;
  goes_on = stays c.args.self.now;
  risen = search rules;
  purged = λ coherent. none_yet _ c.args.rows.now;
}

pub purge_front-requires-clause-may : goal.purge_front-requires-clause-may
purge_front-requires-clause-may g c = λ coherent.
    let seen = c.loop-place.self.seen in
    subst (All (MayBeNamed seen)) (sym c.split_at.ensures.back)
    (All-drop (MayBeNamed seen) c.loop-place.place c.args.rows.now
    (all_may_on c.args.self.now.seen seen c.loop-place.invariant.goes_on.seen c.args.rows.now (c.requires.may coherent)))

pub loop-place-preserved : goal.loop-place-preserved
loop-place-preserved g c =
    let first = c.args.self.now in
    let before = c.loop-place.self in
    let after = c.purge_front.new.self in
    let its = c.in_ok-count.ensures in
    let was = c.loop-place.invariant in record {
      within = search rules;
      none = search rules;
      goes_on = goes_then first before after was.goes_on its.goes_on;
      risen = search rules;
      purged = λ coherent. front_then g.O.Opened.opening first before after c.args.rows.now c.split_at.result.1.now c.loop-place.place c.in_ok-count.count
          was.goes_on its.goes_on its.risen c.split_at.ensures.back (was.purged coherent) (its.purged coherent);
    }

pub returns-clause-purged : goal.returns-clause-purged
returns-clause-purged g c = λ coherent.
    subst (All (WasPurged g.O.Opened.opening c.args.self.now.seen c.loop-place.self.seen c.loop-place.self.purged_to))
    (take_all c.loop-place.place c.args.rows.now (search rules)) (c.loop-place.invariant.purged coherent)

pub returns-in_err-count-clause-goes_on : goal.returns-in_err-count-clause-goes_on
returns-in_err-count-clause-goes_on g c =
    goes_then c.args.self.now c.loop-place.self c.purge_front.new.self c.loop-place.invariant.goes_on c.in_err-count.ensures.goes_on
