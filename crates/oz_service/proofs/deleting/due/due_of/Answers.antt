use Rattle.std.proofs.Common.{◌<◌, ◌&&◌, All, not, sym, ◌∙◌, subst}
use Rattle.std.proofs.lemmas.List.Elements.{All-filter}
use Rattle.oz_core.specs.Scm.{is_up}
use Rattle.oz_dellog.specs.Logged.{is_acknowledged_by}
use Rattle.oz_scm.specs.grants.Log.{IsLocalCount}
use Rattle.oz_service.proofs.Due.{is_some_number}
use Rattle.oz_service.proofs.deleting.due.due_of.Goals as goal

pub returns-clause-sound : goal.returns-clause-sound
returns-clause-sound g c =
    let logged = c.args.logged.now in
    record {
      number = is_some_number c.args.number c.if-number-eq0.false;
      counted = subst IsLocalCount (sym (c.of.ensures ∙ (c.in_ok-locals.ensures.items ∙ c.items.ensures))) c.requires.counted;
      there = subst (All (λ dn. dn < c.args.count)) (sym c.in_ok-receivers.ensures)
          (All-filter (λ dn. is_up dn c.args.scm.now.mine && not (is_acknowledged_by logged dn)) (λ dn. dn < c.args.count) c.in-Some.dns
          (c.are_below.ensures.0 c.if-not-are_below.false));
    }
