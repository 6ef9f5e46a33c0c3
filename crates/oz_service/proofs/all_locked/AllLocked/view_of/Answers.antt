use Rattle.std.proofs.Common.{◌≡◌, ◌<◌, ℕ, List, [], length, Contains, sym, ◌∙◌, ap, subst, arith, rules}
use Rattle.std.specs.FinMap.{get}
use Rattle.oz_core.specs.declared.event.Event.{Event}
use Rattle.oz_core.specs.Scm.{containers, is_retired, is_up, logs}
use Rattle.oz_core.specs.Manager.{halt_of}
use Rattle.oz_core.specs.declared.event.Node.TheVariants.{Scm}
use Rattle.oz_scm.specs.grants.Made.{log_of}
use Rattle.oz_service.specs.Viewed.{IsToGo}
use Rattle.oz_service.proofs.Grown.{Grown}
use Rattle.oz_service.proofs.Viewed.{log_kept, member_rises, seen_as_of, three_grown, three_of, three_rise}
use Rattle.oz_service.proofs.all_locked.AllLocked.view_of.Goals as goal

pub returns-clause-rising : goal.returns-clause-rising
returns-clause-rising g c =
    let all = c.args.self.now in
    let count = c.is_kept.ensures.count in
    let known = c.requires.known in
    let dns = c.args.dns in
    record {
      held = three_rise c.in_ok-first.first.held c.in_ok-second.second.held c.in_ok-third.third.held
          (member_rises all c.args.container _ _ _ _ (omega (arith, known 0 0 (search rules), count)) c.in_ok-first.ensures)
          (member_rises all c.args.container _ _ _ _ (omega (arith, known 1 0 (search rules), count)) c.in_ok-second.ensures)
          (member_rises all c.args.container _ _ _ _ (omega (arith, known 2 0 (search rules), count)) c.in_ok-third.ensures);
      logged = c.in_ok-logged.ensures.rising;
    }

pub returns-clause-view : goal.returns-clause-view
returns-clause-view g c story shown =
    let O = g.O.Opened in
    let all = c.args.self.now in
    let own = shown.know.of_the_scm in
    let tells = c.the_scm_alone_tells.ensures in
    let goes = λ (local : ℕ). IsToGo (log_of all.scm.scm.made) c.args.old.now c.args.container local in
    let known = c.requires.known in
    let ups = λ (dn : ℕ). tells.up story dn shown.coherent shown.follow ∙ ap (λ (l : List Event). is_up dn l) own in
    let made = tells.containers story shown.coherent shown.follow ∙ ap (λ (l : List Event). containers O.opening l) own in
    let said = tells.logs story shown.coherent shown.follow ∙ ap (λ (l : List Event). logs O.opening l) own in
    let gone = λ (txn : ℕ). tells.retired story txn shown.coherent shown.follow ∙ ap (λ (l : List Event). is_retired txn l) own in
    let unhalted : halt_of Scm all.scm.mine ≡ _ = sym (tells.halt story shown.follow ∙ ap (λ (l : List Event). halt_of Scm l) own) ∙ shown.unhalted in
    let log = log_kept O.opening _ all.scm.scm _ all.scm.seen all.scm.mine c.has_its_log.ensures unhalted in
    let one = subst (λ (l : List ℕ). Grown goes l [] c.push_logged.new.logged.items) c.items.ensures
    (subst (λ (l : List ℕ). Grown goes c.items.result.now l c.push_logged.new.logged.items) c.new-logged.ensures.items c.in_ok-push_logged.ensures) in
    let two = subst (λ (l : List ℕ). Grown goes l c.push_logged.new.logged.items c.push_logged-2.new.logged.items) c.items-2.ensures c.in_ok-push_logged-2.ensures in
    let last = subst (λ (l : List ℕ). Grown goes l c.push_logged-2.new.logged.items c.push_logged-3.new.logged.items) c.items-3.ensures c.in_ok-push_logged-3.ensures in
    let grown = three_grown goes c.in_ok-first.first.held c.in_ok-second.second.held c.in_ok-third.third.held
    c.push_logged.new.logged.items c.push_logged-2.new.logged.items c.push_logged-3.new.logged.items one two last in
    let same = c.in_ok-logged.ensures.same in
    seen_as_of g.D.Disk O story all shown ups made said gone log c.args.container c.args.old.now c.args.state c.args.dns _ _ _
    c.in_ok-first.first.up c.in_ok-second.second.up c.in_ok-third.third.up c.in_ok-first.first.closed c.in_ok-second.second.closed c.in_ok-third.third.closed
    c.in_ok-first.first.held c.in_ok-second.second.held c.in_ok-third.third.held c.in_ok-logged.logged
    (three_of c.args.dns (search rules)) c.requires.old c.requires.state c.requires.members
    (known 0 0 (search rules)) (known 1 0 (search rules)) (known 2 0 (search rules))
    c.in_ok-first.ensures c.in_ok-second.ensures c.in_ok-third.ensures
    (λ local. (λ has. (grown local).0 ((same local).0 has), λ it. (same local).1 ((grown local).1 it)))
