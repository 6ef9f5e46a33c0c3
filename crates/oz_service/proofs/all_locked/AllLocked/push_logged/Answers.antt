use Rattle.std.proofs.Common.{arith, refl, ℕ}
use Rattle.oz_scm.specs.grants.Made.{log_of}
use Rattle.oz_service.specs.Viewed.{IsToGo}
use Rattle.oz_service.proofs.Grown.{grown_all, grown_more, grown_none}
use Rattle.oz_service.proofs.all_locked.AllLocked.push_logged.Goals as goal

pub loop-local-init : goal.loop-local-init
loop-local-init g c =
    grown_none (λ (x : ℕ). IsToGo (log_of c.args.self.now.scm.scm.made) c.args.old.now c.args.container x) c.args.held.now c.args.logged.now.items

pub loop-local-preserved : goal.loop-local-preserved
loop-local-preserved g c =
    grown_more (λ (x : ℕ). IsToGo (log_of c.args.self.now.scm.scm.made) c.args.old.now c.args.container x) c.args.held.now c.args.logged.now.items
    c.loop-local.logged.items _ c.loop-local.local-index _ c.loop-local.invariant (omega arith) refl c.in_ok-push_if_to_go.ensures

pub returns : goal.returns
returns g c =
    grown_all (λ (x : ℕ). IsToGo (log_of c.args.self.now.scm.scm.made) c.args.old.now c.args.container x) c.args.held.now c.args.logged.now.items
    c.loop-local.logged.items c.loop-local.local-index c.loop-local.invariant (omega arith)
