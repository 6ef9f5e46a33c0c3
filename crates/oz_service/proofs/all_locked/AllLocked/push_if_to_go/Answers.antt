use Rattle.std.proofs.Common.{◌≡◌, ◌⊎◌, ◌↔◌, ℕ, List, Contains, sym, subst}
use Rattle.oz_scm.specs.grants.Made.{log_of}
use Rattle.oz_service.specs.Viewed.{IsToGo}
use Rattle.oz_service.proofs.Grown.{grown_one}
use Rattle.oz_service.proofs.all_locked.AllLocked.push_if_to_go.Goals as goal

pub returns-in_ok-push : goal.returns-in_ok-push
returns-in_ok-push g c =
    let log = log_of c.args.self.now.scm.scm.made in
    let goes = IsToGo log c.args.old.now c.args.container c.args.local in
    subst
    (λ (l : List ℕ). (other : ℕ) → Contains l other ↔ (Contains c.args.logged.now.items other ⊎ ((other ≡ c.args.local) × goes)))
    (sym c.in_ok-push.ensures.items)
    (grown_one (λ local. IsToGo log c.args.old.now c.args.container local) c.args.logged.now.items c.args.local (c.is_to_go.ensures.0 c.if-is_to_go.true))
