use Rattle.std.proofs.Common.{◌≡◌, ◌↔◌, ℕ, List, Some, true, rules, ap, subst, sym, ◌∙◌}
use Rattle.std.specs.List.{AllByRecursion}
use Rattle.oz_fields.specs.declared.block.Block.{Block}
use Rattle.oz_reclaim.specs.Reclaimable.{IsReclaimable}
use Rattle.oz_reclaim.specs.sweep.Found.{IsPartlyPinned}
use Rattle.oz_reclaim.specs.sweep.Swept.{IsSwept}
use Rattle.oz_reclaim.specs.sweep.View.{date_of}
use Rattle.oz_rows.specs.declared.key.RowKey.{RowKey}
use Rattle.oz_locks.specs.Pins.{pinned_blocks}
use Rattle.oz_locks.specs.Stripe.{StripeView}
use Rattle.oz_locks.proofs.stripe.Stripe.found.Goals as goal

pub returns-clause-found : goal.returns-clause-found
returns-clause-found g c = λ all swept.
    let f = c.in_ok-found.ensures in
    let inside : c.deref.result.now ≡ pinned_blocks c.self.inside.pins.items = search rules in
    let is : c.deref.result.now ≡ pinned_blocks c.args.self.now.pins = inside ∙ ap (λ (v : StripeView _). pinned_blocks v.pins) c.self.view_is in
    let own = subst (λ (v : StripeView _). IsSwept v.reclaim.sweep all) (sym c.self.view_is) swept in record {
      only = λ n backed. subst (λ (l : List Block). AllByRecursion (λ (row : RowKey × ℕ). IsReclaimable all n l row.0) c.in_ok-found.found.rows.items) is (f.only all n own backed);
      first = λ n backed key may. f.first all n own backed key (subst (λ (l : List Block). IsReclaimable all n l key) (sym is) may);
      partly = λ n backed. subst (λ (l : List Block). (c.in_ok-found.found.is_partly_pinned ≡ true) ↔ IsPartlyPinned all n l) is (f.partly all n own backed);
    }

pub returns-clause-dated : goal.returns-clause-dated
returns-clause-dated g c =
    subst (λ (v : StripeView _). AllByRecursion (λ (row : RowKey × ℕ). date_of v.reclaim.sweep row.0 ≡ Some row.1) c.in_ok-found.found.rows.items) c.self.view_is c.in_ok-found.ensures.dated
