use Rattle.std.proofs.Common.{inl, inr, ap, refl, subst, sym, ◌∙◌}
use Rattle.oz_reclaim.specs.sweep.Swept.{IsSwept, IsSweptTo}
use Rattle.oz_reclaim.specs.sweep.View.{SweepView}
use Rattle.oz_rows.specs.RowMaps.{row_of}
use Rattle.oz_tables.specs.Tables.{TableView}
use Rattle.oz_locks.specs.Stripe.{StripeView}
use Rattle.oz_locks.proofs.Reclaiming.{keeps_brought}
use Rattle.oz_locks.proofs.Seated.{whole_reclaimed}
use Rattle.oz_locks.proofs.stripe.Stripe.sweep.Goals as goal

pub invariant_of-self : goal.invariant_of-self
invariant_of-self g c =
    let s = c.self.inside in
    let still = subst (λ (t : TableView). IsSweptTo s.reclaim.sweep s.flushed (row_of t.rows) → IsSweptTo c.bring.new.self s.flushed (row_of t.rows)) c.durable-durable.ensures c.bring.ensures.still in
    whole_reclaimed _ _ _ _ _ _ _ _ _ _ _ _ _ _ c.self.invariant
    (keeps_brought _ _ _ _ (record { sweep = c.bring.new.self; may_be_marked = s.reclaim.may_be_marked }) c.self.invariant.1.reclaims
    (inr (ap (λ (w : SweepView). w.noted) c.in_err-bring.ensures.same)) still refl)

pub invariant_of-self-2 : goal.invariant_of-self-2
invariant_of-self-2 g c =
    let s = c.self.inside in
    let still = subst (λ (t : TableView). IsSweptTo s.reclaim.sweep s.flushed (row_of t.rows) → IsSweptTo c.bring.new.self s.flushed (row_of t.rows)) c.durable-durable.ensures c.bring.ensures.still in
    whole_reclaimed _ _ _ _ _ _ _ _ _ _ _ _ _ _ c.self.invariant
    (keeps_brought _ _ _ _ (record { sweep = c.bring.new.self; may_be_marked = s.reclaim.may_be_marked }) c.self.invariant.1.reclaims (inl c.in_ok-bring.ensures.noted) still refl)

pub returns-clause-swept : goal.returns-clause-swept
returns-clause-swept g c = λ coherent.
    let s = c.self.inside in
    subst (λ (t : TableView). IsSwept c.bring.new.self (row_of t.rows)) (c.durable-durable.ensures ∙ ap (λ (v : StripeView _). v.cache.durable) c.self.view_is)
    (c.in_ok-bring.ensures.swept (subst (λ (t : TableView). IsSweptTo s.reclaim.sweep s.flushed (row_of t.rows)) (sym c.durable-durable.ensures) (c.self.invariant.1.reclaims.swept coherent)))
