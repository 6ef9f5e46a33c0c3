use Rattle.std.proofs.Common.{◌+◌, List, refl, sym, ◌∙◌, subst, rules, ℕ}
use Rattle.oz_rows.specs.declared.entry.RowEntry.{RowEntry}
use Rattle.oz_rows.specs.RowMaps.{row_of, HasNoNext}
use Rattle.oz_loaded.specs.Walks.{StandBefore}
use Rattle.oz_loaded.proofs.Gathering.{Walked, begins, steps, ends}
use Rattle.oz_loaded.proofs.walking.with_kind.Goals as goal

pub loop-init : goal.loop-init
loop-init c =
    let all = c.args.tables.now.rows in (
      subst (λ (found : List RowEntry). Walked all found c.args.start.now) (sym c.in_ok-found.ensures)
          (begins c.args.start.now c.requires.first all c.args.lower.items c.rows_are_in_order.ensures c.requires.before),
      refl,
    )

pub returns-in_default : goal.returns-in_default
returns-in_default c =
    let all = c.args.tables.now.rows in
    let none : HasNoNext (row_of all) c.loop.last.now = search rules in
    subst (λ (kind : ℕ). StandBefore (kind + 1) all c.loop.found.items) c.loop.invariant.1
    (ends all c.loop.found.items c.loop.last.now c.rows_are_in_order.ensures none c.loop.invariant.0)

pub loop-preserved : goal.loop-preserved
loop-preserved c =
    let all = c.args.tables.now.rows in (
      subst (λ (found : List RowEntry). Walked all found c.in-Some.key.now) (sym c.in_ok-push.ensures.items)
          (steps all c.loop.found.items c.loop.last.now c.rows_are_in_order.ensures c.in-Some.key.now c.in-Some.row.now c.in-Some.ensures c.loop.invariant.0),
      c.in-Some.ensures.is_above.same_kind ∙ c.loop.invariant.1,
    )
