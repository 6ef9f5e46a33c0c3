use Rattle.std.proofs.Common.{◌≡◌, ◌+◌, ◌<◌, ℕ, List, length, get_or, sym, ◌∙◌, ap, subst, arith}
use Rattle.oz_rows.specs.declared.key.RowKey.{RowKey}
use Rattle.oz_rows.specs.Rows.{kind_of}
use Rattle.oz_loaded.specs.Walks.{IsFirstOfKind, StandBefore, first_keys}
use Rattle.oz_loaded.proofs.Firsts.{first_at, kind_at}
use Rattle.oz_loaded.proofs.Gathering.{nothing_before, all_before}
use Rattle.oz_loaded.proofs.walking.all_rows.Goals as goal

pub loop-start-init : goal.loop-start-init
loop-start-init c = subst (StandBefore 1 c.args.tables.now.rows) (sym c.new-found.ensures.items) (nothing_before c.args.tables.now.rows)

pub with_kind-requires-clause-first : goal.with_kind-requires-clause-first
with_kind-requires-clause-first c =
    let i = c.loop-start.start-index in
    let key = c.start-item.result in
    let is : key ≡ get_or first_keys i key = c.start-item.is ∙ ap (λ (l : List RowKey). get_or l i key) c.requires in
    let below : i < 9 = omega (arith, c.loop-start-test.true, ap length c.requires) in
    subst IsFirstOfKind (sym is) (first_at i key below)

pub with_kind-requires-clause-before : goal.with_kind-requires-clause-before
with_kind-requires-clause-before c =
    let i = c.loop-start.start-index in
    let key = c.start-item.result in
    let is : key ≡ get_or first_keys i key = c.start-item.is ∙ ap (λ (l : List RowKey). get_or l i key) c.requires in
    let below : i < 9 = omega (arith, c.loop-start-test.true, ap length c.requires) in
    subst (λ (kind : ℕ). StandBefore kind c.args.tables.now.rows c.loop-start.found.items) (sym (ap kind_of is ∙ kind_at i key below)) c.loop-start.invariant

pub returns : goal.returns
returns c =
    let end : c.loop-start.start-index + 1 ≡ 10 = omega (arith, c.loop-start-test.false, c.loop-start.auto.start-index-end, ap length c.requires) in
    all_before c.args.tables.now.rows c.loop-start.found.items (subst (λ (kind : ℕ). StandBefore kind c.args.tables.now.rows c.loop-start.found.items) end c.loop-start.invariant)
