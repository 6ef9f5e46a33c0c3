use Rattle.std.proofs.Common.{◌≡◌, IsTrue, false, List, sym, ◌∙◌, subst, rules}
use mathlib.Core.Bool.{false≢true}
use Rattle.std.proofs.lemmas.List.{take_all}
use Rattle.oz_effects.specs.changes.Steps.{holds}
use Rattle.oz_requests.specs.declared.request.PurgeRow.{PurgeRow}
use Rattle.oz_reclaim.specs.Going.{Goes, IsPut}
use Rattle.oz_reclaim.proofs.Removing.{Chosen, chosen_next, chosen_still, are_purged, all_fit}
use Rattle.oz_rows.specs.declared.key.RowKey.{RowKey}
use Rattle.oz_reclaim.proofs.purging.keys_to_go.Goals as goal

pub loop-row-preserved-then-not-goes : goal.loop-row-preserved-then-not-goes
loop-row-preserved-then-not-goes g c =
    let all = g.M.RowMap.rows c.args.rows.now in
    let test = holds c.args.shown.now in
    let no : c.goes.result ≡ false = search rules in (
      chosen_still all test c.args.volume.now c.args.named.now c.loop-row.row-index c.row-item.result c.loop-row.keys.items
          c.loop-row-test.true c.row-item.is c.loop-row.invariant.0
          (λ goes. false≢true (sym no ∙ c.goes.ensures.1 (subst (Goes all test) (sym c.in_ok-key.ensures) goes))),
      c.loop-row.invariant.1,
    )

pub loop-row-preserved : goal.loop-row-preserved
loop-row-preserved g c =
    let all = g.M.RowMap.rows c.args.rows.now in
    let test = holds c.args.shown.now in
    let yes : IsTrue c.goes.result = search rules in (
      chosen_next all test c.args.volume.now c.args.named.now c.loop-row.row-index c.row-item.result c.loop-row.keys.items c.put_key.new.keys.items
          c.loop-row-test.true c.row-item.is c.loop-row.invariant.0
          (subst (Goes all test) c.in_ok-key.ensures (c.goes.ensures.0 yes))
          (subst (λ (key : RowKey). IsPut key c.loop-row.keys.items c.put_key.new.keys.items) c.in_ok-key.ensures c.in_ok-rise.ensures.put),
      c.in_ok-rise.ensures.rise,
    )

pub returns-clause-purged : goal.returns-clause-purged
returns-clause-purged g c =
    let all = g.M.RowMap.rows c.args.rows.now in
    let test = holds c.args.shown.now in
    are_purged all test c.args.volume.now c.args.named.now c.requires c.loop-row.keys.items
    (subst (λ (front : List PurgeRow). Chosen all test c.args.volume.now front c.loop-row.keys.items) (take_all c.loop-row.row-index c.args.named.now c.loop-row-test.false) c.loop-row.invariant.0)

pub returns-clause-fit : goal.returns-clause-fit
returns-clause-fit g c =
    let all = g.M.RowMap.rows c.args.rows.now in
    let test = holds c.args.shown.now in
    all_fit all test c.args.volume.now c.args.named.now c.requires c.loop-row.keys.items
    (subst (λ (front : List PurgeRow). Chosen all test c.args.volume.now front c.loop-row.keys.items) (take_all c.loop-row.row-index c.args.named.now c.loop-row-test.false) c.loop-row.invariant.0)
