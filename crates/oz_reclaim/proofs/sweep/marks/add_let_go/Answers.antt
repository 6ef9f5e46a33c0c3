use Rattle.std.proofs.Common.{◌≡◌, ◌↔◌, inl, true, refl, sym, subst, rules}
use Rattle.oz_effects.specs.changes.Steps.{holds}
use Rattle.oz_reclaim.specs.Work.{is_marked}
use Rattle.oz_reclaim.specs.declared.sweep.marks.LetGo.{LetGo}
use Rattle.oz_reclaim.specs.sweep.Dates.{SnapshotNames, is_marked_at}
use Rattle.oz_rows.specs.declared.key.RowKey.{RowKey}
use Rattle.oz_rows.specs.RowMaps.{row_of}
use Rattle.oz_reclaim.proofs.sweep.marks.add_let_go.Goals as goal

pub returns : goal.returns
returns c =
    let all = row_of c.args.durable.now.rows in
    let there : is_marked (all c.args.note.now.key) ≡ true = search rules in
    let marked = subst (λ (k : RowKey). is_marked_at all k ≡ true) (sym c.in-Snapshot.is) (subst (λ (k : RowKey). is_marked (all k) ≡ true) c.in-Snapshot.is there) in
    let entry : LetGo = record { index = c.args.note.now.index; blocks = c.in_ok-blocks.blocks } in
    inl (
      marked,
      entry,
      (refl, λ block. subst (λ (k : RowKey). (holds c.in_ok-blocks.blocks block ≡ true) ↔ SnapshotNames all k block) (sym c.in-Snapshot.is) (c.in_ok-blocks.ensures block)),
      c.in_ok-push.ensures.items,
    )
