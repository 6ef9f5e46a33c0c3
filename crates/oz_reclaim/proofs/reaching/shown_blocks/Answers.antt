use Rattle.std.proofs.Common.{◌≡◌, false, List, ℕ, sym, ◌∙◌, ap, subst, rules}
use Rattle.oz_effects.specs.changes.Steps.{holds}
use Rattle.oz_reclaim.specs.Gathered.{IsLeast}
use Rattle.oz_reclaim.proofs.Least.{least_key, least_open, least_snapshot_key}
use Rattle.oz_reclaim.proofs.ShownBlocks.{three_kinds}
use Rattle.oz_rows.specs.declared.key.RowKey.TheVariants as keys
use Rattle.oz_rows.specs.Rows.{kind_of}
use Rattle.oz_reclaim.proofs.reaching.shown_blocks.Goals as goal

pub add_kind-requires : goal.add_kind-requires
add_kind-requires g c = subst IsLeast (sym (c.in_ok-first_key.ensures ∙ ap (λ (none : List ℕ). keys.Key none none none) c.in_ok-none.ensures)) least_key

pub add_kind-requires-2 : goal.add_kind-requires-2
add_kind-requires-2 g c = subst IsLeast (sym (c.in_ok-first_session.ensures ∙ ap (λ (none : List ℕ). keys.Open none none none 0) c.in_ok-none.ensures)) least_open

pub add_kind-requires-3 : goal.add_kind-requires-3
add_kind-requires-3 g c = subst IsLeast (sym (c.in_ok-first_snapshot_key.ensures ∙ ap (λ (none : List ℕ). keys.SnapshotKey none none 0 none) c.in_ok-none.ensures)) least_snapshot_key

pub returns : goal.returns
returns g c = λ block.
    let none : holds c.new-blocks.result block ≡ false = search rules in
    three_kinds (g.M.RowMap.rows c.args.rows.now) block
    (holds c.new-blocks.result block) (holds c.add_kind.new.blocks block) (holds c.add_kind-2.new.blocks block) (holds c.add_kind-3.new.blocks block)
    (kind_of c.in_ok-first_key.first_key) (kind_of c.in_ok-first_session.first_session) (kind_of c.in_ok-first_snapshot_key.first_snapshot_key)
    (ap kind_of c.in_ok-first_key.ensures) (ap kind_of c.in_ok-first_session.ensures) (ap kind_of c.in_ok-first_snapshot_key.ensures)
    none (c.in_ok-add_kind.ensures block) (c.in_ok-add_kind-2.ensures block) (c.in_ok-add_kind-3.ensures block)
