use Rattle.std.proofs.Common.{List, sym, subst}
use Rattle.oz_effects.specs.changes.Steps.{holds}
use Rattle.oz_reclaim.specs.Gathered.{AreAllOf}
use Rattle.oz_reclaim.proofs.ShownBlocks.{shown_in}
use Rattle.oz_rows.specs.declared.entry.RowEntry.{RowEntry}
use Rattle.oz_rows.specs.Rows.{kind_of}
use Rattle.oz_reclaim.proofs.reaching.add_kind.Goals as goal

pub returns : goal.returns
returns g c = λ block.
    let all = g.M.RowMap.rows c.args.rows.now in
    let kind = kind_of c.args.start.now in
    let found : List RowEntry = c.as_slice.result.now in
    let are = subst (λ (found : List RowEntry). AreAllOf all kind found) (sym c.as_slice.ensures.value) c.in_ok-found.ensures in
    shown_in all kind block found are (holds c.args.blocks.now block) (holds c.add_shown.new.blocks block) (c.in_ok-add_shown.ensures block)
