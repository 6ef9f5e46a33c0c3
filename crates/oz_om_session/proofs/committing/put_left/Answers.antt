use Rattle.std.proofs.Common.{sym, ◌∙◌}
use Rattle.oz_decision.specs.Sessions.{blocks_at}
use Rattle.oz_om_session.proofs.Blocks.{version_fits, left_fit}
use Rattle.oz_om_session.proofs.committing.put_left.Goals as goal

pub put_deleted-requires-clause-blocks : goal.put_deleted-requires-clause-blocks
put_deleted-requires-clause-blocks g c =
    let all = g.M.RowMap.rows c.args.rows.now in
    rw c.in_ok-older.ensures (version_fits (all c.args.of_session.now) (all c.args.of_key.now) c.args.pieces.now (sym c.are_committed.ensures ∙ c.if-not-are_committed.false))

pub put_deleted-requires-2-clause-blocks : goal.put_deleted-requires-2-clause-blocks
put_deleted-requires-2-clause-blocks g c =
    let all = g.M.RowMap.rows c.args.rows.now in
    rw (c.in_ok-unused.ensures, c.session_blocks.ensures) (left_fit (blocks_at (all c.args.of_session.now)) c.args.pieces.now c.requires.blocks)
