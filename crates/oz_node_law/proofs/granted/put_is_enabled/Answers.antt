use Rattle.std.proofs.Common.{sym, ◌∙◌}
use Rattle.oz_node_law.proofs.Found.{false-true}
use Rattle.oz_node_law.proofs.granted.put_is_enabled.Goals as goal

pub returns-then-may_take : goal.returns-then-may_take
returns-then-may_take c =
    let may = c.may_take.ensures.0 c.if-may_take.true in (
      λ h. let at = c.is_piece.ensures.0 h in record {
        of_datanode = may.of_datanode;
        runs = may.runs;
        member = may.member;
        unclosed = may.unclosed;
        new = may.new;
        before = at.1.before;
        granted = at.1.granted;
        place = at.1.place;
        some = at.0.0;
        within = at.0.1;
      },
      λ is. c.is_piece.ensures.1 ((is.some, is.within), record { before = is.before; granted = is.granted; place = is.place }),
    )

pub returns-else-may_take : goal.returns-else-may_take
returns-else-may_take c = (
  λ h. false-true (sym c.if-may_take.false ∙ h),
  λ is. c.may_take.ensures.1 (record {
    of_datanode = is.of_datanode;
    runs = is.runs;
    member = is.member;
    unclosed = is.unclosed;
    new = is.new;
  }),
)
