use Rattle.std.proofs.Common.{sym, ◌∙◌}
use Rattle.oz_node_law.proofs.Found.{false-true}
use Rattle.oz_node_law.proofs.written.wrote_is_enabled.Goals as goal

pub returns-then-is_granted : goal.returns-then-is_granted
returns-then-is_granted c =
    let granted = c.is_granted.ensures.0 c.if-is_granted.true in (
      λ h. let by = c.is_written_by.ensures.0 h in record {
        of_line = by.0.of_line;
        before = granted.0;
        granted = granted.1;
        answered = by.1.answered;
        quorum = by.1.quorum;
        unwritten = by.0.unwritten;
      },
      λ is. c.is_written_by.ensures.1 (
        record { of_line = is.of_line; unwritten = is.unwritten },
        record { answered = is.answered; quorum = is.quorum },
      ),
    )

pub returns-else-is_granted : goal.returns-else-is_granted
returns-else-is_granted c = (λ h. false-true (sym c.if-is_granted.false ∙ h), λ is. c.is_granted.ensures.1 (is.before, is.granted))
