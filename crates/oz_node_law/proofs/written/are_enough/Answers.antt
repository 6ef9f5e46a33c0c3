use Rattle.oz_node_law.proofs.written.are_enough.Goals as goal

pub returns-then-have_answered : goal.returns-then-have_answered
returns-then-have_answered c = (
  λ h. record { answered = c.have_answered.ensures.0 c.if-have_answered.true; quorum = c.is_quorum.ensures.0 h },
  λ is. c.is_quorum.ensures.1 is.quorum,
)
