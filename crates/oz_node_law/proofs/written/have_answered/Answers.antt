use Rattle.std.proofs.Common.{sym, ◌∙◌}
use Rattle.oz_node_law.proofs.Answered.{answered, answered-by}
use Rattle.oz_node_law.proofs.written.have_answered.Goals as goal

pub returns : goal.returns
returns c = (
  λ h. answered c.args.story.now c.args.block c.args.id c.args.dns.now (sym c.all_answered.ensures ∙ h),
  λ all. c.all_answered.ensures ∙ answered-by c.args.story.now c.args.block c.args.id c.args.dns.now all,
)
