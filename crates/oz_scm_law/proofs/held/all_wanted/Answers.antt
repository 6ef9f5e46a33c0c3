use Rattle.std.proofs.Common.{sym, ◌∙◌}
use Rattle.oz_replay.specs.laws.Found.{false-true}
use Rattle.oz_scm_law.specs.Words.{IsWanted}
use Rattle.oz_scm_law.proofs.Holds.{each_wanted, wanted_nodes, wanted_story}
use Rattle.oz_scm_law.proofs.held.all_wanted.Goals as goal

pub returns-then-were_wanted : goal.returns-then-were_wanted
returns-then-were_wanted c =
    let had = c.were_wanted.ensures.0 c.if-were_wanted.true in (
      λ h. each_wanted c.args.opening.now c.args.story.now c.args.number c.args.wanted had (c.came_wanted.ensures.0 h),
      λ all. c.came_wanted.ensures.1 (wanted_story (IsWanted c.args.opening.now c.args.story.now c.args.number c.args.wanted) c.args.story.now all),
    )

pub returns-else-were_wanted : goal.returns-else-were_wanted
returns-else-were_wanted c = (
  λ h. false-true (sym c.if-were_wanted.false ∙ h),
  λ all. c.were_wanted.ensures.1 (wanted_nodes c.args.opening.now c.args.story.now c.args.number c.args.wanted all),
)
