use Rattle.std.proofs.Common.{ap, ◌∙◌}
use Rattle.oz_core.specs.Manager.{flushed_moment}
use Rattle.oz_om.specs.Asks.{legal_of_follow}
use Rattle.oz_headline.proofs.Story.{by_flushers, headline_holds}
use Rattle.oz_headline.proofs.ended.the_story_keeps_the_headline.Goals as goal

pub returns : goal.returns
returns g c coherent log numbered begun disk stopped mine story all kept sound =
    let O = g.O.Opened in
    headline_holds O.opening O.bytes O.script story g.M.Mounted.disk.faults g.M.Mounted.disk.clock stopped _ _
    log
    (legal_of_follow O.coherent O.opening O.bytes O.script story coherent all)
    (c.lines_are_told_in_order.ensures coherent numbered story all)
    (by_flushers story mine _ (c.the_flusher_alone_tells.ensures.moment story coherent all ∙ ap flushed_moment kept.own) kept.by_now) sound
