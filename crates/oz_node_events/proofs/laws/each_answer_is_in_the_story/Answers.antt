use Rattle.std.proofs.Common.{refl}
use Rattle.oz_node_events.proofs.Answering.{answers_stand}
use Rattle.oz_node_events.proofs.laws.each_answer_is_in_the_story.Goals as goal

pub returns : goal.returns
returns g c subject members answers before after all =
    let O = g.O.Opened in
    let D = g.D.Disk in
    answers_stand D.told D.clock D.image D.faults O.coherent O.opening O.bytes O.script O.faults subject before.id before.first members answers before after refl refl all
