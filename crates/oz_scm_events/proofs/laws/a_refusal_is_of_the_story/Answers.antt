use Rattle.oz_scm_events.proofs.Needed.{refused_there}
use Rattle.oz_scm_events.proofs.laws.a_refusal_is_of_the_story.Goals as goal

pub returns : goal.returns
returns g c story exclude fault coherent all is =
    let O = g.O.Opened in
    refused_there O.coherent O.opening O.bytes O.script coherent story all exclude fault is
