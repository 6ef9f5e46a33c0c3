use Rattle.oz_node_events.proofs.Quorum.{granted_came}
use Rattle.oz_node_events.proofs.laws.what_was_granted_came_in_the_story.Goals as goal

pub returns : goal.returns
returns g c coherent fresh story before id block dn all granted had =
    let O = g.O.Opened in
    granted_came O.coherent O.opening O.bytes O.script coherent fresh story before id block all granted dn had
