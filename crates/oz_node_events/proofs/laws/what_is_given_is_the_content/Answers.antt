use Rattle.oz_node_events.proofs.Given.{first_content, gave_content, read_content}
use Rattle.oz_node_events.proofs.laws.what_is_given_is_the_content.Goals as goal

pub returns-clause-read : goal.returns-clause-read
returns-clause-read g c coherent view after old new block given stood stays read stands =
    let O = g.O.Opened in
    let D = g.D.Disk in
    read_content O.coherent O.opening O.bytes O.script O.faults D.told D.clock D.image D.faults coherent view after old new block given stood stays read stands

pub returns-clause-gave : goal.returns-clause-gave
returns-clause-gave g c coherent subject size dn given before after story gave begins all =
    let O = g.O.Opened in
    let D = g.D.Disk in
    gave_content O.coherent O.opening O.bytes O.script O.faults D.told D.clock D.image D.faults coherent subject size dn given before after story gave begins all

pub returns-clause-first : goal.returns-clause-first
returns-clause-first g c coherent subject size members given before after story first begins all =
    let O = g.O.Opened in
    let D = g.D.Disk in
    first_content O.coherent O.opening O.bytes O.script O.faults D.told D.clock D.image D.faults coherent subject size members given before after story first begins all
