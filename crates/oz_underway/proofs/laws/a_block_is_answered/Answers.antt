use Rattle.oz_underway.specs.laws.Writing.{given_up_way, quorum_way}
use Rattle.oz_underway.proofs.laws.a_block_is_answered.Goals as goal

pub returns-clause-given_up : goal.returns-clause-given_up
returns-clause-given_up g c coherent numbered least seen later line asked said command progress granted written way writing nodes begins all so answered few now =
    let O = g.O.Opened in
    given_up_way O.coherent O.opening O.bytes O.script seen line asked said command progress granted written coherent numbered way writing nodes least later begins all so answered few now

pub returns-clause-written : goal.returns-clause-written
returns-clause-written g c coherent numbered least seen later line asked said command progress granted written way writing nodes begins all so answered two wrote_it now =
    let O = g.O.Opened in
    quorum_way O.coherent O.opening O.bytes O.script seen line asked said command progress granted written coherent numbered way writing nodes least later begins all so answered two wrote_it now
