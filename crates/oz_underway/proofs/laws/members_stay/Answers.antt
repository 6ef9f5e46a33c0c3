use Rattle.oz_asker.specs.laws.Asks.{legal_of_follow}
use Rattle.oz_underway.specs.laws.Made.{members_same, named_made, reached_made, three_members}
use Rattle.oz_underway.proofs.laws.members_stay.Goals as goal

pub returns-clause-stay : goal.returns-clause-stay
returns-clause-stay g c number seen some story begins all =
    let O = g.O.Opened in
    members_same O.opening seen story number begins some

pub returns-clause-three : goal.returns-clause-three
returns-clause-three g c number story some =
    let O = g.O.Opened in
    three_members O.opening story number some

pub returns-clause-named : goal.returns-clause-named
returns-clause-named g c coherent whole story id block all named =
    let O = g.O.Opened in
    named_made O.opening O.bytes whole.blocks story (legal_of_follow O.coherent O.opening O.bytes O.script story coherent all) block id named

pub returns-clause-reached : goal.returns-clause-reached
returns-clause-reached g c coherent whole story block all reached =
    let O = g.O.Opened in
    reached_made O.opening O.bytes whole.blocks story (legal_of_follow O.coherent O.opening O.bytes O.script story coherent all) block reached
