use Rattle.oz_underway.specs.laws.Said.{put_stay, refused_stay, written_stay}
use Rattle.oz_underway.proofs.laws.written_blocks_stay.Goals as goal

pub returns-clause-written : goal.returns-clause-written
returns-clause-written g c client line seen story begins same = written_stay client line seen story begins same

pub returns-clause-refused : goal.returns-clause-refused
returns-clause-refused g c client line dn counts grant seen story of begins same =
    refused_stay client line dn counts grant of seen story begins same

pub returns-clause-put : goal.returns-clause-put
returns-clause-put g c coherent client line dn seen before id block other of was story begins all same =
    let O = g.O.Opened in
    put_stay O.coherent O.opening O.bytes O.script client line dn seen before id block coherent other of was story begins all same
