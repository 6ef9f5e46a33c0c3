use Rattle.oz_kept.specs.laws.Lines.{lines_apart}
use Rattle.oz_kept.specs.laws.Contents.{at_each, holder_got, one_content}
use Rattle.std.proofs.Common.{take}
use Rattle.oz_kept.proofs.laws.holders_have_one_content.Goals as goal

pub returns-clause-each : goal.returns-clause-each
returns-clause-each c = λ opening bytes script story block dn place coherent legal fits held.
    let its = at_each opening bytes script coherent story legal fits.steps block place dn (holder_got opening (take place story) block dn held) in
    (its.content, its.has, its.its)

pub returns-clause-one : goal.returns-clause-one
returns-clause-one c = λ opening bytes script story block content other coherent apart legal one also. one_content opening bytes script coherent apart story legal block content other one also

pub returns-clause-read : goal.returns-clause-read
returns-clause-read c = λ script numbered. lines_apart script numbered
