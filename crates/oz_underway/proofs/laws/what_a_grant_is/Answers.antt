use Rattle.std.proofs.Common.{◌≢◌, ℕ, ◌<◌, List, length, sym, subst, All, AllPairs}
use Rattle.oz_underway.specs.laws.Grants.{its_ask, its_members, its_numbers, its_pipeline}
use Rattle.oz_underway.specs.laws.Members.{members_apart, members_known}
use Rattle.oz_underway.proofs.laws.what_a_grant_is.Goals as goal

pub returns-clause-members : goal.returns-clause-members
returns-clause-members g c coherent story place pipeline id block all (seat, index, batch, is) =
    let O = g.O.Opened in (
      its_members O.coherent O.opening O.bytes O.script story coherent all place seat index pipeline id block batch is,
      its_pipeline O.coherent O.opening O.bytes O.script story coherent all place seat index pipeline id block batch is,
    )

pub returns-clause-apart : goal.returns-clause-apart
returns-clause-apart g c coherent least story place pipeline id block all (seat, index, batch, is) =
    let O = g.O.Opened in
    let members = its_members O.coherent O.opening O.bytes O.script story coherent all place seat index pipeline id block batch is in
    let known = its_pipeline O.coherent O.opening O.bytes O.script story coherent all place seat index pipeline id block batch is in (
      subst (λ (l : List ℕ). AllPairs ◌≢◌ l) (sym members) (members_apart (length O.opening.nodes) pipeline least known),
      subst (λ (l : List ℕ). All (λ dn. dn < length O.opening.nodes) l) (sym members) (members_known (length O.opening.nodes) pipeline least),
    )

pub returns-clause-numbers : goal.returns-clause-numbers
returns-clause-numbers g c coherent some numbered story place pipeline id block all (seat, index, batch, is) =
    let O = g.O.Opened in
    its_numbers O.coherent O.opening O.bytes O.script story coherent all place seat index pipeline id block batch is some numbered

pub returns-clause-granted : goal.returns-clause-granted
returns-clause-granted g c coherent story place pipeline id block all (seat, index, batch, is) =
    let O = g.O.Opened in
    its_ask O.coherent O.opening O.bytes O.script story coherent all place seat index pipeline id block batch is
