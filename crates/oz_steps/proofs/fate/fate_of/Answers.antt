use Rattle.std.proofs.Common.{◌≡◌, length, rules, subst, sym}
use Rattle.oz_steps.specs.Grants.{IsFate}
use Rattle.oz_steps.proofs.Fates.{fate-so}
use Rattle.oz_steps.proofs.fate.fate_of.Goals as goal

pub returns-clause-so : goal.returns-clause-so
returns-clause-so c = λ o s g are.
    let size : length c.args.answers ≡ 3 = search rules in
    subst (IsFate o s g) (sym c.counted.ensures) (fate-so o s g c.args.answers size are)
