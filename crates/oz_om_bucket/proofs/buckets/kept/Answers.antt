use Rattle.std.proofs.Common.{◌≡◌, None, arith, rules}
use Rattle.oz_om_bucket.proofs.buckets.kept.Goals as goal

pub returns-clause-none : goal.returns-clause-none
returns-clause-none g c = λ same.
    let there : c.in_ok-code.field-0 ≡ None = search rules in
    (c.in_ok-code.ensures.none there, c.in_ok-in_use.ensures.none c.if-branch.false, c.in_ok-snapshot_count.ensures.none (omega arith))
