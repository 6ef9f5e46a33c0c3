use Rattle.std.proofs.Common.{◌≡◌, [], ◌∙◌, subst, arith, rules}
use Rattle.oz_rows.specs.declared.key.RowKey.TheVariants as keys
use Rattle.oz_rows.specs.Counts.{IsCount}
use Rattle.oz_decision.specs.laws.Between.{next, key_between}
use Rattle.oz_decision.specs.laws.Lookups.{absent_from, none_counted}
use Rattle.oz_decision.specs.laws.Counting.{key_rows}
use Rattle.oz_decision.proofs.lookups.key_count.Goals as goal

pub returns-clause-shows : goal.returns-clause-shows
returns-clause-shows g c = λ namespace stand.
    let all = g.M.RowMap.rows c.args.rows.now in
    let from_is : c.in_ok-from.from ≡ keys.Key c.args.volume.now c.args.bucket.now [] = search rules in
    let to_is : c.in_ok-to.to ≡ keys.Key c.args.volume.now (next c.args.bucket.now) [] = search rules in
    let count = c.counted.ensures.0 in
    let counts : IsCount all (keys.Key c.args.volume.now c.args.bucket.now []) (keys.Key c.args.volume.now (next c.args.bucket.now) []) count = subst (λ to. IsCount all (keys.Key c.args.volume.now c.args.bucket.now []) to count) to_is (subst (λ from. IsCount all from c.in_ok-to.to count) from_is c.counted.ensures.1) in
    let found = key_rows all namespace stand c.args.volume.now c.args.bucket.now count counts in
    c.counted.ensures.2 (omega (arith, found.few)) ∙ found.same

pub returns-clause-none : goal.returns-clause-none
returns-clause-none g c = λ zero k.
    let all = g.M.RowMap.rows c.args.rows.now in
    let from_is : c.in_ok-from.from ≡ keys.Key c.args.volume.now c.args.bucket.now [] = search rules in
    let to_is : c.in_ok-to.to ≡ keys.Key c.args.volume.now (next c.args.bucket.now) [] = search rules in
    let count = c.counted.ensures.0 in
    let counts : IsCount all (keys.Key c.args.volume.now c.args.bucket.now []) (keys.Key c.args.volume.now (next c.args.bucket.now) []) count = subst (λ to. IsCount all (keys.Key c.args.volume.now c.args.bucket.now []) to count) to_is (subst (λ from. IsCount all from c.in_ok-to.to count) from_is c.counted.ensures.1) in
    absent_from (all (keys.Key c.args.volume.now c.args.bucket.now k)) (λ some. none_counted all (keys.Key c.args.volume.now c.args.bucket.now []) (keys.Key c.args.volume.now (next c.args.bucket.now) []) count counts (c.counted.ensures.3 zero) (keys.Key c.args.volume.now c.args.bucket.now k) (key_between all c.args.volume.now c.args.bucket.now k some))
