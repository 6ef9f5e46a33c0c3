use Rattle.std.proofs.Common.{◌≡◌, [], ◌∙◌, subst, arith}
use Rattle.oz_rows.specs.declared.key.RowKey.TheVariants as keys
use Rattle.oz_rows.specs.Counts.{IsCount}
use Rattle.oz_decision.specs.laws.Between.{next, bucket_between}
use Rattle.oz_decision.specs.laws.Lookups.{absent_from, none_counted}
use Rattle.oz_decision.specs.laws.Counting.{bucket_rows}
use Rattle.oz_decision.proofs.lookups.bucket_count.Goals as goal

pub returns-clause-shows : goal.returns-clause-shows
returns-clause-shows g c = λ namespace stand.
    let all = g.M.RowMap.rows c.args.rows.now in
    let from_is : c.in_ok-from.from ≡ keys.Bucket c.args.volume.now [] = c.in_ok-from.ensures.from in
    let to_is : c.in_ok-from.to ≡ keys.Bucket (next c.args.volume.now) [] = c.in_ok-from.ensures.to in
    let count = c.counted.ensures.0 in
    let counts : IsCount all (keys.Bucket c.args.volume.now []) (keys.Bucket (next c.args.volume.now) []) count = subst (λ to. IsCount all (keys.Bucket c.args.volume.now []) to count) to_is (subst (λ from. IsCount all from c.in_ok-from.to count) from_is c.counted.ensures.1) in
    let found = bucket_rows all namespace stand c.args.volume.now count counts in
    c.counted.ensures.2 (omega (arith, found.few)) ∙ found.same

pub returns-clause-none : goal.returns-clause-none
returns-clause-none g c = λ zero b.
    let all = g.M.RowMap.rows c.args.rows.now in
    let from_is : c.in_ok-from.from ≡ keys.Bucket c.args.volume.now [] = c.in_ok-from.ensures.from in
    let to_is : c.in_ok-from.to ≡ keys.Bucket (next c.args.volume.now) [] = c.in_ok-from.ensures.to in
    let count = c.counted.ensures.0 in
    let counts : IsCount all (keys.Bucket c.args.volume.now []) (keys.Bucket (next c.args.volume.now) []) count = subst (λ to. IsCount all (keys.Bucket c.args.volume.now []) to count) to_is (subst (λ from. IsCount all from c.in_ok-from.to count) from_is c.counted.ensures.1) in
    absent_from (all (keys.Bucket c.args.volume.now b)) (λ some. none_counted all (keys.Bucket c.args.volume.now []) (keys.Bucket (next c.args.volume.now) []) count counts (c.counted.ensures.3 zero) (keys.Bucket c.args.volume.now b) (bucket_between all c.args.volume.now b some))
