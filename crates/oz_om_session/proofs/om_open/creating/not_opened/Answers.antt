use Rattle.std.proofs.Common.{◌≡◌, nat_le, cond, None, Some, sym, ◌∙◌}
use Rattle.oz_names.specs.declared.code.Code.TheVariants.{BucketFull, NumbersSpent}
use Rattle.oz_decision.specs.laws.SessionRows.{from_at_most}
use Rattle.oz_om_session.proofs.om_open_lemmas.Opening.{from_under, refused_missing, refused_own}
use Rattle.oz_om_session.proofs.om_open.creating.not_opened.Goals as goal

pub returns-in-Some-clause-code : goal.returns-in-Some-clause-code
returns-in-Some-clause-code g c = λ namespace stand.
    refused_missing (g.M.RowMap.rows c.args.rows.now) c.args.volume.now c.args.bucket.now c.args.key.now c.requires.named namespace stand c.in_ok-code.field-0 c.in-Some.code c.in-Some.is (c.in_ok-code.ensures.code namespace stand)

pub returns-then-drawn-ge-MOST_NUMBERS-clause-code : goal.returns-then-drawn-ge-MOST_NUMBERS-clause-code
returns-then-drawn-ge-MOST_NUMBERS-clause-code g c = λ namespace stand.
    let it : cond c.in_ok-is_full.field-0 (Some BucketFull) (cond (nat_le 281474976710656 c.args.drawn) (Some NumbersSpent) None) ≡ Some NumbersSpent = λ i. cond (c.if-branch.false i) (Some BucketFull) (cond (from_at_most 281474976710656 c.args.drawn c.if-drawn-ge-MOST_NUMBERS.true i) (Some NumbersSpent) None) in
    sym it
    ∙ refused_own (g.M.RowMap.rows c.args.rows.now) c.args.volume.now c.args.bucket.now c.args.key.now c.requires.named namespace stand c.in_ok-code.field-0 c.in_ok-is_full.field-0 c.args.drawn c.in_default.is (c.in_ok-code.ensures.code namespace stand) (c.in_ok-is_full.ensures namespace stand) c.requires.drawn

pub returns-clause-code : goal.returns-clause-code
returns-clause-code g c = λ namespace stand.
    let it : cond c.in_ok-is_full.field-0 (Some BucketFull) (cond (nat_le 281474976710656 c.args.drawn) (Some NumbersSpent) None) ≡ None = λ i. cond (c.if-branch.false i) (Some BucketFull) (cond (from_under 281474976710656 c.args.drawn c.if-drawn-ge-MOST_NUMBERS.false i) (Some NumbersSpent) None) in
    sym it
    ∙ refused_own (g.M.RowMap.rows c.args.rows.now) c.args.volume.now c.args.bucket.now c.args.key.now c.requires.named namespace stand c.in_ok-code.field-0 c.in_ok-is_full.field-0 c.args.drawn c.in_default.is (c.in_ok-code.ensures.code namespace stand) (c.in_ok-is_full.ensures namespace stand) c.requires.drawn
