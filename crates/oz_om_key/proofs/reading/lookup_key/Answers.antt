use Rattle.std.proofs.Common.{◌≡◌, None, sym, ◌∙◌, rules}
use Rattle.oz_requests.specs.declared.request.Request.TheVariants.{LookupKey}
use Rattle.oz_om_key.proofs.Replies.{by_missing, lookup_unasked, lookup_absent, lookup_found}
use Rattle.oz_om_key.proofs.reading.lookup_key.Goals as goal

pub returns-in-Some : goal.returns-in-Some
returns-in-Some g c = by_missing (g.M.RowMap.rows c.args.rows.now) (LookupKey c.args.volume.now c.args.bucket.now c.args.snapshot.now c.args.key.now) c.requires c.in-Some.code
    (λ namespace stand. sym c.in-Some.is ∙ c.in_ok-code.ensures.code namespace stand)

pub returns-in_default-2 : goal.returns-in_default-2
returns-in_default-2 g c =
    let none : c.in_ok-code.field-0 ≡ None = search rules in
    let absent : c.in_ok-source.field-0 ≡ None = search rules in
    lookup_unasked (g.M.RowMap.rows c.args.rows.now) c.args.volume.now c.args.bucket.now c.args.snapshot.now (λ namespace stand. sym none ∙ c.in_ok-code.ensures.code namespace stand)
    c.in_ok-source.field-0 c.in_ok-source.ensures c.args.key.now c.requires absent

pub returns-in_default-3 : goal.returns-in_default-3
returns-in_default-3 g c =
    let all = g.M.RowMap.rows c.args.rows.now in
    let none : c.in_ok-code.field-0 ≡ None = search rules in
    let absent : c.in_ok-pieces.field-0 ≡ None = search rules in
    lookup_absent all c.args.volume.now c.args.bucket.now c.args.snapshot.now (λ namespace stand. sym none ∙ c.in_ok-code.ensures.code namespace stand)
    c.in_ok-source.field-0 c.in_ok-source.ensures c.args.key.now c.requires c.in-Some-2.source c.in-Some-2.is (sym c.in_ok-pieces.ensures ∙ absent)

pub returns : goal.returns
returns g c =
    let all = g.M.RowMap.rows c.args.rows.now in
    let none : c.in_ok-code.field-0 ≡ None = search rules in
    lookup_found all c.args.volume.now c.args.bucket.now c.args.snapshot.now (λ namespace stand. sym none ∙ c.in_ok-code.ensures.code namespace stand)
    c.in_ok-source.field-0 c.in_ok-source.ensures c.args.key.now c.requires c.in-Some-2.source c.in-Some-2.is c.in-Some-3.pieces (sym c.in_ok-pieces.ensures ∙ c.in-Some-3.is)
