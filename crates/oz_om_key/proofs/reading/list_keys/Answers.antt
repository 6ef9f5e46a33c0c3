use Rattle.std.proofs.Common.{◌≡◌, None, sym, ◌∙◌, rules}
use Rattle.oz_requests.specs.declared.request.Request.TheVariants.{ListKeys}
use Rattle.oz_om_key.proofs.Replies.{by_missing, list_unasked, list_found}
use Rattle.oz_om_key.proofs.reading.list_keys.Goals as goal

pub returns-in-Some : goal.returns-in-Some
returns-in-Some g c = by_missing (g.M.RowMap.rows c.args.rows.now) (ListKeys c.args.volume.now c.args.bucket.now c.args.snapshot.now c.args.prefix.now c.args.start.now c.args.count) c.requires c.in-Some.code
    (λ namespace stand. sym c.in-Some.is ∙ c.in_ok-code.ensures.code namespace stand)

pub returns-in_default-2 : goal.returns-in_default-2
returns-in_default-2 g c =
    let none : c.in_ok-code.field-0 ≡ None = search rules in
    let absent : c.in_ok-source.field-0 ≡ None = search rules in
    list_unasked (g.M.RowMap.rows c.args.rows.now) c.args.volume.now c.args.bucket.now c.args.snapshot.now (λ namespace stand. sym none ∙ c.in_ok-code.ensures.code namespace stand)
    c.in_ok-source.field-0 c.in_ok-source.ensures c.args.prefix.now c.args.start.now c.args.count c.requires absent

pub returns : goal.returns
returns g c =
    let none : c.in_ok-code.field-0 ≡ None = search rules in
    list_found (g.M.RowMap.rows c.args.rows.now) c.args.volume.now c.args.bucket.now c.args.snapshot.now (λ namespace stand. sym none ∙ c.in_ok-code.ensures.code namespace stand)
    c.in_ok-source.field-0 c.in_ok-source.ensures c.args.prefix.now c.args.start.now c.args.count c.requires c.in-Some-2.source c.in-Some-2.is c.in_ok-names.names c.in_ok-names.ensures
