use Rattle.std.proofs.Common.{◌≡◌, sym, ◌∙◌, rules, subst}
use Rattle.oz_reclaim.specs.Numbered.{AreListed}
use Rattle.oz_reclaim.proofs.Listed.{by_names}
use Rattle.oz_reclaim.proofs.listing.list_snapshots.Goals as goal

pub returns : goal.returns
returns g c =
    let all = g.M.RowMap.rows c.args.rows.now in
    let v = c.args.volume.now in
    let b = c.args.bucket.now in
    let same : c.of.result ≡ c.in_ok-names.names.items = search rules in
    by_names all v b c.requires (λ namespace stand. sym c.in_default.is ∙ c.in_ok-missing.ensures.code namespace stand) c.of.result (subst (AreListed all v b) (sym same) c.in_ok-names.ensures)
