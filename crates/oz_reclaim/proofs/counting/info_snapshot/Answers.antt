use Rattle.std.proofs.Common.{Some, sym, ◌∙◌, subst}
use Rattle.oz_reclaim.specs.Marks.{HasNumber}
use Rattle.oz_reclaim.proofs.Counts.{by_count, by_none}
use Rattle.oz_reclaim.proofs.counting.info_snapshot.Goals as goal

pub returns-in_default-found : goal.returns-in_default-found
returns-in_default-found g c =
    let all = g.M.RowMap.rows c.args.rows.now in
    let v = c.args.volume.now in
    let b = c.args.bucket.now in
    let name = c.args.name.now in
    by_none all v b name c.requires (λ namespace stand. sym c.in_default.is ∙ c.in_ok-missing.ensures.code namespace stand)
    (subst (HasNumber all v b name) c.in_default-found.is c.in_ok-found.ensures)

pub returns : goal.returns
returns g c =
    let all = g.M.RowMap.rows c.args.rows.now in
    let v = c.args.volume.now in
    let b = c.args.bucket.now in
    let name = c.args.name.now in
    let n = c.in-Some-found.number in
    let one : HasNumber all v b name (Some n) = subst (HasNumber all v b name) c.in-Some-found.is c.in_ok-found.ensures in
    by_count all v b name c.requires (λ namespace stand. sym c.in_default.is ∙ c.in_ok-missing.ensures.code namespace stand) n one.1 c.in_ok-count.count c.in_ok-count.ensures
