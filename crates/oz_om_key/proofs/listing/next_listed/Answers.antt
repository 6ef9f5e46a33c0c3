use Rattle.std.proofs.Common.{◌≡◌, true, nat_eq, sym, ◌∙◌, ap, rules}
use Rattle.std.specs.List.{starts_with}
use Rattle.oz_om_key.proofs.Listed.{same_next, place_apart}
use Rattle.oz_om_key.proofs.listing.next_listed.Goals as goal

pub returns-in_default-name_in-clause-none : goal.returns-in_default-name_in-clause-none
returns-in_default-name_in-clause-none g c = λ name row has is.
    c.in_default-name_in.ensures.none name (same_next (g.M.RowMap.rows c.args.rows.now) c.args.last.now c.in-Some.key.now _ c.in-Some._row.now row c.in-Some.ensures is)

pub returns-else-starts_with-clause-none : goal.returns-else-starts_with-clause-none
returns-else-starts_with-clause-none g c = λ name row has is.
    let place = c.args.place.now in
    let key_is = c.in-Some-name_in.ensures.some in
    let same = same_next (g.M.RowMap.rows c.args.rows.now) c.args.last.now c.in-Some.key.now _ c.in-Some._row.now row c.in-Some.ensures is in
    let named = place_apart place.volume.now place.bucket.now place.source c.in-Some-name_in.name.now name (sym key_is ∙ same) in
    let it_has : starts_with nat_eq c.in-Some-name_in.name.now c.args.prefix.now ≡ true = ap (λ n. starts_with nat_eq n c.args.prefix.now) named ∙ has in
    search (rules, it_has)
