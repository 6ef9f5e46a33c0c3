use Rattle.std.proofs.Common.{sym, subst}
use Rattle.oz_reclaim.specs.Work.{IsNextOwner}
use Rattle.oz_rows.specs.RowMaps.{HasNoNext, IsNext}
use Rattle.oz_om_key.proofs.om_change_lemmas.Walked.{next_is, none_later}
use Rattle.oz_om_key.proofs.om_change.numbers.number_behind.Goals as goal

pub returns-in-Some : goal.returns-in-Some
returns-in-Some g c =
    let all = g.M.RowMap.rows c.args.rows.now in
    subst (IsNextOwner all c.args.volume.now c.args.bucket.now c.args.last) (sym c.number_in.ensures)
    (next_is all c.args.volume.now c.args.bucket.now c.args.last c.in-Some.key.now c.in-Some._row.now
    (subst (λ key. IsNext all key c.in-Some.key.now c.in-Some._row.now) c.requires c.in-Some.ensures))

pub returns-in-None : goal.returns-in-None
returns-in-None g c =
    let all = g.M.RowMap.rows c.args.rows.now in
    none_later all c.args.volume.now c.args.bucket.now c.args.last (subst (HasNoNext all) c.requires c.in-None.ensures)
