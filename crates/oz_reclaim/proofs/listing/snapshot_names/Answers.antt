use Rattle.std.proofs.Common.{◌≡◌, ◌++◌, sym, ◌∙◌, ap, subst, rules}
use Rattle.oz_reclaim.specs.Numbered.{AreNamesUpTo, name_in}
use Rattle.oz_reclaim.specs.Work.{IsNextOwner}
use Rattle.oz_reclaim.proofs.Listed.{all_named, names_at_first, one_more}
use Rattle.oz_rows.specs.declared.key.RowKey.TheVariants as keys
use Rattle.oz_reclaim.proofs.listing.snapshot_names.Goals as goal

pub loop-init : goal.loop-init
loop-init g c =
    let all = g.M.RowMap.rows c.args.rows.now in
    let v = c.args.volume.now in
    let b = c.args.bucket.now in
    subst (AreNamesUpTo all v b 0) (sym c.new-names.ensures.items) (names_at_first all v b)

pub returns-then-number-eq0 : goal.returns-then-number-eq0
returns-then-number-eq0 g c =
    let all = g.M.RowMap.rows c.args.rows.now in
    let v = c.args.volume.now in
    let b = c.args.bucket.now in
    all_named all v b c.loop.last c.loop.names.items c.loop.invariant (subst (IsNextOwner all v b c.loop.last) c.if-number-eq0.true c.in_ok-number.ensures)

pub loop-preserved : goal.loop-preserved
loop-preserved g c =
    let all = g.M.RowMap.rows c.args.rows.now in
    let v = c.args.volume.now in
    let b = c.args.bucket.now in
    let number = c.in_ok-number.number in
    let added : c.add_name.new.names.items ≡ c.loop.names.items ++ name_in (all c.in_ok-of_snapshot.of_snapshot) = search rules in
    let is : c.add_name.new.names.items ≡ c.loop.names.items ++ name_in (all (keys.Snapshot v b number)) = added ∙ ap (λ k. c.loop.names.items ++ name_in (all k)) c.in_ok-of_snapshot.ensures in
    subst (AreNamesUpTo all v b number) (sym is) (one_more all v b c.loop.last c.loop.names.items c.loop.invariant number c.if-number-eq0.false c.in_ok-number.ensures)
