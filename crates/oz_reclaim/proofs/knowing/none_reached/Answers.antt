use Rattle.std.proofs.Common.{ℕ, List, sym, ◌∙◌, ap, subst}
use Rattle.oz_effects.specs.changes.Steps.{holds}
use Rattle.oz_reclaim.specs.Gathered.{AreAllOf, IsLeast}
use Rattle.oz_reclaim.proofs.Least.{least_deleted}
use Rattle.oz_reclaim.proofs.KnownIds.{clear_unreached, unreached_clear}
use Rattle.oz_rows.specs.declared.entry.RowEntry.{RowEntry}
use Rattle.oz_rows.specs.declared.key.RowKey.TheVariants as keys
use Rattle.oz_rows.specs.Rows.{kind_of}
use Rattle.oz_reclaim.proofs.knowing.none_reached.Goals as goal

pub rows_of_kind-requires : goal.rows_of_kind-requires
rows_of_kind-requires g c = subst IsLeast (sym (c.in_ok-start.ensures ∙ ap (λ (none : List ℕ). keys.Deleted none none 0 none 0) c.in_ok-none.ensures)) least_deleted

pub returns : goal.returns
returns g c =
    let all = g.M.RowMap.rows c.args.rows.now in
    let found : List RowEntry = c.as_slice.result.now in
    let kind = kind_of c.in_ok-start.start in
    let is_kind = ap kind_of c.in_ok-start.ensures in
    let are : AreAllOf all kind found = subst (λ (l : List RowEntry). AreAllOf all kind l) (sym c.as_slice.ensures.value) c.in_ok-found.ensures in
    let test = holds c.in_ok-shown.shown in
    (λ clear. clear_unreached all test c.in_ok-shown.ensures c.args.known.now kind is_kind found are (c.are_clear.ensures.0 clear), λ away. c.are_clear.ensures.1 (unreached_clear all test c.in_ok-shown.ensures c.args.known.now kind is_kind found are away))
