use Rattle.std.proofs.Common.{◌≡◌, ℕ, ◌<◌, ◌^◌, List, Some, sym, ◌∙◌, rules, subst}
use Rattle.oz_decision.specs.Replies.{IsReply}
use Rattle.oz_reclaim.specs.Marks.{HasNumber}
use Rattle.oz_reclaim.proofs.Marked.{by_missing, by_none, by_one, row_fits}
use Rattle.oz_requests.specs.declared.request.Request.TheVariants.{DeleteSnapshot}
use Rattle.oz_rows.specs.declared.key.RowKey.{RowKey}
use Rattle.oz_rows.specs.declared.key.RowKey.TheVariants as keys
use Rattle.oz_rows.specs.declared.row.Row.TheVariants as rows
use Rattle.oz_rows.specs.declared.row.SnapshotState.TheVariants.{Marked}
use Rattle.oz_rows.specs.Rows.{RowFits}
use Rattle.oz_reclaim.proofs.marking.delete_snapshot.Goals as goal

pub returns-in-Some-clause-reply : goal.returns-in-Some-clause-reply
returns-in-Some-clause-reply g c =
    let all = g.M.RowMap.rows c.args.rows.now in
    let v = c.args.volume.now in
    let b = c.args.bucket.now in
    let name = c.args.name.now in
    subst (IsReply all (DeleteSnapshot v b name)) (sym c.unchanged.ensures.reply)
    (by_missing all v b name c.requires c.in-Some.code (λ namespace stand. sym c.in-Some.is ∙ c.in_ok-missing.ensures.code namespace stand))

pub returns-in_default-found-clause-reply : goal.returns-in_default-found-clause-reply
returns-in_default-found-clause-reply g c =
    let all = g.M.RowMap.rows c.args.rows.now in
    let v = c.args.volume.now in
    let b = c.args.bucket.now in
    let name = c.args.name.now in
    subst (IsReply all (DeleteSnapshot v b name)) (sym c.unchanged-in_default-found.ensures.reply)
    (by_none all v b name c.requires (λ namespace stand. sym c.in_default.is ∙ c.in_ok-missing.ensures.code namespace stand)
    (subst (HasNumber all v b name) c.in_default-found.is c.in_ok-found.ensures))

pub put-requires : goal.put-requires
put-requires g c =
    let all = g.M.RowMap.rows c.args.rows.now in
    let v = c.args.volume.now in
    let b = c.args.bucket.now in
    let name = c.args.name.now in
    let n = c.in-Some-found.number in
    let previous = c.previous_in-previous.result in
    let one : HasNumber all v b name (Some n) = subst (HasNumber all v b name) c.in-Some-found.is c.in_ok-found.ensures in
    let small : n < 2 ^ 64 = search rules in
    let short : previous < 2 ^ 64 = search rules in
    let same : c.in_ok-try_clone.field-0 ≡ name = search rules in
    subst (λ (k : RowKey). RowFits k (rows.Snapshot c.in_ok-try_clone.field-0 previous Marked)) (sym c.in_ok-of_snapshot.ensures)
    (subst (λ (x : List ℕ). RowFits (keys.Snapshot v b n) (rows.Snapshot x previous Marked)) (sym same) (row_fits v b name n previous Marked c.requires one.0 small short))

pub returns-clause-reply : goal.returns-clause-reply
returns-clause-reply g c =
    let all = g.M.RowMap.rows c.args.rows.now in
    let v = c.args.volume.now in
    let b = c.args.bucket.now in
    let name = c.args.name.now in
    let n = c.in-Some-found.number in
    let one : HasNumber all v b name (Some n) = subst (HasNumber all v b name) c.in-Some-found.is c.in_ok-found.ensures in
    subst (IsReply all (DeleteSnapshot v b name)) (sym c.with_reply.ensures.reply)
    (by_one all v b name c.requires (λ namespace stand. sym c.in_default.is ∙ c.in_ok-missing.ensures.code namespace stand) n one.1)
