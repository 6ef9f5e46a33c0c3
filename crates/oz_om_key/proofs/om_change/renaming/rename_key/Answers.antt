use Rattle.std.proofs.Common.{sym, ◌∙◌, ap, subst}
use Rattle.std.specs.List.{AllByRecursion}
use Rattle.oz_decision.specs.Versions.{version_at}
use Rattle.oz_model.specs.Scope.{scope_of}
use Rattle.oz_requests.specs.declared.request.Request.TheVariants.{RenameKey}
use Rattle.oz_om_key.specs.om_change.Numbers.{MayBeNoted}
use Rattle.oz_om_key.proofs.om_change_lemmas.KeyRows.{may_note, old_fits, new_fits}
use Rattle.oz_om_key.proofs.om_change_lemmas.Seen.{refused_by, renamed_by}
use Rattle.oz_om_key.proofs.om_change.renaming.rename_key.Goals as goal

pub returns-in-Some-clause-reply : goal.returns-in-Some-clause-reply
returns-in-Some-clause-reply g c =
    let v = c.args.volume.now in
    let request = RenameKey v c.args.bucket.now c.args.key.now c.args.to.now in
    rw c.unchanged.ensures.reply (λ namespace stand. refused_by (scope_of namespace v) request c.in_ok-code.field-0 c.in-Some.code c.in-Some.is (c.in_ok-code.ensures.code namespace stand))

pub move_row-requires-clause-from : goal.move_row-requires-clause-from
move_row-requires-clause-from g c = rw c.in_ok-of_key.ensures (old_fits c.args.volume.now c.args.bucket.now c.args.key.now c.args.to.now c.requires)

pub move_row-requires-clause-to : goal.move_row-requires-clause-to
move_row-requires-clause-to g c =
    let all = g.M.RowMap.rows c.args.rows.now in
    rw (c.in_ok-of_key.ensures, c.in_ok-of_new.ensures) (new_fits c.args.volume.now c.args.bucket.now c.args.key.now c.args.to.now c.requires all (c.in_ok-code.ensures.none c.in_default.is).is)

pub returns-clause-reply : goal.returns-clause-reply
returns-clause-reply g c =
    let v = c.args.volume.now in
    rw c.with_reply.ensures.reply (λ namespace stand. renamed_by (scope_of namespace v) v c.args.bucket.now c.args.key.now c.args.to.now c.in_ok-code.field-0 c.in_default.is (c.in_ok-code.ensures.code namespace stand))

pub note_names-requires : goal.note_names-requires
note_names-requires g c =
    let all = g.M.RowMap.rows c.args.rows.now in
    let v = c.args.volume.now in
    let b = c.args.bucket.now in
    let k = c.args.key.now in
    subst (λ o. AllByRecursion (MayBeNoted v b k) (version_at o)) (sym (c.get-row.ensures ∙ ap all c.in_ok-of_key.ensures))
    (may_note v b k c.args.to.now c.requires all (c.in_ok-code.ensures.none c.in_default.is).is)
