use Rattle.std.proofs.Common.{inl, ℕ, ◌+◌, List, arith, ap, subst, sym}
use Rattle.oz_reclaim.proofs.Marked.{names_fit}
use Rattle.oz_reclaim.proofs.NotMade.{creates}
use Rattle.oz_reclaim.specs.Creates.{Creates}
use Rattle.oz_rows.specs.declared.operation.Change.{Change}
use Rattle.oz_reclaim.proofs.making.create_snapshot.Goals as goal

pub take_over-requires : goal.take_over-requires
take_over-requires g c =
    let names = names_fit c.args.volume.now c.args.bucket.now c.args.name.now c.requires in
    let few = c.in_ok-code.ensures.few c.in_default.is in
    record { fits = (names.volume, names.bucket, (omega arith, omega (arith, few))) }

pub returns-clause-exact : goal.returns-clause-exact
returns-clause-exact g c =
    let all = g.M.RowMap.rows c.args.rows.now in
    let v = c.args.volume.now in
    let b = c.args.bucket.now in
    let name = c.args.name.now in
    let n = c.drawn_numbers-drawn.result + 1 in
    let few = c.in_ok-code.ensures.few c.in_default.is in
    let made = creates all v b name n c.in_ok-previous.previous c.in_ok-first.first.bytes c.in_ok-draft.draft.bytes c.in_ok-first.first.changes c.in_ok-draft.draft.changes
    c.in_ok-first.ensures.bytes c.in_ok-first.ensures.changes c.in_ok-draft.ensures.bytes c.in_ok-draft.ensures.changes
    (c.in_ok-code.ensures.there c.in_default.is) (c.in_ok-code.ensures.free c.in_default.is) (ap (λ d. d + 1) c.drawn_numbers-drawn.ensures) (omega (arith, few)) c.in_ok-previous.ensures in
    inl (
      c.with_reply.ensures.reply,
      subst (λ (l : List ℕ). Creates all v b name l c.with_reply.result.changes) (sym c.with_reply.ensures.bytes)
          (subst (λ (l : List Change). Creates all v b name c.in_ok-draft.draft.bytes l) (sym c.with_reply.ensures.changes) made),
    )
