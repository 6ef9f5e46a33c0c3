use Rattle.std.proofs.lemmas.Result.{err_from_is_err_and}
use Rattle.oz_script.proofs.draft_lemmas.DraftSteps.{begins, goes_on, ends, fails, too_long}
use Rattle.oz_script.proofs.draft.drafting.draft_of.Goals as goal

pub returns-then-bytes-gt-MOST_BYTES-clause-exact : goal.returns-then-bytes-gt-MOST_BYTES-clause-exact
returns-then-bytes-gt-MOST_BYTES-clause-exact c = too_long c.args.bytes.now c.if-bytes-gt-MOST_BYTES.true

pub loop-line-init : goal.loop-line-init
loop-line-init c = rw (c.new.ensures, c.new-2.ensures, c.new-3.ensures.items) (begins c.args.bytes.now c.new-4.result c.new-4.ensures.empty c.if-bytes-gt-MOST_BYTES.false)

pub returns-in_err-drafting-clause-exact : goal.returns-in_err-drafting-clause-exact
returns-in_err-drafting-clause-exact c =
    let p = err_from_is_err_and c.from_residual.result c.from_residual.ensures.1 in
    rw (p.1, p.2) (fails c.in_err-drafting.field-0.0 c.args.bytes.now c.loop-line.drafting.draft c.loop-line.drafting.counts.items c.loop-line.drafting.opened c.loop-line.place c.loop-line.rest.now c.in-Some.line.now c.in-Some.behind.now c.loop-line.invariant c.in-Some.ensures.parts c.in_err-drafting.ensures.exact)

pub loop-line-preserved : goal.loop-line-preserved
loop-line-preserved c =
    goes_on c.args.bytes.now c.loop-line.drafting.draft c.in_ok-drafting.drafting.draft c.loop-line.drafting.counts.items c.in_ok-drafting.drafting.counts.items c.loop-line.drafting.opened c.in_ok-drafting.drafting.opened c.loop-line.place c.loop-line.rest.now c.in-Some.line.now c.in-Some.behind.now c.loop-line.invariant c.in-Some.ensures.parts c.in-Some.ensures.shorter c.in_ok-drafting.ensures.exact c.in_ok-drafting.ensures.tracked

pub returns-clause-exact : goal.returns-clause-exact
returns-clause-exact c = ends c.args.bytes.now c.loop-line.drafting.draft c.loop-line.drafting.counts.items c.loop-line.drafting.opened c.loop-line.place c.loop-line.rest.now c.loop-line.invariant c.in_default.ensures.parts
