use Rattle.std.proofs.Common.{arith}
use Rattle.std.proofs.lemmas.Result.{err_from_is_err_and}
use Rattle.oz_script.specs.placed.Placed.{afters_of}
use Rattle.oz_script.proofs.placed_lemmas.Afters.{nothing_before, goes_on, fails, ends}
use Rattle.oz_script.proofs.placed.placed.afters_of.Goals as goal

pub loop-entry-init : goal.loop-entry-init
loop-entry-init c = rw (c.items-entries.ensures, c.new-afters.ensures) (nothing_before (afters_of c.args.drafting.now.draft c.args.drafting.now.draft.entries))

pub loop-entry-preserved : goal.loop-entry-preserved
loop-entry-preserved c =
    goes_on c.args.drafting.now.draft c.items-entries.result.now c.loop-entry.entry-index c.entry-item.result c.in_ok-after.after c.loop-entry.afters c.in_ok-afters.afters _ c.loop-entry-test.true c.entry-item.is c.in_ok-after.ensures c.in_ok-afters.ensures c.loop-entry.invariant

pub returns-in_err-after : goal.returns-in_err-after
returns-in_err-after c =
    let p = err_from_is_err_and c.from_residual.result c.from_residual.ensures.1 in
    rw (p.1, p.2) (fails c.in_err-after.field-0.0 c.args.drafting.now.draft c.items-entries.result.now c.loop-entry.entry-index c.entry-item.result c.loop-entry.afters (afters_of c.args.drafting.now.draft c.args.drafting.now.draft.entries) c.loop-entry-test.true c.entry-item.is c.in_err-after.ensures c.loop-entry.invariant)

pub returns : goal.returns
returns c =
    ends c.args.drafting.now.draft c.items-entries.result.now c.loop-entry.entry-index c.loop-entry.afters _ (omega arith) c.loop-entry.invariant
