use Rattle.std.proofs.Common.{sym, ◌∙◌, arith}
use Rattle.std.proofs.lemmas.Bool.{not-false}
use Rattle.oz_block.proofs.shelf_lemmas.Making.{makes_step, makes_fails, makes_end}
use Rattle.oz_block.proofs.shelf.written.makes.Goals as goal

pub returns-then-not-fits : goal.returns-then-not-fits
returns-then-not-fits c = sym (c.loop-one.invariant.same ∙ makes_fails c.args.block c.args.written.now c.loop-one.one-index c.loop-one.place c.loop-one.left _ (omega arith) (not-false _ (sym c.ne.ensures ∙ c.if-ne.false)) (sym c.if-not-fits.true ∙ c.fits.ensures))

pub loop-one-preserved : goal.loop-one-preserved
loop-one-preserved c = record {
  same = c.loop-one.invariant.same ∙ makes_step c.args.block c.args.written.now c.loop-one.one-index c.loop-one.place c.loop-one.left _ _ (omega arith) (not-false _ (sym c.ne.ensures ∙ c.if-ne.false)) (sym c.if-not-fits.false ∙ c.fits.ensures) c.saturating_sub-left.ensures;
  few = omega arith;
}

pub returns : goal.returns
returns c = sym (c.loop-one.invariant.same ∙ makes_end c.args.block c.args.written.now c.loop-one.one-index c.loop-one.place c.loop-one.left (omega arith))
