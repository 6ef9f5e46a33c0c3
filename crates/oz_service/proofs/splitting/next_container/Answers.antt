use Rattle.std.proofs.Common.{All, refl, subst}
use Rattle.std.proofs.lemmas.List.{take_all}
use Rattle.std.proofs.lemmas.List.Elements.{All-more}
use Rattle.oz_service.specs.Splitting.{IsPassed}
use Rattle.oz_service.proofs.splitting.next_container.Goals as goal

pub loop-block-preserved : goal.loop-block-preserved
loop-block-preserved c =
    let i = c.loop-block.block-index in
    let blocks = c.args.blocks.now in
    let now = IsPassed c.args.least c.lower-found.result in record {
      found = c.lower-found.ensures.found c.loop-block.invariant.found;
      passed = All-more now blocks i _ c.loop-block-test.true
          (λ k block within. c.lower-found.ensures.passed _ (c.loop-block.invariant.passed k block within))
          (c.lower-found.ensures.this _ refl);
    }

pub returns-clause-found : goal.returns-clause-found
returns-clause-found c = c.loop-block.invariant.found

pub returns-clause-passed : goal.returns-clause-passed
returns-clause-passed c =
    subst (All (IsPassed c.args.least c.loop-block.found)) (take_all c.loop-block.block-index c.args.blocks.now c.loop-block-test.false) c.loop-block.invariant.passed
