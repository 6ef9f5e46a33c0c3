use Rattle.std.proofs.Common.{◌↔◌, IsTrue, sym, subst}
use Rattle.oz_core.specs.Law.{KindIsEnabled}
use Rattle.oz_legal.proofs.enabling.of_blocks_is_enabled.Goals as goal

pub returns-in-Bad : goal.returns-in-Bad
returns-in-Bad c =
    subst (λ kind. IsTrue c.bad_is_enabled.result ↔ KindIsEnabled c.args.opening.now c.args.story.now c.args.seat kind)
    (sym c.in-Bad.is) c.bad_is_enabled.ensures

pub returns-in-Copy : goal.returns-in-Copy
returns-in-Copy c =
    subst (λ kind. IsTrue c.copy_is_enabled.result ↔ KindIsEnabled c.args.opening.now c.args.story.now c.args.seat kind)
    (sym c.in-Copy.is) c.copy_is_enabled.ensures
