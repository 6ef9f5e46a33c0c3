use Rattle.std.proofs.Common.{◌∙◌, sym, subst}
use Rattle.std.specs.HashMap.{get}
use Rattle.oz_script.specs.circles.Waiting.{AreChained}
use Rattle.oz_script.specs.Finding.{is_same_name}
use Rattle.oz_script.proofs.Steps.{chained, first_back_ok}
use Rattle.oz_script.proofs.waiting.first_back.Goals as goal

pub first_circle-requires : goal.first_circle-requires
first_circle-requires c =
    subst AreChained (sym (c.deref.ensures.value ∙ c.in_ok-waits.ensures)) (chained (get is_same_name c.in_ok-places.places) c.args.lines.now c.requires c.in_ok-places.ensures)

pub returns : goal.returns
returns c =
    first_back_ok (get is_same_name c.in_ok-places.places) c.args.lines.now c.deref.result.now c.first_circle.result c.requires c.in_ok-places.ensures (c.deref.ensures.value ∙ c.in_ok-waits.ensures) c.first_circle.ensures
