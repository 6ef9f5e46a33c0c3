use Rattle.std.proofs.Common.{◌≡◌, ◌∙◌, List, Some, length, refl, sym, ap, arith}
use Rattle.std.proofs.lemmas.Option.{slice_get_read}
use Rattle.oz_script.specs.declared.lines.script.Line.{Line}
use Rattle.std.specs.HashMap.{get}
use Rattle.std.specs.List.{slice_get}
use Rattle.oz_script.specs.Finding.{is_same_name}
use Rattle.oz_script.proofs.Finds.{finds_all, finds_more}
use Rattle.oz_script.proofs.waiting.places_of.Goals as goal

pub loop-place-preserved : goal.loop-place-preserved
loop-place-preserved c =
    let is : c.items-line-items.result.now ≡ c.args.lines.now = c.items-line-items.ensures in
    let within = c.loop-place-test.true in
    let at : slice_get c.args.lines.now c.loop-place.place ≡ Some c.line-item.result =
    ap (λ (l : List Line). slice_get l c.loop-place.place) (sym is) ∙ slice_get_read c.items-line-items.result.now (length c.items-line-items.result.now) c.loop-place.place c.line-item.result refl within c.line-item.is in
    finds_more c.args.lines.now (get is_same_name c.loop-place.places) (get is_same_name c.insert.new.self) c.loop-place.place c.line-item.result c.requires
    at c.loop-place.invariant c.in_ok-insert.ensures.updates.0

pub returns : goal.returns
returns c = finds_all c.args.lines.now (get is_same_name c.loop-place.places) c.loop-place.place (omega (arith, ap length c.items-line-items.ensures)) c.loop-place.invariant
