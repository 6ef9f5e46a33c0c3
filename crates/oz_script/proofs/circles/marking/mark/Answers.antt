use Rattle.std.proofs.Common.{ℕ, true, Option, slice_set, sym, subst}
use Rattle.oz_script.specs.circles.Marks.{MarksOne}
use Rattle.oz_script.proofs.circles_lemmas.Spreading.{marked_one}
use Rattle.oz_script.proofs.circles.marking.mark.Goals as goal

pub returns : goal.returns
returns c =
    subst (λ (line : Option ℕ). MarksOne line c.args.marks.now (slice_set c.args.marks.now c.in-Some.place true) c.args.stack.now.items c.push.new.self.items) (sym c.in-Some.is)
    (marked_one c.args.marks.now c.in-Some.place c.args.stack.now.items c.push.new.self.items (c.requires c.in-Some.place c.in-Some.is) c.if-marks-place.false c.in_ok-push.ensures.items)
