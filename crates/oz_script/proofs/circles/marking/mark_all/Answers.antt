use Rattle.std.proofs.Common.{get_or, None, inl, inr, arith}
use Rattle.std.proofs.lemmas.Option.{slice_get-get_or}
use Rattle.oz_script.specs.declared.circles.waits.Waits.{Waits}
use Rattle.oz_script.proofs.circles_lemmas.Ways.{waits}
use Rattle.oz_script.proofs.circles_lemmas.Spreading.{spread_on, top_within}
use Rattle.oz_script.proofs.circles.marking.mark_all.Goals as goal

nothing : Waits
nothing = record { client = 0; before = None; after = None }

pub bounds-lines-top : goal.bounds-lines-top
bounds-lines-top c = top_within c.args.lines.now c.args.line c.args.marks.now c.loop-top.marks c.loop-top.stack.items c.pop.new.self.items c.in-Some.top c.loop-top.invariant c.in-Some.ensures.items

pub offset_bounds-lines-top : goal.offset_bounds-lines-top
offset_bounds-lines-top c =
    let within = top_within c.args.lines.now c.args.line c.args.marks.now c.loop-top.marks c.loop-top.stack.items c.pop.new.self.items c.in-Some.top c.loop-top.invariant c.in-Some.ensures.items in
    omega (arith, within)

pub mark-requires : goal.mark-requires
unfolding nothing
mark-requires c = λ x e.
    let within = top_within c.args.lines.now c.args.line c.args.marks.now c.loop-top.marks c.loop-top.stack.items c.pop.new.self.items c.in-Some.top c.loop-top.invariant c.in-Some.ensures.items in
    let lt = c.requires.chained.known c.in-Some.top x (waits c.args.lines.now c.in-Some.top x (get_or c.args.lines.now c.in-Some.top nothing) (slice_get-get_or c.args.lines.now c.in-Some.top nothing within) (inl e)) in
    omega (arith, lt, c.loop-top.invariant.long)

pub mark-requires-in-Some : goal.mark-requires-in-Some
unfolding nothing
mark-requires-in-Some c = λ x e.
    let within = top_within c.args.lines.now c.args.line c.args.marks.now c.loop-top.marks c.loop-top.stack.items c.pop.new.self.items c.in-Some.top c.loop-top.invariant c.in-Some.ensures.items in
    let lt = c.requires.chained.known c.in-Some.top x (waits c.args.lines.now c.in-Some.top x (get_or c.args.lines.now c.in-Some.top nothing) (slice_get-get_or c.args.lines.now c.in-Some.top nothing within) (inr e)) in
    omega (arith, lt, c.loop-top.invariant.long, c.in_ok-mark.ensures.long)

pub loop-top-preserved : goal.loop-top-preserved
unfolding nothing
loop-top-preserved c =
    let within = top_within c.args.lines.now c.args.line c.args.marks.now c.loop-top.marks c.loop-top.stack.items c.pop.new.self.items c.in-Some.top c.loop-top.invariant c.in-Some.ensures.items in
    spread_on c.args.lines.now c.args.line c.args.marks.now c.loop-top.marks c.mark.new.marks c.mark-in-Some.new.marks c.loop-top.stack.items c.pop.new.self.items c.mark.new.stack.items c.mark-in-Some.new.stack.items c.in-Some.top (get_or c.args.lines.now c.in-Some.top nothing) c.requires.chained c.loop-top.invariant c.in-Some.ensures.items (slice_get-get_or c.args.lines.now c.in-Some.top nothing within) c.in_ok-mark.ensures c.in_ok-mark-2.ensures
