use Rattle.std.proofs.Common.{◌≡◌, ◌+◌, List, Bool, length, take, drop, ◌++◌, None, sym, subst, ◌∙◌, arith}
use Rattle.std.proofs.lemmas.List.{take_at}
use Rattle.oz_script.specs.declared.circles.waits.Waits.{Waits}
use Rattle.oz_script.specs.circles.Marks.{MarksAll}
use Rattle.oz_script.proofs.circles_lemmas.Passing.{IsPassed, passed_own, found_own, passed_all, own_at, mark_read}
use Rattle.oz_script.proofs.circles.first.first_of.Goals as goal

nothing : Waits
nothing = record { client = 0; before = None; after = None }

pub returns-then-index : goal.returns-then-index
unfolding nothing
returns-then-index c =
    let marks = c.loop-place.marks in
    let next = c.mark_all.new.marks in
    let m : MarksAll c.args.lines.now c.loop-place.place marks.items next = subst (λ (l : List Bool). MarksAll c.args.lines.now c.loop-place.place l next) c.deref_mut.ensures.value c.in_ok-mark_all.ensures in
    let is : take marks.len (next ++ drop (length next) marks.items) ≡ next = take_at next (drop (length next) marks.items) marks.len (omega (arith, m.long, marks.ok)) in
    let marked = mark_read next _ c.loop-place.place c.index.result.now is (omega (arith, c.loop-place-test.true, m.long, c.loop-place.invariant.long)) c.index.ensures ∙ c.if-index.true in
    found_own c.args.lines.now c.args.client marks.items next c.loop-place.place c.requires c.loop-place.invariant m (own_at c.args.lines.now c.loop-place.place c.args.client nothing c.loop-place-test.true c.if-line-client.false) marked

pub loop-place-preserved : goal.loop-place-preserved
unfolding nothing
loop-place-preserved c =
    let marks = c.loop-place.marks in
    let next = c.mark_all.new.marks in
    let m : MarksAll c.args.lines.now c.loop-place.place marks.items next = subst (λ (l : List Bool). MarksAll c.args.lines.now c.loop-place.place l next) c.deref_mut.ensures.value c.in_ok-mark_all.ensures in
    let is : take marks.len (next ++ drop (length next) marks.items) ≡ next = take_at next (drop (length next) marks.items) marks.len (omega (arith, m.long, marks.ok)) in
    let free = mark_read next _ c.loop-place.place c.index.result.now is (omega (arith, c.loop-place-test.true, m.long, c.loop-place.invariant.long)) c.index.ensures ∙ c.if-index.false in
    subst (λ (l : List Bool). IsPassed c.args.lines.now c.args.client l (c.loop-place.place + 1)) (sym is)
    (passed_own c.args.lines.now c.args.client marks.items next c.loop-place.place c.loop-place.invariant m (own_at c.args.lines.now c.loop-place.place c.args.client nothing c.loop-place-test.true c.if-line-client.false) free)

pub returns : goal.returns
returns c = passed_all c.args.lines.now c.args.client c.loop-place.marks.items c.loop-place.place c.loop-place.invariant (omega arith)
