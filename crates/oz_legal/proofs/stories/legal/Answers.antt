use Rattle.std.proofs.Common.{◌≡◌, ◌<◌, Bool, true, false, length, refl, sym, ◌∙◌, ap, subst, arith}
use Rattle.std.proofs.lemmas.Option.{slice_get_read}
use mathlib.Core.Bool.{false≢true}
use Rattle.oz_core.specs.Law.{IsLegal, IsEnabled}
use Rattle.oz_legal.proofs.Going.{legal_further, nothing_is_legal}
use Rattle.oz_legal.proofs.stories.legal.Goals as goal

pub loop-place-init : goal.loop-place-init
loop-place-init c = nothing_is_legal c.args.opening.now

pub returns-then-not-branch : goal.returns-then-not-branch
returns-then-not-branch c = record {
  before = c.loop-place.invariant;
  event = c.index-story-place.result;
  there = slice_get_read c.args.story.now (length c.args.story.now) c.loop-place.place c.index-story-place.result refl (omega (arith, c.loop-place-test.true)) c.index-story-place.is;
  refused = λ is. false≢true (sym c.if-not-branch.true ∙ c.in_ok-enabled.ensures.1 is);
}

pub loop-place-preserved : goal.loop-place-preserved
loop-place-preserved c =
    legal_further c.args.opening.now c.args.story.now c.loop-place.place c.index-story-place.result
    (slice_get_read c.args.story.now (length c.args.story.now) c.loop-place.place c.index-story-place.result refl (omega (arith, c.loop-place-test.true)) c.index-story-place.is)
    c.loop-place.invariant (c.in_ok-enabled.ensures.0 c.if-not-branch.false)
