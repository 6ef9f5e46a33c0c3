use Rattle.std.proofs.Common.{◌+◌, ◌-◌, ◌*◌, ◌≡◌, ◌∙◌, sym, ap, drop, get_or, refl, arith}
use Rattle.std.proofs.lemmas.List.{drop_all}
use Rattle.oz_command.specs.Numbers.{digits_value}
use Rattle.oz_command.proofs.DigitFacts.{digits_value-grows, digits_value-step}
use Rattle.oz_command.proofs.numbers.digits_value.Goals as goal

pub returns-in_default : goal.returns-in_default
returns-in_default c = λ fits.
    let step = digits_value-step c.loop-digit.value c.args.word.now c.loop-digit.digit-index (get_or c.args.word.now c.loop-digit.digit-index 0) c.loop-digit-test.true refl in
    let grows = digits_value-grows (10 * c.loop-digit.value + (get_or c.args.word.now c.loop-digit.digit-index 0 - 48)) (drop (c.loop-digit.digit-index + 1) c.args.word.now) in
    c.in_default.ensures (omega (arith, step, grows, c.loop-digit.invariant.1, fits))

pub loop-digit-preserved : goal.loop-digit-preserved
loop-digit-preserved c =
    let step = digits_value-step c.loop-digit.value c.args.word.now c.loop-digit.digit-index (get_or c.args.word.now c.loop-digit.digit-index 0) c.loop-digit-test.true refl in
    (omega (arith, c.in-Some.ensures.0, c.in-Some.ensures.1), rw c.in-Some.ensures.1 (sym step ∙ c.loop-digit.invariant.1))

pub returns : goal.returns
unfolding digits_value
returns c =
    let none = drop_all c.loop-digit.digit-index c.args.word.now (omega arith) in
    let all : c.loop-digit.value ≡ digits_value 0 c.args.word.now = sym (ap (digits_value c.loop-digit.value) none) ∙ c.loop-digit.invariant.1 in
    (omega (arith, all, c.loop-digit.invariant.0), all)
