use Rattle.std.proofs.Common.{◌≡◌, ◌+◌, Some, None, sym, ap, ◌∙◌, arith}
use Rattle.std.specs.Option.{option_copied}
use Rattle.std.specs.FinMap.{get}
use Rattle.oz_dellog.specs.Log.{Log}
use Rattle.oz_dellog.proofs.Sound.{has_last, is_shorter, takes_back}
use Rattle.oz_dellog.proofs.Rising.{looks}
use Rattle.oz_dellog.proofs.log.DelLog.take_back.Goals as goal

none_there : {A : Type 0} {v : A} → Some v ≡ None → ⊥
none_there is = absurd (cc)

next : (c : goal.After-self-1) → c.in-Some.before + 1 ≡ c.self.inside.last
next c = omega (arith, c.in-Some.ensures)

pub invariant_of-self : goal.invariant_of-self
invariant_of-self c =
    is_shorter c.self.inside.last c.in-Some.before c.self.inside.unretired c.remove.new.self c.self.inside.index c.unlist.new.index c.in-Some-get.logged.now
    c.self.invariant (next c) (sym c.in-Some-get.ensures.value) c.remove.ensures.entries c.remove.ensures.ordered c.unlist.ensures

pub returns-in-Some-get-clause-taken : goal.returns-in-Some-get-clause-taken
returns-in-Some-get-clause-taken c = λ log container locals free was.
    takes_back log c.self.inside.last c.in-Some.before container locals c.self.inside.unretired c.remove.new.self (c.self.view_is ∙ was) (next c) free (c.remove.ensures.updates.0)

pub returns-in-Some-get-clause-stays : goal.returns-in-Some-get-clause-stays
returns-in-Some-get-clause-stays c = λ none. let found = c.in-Some-get.ensures.value ∙ looks c.self.inside.last c.self.inside.unretired.entries in
    let there = ap (λ (l : Log). get l.unretired l.last) c.self.view_is in
    absurd (none_there (found ∙ there ∙ none))

pub returns-in_default-get-clause-taken : goal.returns-in_default-get-clause-taken
returns-in_default-get-clause-taken c = λ log container locals free was.
    absurd (none_there (sym (has_last log c.self.inside.last container locals c.self.inside.unretired (c.self.view_is ∙ was))
    ∙ sym (ap option_copied (sym c.in_default-get.is) ∙ c.get.ensures.value)))
