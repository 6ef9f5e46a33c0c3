use Rattle.std.proofs.Common.{nat_le, Some, None, sym, ap, ◌∙◌}
use Rattle.std.specs.Option.{option_copied}
use Rattle.oz_dellog.specs.Logged.{acknowledgement_count}
use Rattle.oz_dellog.proofs.Sound.{is_removed, asked, retires}
use Rattle.oz_dellog.proofs.log.DelLog.retire.Goals as goal

pub invariant_of-self : goal.invariant_of-self
invariant_of-self c =
    is_removed c.self.inside.last c.args.number c.self.inside.unretired c.remove.new.self c.self.inside.index c.unlist.new.index c.in-Some.logged.now
    c.self.invariant (sym c.in-Some.ensures.value) c.remove.ensures.entries c.remove.ensures.ordered c.unlist.ensures

pub returns-in-Some-clause-answer : goal.returns-in-Some-clause-answer
returns-in-Some-clause-answer c =
    sym c.if-is_done.true ∙ c.is_done.ensures
    ∙ asked (λ logged. nat_le 3 (acknowledgement_count logged)) c.args.self.now c.self.inside.last c.args.number c.self.inside.unretired (Some c.in-Some.logged.now) c.self.view_is c.in-Some.ensures.value

pub returns-in-Some-clause-retired : goal.returns-in-Some-clause-retired
returns-in-Some-clause-retired c =
    retires c.args.self.now c.self.inside.last c.args.number c.self.inside.unretired c.remove.new.self c.self.view_is (c.remove.ensures.updates.0)

pub returns-in_default-clause-answer : goal.returns-in_default-clause-answer
returns-in_default-clause-answer c =
    sym c.if-is_done.false ∙ c.is_done.ensures
    ∙ asked (λ logged. nat_le 3 (acknowledgement_count logged)) c.args.self.now c.self.inside.last c.args.number c.self.inside.unretired (Some c.in-Some.logged.now) c.self.view_is c.in-Some.ensures.value

pub returns-in_default-2-clause-answer : goal.returns-in_default-2-clause-answer
returns-in_default-2-clause-answer c =
    asked (λ logged. nat_le 3 (acknowledgement_count logged)) c.args.self.now c.self.inside.last c.args.number c.self.inside.unretired None c.self.view_is
    (ap option_copied (sym c.in_default.is) ∙ c.get.ensures.value)
