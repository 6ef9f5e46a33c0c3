use Rattle.std.proofs.Common.{◌≡◌, List, sym, ◌∙◌, subst}
use Rattle.std.specs.Prelude.{IfNone}
use Rattle.oz_core.specs.declared.event.Event.{Event}
use Rattle.oz_turn.specs.Seat.{seen_of}
use Rattle.oz_asker.specs.telling.Tells.{NoneIsLeftUp}
use Rattle.oz_asker.proofs.telling.halted.left_up.Goals as goal

pub returns-clause-down : goal.returns-clause-down
returns-clause-down g c =
    let same : seen_of c.give_back.new.seat ≡ c.take-ledger.result.0.story = c.give_back.ensures.seen ∙ c.take-ledger.ensures.seen in
    subst (λ (l : List Event). IfNone c.first_left_up-left.result (NoneIsLeftUp l)) (sym same) c.first_left_up-left.ensures.down
