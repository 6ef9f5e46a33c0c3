use Rattle.std.proofs.Common.{List, sym, subst}
use Rattle.std.specs.Prelude.{IsSome}
use Rattle.oz_buffer.specs.Became.{index_of}
use Rattle.oz_core.specs.declared.event.Event.{Event}
use Rattle.oz_turn.specs.Seat.{seen_of}
use Rattle.oz_asker.specs.laws.Indexes.{decided_still}
use Rattle.oz_asker.proofs.settling.settle.Goals as goal

pub settlement-settled-requires : goal.settlement-settled-requires
settlement-settled-requires g c =
    let begins = c.take-ledger.ensures.begins in
    subst (λ (l : List Event). IsSome (index_of c.args.id l)) (sym begins.1) (decided_still c.args.id (seen_of c.args.seat.now) begins.0 c.requires.decided)
