use Rattle.std.proofs.Common.{refl}
use Rattle.oz_core.specs.Asks.{ask_id, asks_of}
use Rattle.oz_core.specs.declared.event.EventKind.TheVariants.{Told}
use Rattle.oz_underway.specs.laws.Going.{none_more}
use Rattle.oz_underway.specs.laws.Labels.{open_as_told}
use Rattle.oz_underway.specs.laws.Told.{is_told_now}
use Rattle.oz_underway.proofs.laws.a_line_was_told.Goals as goal

pub returns-clause-told : goal.returns-clause-told
returns-clause-told c story seat client number answer = is_told_now story seat client number answer

pub returns-clause-open : goal.returns-clause-open
returns-clause-open c story seat line answer = open_as_told story seat line answer

pub returns-clause-asks : goal.returns-clause-asks
returns-clause-asks c story seat client number other line answer =
    none_more (ask_id client number) story (record { seat = seat; kind = Told other line answer }) (asks_of client number story) refl refl
