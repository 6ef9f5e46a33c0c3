use Rattle.oz_asker.specs.laws.Asks.{decided_as_asked}
use Rattle.std.proofs.Common.{List, ap, sym, ◌∙◌}
use Rattle.std.specs.Prelude.{slice_get}
use Rattle.oz_core.specs.declared.event.Event.{Event}
use Rattle.oz_asker.specs.laws.Once.{decided_beyond, index_of_decided}
use Rattle.oz_asker.proofs.laws.what_was_decided.Goals as goal

pub returns-clause-as_asked : goal.returns-clause-as_asked
returns-clause-as_asked c opening story id request asked place seat index reply batch legal of_script at is =
    decided_as_asked opening story legal id of_script asked place seat index request reply batch at is

pub returns-clause-once : goal.returns-clause-once
returns-clause-once c opening story id place seat index reply batch legal of_script is =
    index_of_decided opening id of_script story legal place seat index reply batch is

pub returns-clause-beyond : goal.returns-clause-beyond
returns-clause-beyond c opening before story id request place seat index reply batch legal of_script begins waits is =
    decided_beyond opening id of_script before begins.0 legal request waits place seat index reply batch
    (sym (ap (λ (l : List Event). slice_get l place) begins.1) ∙ is)
