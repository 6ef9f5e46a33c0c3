use Rattle.oz_entries.specs.Node.{empty_node}
use Rattle.oz_entries.specs.laws.Drops.{dropped_unheld, empty_slots, slots_made, unheld_drops}
use Rattle.oz_entries.specs.laws.Journals.{sound_made, empty_sound}
use Rattle.oz_entries.proofs.laws.what_is_dropped_holds_nothing.Goals as goal

pub returns : goal.returns
returns c = λ bodies node container makes small.
    let sound = sound_made bodies empty_node node empty_sound makes in
    (dropped_unheld container node sound (slots_made bodies empty_node node empty_slots makes), unheld_drops container node sound small)
