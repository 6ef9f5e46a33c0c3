use Rattle.oz_entries.specs.Node.{empty_node}
use Rattle.oz_entries.specs.laws.Journals.{sound_made, empty_sound}
use Rattle.oz_entries.proofs.laws.each_slot_belongs_to_one_block.Goals as goal

pub returns : goal.returns
returns c = λ bodies node makes. sound_made bodies empty_node node empty_sound makes
