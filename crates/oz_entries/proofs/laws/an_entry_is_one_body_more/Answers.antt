use Rattle.std.proofs.Common.{refl}
use Rattle.oz_entries.specs.Node.{empty_node}
use Rattle.oz_entries.specs.Entries.{entry_bytes}
use Rattle.oz_entries.specs.laws.Journals.{makes_push}
use Rattle.oz_entries.proofs.laws.an_entry_is_one_body_more.Goals as goal

pub returns : goal.returns
returns c = λ bodies node entry makes follows. makes_push empty_node bodies node (entry_bytes entry) entry makes (record { spelled = refl; follows = follows })
