use Rattle.std.proofs.Common.{rules, nat_lt}
use Rattle.std.proofs.lemmas.Fn.{filter_same}
use Rattle.oz_reclaim.specs.declared.sweep.notes.Note.{Note}
use Rattle.oz_reclaim.proofs.sweep.notes.keep_later.Goals as goal

pub returns-clause-items : goal.returns-clause-items
returns-clause-items c =
    filter_same _ (λ (note : Note). nat_lt c.args.upto note.index) _ (λ x b f' k. search rules) _ _ c.retain.ensures.filtered
