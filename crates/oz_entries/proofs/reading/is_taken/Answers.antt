use Rattle.std.proofs.Common.{Bool, ◌||◌, sym, ap, ◌∙◌}
use Rattle.oz_entries.specs.Held.{node_of}
use Rattle.oz_entries.specs.Node.{is_used}
use Rattle.oz_entries.proofs.SlotUses.{used_or_in}
use Rattle.oz_entries.proofs.reading.is_taken.Goals as goal

pub returns : goal.returns
returns c =
    c.either.ensures
    ∙ (ap (λ (b : Bool). b || c.is_in_one.result) c.is_used.ensures
    ∙ (ap (λ (b : Bool). is_used (node_of c.args.held.now) c.args.slot || b) c.is_in_one.ensures
    ∙ sym (used_or_in (is_used (node_of c.args.held.now)) c.args.before.now c.args.slot)))
