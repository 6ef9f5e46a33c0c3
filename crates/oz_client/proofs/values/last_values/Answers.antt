use Rattle.std.proofs.Common.{◌≡◌, Some, None, sym, ◌∙◌, ap}
use Rattle.oz_core.specs.Due.{values_of}
use Rattle.oz_core.specs.Stories.{last_in}
use Rattle.oz_client.proofs.Telling.{gives-not}
use Rattle.oz_client.proofs.values.last_values.Goals as goal

pub unreachable-requires-in-None : goal.unreachable-requires-in-None
unreachable-requires-in-None c =
    let none : values_of c.args.command.now c.in-Some.reply.now ≡ None = sym c.in_ok-values.ensures ∙ c.in-None.is in
    let last : last_in c.args.came.now.replies ≡ Some c.in-Some.reply.now = ap last_in (sym c.items.ensures) ∙ c.in-Some.ensures in
    gives-not c.args.command.now c.args.came.now c.in-Some.reply.now c.requires last none
