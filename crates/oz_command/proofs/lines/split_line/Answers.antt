use Rattle.std.proofs.Common.{◌∙◌, sym}
use Rattle.oz_command.proofs.Parts.{first_line, last_line}
use Rattle.oz_command.proofs.lines.split_line.Goals as goal

pub returns-in_default-clause-parts : goal.returns-in_default-clause-parts
returns-in_default-clause-parts c =
    rw (c.split_at.ensures.front, c.split_at.ensures.back) (last_line c.args.bytes.now (sym c.is_empty.ensures ∙ c.if-is_empty.false) (sym c.line_feed_in.ensures ∙ c.in_default.is))

pub returns-clause-parts : goal.returns-clause-parts
returns-clause-parts c =
    rw (c.without_return.ensures, c.split_at-2.ensures.front, c.split_at-3.ensures.back) (first_line c.args.bytes.now c.in-Some.end (sym c.line_feed_in.ensures ∙ c.in-Some.is))
