use Rattle.std.proofs.Common.{◌∙◌, sym}
use Rattle.oz_command.specs.Words.{is_blank}
use Rattle.oz_command.proofs.Parts.{first_word, no_word, position_else}
use Rattle.oz_command.proofs.words.split_word.Goals as goal

pub returns-in_default : goal.returns-in_default
returns-in_default c = no_word c.args.line.now (sym c.in_default.ensures)

pub returns : goal.returns
returns c =
    rw (c.split_at-2.ensures.front, c.split_at-2.ensures.back) (first_word c.args.line.now c.in-Some.start c.split_at.result.1.now c.unwrap_or-end.result
    (sym c.word_in.ensures ∙ c.in-Some.is) c.split_at.ensures.back (c.unwrap_or-end.ensures ∙ position_else is_blank _ _ c.blank_in.ensures))
