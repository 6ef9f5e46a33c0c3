use Rattle.std.proofs.Common.{sym, ◌∙◌}
use Rattle.oz_client.proofs.Going.{ready-behind}
use Rattle.oz_client.proofs.advance.replied.Goals as goal

pub after_reply-requires : goal.after_reply-requires
after_reply-requires c = λ none.
    ready-behind c.args.command.now c.args.progress.now c.args.awaited c.args.reply c.note_reply.new.came
    c.requires.waits c.requires.fits c.in_ok-note_reply.ensures.ok (sym c.code_in-code.ensures ∙ none)
