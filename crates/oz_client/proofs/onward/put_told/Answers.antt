use Rattle.std.proofs.Common.{ℕ, subst, sym}
use Rattle.oz_requests.specs.declared.answer.Values.TheVariants as values
use Rattle.oz_client.specs.Onward.{IsOver}
use Rattle.oz_client.proofs.Telling.{put-over}
use Rattle.oz_client.proofs.onward.put_told.Goals as goal

pub returns : goal.returns
returns c =
    subst (λ (n : ℕ). IsOver c.args.command.now c.args.progress.now (values.Length n)) (sym c.data_length.ensures)
    (put-over c.args.command.now c.args.progress.now c.requires.ready c.requires.idle c.requires.writes)
