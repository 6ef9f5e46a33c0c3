use Rattle.std.proofs.Common.{ℕ, Option, take, sym, ◌∙◌, ap}
use Rattle.std.specs.List.{filter_map}
use Rattle.std.specs.Option.{option_or}
use Rattle.oz_core.specs.Steps.{opened_session}
use Rattle.oz_core.specs.Stories.{first_in}
use Rattle.oz_steps.proofs.Firsts.{first-of-more}
use Rattle.oz_steps.proofs.requests.session_in.Goals as goal

pub loop-reply-preserved : goal.loop-reply-preserved
loop-reply-preserved c =
    let so_far : Option ℕ = first_in (filter_map opened_session (take c.loop-reply.reply-index c.args.replies.now)) in
    c.or-session.ensures
    ∙ (ap (λ (o : Option ℕ). option_or o c.opened_session.result) c.loop-reply.invariant
    ∙ (ap (option_or so_far) (c.opened_session.ensures ∙ ap opened_session c.reply-item.is)
    ∙ sym (first-of-more opened_session c.args.replies.now c.loop-reply.reply-index c.reply-item.result c.loop-reply-test.true)))
