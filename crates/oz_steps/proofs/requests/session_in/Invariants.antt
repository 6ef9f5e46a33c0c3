use Rattle.std.proofs.Common.{◌≡◌, take}
use Rattle.std.specs.List.{filter_map}
use Rattle.oz_core.specs.Steps.{opened_session}
use Rattle.oz_core.specs.Stories.{first_in}
use Rattle.oz_steps.proofs.requests.session_in.Given as goal

abbrev pub invariant-loop-reply : goal.invariant-loop-reply
invariant-loop-reply l = l.session ≡ first_in (filter_map opened_session (take l.reply-index l.fn.replies))
