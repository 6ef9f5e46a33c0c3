use Rattle.std.proofs.Common.{IsTrue, rules}
use Rattle.oz_legal.proofs.manager_law.purging.purge_ask_is_enabled.Goals as goal

pub returns-then-unreached : goal.returns-then-unreached
returns-then-unreached c =
    let used : IsTrue c.in_ok-used.used = search rules in
    let unreached : IsTrue c.in_ok-unreached.unreached = search rules in (
      λ h. record {
        of_stripe = search rules;
        unhalted = search rules;
        some = search rules;
        used = c.in_ok-used.ensures.0 used;
        unreached = c.in_ok-unreached.ensures.0 unreached;
        unpinned = λ k d below. (c.are_free.ensures.0 h k d below).away;
      },
      λ is. c.are_free.ensures.1 (λ k d below. record { away = is.unpinned k d below }),
    )
