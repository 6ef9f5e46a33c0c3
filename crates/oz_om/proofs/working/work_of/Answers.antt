use Rattle.std.proofs.Common.{ℕ, subst}
use Rattle.oz_cache.specs.Cache.{newest}
use Rattle.oz_turn.specs.Seat.{seen_of}
use Rattle.oz_owned.specs.Stood.{HasStood}
use Rattle.oz_om.proofs.working.work_of.Goals as goal

pub returns-clause-work : goal.returns-clause-work
returns-clause-work g c = λ coherent. record {
  rows = newest c.look.new.stripe.cache;
  stood = subst (λ (n : ℕ). HasStood g.O.Opened.opening g.L.Loaded.rows n (seen_of c.look.new.seat) (newest c.look.new.stripe.cache)) c.look.ensures.number (c.look.ensures.keeps.stood coherent);
  work = c.in_ok-work.ensures.work;
}
