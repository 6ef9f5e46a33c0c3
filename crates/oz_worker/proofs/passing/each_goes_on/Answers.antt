use Rattle.std.proofs.Common.{◌∙◌}
use Rattle.std.proofs.lemmas.List.Elements.{All-set, All-weaker}
use Rattle.oz_turn.specs.Seat.{seen_of}
use Rattle.oz_at_work.specs.Going.{begins_through}
use Rattle.oz_worker.specs.Served.{IsServed}
use Rattle.oz_worker.proofs.Dealt.{same_numbers}
use Rattle.oz_worker.proofs.Served.{served_still}
use Rattle.oz_worker.proofs.passing.each_goes_on.Goals as goal

pub returns-in-OutOfMemory-clause-served : goal.returns-in-OutOfMemory-clause-served
returns-in-OutOfMemory-clause-served g c =
    All-set (IsServed g.O.Opened.coherent g.O.Opened.opening g.O.Opened.bytes g.O.Opened.script (seen_of c.look.new.seat)) c.loop-client.clients c.loop-client.client-index c.look.new.self c.look.ensures.served
    (All-weaker (IsServed g.O.Opened.coherent g.O.Opened.opening g.O.Opened.bytes g.O.Opened.script (seen_of c.loop-client.seat)) (IsServed g.O.Opened.coherent g.O.Opened.opening g.O.Opened.bytes g.O.Opened.script (seen_of c.look.new.seat))
    (served_still g.O.Opened.coherent g.O.Opened.opening g.O.Opened.bytes g.O.Opened.script (seen_of c.look.new.seat) (seen_of c.loop-client.seat)
    (λ work. c.what_is_at_work_stays.ensures.works (seen_of c.loop-client.seat) (seen_of c.look.new.seat) work c.look.ensures.gone.goes_on)
    (λ line left. c.what_is_at_work_stays.ensures.left (seen_of c.loop-client.seat) (seen_of c.look.new.seat) line left c.look.ensures.gone.goes_on))
    c.loop-client.clients c.loop-client.invariant.served)

pub returns-in-OutOfMemory-clause-same : goal.returns-in-OutOfMemory-clause-same
returns-in-OutOfMemory-clause-same g c =
    same_numbers c.loop-client.clients c.loop-client.client-index c.client-item.result c.look.new.self c.look.ensures.number
    ∙ c.loop-client.invariant.same

pub loop-client-preserved : goal.loop-client-preserved
loop-client-preserved g c = record {
  ready = c.look.ensures.gone.ready;
  goes_on = begins_through (seen_of c.look.new.seat) (seen_of c.loop-client.seat) (seen_of c.args.seat.now) c.look.ensures.gone.goes_on c.loop-client.invariant.goes_on;
  served =
      All-set (IsServed g.O.Opened.coherent g.O.Opened.opening g.O.Opened.bytes g.O.Opened.script (seen_of c.look.new.seat)) c.loop-client.clients c.loop-client.client-index c.look.new.self c.look.ensures.served
      (All-weaker (IsServed g.O.Opened.coherent g.O.Opened.opening g.O.Opened.bytes g.O.Opened.script (seen_of c.loop-client.seat)) (IsServed g.O.Opened.coherent g.O.Opened.opening g.O.Opened.bytes g.O.Opened.script (seen_of c.look.new.seat))
      (served_still g.O.Opened.coherent g.O.Opened.opening g.O.Opened.bytes g.O.Opened.script (seen_of c.look.new.seat) (seen_of c.loop-client.seat)
      (λ work. c.what_is_at_work_stays.ensures.works (seen_of c.loop-client.seat) (seen_of c.look.new.seat) work c.look.ensures.gone.goes_on)
      (λ line left. c.what_is_at_work_stays.ensures.left (seen_of c.loop-client.seat) (seen_of c.look.new.seat) line left c.look.ensures.gone.goes_on))
      c.loop-client.clients c.loop-client.invariant.served);
  same = same_numbers c.loop-client.clients c.loop-client.client-index c.client-item.result c.look.new.self c.look.ensures.number
      ∙ c.loop-client.invariant.same;
}
