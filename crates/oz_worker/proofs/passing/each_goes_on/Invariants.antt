use Rattle.std.proofs.Common.{◌≡◌, All, map}
use Rattle.oz_turn.specs.Seat.{IsReady, seen_of}
use Rattle.oz_turn.specs.Told.{BeginsWith}
use Rattle.oz_worker.specs.declared.client.Client.{Client}
use Rattle.oz_worker.specs.Served.{IsServed}
use Rattle.oz_worker.proofs.passing.each_goes_on.Given as goal

abbrev pub invariant-loop-client : goal.invariant-loop-client
invariant-loop-client g l = record {
  ready : IsReady g.R.Ring.turn l.by l.seat;
  goes_on : BeginsWith (seen_of l.seat) (seen_of l.fn.seat);
  served : All (IsServed g.O.Opened.coherent g.O.Opened.opening g.O.Opened.bytes g.O.Opened.script (seen_of l.seat)) l.clients;
  same : map (λ (client : Client). client.number) l.clients ≡ map (λ (client : Client). client.number) l.fn.clients;
}
