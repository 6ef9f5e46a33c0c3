use Rattle.std.proofs.Common.{◌≡◌, All, List, map}
use Rattle.oz_core.specs.declared.event.Event.{Event}
use Rattle.oz_worker.specs.declared.client.Client.{Client}
use Rattle.oz_worker.specs.Served.{IsServed}
use Rattle.oz_worker.specs.Workers.{clients_of}
use Rattle.oz_worker.proofs.worker.clients_from.Given as goal

abbrev pub invariant-loop-dealt : goal.invariant-loop-dealt
invariant-loop-dealt g l = record {
  served : (seen : List Event) → All (IsServed g.O.Opened.coherent g.O.Opened.opening g.O.Opened.bytes g.O.Opened.script seen) l.clients.items;
  numbers : map (λ (client : Client). client.number) l.clients.items ≡ clients_of l.workers l.place l.dealt;
}
