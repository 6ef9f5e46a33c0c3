use Rattle.std.proofs.Common.{◌≡◌, ◌++◌, ◌∷◌, [], ◌∙◌, All, List, map, ap, sym, subst}
use Rattle.std.proofs.lemmas.List.Elements.{All-push}
use Rattle.oz_worker.specs.declared.client.Client.{Client}
use Rattle.oz_worker.specs.Served.{IsServed}
use Rattle.oz_worker.proofs.Dealt.{none_dealt, numbers_pushed, one_dealt}
use Rattle.oz_worker.proofs.worker.clients_from.Goals.{then-dealt-workers+in_ok-new+in_ok-push, else-dealt-workers}
use Rattle.oz_worker.proofs.worker.clients_from.Goals as goal

pub loop-dealt-preserved : goal.loop-dealt-preserved
loop-dealt-preserved g c =
    let O = g.O.Opened in
    let before = c.loop-dealt.clients.items in
    let was = c.loop-dealt.invariant in
    elim c.if-dealt-workers.branch [
      | then-dealt-workers+in_ok-new+in_ok-push w ↦
          let one = w.in_ok-new.field-0 in
          let items : c.if-dealt-workers.clients.items ≡ before ++ one ∷ [] = ap (λ v. v.items) w.clients-is ∙ w.in_ok-push.ensures.items in record {
            served = λ seen.
                subst (λ (clients : List Client). All (IsServed O.coherent O.opening O.bytes O.script seen) clients) (sym items)
                (All-push (IsServed O.coherent O.opening O.bytes O.script seen) before one (was.served seen) (w.in_ok-new.ensures.served seen));
            numbers = ap (λ (clients : List Client). map (λ (client : Client). client.number) clients) items
                ∙ (numbers_pushed before one
                ∙ one_dealt c.args.workers c.args.place c.loop-dealt.dealt one.number (map (λ (client : Client). client.number) before) was.numbers
                w.if-dealt-workers.true w.in_ok-new.ensures.number);
          }
      | else-dealt-workers w ↦
          let items : c.if-dealt-workers.clients.items ≡ before = ap (λ v. v.items) w.clients-is in record {
            served = λ seen.
                subst (λ (clients : List Client). All (IsServed O.coherent O.opening O.bytes O.script seen) clients) (sym items) (was.served seen);
            numbers = ap (λ (clients : List Client). map (λ (client : Client). client.number) clients) items
                ∙ none_dealt c.args.workers c.args.place c.loop-dealt.dealt (map (λ (client : Client). client.number) before) was.numbers
                w.if-dealt-workers.false;
          }
    ]
