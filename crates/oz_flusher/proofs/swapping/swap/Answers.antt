use Rattle.std.proofs.Common.{rules, refl, ◌≡◌, ◌≢◌, [], sym, ap, ◌∙◌}
use Rattle.oz_buffer.specs.Buffer.{buffer_of}
use Rattle.oz_core.specs.declared.event.Event.{Event}
use Rattle.oz_turn.specs.Told.{own_entries}
use Rattle.oz_turn.specs.Seat.{mine_of}
use Rattle.oz_flusher.proofs.Own.{own}
use Rattle.oz_flusher.proofs.Laws.{swap_enabled, swap_rises}
use Rattle.oz_flusher.proofs.swapping.swap.Goals as goal

pub swap-requires-clause-follows : goal.swap-requires-clause-follows
swap-requires-clause-follows g c =
    let O = g.O.Opened in
    let took = c.take-ledger.ensures in
    let story = c.take-ledger.result.0.story in
    let same : own story ≡ mine_of c.args.seat.now = ap (λ n. own_entries (λ (event : Event). event.seat) n story) (sym (took.seat.1 ∙ c.requires.ready.numbered)) ∙ (took.own ∙ took.mine) in
    let some : buffer_of story ≢ [] = search rules in
    record {
      of_seat = refl;
      enabled = λ coherent. swap_enabled O.coherent O.opening O.bytes O.script coherent story c.all_follow.ensures (mine_of c.args.seat.now) same (c.requires.settled coherent) c.last_index-index.result c.last_index-index.ensures some;
      fits = λ coherent. tt;
    }

pub returns-clause-rises : goal.returns-clause-rises
returns-clause-rises g c coherent =
    let O = g.O.Opened in
    let took = c.take-ledger.ensures in
    let story = c.take-ledger.result.0.story in
    let same : own story ≡ mine_of c.args.seat.now = ap (λ n. own_entries (λ (event : Event). event.seat) n story) (sym (took.seat.1 ∙ c.requires.ready.numbered)) ∙ (took.own ∙ took.mine) in
    let some : buffer_of story ≢ [] = search rules in
    swap_rises O.coherent O.opening O.bytes O.script coherent story c.all_follow.ensures (mine_of c.args.seat.now) same (c.requires.settled coherent) c.last_index-index.result c.last_index-index.ensures some
