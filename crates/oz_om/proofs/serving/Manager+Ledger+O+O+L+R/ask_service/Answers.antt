use Rattle.std.proofs.Common.{◌≡◌, ℕ, List, Err, sym, ap, ◌∙◌, subst}
use Rattle.oz_asker.specs.laws.Indexes.{decided_there}
use Rattle.oz_core.specs.declared.event.Event.{Event}
use Rattle.oz_turn.specs.declared.seat.Seat.{Seat}
use Rattle.oz_turn.specs.Seat.{mine_of, number_of, seen_of}
use Rattle.oz_turn.specs.Told.{BeginsWith}
use Rattle.oz_om.specs.Refusals.{RefusalHolds}
use Rattle.oz_om.specs.Served.{IsDecidedBehind, service_id}
use Rattle.oz_om.specs.declared.refusal.Refusal.{Refusal}
use Rattle.oz_om.specs.declared.refusal.Refusal.TheVariants as refusals
use Rattle.oz_om.proofs.Answered.{longer}
use Rattle.oz_om.proofs.Legal.{legal_of}
use Rattle.oz_om.proofs.Pooled.{never_empty, one_error}
use Rattle.oz_om.proofs.Service.{for_any, none_on, own_of, served_on, waits_for_none, waits_on}
use Rattle.oz_om.proofs.serving.Manager+Ledger+O+O+L+R.ask_service.Goals as goal

pub returns-in-Err-decide_locked-clause-same : goal.returns-in-Err-decide_locked-clause-same
returns-in-Err-decide_locked-clause-same g c = λ coherent.
    let O = g.O.Opened in
    let before = seen_of c.put_ask.new.seat in
    let story = seen_of c.decide_locked.new.seat in
    let given = mine_of c.put_ask.new.seat in
    let shown = c.in-Err-decide_locked.ensures.shown in
    let waits = waits_on O.opening before story given shown.goes_on (legal_of O.coherent O.opening O.bytes O.script coherent story shown.follow)
    (own_of (number_of c.put_ask.new.seat) before given c.put_ask.ensures.ready.numbered c.knows_own.ensures)
    (own_of (number_of c.decide_locked.new.seat) story given shown.ready.numbered (c.knows_own-in-Err-decide_locked.ensures ∙ shown.mine))
    c.args.request (c.put_ask.ensures.same coherent) in
    waits

pub returns-in-Err-decide_locked-clause-pool_empty : goal.returns-in-Err-decide_locked-clause-pool_empty
returns-in-Err-decide_locked-clause-pool_empty g c = λ stripe coherent is.
    let O = g.O.Opened in
    let before = seen_of c.put_ask.new.seat in
    let story = seen_of c.decide_locked.new.seat in
    let given = mine_of c.put_ask.new.seat in
    let shown = c.in-Err-decide_locked.ensures.shown in
    let waits = waits_on O.opening before story given shown.goes_on (legal_of O.coherent O.opening O.bytes O.script coherent story shown.follow)
    (own_of (number_of c.put_ask.new.seat) before given c.put_ask.ensures.ready.numbered c.knows_own.ensures)
    (own_of (number_of c.decide_locked.new.seat) story given shown.ready.numbered (c.knows_own-in-Err-decide_locked.ensures ∙ shown.mine))
    c.args.request (c.put_ask.ensures.same coherent) in
    never_empty O.coherent O.opening story c.args.request waits c.requires.of_service coherent stripe
    (subst (λ (r : Refusal). RefusalHolds O.coherent O.opening story service_id r) (one_error c.in-Err-decide_locked.refusal (refusals.PoolEmpty stripe) is) c.in-Err-decide_locked.ensures.refused)

pub returns-clause-ok : goal.returns-clause-ok
returns-clause-ok g c = λ coherent.
    let O = g.O.Opened in
    let before = seen_of c.put_ask.new.seat in
    let story = seen_of c.see_index-index.new.seat in
    let given = mine_of c.put_ask.new.seat in
    let same = c.in_default.ensures.same in
    let shown = c.see_index-index.ensures.shown in
    let begins = subst (λ (s : Seat _ _ _). BeginsWith story (seen_of s)) same shown.goes_on in
    let legal = legal_of O.coherent O.opening O.bytes O.script coherent story shown.follow in
    let was = own_of (number_of c.put_ask.new.seat) before given c.put_ask.ensures.ready.numbered c.knows_own.ensures in
    let own = own_of (number_of c.see_index-index.new.seat) story given shown.ready.numbered (c.knows_own-2.ensures ∙ (shown.mine ∙ ap (λ (s : Seat _ _ _). mine_of s) same)) in
    let behind = subst (λ (n : ℕ). IsDecidedBehind story n service_id c.see_index-index.result) c.in-Ok.ensures.length c.see_index-index.ensures.decided in
    served_on O.opening before story given begins legal was own c.args.request (c.in-Ok.ensures.ok coherent) c.see_index-index.result behind
    (seen_of c.args.seat.now) (longer before (seen_of c.args.seat.now) c.put_ask.ensures.goes_on)

pub returns-clause-seen : goal.returns-clause-seen
returns-clause-seen g c =
    let it = c.see_index-index.ensures.decided in
    decided_there service_id it.2 (seen_of c.see_index-index.new.seat) it.0 (it.1, c.see_index-index.result, it.3, it.5)

pub returns-clause-decided : goal.returns-clause-decided
returns-clause-decided g c = λ coherent.
    let O = g.O.Opened in
    let before = seen_of c.put_ask.new.seat in
    let story = seen_of c.see_index-index.new.seat in
    let given = mine_of c.put_ask.new.seat in
    let same = c.in_default.ensures.same in
    let shown = c.see_index-index.ensures.shown in
    let begins = subst (λ (s : Seat _ _ _). BeginsWith story (seen_of s)) same shown.goes_on in
    let legal = legal_of O.coherent O.opening O.bytes O.script coherent story shown.follow in
    let was = own_of (number_of c.put_ask.new.seat) before given c.put_ask.ensures.ready.numbered c.knows_own.ensures in
    let own = own_of (number_of c.see_index-index.new.seat) story given shown.ready.numbered (c.knows_own-2.ensures ∙ (shown.mine ∙ ap (λ (s : Seat _ _ _). mine_of s) same)) in
    let behind = subst (λ (n : ℕ). IsDecidedBehind story n service_id c.see_index-index.result) c.in-Ok.ensures.length c.see_index-index.ensures.decided in
    none_on O.opening before story given begins legal was own c.args.request (c.in-Ok.ensures.ok coherent) c.see_index-index.result behind

pub returns-clause-same : goal.returns-clause-same
returns-clause-same g c = λ coherent.
    let O = g.O.Opened in
    let before = seen_of c.put_ask.new.seat in
    let story = seen_of c.see_index-index.new.seat in
    let given = mine_of c.put_ask.new.seat in
    let same = c.in_default.ensures.same in
    let shown = c.see_index-index.ensures.shown in
    let begins = subst (λ (s : Seat _ _ _). BeginsWith story (seen_of s)) same shown.goes_on in
    let legal = legal_of O.coherent O.opening O.bytes O.script coherent story shown.follow in
    let was = own_of (number_of c.put_ask.new.seat) before given c.put_ask.ensures.ready.numbered c.knows_own.ensures in
    let own = own_of (number_of c.see_index-index.new.seat) story given shown.ready.numbered (c.knows_own-2.ensures ∙ (shown.mine ∙ ap (λ (s : Seat _ _ _). mine_of s) same)) in
    let behind = subst (λ (n : ℕ). IsDecidedBehind story n service_id c.see_index-index.result) c.in-Ok.ensures.length c.see_index-index.ensures.decided in
    waits_for_none story c.args.request
    (none_on O.opening before story given begins legal was own c.args.request (c.in-Ok.ensures.ok coherent) c.see_index-index.result behind)
