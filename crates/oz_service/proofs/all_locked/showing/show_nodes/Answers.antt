use Rattle.std.proofs.Common.{◌≡◌, ◌≤◌, ◌<◌, ◌+◌, ⊎_elim, List, [], Some, IsSome, length, map, slice_get, slice_set, refl, sym, ap, ◌∙◌, subst, arith}
use Rattle.std.proofs.lemmas.Bool.{cases_lt}
use Rattle.std.proofs.lemmas.List.{length-map, length-set, map-set}
use Rattle.std.proofs.lemmas.Option.{slice_get-map, slice_get_read, slice_get_within}
use Rattle.std.specs.Option.{option_map}
use Rattle.std.specs.Sync.Mutex.{mutex_guard_value, mutex_guard_with_value}
use Rattle.oz_buffer.specs.Buffer.{AllFollow, Follows}
use Rattle.oz_core.specs.declared.event.Event.{Event}
use Rattle.oz_turn.specs.Seat.{seen_of}
use Rattle.oz_service.specs.AllLocked.{IsShown, node_shown}
use Rattle.oz_service.proofs.Listed.{each_set, next_front, whole_front}
use Rattle.oz_service.proofs.all_locked.showing.show_nodes.Goals as goal

pub show_node-requires-clause-held : goal.show_node-requires-clause-held
show_node-requires-clause-held g c = subst IsSome (sym c.loop-dn.invariant.taken) c.requires.held

pub show_node-requires-clause-follow : goal.show_node-requires-clause-follow
show_node-requires-clause-follow g c =
    let O = g.O.Opened in
    subst (λ (l : List Event). AllFollow (Follows O.coherent O.opening O.bytes O.script) [] l) (sym (ap (λ s. s.seen) c.loop-dn.invariant.share)) c.requires.follow

pub loop-dn-preserved : goal.loop-dn-preserved
loop-dn-preserved g c =
    let n = c.loop-dn.dn in
    let story = seen_of c.args.holder.now in
    let f = node_shown story in
    let items = c.loop-dn.nodes.items in
    let now = map mutex_guard_value items in
    let guard = c.index_mut.result.now in
    let cell = mutex_guard_value guard in
    let show = c.show_node.ensures in
    let next = mutex_guard_with_value guard c.show_node.new.cell in
    let kept = c.loop-dn.invariant in
    let within : n < length items = omega (arith, c.loop-dn-test.true, c.len-dn-end.ensures, kept.count) in
    let at : slice_get now n ≡ Some cell = slice_get-map mutex_guard_value items n ∙ ap (option_map mutex_guard_value) (slice_get_read items (length items) n guard refl within c.index_mut.ensures.value) in
    let became : c.show_node.new.cell ≡ f cell =
    show.same ∙ (ap (λ l. node_shown l c.deref_mut.result.now) (ap (λ s. s.seen) kept.share) ∙ ap f c.deref_mut.ensures.value) in
    let number : c.show_node.new.cell.node.id ≡ n = ap (λ x. x.node.id) became ∙ kept.order n cell at in
    let changed = map-set mutex_guard_value items n next in
    record {
      count = length-set items n next ∙ kept.count;
      order = λ place one got.
          each_set (λ k x. x.node.id ≡ k) now n (mutex_guard_value next) (λ k x apart was. kept.order k x was) number
          place one (subst (λ l. slice_get l place ≡ Some one) changed got);
      same = next_front f (map mutex_guard_value c.args.nodes.now.items) now (map mutex_guard_value (slice_set items n next)) n cell kept.same at
          (changed ∙ ap (slice_set now n) became);
      shown = λ place one less got.
          each_set (λ k x. k < n + 1 → IsShown g.D.Disk g.O.Opened story k x) now n (mutex_guard_value next)
          (λ k x apart was less. ⊎_elim (λ lower. kept.shown k x lower was) (λ past. absurd (apart (omega (arith, past, less)))) (cases_lt k n))
          (λ less. record {
            number = sym show.stands.number ∙ number;
            seen = ap (λ x. x.kept.seen) became;
            kept = show.kept;
            stands = show.stands;
          })
          place one (subst (λ l. slice_get l place ≡ Some one) changed got) less;
      holder = (show.holder.0 ∙ kept.holder.0, show.holder.1 ∙ kept.holder.1);
      share = show.share ∙ kept.share;
      taken = show.taken ∙ kept.taken;
    }

pub returns-clause-same : goal.returns-clause-same
returns-clause-same g c =
    let old = map mutex_guard_value c.args.nodes.now.items in
    let past : length old ≤ c.loop-dn.dn = omega (arith, c.loop-dn-test.false, c.len-dn-end.ensures, length-map c.args.nodes.now.items mutex_guard_value) in
    c.loop-dn.invariant.same ∙ whole_front (node_shown (seen_of c.args.holder.now)) old c.loop-dn.dn past

pub returns-clause-shown : goal.returns-clause-shown
returns-clause-shown g c dn one got =
    let kept = c.loop-dn.invariant in
    let now = map mutex_guard_value c.loop-dn.nodes.items in
    let within : dn < length now = slice_get_within now dn one got in
    kept.shown dn one
    (omega (arith, within, length-map c.loop-dn.nodes.items mutex_guard_value, kept.count, c.loop-dn-test.false, c.len-dn-end.ensures)) got
