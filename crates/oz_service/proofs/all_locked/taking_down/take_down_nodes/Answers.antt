use Rattle.std.proofs.Common.{◌≡◌, ◌<◌, ◌≤◌, [], ◌∷◌, Some, length, map, slice_get, slice_set, take, refl, sym, ap, ◌∙◌, subst, arith}
use Rattle.std.proofs.lemmas.List.{length-map, length-set, map-set}
use Rattle.std.proofs.lemmas.Option.{slice_get-map, slice_get_read}
use Rattle.std.specs.List.{AllZip}
use Rattle.std.specs.Option.{option_map}
use Rattle.std.specs.Sync.Mutex.{mutex_guard_value, mutex_guard_with_value}
use Rattle.oz_turn.specs.Seat.{IsReady, seen_of}
use Rattle.oz_service.specs.TakenDown.{HasSeenMore, ToldDowns, left_up}
use Rattle.oz_service.proofs.Downs.{begins_itself, begins_through, halted_down, next_told, none_more, only_took, seen_itself, seen_set, told_none}
use Rattle.oz_service.proofs.Zipped.{zip_get, zip_self}
use Rattle.oz_service.proofs.all_locked.taking_down.take_down_nodes.Goals as goal

pub loop-dn-init : goal.loop-dn-init
loop-dn-init g c = record {
  count = refl;
  seen = zip_self HasSeenMore seen_itself (map mutex_guard_value c.args.nodes.now.items);
  told = told_none c.args.scm.now c.args.scm.now refl refl refl (begins_itself c.args.scm.now.seen);
  looked = record { ready = c.requires.seat.ready; begins = begins_itself (seen_of c.args.seat.now); mine = refl; room = refl };
}

pub loop-dn-preserved : goal.loop-dn-preserved
loop-dn-preserved g c =
    let n = c.loop-dn.dn in
    let olds = map mutex_guard_value c.args.nodes.now.items in
    let items = c.loop-dn.nodes.items in
    let now = map mutex_guard_value items in
    let guard = c.index_mut.result.now in
    let cell = mutex_guard_value guard in
    let took = c.in_ok-take_down_node.ensures in
    let one = c.take_down_node.ensures in
    let next = mutex_guard_with_value guard c.take_down_node.new.cell in
    let kept = c.loop-dn.invariant in
    let within : n < length items = omega (arith, c.loop-dn-test.true, c.len-dn-end.ensures, kept.count) in
    let at : slice_get now n ≡ Some cell = slice_get-map mutex_guard_value items n ∙ ap (option_map mutex_guard_value) (slice_get_read items (length items) n guard refl within c.index_mut.ensures.value) in
    let more : HasSeenMore cell c.take_down_node.new.cell = subst (λ x. HasSeenMore x c.take_down_node.new.cell) c.deref_mut.ensures.value one.same in
    let before = zip_get HasSeenMore olds now n cell kept.seen at in
    record {
      count = length-set items n next ∙ kept.count;
      seen = subst (AllZip HasSeenMore olds) (sym (map-set mutex_guard_value items n next))
          (seen_set olds now n cell (mutex_guard_value next) kept.seen at more);
      told = next_told olds c.requires.order c.args.scm.now n before.0 cell c.loop-dn.scm c.take_down_node.new.scm before.1 before.2 kept.told
          (subst (λ x. ToldDowns (left_up c.loop-dn.scm.mine (x ∷ [])) c.loop-dn.scm c.take_down_node.new.scm) c.deref_mut.ensures.value took.told);
      looked = record {
        ready = subst (λ k. IsReady g.R.Ring.turn k c.take_down_node.new.seat) kept.looked.ready.numbered one.looked.ready;
        begins = begins_through (seen_of c.take_down_node.new.seat) (seen_of c.loop-dn.seat) (seen_of c.args.seat.now) one.looked.begins kept.looked.begins;
        mine = one.looked.mine ∙ kept.looked.mine;
        room = one.looked.room ∙ kept.looked.room;
      };
    }

pub returns-clause-down : goal.returns-clause-down
returns-clause-down g c =
    let items = c.args.nodes.now.items in
    let olds = map mutex_guard_value items in
    let kept = c.loop-dn.invariant in
    let past : length olds ≤ c.loop-dn.dn = omega (arith, c.loop-dn-test.false, c.len-dn-end.ensures, length-map items mutex_guard_value) in
    halted_down olds c.requires.order c.args.scm.now c.loop-dn.dn c.loop-dn.scm (map mutex_guard_value c.loop-dn.nodes.items) past kept.told kept.seen

pub returns-clause-only : goal.returns-clause-only
returns-clause-only g c =
    let kept = c.loop-dn.invariant in
    only_took (map mutex_guard_value c.args.nodes.now.items) c.requires.order c.args.scm.now c.loop-dn.dn c.loop-dn.scm (map mutex_guard_value c.loop-dn.nodes.items) kept.told kept.seen

pub returns-in_err-take_down_node-clause-only : goal.returns-in_err-take_down_node-clause-only
returns-in_err-take_down_node-clause-only g c =
    let n = c.loop-dn.dn in
    let olds = map mutex_guard_value c.args.nodes.now.items in
    let items = c.loop-dn.nodes.items in
    let now = map mutex_guard_value items in
    let guard = c.index_mut.result.now in
    let cell = mutex_guard_value guard in
    let next = mutex_guard_with_value guard c.take_down_node.new.cell in
    let kept = c.loop-dn.invariant in
    let within : n < length items = omega (arith, c.loop-dn-test.true, c.len-dn-end.ensures, kept.count) in
    let at : slice_get now n ≡ Some cell = slice_get-map mutex_guard_value items n ∙ ap (option_map mutex_guard_value) (slice_get_read items (length items) n guard refl within c.index_mut.ensures.value) in
    let more : HasSeenMore cell c.take_down_node.new.cell = subst (λ x. HasSeenMore x c.take_down_node.new.cell) c.deref_mut.ensures.value c.take_down_node.ensures.same in
    let seen : AllZip HasSeenMore olds (map mutex_guard_value (slice_set items n next)) =
    subst (AllZip HasSeenMore olds) (sym (map-set mutex_guard_value items n next)) (seen_set olds now n cell (mutex_guard_value next) kept.seen at more) in
    only_took olds c.requires.order c.args.scm.now n c.take_down_node.new.scm (map mutex_guard_value (slice_set items n next))
    (none_more (left_up c.args.scm.now.mine (take n olds)) c.args.scm.now c.loop-dn.scm c.take_down_node.new.scm kept.told c.in_err-take_down_node.ensures.lacks) seen
