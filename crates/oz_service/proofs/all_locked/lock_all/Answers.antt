use Rattle.std.proofs.Common.{◌≡◌, ◌+◌, ◌≤◌, [], ◌∷◌, Some, length, map, slice_get, sym, ap, ◌∙◌, subst}
use Rattle.std.proofs.lemmas.List.{length-append, length-map, map-append}
use Rattle.std.specs.Sync.Mutex.{mutex_guard_value}
use Rattle.oz_service.proofs.Listed.{each_pushed}
use Rattle.oz_service.proofs.all_locked.lock_all.Goals as goal

pub loop-dn-preserved : goal.loop-dn-preserved
loop-dn-preserved g c =
    let items = c.loop-dn.cells.items in
    let pushed = c.push_reserved.ensures in
    let kept = c.loop-dn.invariant in
    let all = ap (map mutex_guard_value) pushed.items ∙ map-append mutex_guard_value items (c.lock.result ∷ []) in
    record {
      count = ap length pushed.items ∙ (length-append items (c.lock.result ∷ []) ∙ ap (λ k. k + 1) kept.count);
      room = subst (λ k. c.args.count ≤ k) (sym pushed.capacity) kept.room;
      order = λ place cell at.
          each_pushed (λ k x. x.node.id ≡ k) (map mutex_guard_value items) (mutex_guard_value c.lock.result) kept.order
          (c.lock.ensures ∙ sym (length-map items mutex_guard_value ∙ kept.count)) place cell (subst (λ l. slice_get l place ≡ Some cell) all at);
    }
