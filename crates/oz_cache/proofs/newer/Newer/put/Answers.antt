use Rattle.std.proofs.Common.{◌≤◌, [], ◌∷◌, ◌++◌, Option, Some, IsSome, IfSome, cond, sym, ◌∙◌, ap, subst, arith}
use Rattle.oz_epochs.specs.declared.list.Place.{Place}
use Rattle.oz_epochs.specs.Epochs.{entry, found as found_at}
use Rattle.oz_rows.specs.declared.operation.Change.{Change}
use Rattle.oz_rows.specs.RowMaps.{is_same}
use Rattle.oz_cache.specs.declared.cached_rows.CachedRow.{CachedRow}
use Rattle.oz_cache.specs.Linked.{NewerView, AllBy, AreLinked, place_of, without_place}
use Rattle.oz_cache.specs.Places.{found, written, written_in, as_written}
use Rattle.oz_cache.proofs.Links.{may_leave, relinked, ends_by, by_without, by_end, written_over}
use Rattle.oz_cache.proofs.newer.Newer.put.Goals as goal

pub unlist-requires : goal.unlist-requires
unlist-requires c =
    let rows = c.self.inside.rows.rows.entries in
    let es = c.self.inside.epochs.entries in
    let key = c.into_parts-key.result.0.key in
    subst (λ (o : Option Place). IfSome o (λ place. IsSome (found_at place.slot es))) (sym c.place_in.ensures)
    (may_leave key es c.self.invariant.order.slots (found rows key) (c.self.invariant.linked key))

pub push_back-place-requires-clause-order : goal.push_back-place-requires-clause-order
push_back-place-requires-clause-order c =
    let es = c.self.inside.epochs.entries in
    let row = found c.self.inside.rows.rows.entries c.into_parts-key.result.0.key in
    let all : AllBy c.args.epoch es = subst (λ (w : NewerView). AllBy c.args.epoch w.epochs) (sym c.self.view_is) c.requires.ends in
    ends_by c.args.epoch _ (subst (AllBy c.args.epoch) (sym (c.unlist.ensures.entries ∙ ap (λ o. without_place o es) c.place_in.ensures)) (by_without c.args.epoch row es all))

pub invariant_of-self : goal.invariant_of-self
invariant_of-self c =
    let rows = c.self.inside.rows.rows.entries in
    let es = c.self.inside.epochs.entries in
    let change = c.into_parts-key.result.0 in
    let place = c.push_back-place.result in
    let row : CachedRow = record { epoch = c.args.epoch; place = place; row = change.row } in
    let left = without_place (place_of (found rows change.key)) es in
    let listed = c.into_parts-key.ensures.listed ∙ sym (ap (λ (x : Change). x.key) c.into_parts-key.ensures.change) in
    record {
      linked = subst (AreLinked (found c.put.new.self.rows.entries))
          (sym (c.push_back-place.ensures.entries
          ∙ ap (λ l. l ++ entry place.slot c.args.epoch c.into_parts-key.result.1 ∷ []) (c.unlist.ensures.entries ∙ ap (λ o. without_place o es) c.place_in.ensures)
          ∙ ap (λ k. left ++ entry place.slot c.args.epoch k ∷ []) listed))
          (relinked (found rows) (found c.put.new.self.rows.entries) es c.self.invariant.order.slots c.self.invariant.linked change.key row c.put.ensures.rows);
      order = c.push_back-place.ensures.order;
    }

pub returns-clause-rows : goal.returns-clause-rows
returns-clause-rows c = λ key.
    let rows = c.self.inside.rows.rows.entries in
    let change = c.into_parts-key.result.0 in
    let row : CachedRow = record { epoch = c.args.epoch; place = c.push_back-place.result; row = change.row } in
    ap as_written (c.put.ensures.rows key)
    ∙ written_over (is_same change.key key) row (found rows key)
    ∙ ap (λ (x : Change). cond (is_same x.key key) (Some (written c.args.epoch x)) (written_in rows key)) c.into_parts-key.ensures.change
    ∙ ap (λ (w : NewerView). cond (is_same c.args.change.key key) (Some (written c.args.epoch c.args.change)) (written_in w.rows key)) c.self.view_is

pub returns-clause-ends : goal.returns-clause-ends
returns-clause-ends c =
    let es = c.self.inside.epochs.entries in
    let row = found c.self.inside.rows.rows.entries c.into_parts-key.result.0.key in
    let all : AllBy c.args.epoch es = subst (λ (w : NewerView). AllBy c.args.epoch w.epochs) (sym c.self.view_is) c.requires.ends in
    let left = subst (AllBy c.args.epoch) (sym (c.unlist.ensures.entries ∙ ap (λ o. without_place o es) c.place_in.ensures)) (by_without c.args.epoch row es all) in
    let le : c.args.epoch ≤ c.args.epoch = omega arith in
    subst (AllBy c.args.epoch) (sym c.push_back-place.ensures.entries) (by_end c.args.epoch _ _ left le)
