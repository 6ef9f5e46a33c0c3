use Rattle.std.proofs.Common.{◌≡◌, ◌≢◌, ◌≤◌, ◌<◌, ◌+◌, ℕ, List, [], length, Err, sym, ap, ◌∙◌, subst, arith}
use Rattle.std.specs.Prelude.{slice_index}
use Rattle.oz_cache.specs.Cache.{newest, last_epoch}
use Rattle.oz_core.specs.declared.event.Event.{Event}
use Rattle.oz_core.specs.Manager.{last_index}
use Rattle.oz_core.specs.Seats.{stripe_seat}
use Rattle.oz_locks.specs.Reclaims.{AreReady}
use Rattle.oz_locks.specs.declared.pool.FreeBlock.{FreeBlock}
use Rattle.oz_reclaim.specs.Origins.{SnapshotKeysStay}
use Rattle.oz_rows.specs.declared.operation.Change.{Change}
use Rattle.oz_rows.specs.RowMaps.{Rows}
use Rattle.oz_om.specs.declared.refusal.Refusal.{Refusal}
use Rattle.oz_om.specs.Held.{IsAbove, IsGrantOf, IsTellable}
use Rattle.oz_om.proofs.Full.{full_refused}
use Rattle.oz_om.proofs.Roomier.{last_same, newest_same, not_empty}
use Rattle.oz_om.proofs.Tellable.{tellable}
use Rattle.oz_om.proofs.drafting.draft.Goals as goal

pub returns-in-Ok-reserve-clause-draft : goal.returns-in-Ok-reserve-clause-draft
returns-in-Ok-reserve-clause-draft g c =
    let old = c.args.stripe.now in
    let s = c.prepare.new.self in
    let one = c.in-Ok.ensures.same in
    let two = c.in-Ok-prepare.ensures in
    let number : s.number ≡ old.number = (λ i. (two.same i).number) ∙ (λ i. (one i).number) in
    let pool : s.pool ≡ old.pool = (λ i. (two.same i).pool) ∙ (λ i. (one i).pool) in
    let flushed : s.flushed ≡ old.flushed = (λ i. (two.same i).flushed) ∙ (λ i. (one i).flushed) in
    let mine : s.mine ≡ old.mine = (λ i. (two.same i).mine) ∙ (λ i. (one i).mine) in
    let cache : c.reserve_pins.new.self.cache ≡ old.cache = λ i. (one i).cache in
    let rows : newest s.cache ≡ newest old.cache = newest_same s.cache c.reserve_pins.new.self.cache two.rows two.entered ∙ ap newest cache in
    let last : last_epoch s.cache ≡ last_epoch old.cache = last_same s.cache c.reserve_pins.new.self.cache two.last_index two.entered ∙ ap last_epoch cache in
    let changes : c.in-Ok-prepare.changes ≡ c.args.made.decision.changes = two.changes ∙ c.into_items.ensures in
    let made = c.requires.made in
    let stays : c.args.made.decision.bytes ≡ [] → c.in-Some.index ≡ last_index g.O.Opened.opening c.args.ledger.now.story = λ none. c.in-Some.ensures.stays (c.is_empty.ensures.1 none) in
    let above : c.args.made.decision.bytes ≢ [] → (c.in-Some.index ≡ last_index g.O.Opened.opening c.args.ledger.now.story + 1) × IsAbove old c.in-Some.index = λ some. c.in-Some.ensures.rises (not_empty c.args.made.decision.bytes c.is_empty.result c.is_empty.ensures some) in
    let base = tellable g.O.Opened.coherent g.L.Loaded.coherent g.O.Opened.opening g.O.Opened.bytes g.O.Opened.script g.L.Loaded.rows g.L.Loaded.last_index g.L.Loaded.keeps
    c.requires.opens c.a_pool_has_what_is_free.ensures old c.args.ledger.now.story c.requires.held c.args.id
    made.0 c.args.made.decision made.1 c.in-Some.index stays (λ some. (above some).0) in
    record {
      told_is = c.in-Ok-Ok.ensures;
      tellable =
          subst (λ (n : ℕ). IsTellable g.O.Opened.coherent g.O.Opened.opening g.L.Loaded.rows n (newest s.cache) s.mine c.reserve.new.ledger.story c.args.id c.args.made.decision.reply c.args.made.decision.bytes c.in-Ok-prepare.changes c.in-Some.index) (sym number)
          (subst (λ (r : Rows). IsTellable g.O.Opened.coherent g.O.Opened.opening g.L.Loaded.rows old.number r s.mine c.reserve.new.ledger.story c.args.id c.args.made.decision.reply c.args.made.decision.bytes c.in-Ok-prepare.changes c.in-Some.index) (sym rows)
          (subst (λ (l : List Change). IsTellable g.O.Opened.coherent g.O.Opened.opening g.L.Loaded.rows old.number (newest old.cache) s.mine c.reserve.new.ledger.story c.args.id c.args.made.decision.reply c.args.made.decision.bytes l c.in-Some.index) (sym changes)
          (subst (λ (m : List Event). IsTellable g.O.Opened.coherent g.O.Opened.opening g.L.Loaded.rows old.number (newest old.cache) m c.reserve.new.ledger.story c.args.id c.args.made.decision.reply c.args.made.decision.bytes c.args.made.decision.changes c.in-Some.index) (sym mine)
          (subst (λ (l : List Event). IsTellable g.O.Opened.coherent g.O.Opened.opening g.L.Loaded.rows old.number (newest old.cache) old.mine l c.args.id c.args.made.decision.reply c.args.made.decision.bytes c.args.made.decision.changes c.in-Some.index) (sym c.in-Ok-reserve.ensures.story)
          base))));
      above = λ some. let is = (above some).1 in record {
        entered = subst (λ (n : ℕ). n < c.in-Some.index) (sym last) is.entered;
        flushed = subst (λ (n : ℕ). n < c.in-Some.index) (sym flushed) is.flushed;
        limit = is.limit;
      };
      granted = subst (λ (l : List FreeBlock). IsGrantOf l c.args.made.decision.reply c.args.made.granted) (sym pool) c.requires.granted;
      quiet = c.requires.quiet;
      pins_are = c.in-Ok-Ok.ensures';
      pin_room = subst (λ (n : ℕ). length c.in-Ok-Ok.pins.items ≤ n) (sym (λ i. (two.same i).pin_room)) (omega (arith, c.in-Ok.ensures.room, c.len.ensures));
      cache_room = subst (λ (l : List Change). length l ≤ s.cache.spare) (sym two.changes) two.room;
      ready = subst (λ (l : List Change). AreReady l s.reclaim) (sym two.changes) two.ready;
      tidy = subst SnapshotKeysStay (sym changes) made.1.made.tidy;
      event_room = subst (λ (n : ℕ). 4 ≤ slice_index c.reserve.new.ledger.rooms (stripe_seat n)) c.number.ensures c.in-Ok-reserve.ensures.room;
      buffer_room = omega (arith, c.in-Ok-reserve.ensures.spare, c.len-2.ensures);
    }

pub returns-in-Err-clause-refused : goal.returns-in-Err-clause-refused
returns-in-Err-clause-refused g c =
    let old = c.args.stripe.now in
    let made = c.requires.made in
    let stays : c.args.made.decision.bytes ≡ [] → c.in-Some.index ≡ last_index g.O.Opened.opening c.args.ledger.now.story = λ none. c.in-Some.ensures.stays (c.is_empty.ensures.1 none) in
    let above : c.args.made.decision.bytes ≢ [] → (c.in-Some.index ≡ last_index g.O.Opened.opening c.args.ledger.now.story + 1) × IsAbove old c.in-Some.index = λ some. c.in-Some.ensures.rises (not_empty c.args.made.decision.bytes c.is_empty.result c.is_empty.ensures some) in
    let base = tellable g.O.Opened.coherent g.L.Loaded.coherent g.O.Opened.opening g.O.Opened.bytes g.O.Opened.script g.L.Loaded.rows g.L.Loaded.last_index g.L.Loaded.keeps
    c.requires.opens c.a_pool_has_what_is_free.ensures old c.args.ledger.now.story c.requires.held c.args.id
    made.0 c.args.made.decision made.1 c.in-Some.index stays (λ some. (above some).0) in
    full_refused g.O.Opened.coherent g.O.Opened.opening c.args.ledger.now.story c.args.id (stripe_seat old.number) c.in-Some.index c.args.made.decision.reply c.args.made.decision.bytes
    made.1.ask.in_time base.enabled _ (c.len-2.ensures) c.in-Err.refusal c.in-Err.ensures.refused (λ held asked is. c.reserve.ensures.later held asked (c.in-Err.is ∙ ap (λ (refusal : Refusal). Err refusal) is))
