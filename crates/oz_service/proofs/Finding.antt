-- What a purge of a stripe found and asked for: there was nothing, or its rows may be named once all is logged.
use Rattle.std.proofs.Common.{◌≡◌, inl, inr, true, ℕ, ◌≤◌, List, [], ◌∷◌, length, map, All, Contains, sym, subst, arith}
use Rattle.std.proofs.lemmas.List.Elements.{All-weaker, Contains-append_left}
use Rattle.oz_core.specs.declared.event.Event.{Event}
use Rattle.oz_core.specs.declared.event.EventKind.TheVariants.{PurgeAsk}
use Rattle.oz_core.specs.declared.opening.Opening.{Opening}
use Rattle.oz_core.specs.Law.{IsPurged}
use Rattle.oz_core.specs.Seats.{stripe_seat}
use Rattle.oz_core.specs.Scm.{is_in_logs}
use Rattle.oz_core.specs.Scm.{logged as told_log}
use Rattle.oz_core.specs.Stories.{all_told, mine}
use Rattle.oz_fields.specs.declared.block.Block.{Block}
use Rattle.oz_om.specs.declared.purging.Purged.{Purged}
use Rattle.oz_om.specs.Purging.{DeletedRow, HadNoRows, HasPurged, blocks_of_all, key_of}
use Rattle.oz_reclaim.specs.Reclaimable.{IsAmongFirst}
use Rattle.oz_reclaim.specs.declared.finding.TheConstants.{MOST_PURGED}
use Rattle.oz_rows.specs.declared.key.RowKey.{RowKey}
use Rattle.oz_rows.specs.RowMaps.{Rows}
use Rattle.oz_turn.specs.Told.{BeginsWith}
use Rattle.oz_service.specs.Purges.{AreLogged, MayBeNamed, StripeWasPurged, WasPurged}
use Rattle.oz_service.proofs.Going.{begins_same, begins_then}
use Rattle.oz_service.proofs.OwnRows.{all_purged, found_may, was_asked}
use Rattle.oz_service.proofs.Purged.{all_purged_on}
use Rattle.oz_service.proofs.Waits.{logged_more}

none_among : (found : List DeletedRow) (key : RowKey) → length found ≡ 0 → IsAmongFirst MOST_PURGED (map key_of found) key → ⊥
none_among [] key none (inl there) = omega (arith, there.1)
none_among [] key none (inr full) = let same = full.0 in omega (arith, same)
none_among (row ∷ more) key none among = omega (arith, none)

logged_later : (seen story : List Event) → BeginsWith story seen → (blocks : List Block) → AreLogged seen blocks → AreLogged story blocks
logged_later seen story begins blocks logged k d within = All-weaker (λ (block : Block). is_in_logs (all_told told_log seen) block ≡ true)
    (λ (block : Block). is_in_logs (all_told told_log story) block ≡ true)
    (λ block is. subst (λ (l : List Event). is_in_logs (all_told told_log l) block ≡ true) (sym begins.1)
    (logged_more seen begins.0 block is)) blocks logged k d within

module _ (Coherent : Type 0) (opening : Opening) (loaded : Rows) (stripe : ℕ) (before after : List Event) (it : Purged)
    (has : HasPurged Coherent opening loaded stripe before after it) where
  pub no_rows : length it.rows.items ≡ 0 → HadNoRows Coherent opening loaded stripe before after
  no_rows none = record {
    story = has.story;
    behind = has.behind;
    seen = has.seen;
    none = λ coherent. record {
      tables = (has.found coherent).tables;
      flushed = (has.found coherent).flushed;
      none = λ key may. none_among it.rows.items key none ((has.found coherent).first key may);
    };
  }

  module _ (some : 1 ≤ length it.rows.items) where
    abbrev asked_event : Event
    asked_event = record { seat = stripe_seat stripe; kind = PurgeAsk (blocks_of_all it.rows.items) }

    asked_there : Contains after (record { seat = stripe_seat stripe; kind = PurgeAsk (blocks_of_all it.rows.items) })
    asked_there = was_asked stripe (mine (stripe_seat stripe) has.story) after it.rows.items some has.asked

    -- all blocks were asked for
    pub blocks_purged : All (IsPurged after) (blocks_of_all it.rows.items)
    blocks_purged = all_purged stripe after (blocks_of_all it.rows.items) asked_there

    -- once they are logged, the rows may be named
    pub rows_may_go : (later : List Event) → BeginsWith later after → AreLogged later (blocks_of_all it.rows.items) → Coherent
        → All (MayBeNamed later) it.rows.items
    rows_may_go later begins logged coherent =
        let found = has.found coherent in
        found_may opening loaded stripe has.story found.tables found.flushed it.rows.items found.whole later
        (subst (λ (l : List Event). Contains l asked_event) (sym begins.1) (Contains-append_left after begins.0 asked_event asked_there)) logged

    -- and once they were, all is done
    pub stripe_purged : (second third : List Event) (most : ℕ) → BeginsWith second after → BeginsWith third second
        → AreLogged second (blocks_of_all it.rows.items)
        → (Coherent → All (WasPurged opening second third most) it.rows.items) → StripeWasPurged Coherent opening loaded stripe before third most
    stripe_purged second third most one two logged each = record {
      it = it;
      between = after;
      found = has;
      some = some;
      later = begins_then after second third one two;
      logged = logged_later second third two (blocks_of_all it.rows.items) logged;
      each = λ coherent. all_purged_on opening after second third third most most one (begins_same third) (omega arith) it.rows.items (each coherent);
    }
