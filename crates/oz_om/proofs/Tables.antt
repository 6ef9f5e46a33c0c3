-- A stripe's tables are rows that stood at one place of the story.
use Rattle.std.proofs.Common.{◌≡◌, ℕ, ◌<◌, ◌≤◌, nat_le, Bool, true, false, cond, List, [], ◌∷◌, ◌++◌, Option, None, Some, arith, refl, sym, ap, ◌∙◌, subst}
use Rattle.std.proofs.lemmas.Bool.{le-leb, lt-leb}
use Rattle.std.specs.List.{AllByRecursion, cons_option, filter_map}
use Rattle.oz_cache.specs.Cache.{CacheView, batched_changes}
use Rattle.oz_cache.specs.Waiting.{EpochsRise}
use Rattle.oz_cache.specs.declared.batch.Batch.{Batch}
use Rattle.oz_core.specs.declared.event.Event.{Event}
use Rattle.oz_core.specs.declared.event.EventKind.{EventKind}
use Rattle.oz_core.specs.declared.event.EventKind.TheVariants.{Decide}
use Rattle.oz_core.specs.declared.opening.Opening.{Opening}
use Rattle.oz_core.specs.Law.{IsLegal}
use Rattle.oz_core.specs.Seats.{stripe_seat}
use Rattle.oz_core.specs.Stories.{all_told, mine}
use Rattle.oz_locks.specs.Rows.{IsReplayed}
use Rattle.oz_locks.specs.Writes.{AreChangesOf, Write, writes_of, write_in}
use Rattle.oz_owned.specs.Stood.{AreWritten, HasStood, TablesStand, batch_of}
use Rattle.oz_owned.specs.laws.Standing.{brought_all}
use Rattle.oz_rows.specs.declared.key.RowKey.{RowKey}
use Rattle.oz_rows.specs.RowMaps.{Rows, after_changes, row_after, row_of}
use Rattle.oz_sound.specs.stripes.Stripes.{only}
use Rattle.oz_om.specs.Keeps.{AreListed}
use Rattle.oz_om.proofs.decider_lemmas.Fits.{rows_join}

-- ---- the batches that count are those of the writes that do

abbrev counted_one : (ℕ → Bool) → Write → Option (List ℕ)
counted_one counts write = cond (counts write.index) (Some write.bytes) None

abbrev counted : (ℕ → Bool) → List Write → List (List ℕ)
counted counts writes = filter_map (counted_one counts) writes

module _ (counts : ℕ → Bool) where
  of_kind : (kind : EventKind) (writes : List Write) → cons_option (batch_of counts kind) (counted counts writes) ≡ counted counts (cons_option (write_in kind) writes)
  of_kind (Decide id index reply []) writes = refl
  of_kind (Decide id index reply (byte ∷ bytes)) writes = refl
  of_kind kind writes = refl

  batches_are : (events : List Event) → all_told (batch_of counts) events ≡ counted counts (writes_of events)
  batches_are [] = refl
  batches_are (event ∷ events) = ap (cons_option (batch_of counts event.kind)) (batches_are events) ∙ of_kind event.kind (writes_of events)

-- ---- what is up to the index is brought, and what waits is above it

module _ (flushed : ℕ) where
  abbrev counts : ℕ → Bool
  counts index = nat_le index flushed

  none_waits : (low : ℕ) → flushed ≤ low → (batches : List Batch) → EpochsRise low batches → (writes : List Write) (rows : Rows)
      → AreChangesOf rows writes batches → counted counts writes ≡ []
  none_waits low le [] rise [] rows are = refl
  none_waits low le [] rise (write ∷ writes) rows are = absurd are
  none_waits low le (batch ∷ batches) rise [] rows are = absurd are
  none_waits low le (batch ∷ batches) rise (write ∷ writes) rows are =
      let over = rise.0 in
      let same = are.0 in
      ap (λ (t : Bool). cons_option (cond t (Some write.bytes) None) (counted counts writes))
      (lt-leb write.index flushed (omega (arith, over, same, le)))
      ∙ none_waits batch.epoch (omega (arith, over, le)) batches rise.1 writes (after_changes batch.changes rows) are.2

  all_down : (down waiting : List Batch) (writes : List Write) (rows last : Rows) → AreChangesOf rows writes (down ++ waiting)
      → AllByRecursion (λ (batch : Batch). batch.epoch ≤ flushed) down → EpochsRise flushed waiting
      → ((key : RowKey) → last key ≡ row_after (batched_changes down) key (rows key)) → AreWritten rows (counted counts writes) last
  unfolding AreWritten
  all_down [] waiting writes rows last are low rise each =
      subst (λ (l : List (List ℕ)). AreWritten rows l last) (sym (none_waits flushed (omega arith) waiting rise writes rows are)) (λ i key. each key i)
  all_down (batch ∷ down) waiting [] rows last are low rise each = absurd are
  all_down (batch ∷ down) waiting (write ∷ writes) rows last are low rise each =
      let within = low.0 in
      let same = are.0 in
      let next : Rows = after_changes batch.changes rows in
      subst (λ (t : Bool). AreWritten rows (cons_option (cond t (Some write.bytes) None) (counted counts writes)) last)
      (sym (le-leb write.index flushed (omega (arith, within, same)))) (
        next,
        record { changes = batch.changes; is_batch = are.1; leads = refl },
        all_down down waiting writes next last are.2 low.1 rise
            (λ key. each key ∙ rows_join batch.changes (batched_changes down) key (rows key)),
      )

pub tables_stand : (opening : Opening) (loaded : Rows) (stripe flushed : ℕ) (given story : List Event) (newest : Rows) (cache : CacheView)
    → IsLegal opening story → mine (stripe_seat stripe) story ≡ given → AreListed (only stripe loaded) → HasStood opening loaded stripe story newest
    → opening.last_index ≤ flushed → IsReplayed (only stripe loaded) (writes_of given) flushed cache
    → TablesStand opening loaded stripe story flushed (row_of cache.durable.rows)
tables_stand opening loaded stripe flushed given story newest cache legal own listed stood low it =
    let written = all_down flushed it.down cache.entered (writes_of given) (only stripe loaded) (row_of cache.durable.rows) it.changes it.brought it.waiting
    it.in_tables in
    let batches = batches_are (λ index. nat_le index flushed) (mine (stripe_seat stripe) story)
    ∙ ap (λ (l : List Event). counted (λ index. nat_le index flushed) (writes_of l)) own in
    brought_all opening loaded stripe story newest listed.all listed.are stood legal flushed (row_of cache.durable.rows) low
    (subst (λ (l : List (List ℕ)). AreWritten (only stripe loaded) l (row_of cache.durable.rows)) (sym batches) written)
