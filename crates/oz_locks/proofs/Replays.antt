-- Writes replayed: none, one more, and some of them brought down.
use Rattle.std.proofs.Common.{◌≡◌, ℕ, ◌≤◌, ◌<◌, List, [], ◌∷◌, ◌++◌, length, refl, sym, ◌∙◌, ap, subst, append_assoc, append-nil, arith}
use Rattle.std.proofs.lemmas.List.Elements.{filter_map-append}
use Rattle.oz_cache.specs.Cache.{CacheView, batched_changes, batch_of, epoch_after, last_epoch, newest, up_to, later}
use Rattle.oz_cache.specs.Waiting.{EpochsRise}
use Rattle.oz_cache.specs.declared.batch.Batch.{Batch}
use Rattle.oz_core.specs.declared.event.Event.{Event}
use Rattle.oz_core.specs.declared.event.EventKind.TheVariants.{Decide, PurgeAsk}
use Rattle.oz_effects.specs.Batches.{IsBatchOf}
use Rattle.oz_fields.specs.declared.block.Block.{Block}
use Rattle.oz_requests.specs.declared.request.AskId.{AskId}
use Rattle.oz_requests.specs.declared.reply.Reply.{Reply}
use Rattle.oz_rows.specs.declared.entry.RowEntry.{RowEntry}
use Rattle.oz_rows.specs.declared.key.RowKey.{RowKey}
use Rattle.oz_rows.specs.declared.operation.Change.{Change}
use Rattle.oz_rows.specs.RowMaps.{Rows, row_of, row_after, after_changes}
use Rattle.oz_tables.specs.Tables.{TableView}
use Rattle.oz_locks.specs.Rows.{AreReplayed, IsReplayed}
use Rattle.oz_locks.specs.Writes.{Write, AreChangesOf, write_in, writes_of}
use Rattle.oz_locks.proofs.Batches.{after_both, row_after-append, rising_below, up_to_both, up_to_more, last_up_to, rise_more, parted}

-- ---- the writes of one event more

abbrev decide : ℕ → AskId → ℕ → Reply → List ℕ → Event
decide seat id index reply batch = record { seat = seat; kind = Decide id index reply batch }

pub no_write_more : (mine : List Event) (seat : ℕ) (id : AskId) (index : ℕ) (reply : Reply) → writes_of (mine ++ decide seat id index reply [] ∷ []) ≡ writes_of mine
no_write_more mine seat id index reply =
    filter_map-append (λ (event : Event). write_in event.kind) mine (decide seat id index reply [] ∷ []) ∙ append-nil (writes_of mine)

pub no_write_of_purge : (mine : List Event) (seat : ℕ) (blocks : List Block) → writes_of (mine ++ record { seat = seat; kind = PurgeAsk blocks } ∷ []) ≡ writes_of mine
no_write_of_purge mine seat blocks =
    filter_map-append (λ (event : Event). write_in event.kind) mine (record { seat = seat; kind = PurgeAsk blocks } ∷ []) ∙ append-nil (writes_of mine)

pub one_write_more : (mine : List Event) (seat : ℕ) (id : AskId) (index : ℕ) (reply : Reply) (bytes : List ℕ) → 1 ≤ length bytes
    → writes_of (mine ++ decide seat id index reply bytes ∷ []) ≡ writes_of mine ++ record { index = index; bytes = bytes } ∷ []
one_write_more mine seat id index reply [] some = absurd (omega (arith, some))
one_write_more mine seat id index reply (byte ∷ bytes) some =
    filter_map-append (λ (event : Event). write_in event.kind) mine (decide seat id index reply (byte ∷ bytes) ∷ [])

-- ---- changes of writes

same_batch : (rows others : Rows) → ((key : RowKey) → rows key ≡ others key) → (bytes : List ℕ) (changes : List Change) → IsBatchOf rows bytes changes → IsBatchOf others bytes changes
same_batch rows others same bytes changes batch = record {
  items = batch.items;
  fit = batch.fit;
  bytes_are = batch.bytes_are;
  comes = λ (all : List RowEntry) are based. batch.comes all (record { in_order = are.in_order; rows_are = λ key. are.rows_are key ∙ sym (same key) }) based;
}

more_changes : (rows : Rows) (writes : List Write) (batches : List Batch) (write : Write) (changes : List Change) → AreChangesOf rows writes batches
    → IsBatchOf (after_changes (batched_changes batches) rows) write.bytes changes
    → AreChangesOf rows (writes ++ write ∷ []) (batches ++ batch_of write.index changes ∷ [])
more_changes rows [] [] write changes are batch = (refl, batch, tt)
more_changes rows [] (b ∷ batches) write changes are batch = absurd are
more_changes rows (w ∷ writes) [] write changes are batch = absurd are
more_changes rows (w ∷ writes) (b ∷ batches) write changes are batch = (
  are.0,
  are.1,
  more_changes (after_changes b.changes rows) writes batches write changes are.2
      (same_batch _ _ (λ key. row_after-append b.changes (batched_changes batches) key (rows key)) write.bytes changes batch),
)

-- ---- what a stripe keeps of its rows

module _ (loaded : Rows) where
  pub newest_are : (writes : List Write) (flushed : ℕ) (cache : CacheView) (is : IsReplayed loaded writes flushed cache) (key : RowKey)
      → newest cache key ≡ row_after (batched_changes (is.down ++ cache.entered)) key (loaded key)
  newest_are writes flushed cache is key =
      ap (λ row. row_after (batched_changes cache.entered) key row) (is.in_tables key) ∙ sym (after_both is.down cache.entered key (loaded key))

  pub replayed : (writes : List Write) (flushed : ℕ) (cache : CacheView) → IsReplayed loaded writes flushed cache → AreReplayed loaded writes (newest cache)
  replayed writes flushed cache is =
      record { batches = is.down ++ cache.entered; changes = is.changes; each = newest_are writes flushed cache is }

  pub none_replayed : (flushed : ℕ) (cache : CacheView) → ((key : RowKey) → row_of cache.durable.rows key ≡ loaded key) → cache.entered ≡ []
      → cache.durable.last_index ≤ flushed → IsReplayed loaded [] flushed cache
  none_replayed flushed cache rows entered last = record {
    down = [];
    changes = subst (AreChangesOf loaded []) (sym entered) tt;
    brought = tt;
    waiting = subst (EpochsRise flushed) (sym entered) tt;
    in_tables = rows;
    last = last;
  }

  -- more room
  pub same_replayed : (writes : List Write) (flushed : ℕ) (cache after : CacheView) → IsReplayed loaded writes flushed cache
      → after.durable.rows ≡ cache.durable.rows → after.durable.last_index ≡ cache.durable.last_index → after.entered ≡ cache.entered
      → IsReplayed loaded writes flushed after
  same_replayed writes flushed cache after is rows last entered = record {
    down = is.down;
    changes = subst (λ l. AreChangesOf loaded writes (is.down ++ l)) (sym entered) is.changes;
    brought = is.brought;
    waiting = subst (EpochsRise flushed) (sym entered) is.waiting;
    in_tables = λ key. ap (λ l. row_of l key) rows ∙ is.in_tables key;
    last = subst (λ n. n ≤ flushed) (sym last) is.last;
  }

  -- one write more
  pub more_replayed : (writes : List Write) (flushed : ℕ) (cache after : CacheView) (write : Write) (changes : List Change)
      → IsReplayed loaded writes flushed cache → IsBatchOf (newest cache) write.bytes changes
      → last_epoch cache < write.index → flushed < write.index
      → after.entered ≡ cache.entered ++ batch_of write.index changes ∷ [] → after.durable ≡ cache.durable
      → IsReplayed loaded (writes ++ write ∷ []) flushed after
  more_replayed writes flushed cache after write changes is batch above unflushed entered durable =
      let added = batch_of write.index changes ∷ [] in
      let all = more_changes loaded writes (is.down ++ cache.entered) write changes is.changes (same_batch _ _ (newest_are writes flushed cache is) write.bytes changes batch) in record {
        down = is.down;
        changes = subst (AreChangesOf loaded (writes ++ write ∷ [])) (append_assoc is.down cache.entered added ∙ ap (λ l. is.down ++ l) (sym entered)) all;
        brought = is.brought;
        waiting = subst (EpochsRise flushed) (sym entered) (rise_more flushed write.index cache.entered changes is.waiting unflushed
            (rising_below write.index flushed cache.durable.last_index cache.entered is.waiting above));
        in_tables = λ key. ap (λ (t : TableView). row_of t.rows key) durable ∙ is.in_tables key;
        last = subst (λ (t : TableView). t.last_index ≤ flushed) (sym durable) is.last;
      }

  -- what is flushed is brought down
  pub down_replayed : (writes : List Write) (flushed : ℕ) (cache after : CacheView) (index : ℕ) → IsReplayed loaded writes flushed cache → flushed ≤ index
      → ((key : RowKey) → row_of after.durable.rows key ≡ row_after (batched_changes (up_to index cache.entered)) key (row_of cache.durable.rows key))
      → after.durable.last_index ≡ epoch_after cache.durable.last_index (up_to index cache.entered) → after.entered ≡ later index cache.entered
      → IsReplayed loaded writes index after
  down_replayed writes flushed cache after index is le rows last entered =
      let parts = parted index flushed cache.entered is.waiting in
      let went = up_to index cache.entered in
      let before = is.last in
      let all : (is.down ++ went) ++ after.entered ≡ is.down ++ cache.entered =
      append_assoc is.down went after.entered ∙ ap (λ l. is.down ++ (went ++ l)) entered ∙ ap (λ l. is.down ++ l) parts.parts in record {
        down = is.down ++ went;
        changes = subst (AreChangesOf loaded writes) (sym all) is.changes;
        brought = up_to_both index is.down went (up_to_more flushed index is.down le is.brought) parts.first;
        waiting = subst (EpochsRise index) (sym entered) parts.rest;
        in_tables = λ key. rows key ∙ ap (λ row. row_after (batched_changes went) key row) (is.in_tables key) ∙ sym (after_both is.down went key (loaded key));
        last = subst (λ n. n ≤ index) (sym last) (last_up_to index cache.durable.last_index went (omega arith) parts.first);
      }
