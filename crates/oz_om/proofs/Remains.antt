-- Whether anything of a stripe's rows is left to be worked off, by what waits above its tables, its deleted snapshots and what was found.
use Rattle.std.proofs.Common.{◌≡◌, ◌↔◌, ⊎_elim, inl, inr, ℕ, zero, suc, ◌+◌, ◌<◌, ◌≤◌, nat_lt, Bool, true, false, List, [], ◌∷◌, ◌++◌, length, map, Option, None, Some, is_some, Contains, arith, refl, sym, ap, ◌∙◌, subst, append-nil}
use mathlib.Core.Bool.{false≢true}
use Rattle.std.specs.List.{AllByRecursion}
use Rattle.oz_buffer.specs.Buffer.{AllFollow, Follows}
use Rattle.oz_cache.specs.Cache.{batched_changes, epoch_after, last_epoch, newest}
use Rattle.oz_cache.specs.Waiting.{EpochsRise}
use Rattle.oz_cache.specs.declared.batch.Batch.{Batch}
use Rattle.oz_core.specs.declared.event.Event.{Event}
use Rattle.oz_core.specs.declared.opening.Opening.{Opening}
use Rattle.oz_core.specs.Contents.{OpeningBytes}
use Rattle.oz_core.specs.Law.{IsLegal}
use Rattle.oz_core.specs.Manager.{durable_index, namespace_of, pinned}
use Rattle.oz_core.specs.Seats.{stripe_seat}
use Rattle.oz_core.specs.Stories.{mine}
use Rattle.oz_kept.specs.laws.Reached.{in_none}
use Rattle.oz_core.specs.Asks.{is_told}
use Rattle.oz_locks.specs.declared.pins.Pin.{Pin}
use Rattle.oz_locks.specs.Pins.{pinned_blocks}
use Rattle.oz_locks.specs.Reclaims.{AreFound}
use Rattle.oz_locks.specs.Stripe.{IsAtRest, IsKept, StripeView}
use Rattle.oz_locks.specs.Writes.{AreChangesOf, Write, writes_of}
use Rattle.oz_names.specs.declared.limits.TheConstants.{STRIPES}
use Rattle.oz_kept.specs.laws.Deleted.{first_or_later}
use Rattle.oz_fields.specs.declared.block.Block.{Block}
use Rattle.oz_namespace.specs.declared.namespace.Namespace.{Namespace}
use Rattle.oz_owned.specs.Own.{IsOwn}
use Rattle.oz_reclaim.specs.sweep.Found.{IsBacked}
use Rattle.oz_store.specs.striped.Shares.{share_of}
use Rattle.oz_owned.specs.Stood.{HasStood}
use Rattle.oz_reclaim.specs.Reclaimable.{IsAmongFirst, IsReclaimable}
use Rattle.oz_reclaim.specs.Work.{IsChainWork}
use Rattle.oz_reclaim.specs.declared.sweep.found.Found.{Found}
use Rattle.oz_reclaim.specs.sweep.Found.{keyed}
use Rattle.oz_requests.specs.declared.request.Request.{Request}
use Rattle.oz_rows.specs.declared.key.RowKey.{RowKey}
use Rattle.oz_rows.specs.RowMaps.{Rows, after_changes, row_after, row_of}
use Rattle.oz_sound.specs.stripes.Stripes.{only}
use Rattle.oz_script.specs.declared.lines.script.Script.{Script}
use Rattle.oz_turn.specs.Told.{BeginsWith}
use Rattle.oz_om.specs.Keeps.{KeepsRows}
use Rattle.oz_om.specs.Opens.{Opens}
use Rattle.oz_om.specs.Purging.{AreFlushed, MayGo}
use Rattle.oz_om.specs.Worked.{AreAnswered, IsAnswered, IsLeft, IsUnflushed, IsWorkedOff, WasWorkedOff, WereWorkedOff}
use Rattle.oz_om.proofs.Pinned.{pinned_same}
use Rattle.oz_om.proofs.Reclaimed.{backed, may_be_found, may_go}
use Rattle.oz_om.proofs.Sought.{flushed, keeps, legal, stands}
use Rattle.oz_om.proofs.Works.{begins_further, begins_itself, below, not_below}

behind : {A : Type 0} (first x : A) (l : List A) → Contains l x → Contains (first ∷ l) x
behind first x l later = let less = later.1 in (suc later.0, omega (arith, less), later.2)

-- ---- what waits above the tables

module _ (down_to : ℕ) where
  rises : (low : ℕ) (batches : List Batch) → EpochsRise low batches → low ≤ epoch_after low batches
  rises low [] rise = omega arith
  rises low (batch ∷ batches) rise =
      let over = rise.0 in
      let others = rises batch.epoch batches rise.1 in
      omega (arith, over, others)

  none_wait : (first : ℕ) (batches : List Batch) → EpochsRise down_to batches → nat_lt down_to (epoch_after first batches) ≡ false → batches ≡ []
  none_wait first [] rise e = refl
  none_wait first (batch ∷ batches) rise e =
      let over = rise.0 in
      let others = rises batch.epoch batches rise.1 in
      let low = not_below down_to (epoch_after batch.epoch batches) e in
      absurd (omega (arith, over, others, low))

  one_waits : (first : ℕ) (down batches : List Batch) (writes : List Write) (rows : Rows) → first ≤ down_to → EpochsRise down_to batches
      → nat_lt down_to (epoch_after first batches) ≡ true → AreChangesOf rows writes (down ++ batches)
      → (write : Write) × Contains writes write × (down_to < write.index)
  one_waits first [] [] writes rows low rise e are = let over = below down_to first e in absurd (omega (arith, low, over))
  one_waits first [] (batch ∷ batches) [] rows low rise e are = absurd are
  one_waits first [] (batch ∷ batches) (write ∷ writes) rows low rise e are =
      let over = rise.0 in
      let same = are.0 in
      (write, (0, omega arith, refl), omega (arith, over, same))
  one_waits first (batch ∷ down) batches [] rows low rise e are = absurd are
  one_waits first (batch ∷ down) batches (write ∷ writes) rows low rise e are =
      let it = one_waits first down batches writes (after_changes batch.changes rows) low rise e are.2 in
      (it.0, behind write it.0 writes it.1, it.2)

  all_down : (down : List Batch) (writes : List Write) (rows : Rows) → AreChangesOf rows writes down
      → AllByRecursion (λ (batch : Batch). batch.epoch ≤ down_to) down → (write : Write) → Contains writes write → write.index ≤ down_to
  all_down [] [] rows are low write there = absurd (in_none write there)
  all_down [] (first ∷ writes) rows are low write there = absurd are
  all_down (batch ∷ down) [] rows are low write there = absurd are
  all_down (batch ∷ down) (first ∷ writes) rows are low write there =
      let within = low.0 in
      let same = are.0 in
      ⊎_elim (λ is. omega (arith, within, same, ap (λ (w : Write). w.index) is))
      (λ later. all_down down writes (after_changes batch.changes rows) are.2 low.1 write later) (first_or_later first write writes there)

none_first : (found : List (RowKey × ℕ)) (key : RowKey) → length found ≡ 0 → IsAmongFirst 1 (map keyed found) key → ⊥
none_first [] key none (inl there) = in_none key there
none_first [] key none (inr full) = let same = full.0 in absurd (omega (arith, same))
none_first (row ∷ more) key none among = absurd (omega (arith, none))

-- ---- of one stripe

module _ {T : Type 0} (Coherent Agrees : Type 0) (opening : Opening) (bytes : OpeningBytes) (script : Script) (loaded : Rows) (last : ℕ)
    (Keeps : ℕ → List Event → List Event → Rows → Type 0) (opens : Opens Coherent opening bytes loaded last Agrees Keeps)
    (s : StripeView T) (rests : IsAtRest last Agrees Keeps s) (follow : AllFollow (Follows Coherent opening bytes script) [] s.seen)
    (coherent : Coherent) (kept : IsKept loaded last Agrees s) where
  abbrev tables : Rows
  tables = row_of s.cache.durable.rows

  kept_rows : KeepsRows Coherent opening loaded s.number s.mine s.seen (newest s.cache)
  kept_rows = keeps Coherent Agrees opening bytes script loaded last Keeps opens s rests follow coherent

  durable : s.flushed ≡ durable_index opening s.seen
  durable = flushed Coherent Agrees opening bytes script loaded last Keeps opens s rests follow coherent kept

  flushed_rows : AreFlushed opening loaded s.number s.seen tables
  flushed_rows = stands Coherent Agrees opening bytes script loaded last Keeps opens s rests follow coherent kept

  pub left_unflushed : nat_lt s.flushed (last_epoch s.cache) ≡ true → IsLeft opening loaded s.number s.seen
  left_unflushed e =
      let it = one_waits s.flushed s.cache.durable.last_index kept.rows.down s.cache.entered (writes_of s.mine) (only s.number loaded) kept.rows.last
      kept.rows.waiting e kept.rows.changes in
      let over = it.2 in
      let same = durable in
      inl (
        it.0,
        record {
          written = subst (λ (l : List Event). Contains (writes_of l) it.0) (sym kept_rows.own) it.1;
          above = omega (arith, over, same);
        },
      )

  pub left_marked : (request : Request) → IsChainWork (newest s.cache) (Some request) → IsLeft opening loaded s.number s.seen
  left_marked request work = inr (inl (request, record { rows = newest s.cache; stood = kept_rows.stood coherent; work = work }))

  pub left_marked_by : (work : Option Request) → is_some work ≡ true → IsChainWork (newest s.cache) work → IsLeft opening loaded s.number s.seen
  left_marked_by None some work = absurd (false≢true some)
  left_marked_by (Some request) some work = left_marked request work

  module _ (untold : (pin : Pin) → Contains s.pins pin → is_told pin.client pin.line s.seen ≡ false) (found : Found)
      (are : AreFound tables (pinned_blocks s.pins) 1 found) where
    story_legal : IsLegal opening s.seen
    story_legal = legal Coherent Agrees opening bytes script loaded last Keeps opens s rests follow coherent

    abbrev part : Namespace
    part = share_of s.number (namespace_of opening flushed_rows.front)

    whole : IsBacked tables part
    whole = backed opening bytes loaded (opens.store coherent) s.number s.seen story_legal tables flushed_rows

    pins_are : (block : Block) → IsOwn loaded s.number s.seen block → Contains (pinned_blocks s.pins) block ↔ Contains (pinned s.seen) block
    pins_are = λ block own. pinned_same opening bytes loaded (opens.store coherent) s.number s.seen s.mine story_legal kept_rows.own s.pins kept.named
        kept.pinned untold block own

    pub left_dead : 1 ≤ length found.rows.items → IsLeft opening loaded s.number s.seen
    left_dead some = by found.rows.items some (are.only part whole)
      where
        by : (l : List (RowKey × ℕ)) → 1 ≤ length l → AllByRecursion (λ (row : RowKey × ℕ). IsReclaimable tables part (pinned_blocks s.pins) row.0) l
            → IsLeft opening loaded s.number s.seen
        by [] few each = absurd (omega (arith, few))
        by (row ∷ more) few each = inr (inr (
          tables,
          flushed_rows,
          row.0,
          may_go opening bytes loaded (opens.store coherent) s.number s.seen story_legal tables flushed_rows (pinned_blocks s.pins) pins_are row.0 each.0,
        ))

    pub none_left : nat_lt s.flushed (last_epoch s.cache) ≡ false → IsChainWork (newest s.cache) None → length found.rows.items ≡ 0
        → IsWorkedOff opening loaded s.number s.seen
    none_left e unmarked none =
        let empty : s.cache.entered ≡ [] = none_wait s.flushed s.cache.durable.last_index s.cache.entered kept.rows.waiting e in
        let same : newest s.cache ≡ tables = λ i key. row_after (batched_changes (empty i)) key (row_of s.cache.durable.rows key) in
        let changes = subst (λ (l : List Batch). AreChangesOf (only s.number loaded) (writes_of s.mine) l)
        (ap (λ (l : List Batch). kept.rows.down ++ l) empty ∙ append-nil kept.rows.down) kept.rows.changes in
        let is = durable in
        record {
          all_flushed = λ write unflushed.
              let low = all_down s.flushed kept.rows.down (writes_of s.mine) (only s.number loaded) changes kept.rows.brought write
              (subst (λ (l : List Event). Contains (writes_of l) write) kept_rows.own unflushed.written) in
              let above = unflushed.above in
              omega (arith, low, above, is);
          rows = tables;
          stood = subst (HasStood opening loaded s.number s.seen) same (kept_rows.stood coherent);
          flushed = flushed_rows;
          unmarked = subst (λ (r : Rows). IsChainWork r None) same unmarked;
          none_may_go = λ key may. none_first found.rows.items key none
              (are.first part whole key (may_be_found opening bytes loaded (opens.store coherent) s.number s.seen story_legal tables flushed_rows
              (pinned_blocks s.pins) pins_are key may));
        }

    pub answered : nat_lt s.flushed (last_epoch s.cache) ≡ false → IsChainWork (newest s.cache) None → (over : Bool)
        → (over ≡ true → length found.rows.items ≡ 0) → (over ≡ false → 1 ≤ length found.rows.items) → IsAnswered opening loaded s.number s.seen over
    answered e unmarked true none some = none_left e unmarked (none refl)
    answered e unmarked false none some = left_dead (some refl)

-- ---- of several stripes

module _ (opening : Opening) (loaded : Rows) (first before after : List Event) (later : BeginsWith after before) where
  -- more was seen
  pub worked_longer : (n : ℕ) → WereWorkedOff opening loaded n first before → WereWorkedOff opening loaded n first after
  worked_longer n were stripe less =
      let old = were stripe less in
      record { story = old.story; behind = old.behind; seen = begins_further old.story before after later old.seen; worked_off = old.worked_off }

  module _ (n : ℕ) (were : WereWorkedOff opening loaded n first before) where
    -- one stripe more was worked off
    pub one_more : BeginsWith before first → (is : Bool) → is ≡ true → IsAnswered opening loaded n after is → WereWorkedOff opening loaded (n + 1) first after
    one_more earlier false e answer stripe less = absurd (false≢true e)
    one_more earlier true e answer stripe less = by (nat_lt stripe n) refl
      where
        by : (t : Bool) → nat_lt stripe n ≡ t → WasWorkedOff opening loaded stripe first after
        by true e = worked_longer n were stripe (below stripe n e)
        by false e =
            let above = not_below stripe n e in
            let same : n ≡ stripe = omega (arith, above, less) in
            subst (λ (m : ℕ). WasWorkedOff opening loaded m first after) same
            (record { story = after; behind = begins_further first before after later earlier; seen = begins_itself after; worked_off = answer })

    -- of one something is left
    pub one_left : n < STRIPES → (is : Bool) → is ≡ false → IsAnswered opening loaded n after is → AreAnswered opening loaded first after false
    one_left there true e answer = absurd (false≢true (sym e))
    one_left there false e answer = (n, there, worked_longer n were, answer)
