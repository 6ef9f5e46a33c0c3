-- A stripe's parts, once its seat has seen more, or has decided or asked for something.
use Rattle.std.proofs.Common.{◌≡◌, ℕ, ◌<◌, ◌≤◌, false, List, [], ◌∷◌, ◌++◌, length, map, take, drop, All, Any, IfSome, Option, None, refl, sym, ◌∙◌, ap, subst, subst₂, append-nil}
use Rattle.std.proofs.lemmas.List.Elements.{All-drop}
use Rattle.oz_turn.specs.Ring.{TurnId}
use Rattle.oz_turn.specs.Seat.{IsSameSeat, number_of, mine_of, seen_of, room_of, taken_of}
use Rattle.oz_turn.specs.Told.{AddsOne, BeginsWith}
use Rattle.oz_turn.specs.declared.told.Told.{Ghosts}
use Rattle.oz_turn.specs.declared.seat.Seat.{Seat}
use Rattle.oz_cache.specs.Cache.{CacheView, batched_changes, batch_of, epoch_after, last_epoch, newest, up_to, later}
use Rattle.oz_core.specs.declared.event.Event.{Event}
use Rattle.oz_core.specs.declared.event.EventKind.TheVariants.{Decide, PurgeAsk}
use Rattle.oz_core.specs.Manager.{granted_block}
use Rattle.oz_core.specs.Seats.{stripe_seat}
use Rattle.oz_effects.specs.Batches.{IsBatchOf}
use Rattle.oz_fields.specs.declared.block.Block.{Block}
use Rattle.oz_reclaim.specs.Origins.{SnapshotKeysStay}
use Rattle.oz_reclaim.specs.declared.sweep.notes.Note.{Note}
use Rattle.oz_reclaim.specs.sweep.Changes.{DifferByNotes}
use Rattle.oz_reclaim.specs.sweep.Notes.{dated, up_to as notes_up_to}
use Rattle.oz_reclaim.specs.sweep.Swept.{IsSweptTo}
use Rattle.oz_reclaim.specs.sweep.View.{SweepView}
use Rattle.oz_requests.specs.declared.request.AskId.{AskId}
use Rattle.oz_requests.specs.declared.reply.Reply.{Reply}
use Rattle.oz_rows.specs.declared.key.RowKey.{RowKey}
use Rattle.oz_rows.specs.declared.operation.Change.{Change}
use Rattle.oz_rows.specs.RowMaps.{Rows, row_of, row_after, after_changes}
use Rattle.oz_sound.specs.stripes.Stripes.{only}
use Rattle.oz_locks.specs.declared.pins.Pin.{Pin}
use Rattle.oz_locks.specs.declared.pool.FreeBlock.{FreeBlock}
use Rattle.oz_locks.specs.declared.reclaim.Reclaim.{Reclaim}
use Rattle.oz_locks.specs.Decides.{AddsDecide, AddsPurgeAsk}
use Rattle.oz_locks.specs.Flushes.{IsFlushed, flushed_in}
use Rattle.oz_locks.specs.Pins.{AreNamed, ArePinned, pins_in, untold}
use Rattle.oz_locks.specs.Pool.{AreFresh, GrantFits, blocks_granted, pool_of, without}
use Rattle.oz_locks.specs.Purges.{AreAskedWhole, HaveWholeRows}
use Rattle.oz_locks.specs.Reclaims.{AreReady, KeepsUp}
use Rattle.oz_locks.specs.Rows.{IsReplayed}
use Rattle.oz_locks.specs.Seats.{IsSeated, seen_as}
use Rattle.oz_locks.specs.Stripe.{IsKept, StripeView}
use Rattle.oz_locks.specs.Writes.{writes_of}
use Rattle.oz_locks.proofs.Kept.{kept_seen, kept_given, kept_known, last_is_flushed}
use Rattle.oz_locks.proofs.Pinning.{named_untold, pinned_untold}
use Rattle.oz_locks.proofs.Purging.{asked_kept, asked_anew, asked_alike}
use Rattle.oz_locks.proofs.Reclaiming.{keeps_down, keeps_entered, keeps_prepared}
use Rattle.oz_locks.proofs.Replays.{no_write_more, no_write_of_purge, one_write_more, same_replayed, more_replayed, down_replayed}

abbrev decide : ℕ → AskId → ℕ → Reply → List ℕ → Event
decide number id index reply batch = record { seat = stripe_seat number; kind = Decide id index reply batch }

abbrev AreFit : List Event → Type 0
AreFit events = All (λ (event : Event). GrantFits event.kind) events

abbrev purge_ask : ℕ → List Block → Event
purge_ask number blocks = record { seat = stripe_seat number; kind = PurgeAsk blocks }

-- rows may change as is noted
abbrev pub MayChange : Type 0
MayChange = (sweep : SweepView) (upto more : ℕ) (before now : Rows) → upto ≤ more → DifferByNotes (notes_up_to more sweep.noted) before now → IsSweptTo sweep upto before
    → IsSweptTo sweep more now

module _ {T : Type 0} {told : Ghosts T Event} (turn : TurnId) (loaded : Rows) (opened number flushed : ℕ) (Coherent : Type 0) where
  abbrev pub IsWhole : CacheView → List FreeBlock → ℕ → List Pin → ℕ → Reclaim → Seat T Event told → Type 0
  IsWhole cached pool known pins pin_room reclaim s = IsSeated turn number s × IsKept loaded opened Coherent (seen_as number cached flushed pool known pins pin_room reclaim s)

  pub whole_seen : (cached : CacheView) (pool : List FreeBlock) (known : ℕ) (pins : List Pin) (pin_room : ℕ) (reclaim : Reclaim) (old new : Seat T Event told) → IsWhole cached pool known pins pin_room reclaim old
      → IsSameSeat old new → mine_of new ≡ mine_of old → BeginsWith (seen_of new) (seen_of old) → IsWhole cached pool known pins pin_room reclaim new
  whole_seen cached pool known pins pin_room reclaim old new whole same mine begins = (
    record { of_turn = same.0 ∙ whole.0.of_turn; numbered = same.1 ∙ whole.0.numbered },
    subst₂ (λ (mine seen : List Event). IsKept loaded opened Coherent (record (seen_as number cached flushed pool known pins pin_room reclaim new) { mine = mine; seen = seen }))
        (sym mine) (sym begins.1)
        (kept_seen loaded opened (seen_as number cached flushed pool known pins pin_room reclaim old) whole.1 begins.0 (room_of new) (taken_of new)),
  )

  pub whole_given : (cached after : CacheView) (pool left : List FreeBlock) (known : ℕ) (pins all named : List Pin) (pin_room pin_room_after : ℕ) (reclaim now : Reclaim) (granted : Option Block) (event : Event)
      (old new : Seat T Event told) → IsWhole cached pool known pins pin_room reclaim old → IsSameSeat old new
      → mine_of new ≡ mine_of old ++ event ∷ [] → seen_of new ≡ seen_of old ++ event ∷ []
      → IsReplayed (only number loaded) (writes_of (mine_of old ++ event ∷ [])) flushed after
      → granted_block event.kind ≡ granted → named ≡ pins_in event.kind → left ≡ without granted pool → all ≡ pins ++ named
      → IfSome granted (λ block. Any (λ (free : FreeBlock). free.block ≡ block) pool) → (Coherent → AreAskedWhole (newest after) (mine_of old ++ event ∷ []))
      → KeepsUp Coherent flushed after now → IsWhole after left known all pin_room_after now new
  whole_given cached after pool left known pins all named pin_room pin_room_after reclaim now granted event old new whole same mine seen rows grants names left_is all_is pooled asked keeps =
      let kept = kept_given loaded opened (seen_as number cached flushed pool known pins pin_room reclaim old) whole.1 event after granted named pin_room_after (room_of new) now (taken_of new) rows grants names pooled asked keeps in (
        record { of_turn = same.0 ∙ whole.0.of_turn; numbered = same.1 ∙ whole.0.numbered },
        subst₂ (λ (mine seen : List Event). IsKept loaded opened Coherent (record (seen_as number after flushed left known all pin_room_after now new) { mine = mine; seen = seen })) (sym mine) (sym seen)
            (subst₂ (λ (left : List FreeBlock) (all : List Pin). IsKept loaded opened Coherent (record (seen_as number after flushed left known all pin_room_after now new) { mine = mine_of old ++ event ∷ []; seen = seen_of old ++ event ∷ [] })) (sym left_is) (sym all_is) kept),
      )

  -- the seat gave a Decide that changes no rows
  pub whole_noted : (cached : CacheView) (pool : List FreeBlock) (known : ℕ) (pins all named : List Pin) (pin_room pin_room_after : ℕ) (reclaim : Reclaim) (old new : Seat T Event told) (v : StripeView T) (story : List Event) (index : ℕ)
      → seen_as number cached flushed pool known pins pin_room reclaim old ≡ v → IsWhole cached pool known pins pin_room reclaim old → IsSameSeat old new
      → ((event : Event) → story ≡ seen_of old ++ event ∷ [] → mine_of new ≡ mine_of old ++ event ∷ []) → seen_of new ≡ story
      → AddsDecide v story index [] None named → all ≡ pins ++ named → IsWhole cached pool known all pin_room_after reclaim new
  whole_noted cached pool known pins all named pin_room pin_room_after reclaim old new v story index view_is whole same mine seen adds_v all_is =
      let adds = subst (λ (v : StripeView T). AddsDecide v story index [] None named) (sym view_is) adds_v in
      let event = decide number adds.id index adds.reply [] in
      whole_given cached cached pool pool known pins all named pin_room pin_room_after reclaim reclaim None event old new whole same (mine event adds.adds) (seen ∙ adds.adds)
      (subst (λ w. IsReplayed (only number loaded) w flushed cached) (sym (no_write_more (mine_of old) (stripe_seat number) adds.id index adds.reply)) whole.1.rows)
      (sym adds.grants) adds.names refl all_is tt (λ coherent. asked_kept (newest cached) (mine_of old) event refl (whole.1.asked coherent)) whole.1.reclaims

  -- it gave one that writes
  pub whole_entered : (cached after : CacheView) (pool left : List FreeBlock) (known : ℕ) (pins all named : List Pin) (pin_room pin_room_after : ℕ) (reclaim now : Reclaim) (old new : Seat T Event told) (v : StripeView T) (story : List Event) (index : ℕ)
      (granted : Option Block) (batch : List ℕ) (changes : List Change)
      → seen_as number cached flushed pool known pins pin_room reclaim old ≡ v → IsWhole cached pool known pins pin_room reclaim old → IsSameSeat old new
      → ((event : Event) → story ≡ seen_of old ++ event ∷ [] → mine_of new ≡ mine_of old ++ event ∷ []) → seen_of new ≡ story
      → AddsDecide v story index batch granted named → 1 ≤ length batch → IsBatchOf (newest v.cache) batch changes
      → last_epoch v.cache < index → v.flushed < index
      → IfSome granted (λ block. Any (λ (free : FreeBlock). free.block ≡ block) v.pool) → (Coherent → AreAskedWhole (after_changes changes (newest v.cache)) v.mine)
      → AreReady changes v.reclaim → (Coherent → SnapshotKeysStay changes)
      → after.entered ≡ cached.entered ++ batch_of index changes ∷ [] → after.durable ≡ cached.durable
      → ((key : RowKey) → newest after key ≡ row_after changes key (newest cached key))
      → now.sweep ≡ record reclaim.sweep { noted = reclaim.sweep.noted ++ map (dated index) reclaim.sweep.ready; ready = [] }
      → ((rows : Rows) (upto : ℕ) → upto < index → IsSweptTo reclaim.sweep upto rows → IsSweptTo now.sweep upto rows) → now.may_be_marked ≡ reclaim.may_be_marked
      → left ≡ without granted pool → all ≡ pins ++ named → IsWhole after left known all pin_room_after now new
  whole_entered cached after pool left known pins all named pin_room pin_room_after reclaim now old new v story index granted batch changes view_is whole same mine seen adds_v some batch_v above_v unflushed_v pooled_v asked_v ready_v tidy entered durable rows sweep swept flag left_is all_is =
      let adds = subst (λ (v : StripeView T). AddsDecide v story index batch granted named) (sym view_is) adds_v in
      let is_batch = subst (λ (v : StripeView T). IsBatchOf (newest v.cache) batch changes) (sym view_is) batch_v in
      let above = subst (λ (v : StripeView T). last_epoch v.cache < index) (sym view_is) above_v in
      let unflushed = subst (λ (v : StripeView T). v.flushed < index) (sym view_is) unflushed_v in
      let pooled = subst (λ (v : StripeView T). IfSome granted (λ block. Any (λ (free : FreeBlock). free.block ≡ block) v.pool)) (sym view_is) pooled_v in
      let asked = subst (λ (v : StripeView T). Coherent → AreAskedWhole (after_changes changes (newest v.cache)) v.mine) (sym view_is) asked_v in
      let ready = subst (λ (v : StripeView T). AreReady changes v.reclaim) (sym view_is) ready_v in
      let event = decide number adds.id index adds.reply batch in
      whole_given cached after pool left known pins all named pin_room pin_room_after reclaim now granted event old new whole same (mine event adds.adds) (seen ∙ adds.adds)
      (subst (λ w. IsReplayed (only number loaded) w flushed after) (sym (one_write_more (mine_of old) (stripe_seat number) adds.id index adds.reply batch some))
      (more_replayed (only number loaded) (writes_of (mine_of old)) flushed cached after (record { index = index; bytes = batch }) changes whole.1.rows is_batch above unflushed entered durable))
      (sym adds.grants) adds.names left_is all_is pooled
      (λ coherent. asked_alike (after_changes changes (newest cached)) (newest after) (mine_of old ++ event ∷ []) rows (asked_kept (after_changes changes (newest cached)) (mine_of old) event refl (asked coherent)))
      (keeps_entered Coherent flushed cached after reclaim now index changes whole.1.reclaims ready unflushed tidy entered durable rows sweep swept flag)

  -- it gave a PurgeAsk
  pub whole_asked : (cached : CacheView) (pool : List FreeBlock) (known : ℕ) (pins : List Pin) (pin_room : ℕ) (reclaim : Reclaim) (old new : Seat T Event told) (v : StripeView T) (story : List Event) (blocks : List Block)
      → seen_as number cached flushed pool known pins pin_room reclaim old ≡ v → IsWhole cached pool known pins pin_room reclaim old → IsSameSeat old new
      → ((event : Event) → story ≡ seen_of old ++ event ∷ [] → mine_of new ≡ mine_of old ++ event ∷ []) → seen_of new ≡ story
      → AddsPurgeAsk v story blocks → (Coherent → HaveWholeRows (newest v.cache) blocks) → IsWhole cached pool known pins pin_room reclaim new
  whole_asked cached pool known pins pin_room reclaim old new v story blocks view_is whole same mine seen adds_v rows_v =
      let adds = subst (λ (v : StripeView T). AddsPurgeAsk v story blocks) (sym view_is) adds_v in
      let rows = subst (λ (v : StripeView T). Coherent → HaveWholeRows (newest v.cache) blocks) (sym view_is) rows_v in
      let event = purge_ask number blocks in
      whole_given cached cached pool pool known pins pins [] pin_room pin_room reclaim reclaim None event old new whole same (mine event adds) (seen ∙ adds)
      (subst (λ w. IsReplayed (only number loaded) w flushed cached) (sym (no_write_of_purge (mine_of old) (stripe_seat number) blocks)) whole.1.rows)
      refl refl refl (sym (append-nil pins)) tt (λ coherent. asked_anew (newest cached) (mine_of old) event blocks refl (rows coherent) (whole.1.asked coherent)) whole.1.reclaims

  -- the rows have more room, or some were brought down
  pub whole_prepared : (cached after : CacheView) (pool : List FreeBlock) (known : ℕ) (pins : List Pin) (pin_room : ℕ) (reclaim now : Reclaim) (ready : List Note) (s : Seat T Event told) → IsWhole cached pool known pins pin_room reclaim s
      → after.durable.rows ≡ cached.durable.rows → after.durable.last_index ≡ cached.durable.last_index → after.entered ≡ cached.entered
      → now.sweep ≡ record reclaim.sweep { ready = ready } → (now.may_be_marked ≡ false → reclaim.may_be_marked ≡ false) → IsWhole after pool known pins pin_room now s
  whole_prepared cached after pool known pins pin_room reclaim now ready s whole rows last entered sweep flag = (
    whole.0,
    record {
      there = whole.1.there;
      rows = same_replayed (only number loaded) (writes_of (mine_of s)) flushed cached after whole.1.rows rows last entered;
      on_disk = whole.1.on_disk;
      looked_at = whole.1.looked_at;
      pool_is = whole.1.pool_is;
      used = whole.1.used;
      pinned = whole.1.pinned;
      named = whole.1.named;
      asked = λ coherent. asked_alike (newest cached) (newest after) (mine_of s)
          (λ key. ap (λ l. row_after (batched_changes l) key (row_of after.durable.rows key)) entered ∙ ap (λ l. row_after (batched_changes cached.entered) key (row_of l key)) rows) (whole.1.asked coherent);
      reclaims = keeps_prepared Coherent flushed cached after reclaim now ready whole.1.reclaims rows entered sweep flag;
    },
  )

  pub whole_down : (cached after : CacheView) (pool : List FreeBlock) (known : ℕ) (pins : List Pin) (pin_room : ℕ) (reclaim : Reclaim) (s : Seat T Event told) (v : StripeView T) (index : ℕ)
      → seen_as number cached flushed pool known pins pin_room reclaim s ≡ v → IsWhole cached pool known pins pin_room reclaim s → index ≡ flushed_in opened v.seen → v.flushed ≤ index
      → ((key : RowKey) → row_of after.durable.rows key ≡ row_after (batched_changes (up_to index cached.entered)) key (row_of cached.durable.rows key))
      → after.durable.last_index ≡ epoch_after cached.durable.last_index (up_to index cached.entered) → after.entered ≡ later index cached.entered
      → ((key : RowKey) → newest after key ≡ newest cached key) → MayChange
      → IsSeated turn number s × IsKept loaded opened Coherent (seen_as number after index pool known pins pin_room reclaim s)
  whole_down cached after pool known pins pin_room reclaim s v index view_is whole is_v le_v rows last entered same law =
      let is = subst (λ (v : StripeView T). index ≡ flushed_in opened v.seen) (sym view_is) is_v in
      let le = subst (λ (v : StripeView T). v.flushed ≤ index) (sym view_is) le_v in (
        whole.0,
        record {
          there = whole.1.there;
          rows = down_replayed (only number loaded) (writes_of (mine_of s)) flushed cached after index whole.1.rows le rows last entered;
          on_disk = subst (IsFlushed opened (seen_of s)) (sym is) (last_is_flushed opened (seen_of s));
          looked_at = whole.1.looked_at;
          pool_is = whole.1.pool_is;
          used = whole.1.used;
          pinned = whole.1.pinned;
          named = whole.1.named;
          asked = λ coherent. asked_alike (newest cached) (newest after) (mine_of s) same (whole.1.asked coherent);
          reclaims = keeps_down Coherent flushed law cached after reclaim index whole.1.reclaims le rows entered same;
        },
      )

  -- the pins of lines that are told went
  pub whole_unpinned : (cached : CacheView) (pool : List FreeBlock) (known : ℕ) (pins left : List Pin) (pin_room pin_room_after : ℕ) (reclaim : Reclaim) (s : Seat T Event told) (v : StripeView T) (story : List Event)
      → seen_as number cached flushed pool known pins pin_room reclaim s ≡ v → IsWhole cached pool known pins pin_room reclaim s → story ≡ v.seen → left ≡ untold story pins
      → IsWhole cached pool known left pin_room_after reclaim s
  whole_unpinned cached pool known pins left pin_room pin_room_after reclaim s v story view_is whole story_is left_is =
      let same : story ≡ seen_of s = story_is ∙ sym (ap (λ (v : StripeView T). v.seen) view_is) in
      let is : left ≡ untold (seen_of s) pins = left_is ∙ ap (λ (l : List Event). untold l pins) same in (
        whole.0,
        record {
          there = whole.1.there;
          rows = whole.1.rows;
          on_disk = whole.1.on_disk;
          looked_at = whole.1.looked_at;
          pool_is = whole.1.pool_is;
          used = whole.1.used;
          pinned = subst (ArePinned (seen_of s) (mine_of s)) (sym is) (pinned_untold (seen_of s) (mine_of s) pins whole.1.pinned);
          named = subst (AreNamed (mine_of s)) (sym is) (named_untold (seen_of s) (mine_of s) pins whole.1.named);
          asked = whole.1.asked;
          reclaims = whole.1.reclaims;
        },
      )

  -- what is kept of rows that may go went on
  pub whole_reclaimed : (cached : CacheView) (pool : List FreeBlock) (known : ℕ) (pins : List Pin) (pin_room : ℕ) (reclaim now : Reclaim) (s : Seat T Event told)
      → IsWhole cached pool known pins pin_room reclaim s → KeepsUp Coherent flushed cached now → IsWhole cached pool known pins pin_room now s
  whole_reclaimed cached pool known pins pin_room reclaim now s whole keeps = (
    whole.0,
    record {
      there = whole.1.there;
      rows = whole.1.rows;
      on_disk = whole.1.on_disk;
      looked_at = whole.1.looked_at;
      pool_is = whole.1.pool_is;
      used = whole.1.used;
      pinned = whole.1.pinned;
      named = whole.1.named;
      asked = whole.1.asked;
      reclaims = keeps;
    },
  )

  -- the Grants that were seen are in the pool
  pub whole_known : (cached : CacheView) (pool all : List FreeBlock) (known : ℕ) (pins : List Pin) (pin_room : ℕ) (reclaim : Reclaim) (s : Seat T Event told) (v : StripeView T) (story more : List Event)
      → seen_as number cached flushed pool known pins pin_room reclaim s ≡ v → IsWhole cached pool known pins pin_room reclaim s → story ≡ v.seen
      → (Coherent → AreFit v.seen) → (Coherent → AreFresh v.number (take v.known v.seen) (drop v.known v.seen)) → more ≡ drop known story
      → (AreFit more → all ≡ pool ++ blocks_granted number more)
      → (Coherent → all ≡ pool_of v.number v.seen v.mine) × IsWhole cached all (length story) pins pin_room reclaim s
  whole_known cached pool all known pins pin_room reclaim s v story more view_is whole story_is fit_v fresh_v more_is added =
      let same : story ≡ seen_of s = story_is ∙ sym (ap (λ (v : StripeView T). v.seen) view_is) in
      let fresh = subst (λ (v : StripeView T). Coherent → AreFresh v.number (take v.known v.seen) (drop v.known v.seen)) (sym view_is) fresh_v in
      let fit : Coherent → AreFit more = λ coherent. subst AreFit (sym more_is)
      (All-drop (λ (event : Event). GrantFits event.kind) known story (subst AreFit (sym story_is) (fit_v coherent))) in
      let all_is : Coherent → all ≡ pool ++ blocks_granted number (drop known (seen_of s)) = λ coherent. added (fit coherent)
      ∙ ap (λ (l : List Event). pool ++ blocks_granted number l) (more_is ∙ ap (drop known) same) in
      let kept = kept_known loaded opened (seen_as number cached flushed pool known pins pin_room reclaim s) whole.1 all all_is fresh in (
        subst (λ (v : StripeView T). Coherent → all ≡ pool_of v.number v.seen v.mine) view_is kept.0,
        (whole.0, subst (λ n. IsKept loaded opened Coherent (seen_as number cached flushed all n pins pin_room reclaim s)) (ap length (sym same)) kept.1),
      )

  -- what the turn asks of a Decide
  pub adds_one : (cached : CacheView) (pool : List FreeBlock) (known : ℕ) (pins named : List Pin) (pin_room : ℕ) (reclaim : Reclaim) (s : Seat T Event told) (v : StripeView T) (story : List Event) (index : ℕ) (batch : List ℕ) (granted : Option Block)
      → ((event : Event) → told.seat_of event ≡ event.seat) → seen_as number cached flushed pool known pins pin_room reclaim s ≡ v → IsWhole cached pool known pins pin_room reclaim s
      → AddsDecide v story index batch granted named → AddsOne told.seat_of (number_of s) (seen_of s) story
  adds_one cached pool known pins named pin_room reclaim s v story index batch granted tells view_is whole adds_v =
      let adds = subst (λ (v : StripeView T). AddsDecide v story index batch granted named) (sym view_is) adds_v in
      let event = decide number adds.id index adds.reply batch in
      (event, adds.adds, tells event ∙ sym whole.0.numbered)

  -- and of a PurgeAsk
  pub asks_one : (cached : CacheView) (pool : List FreeBlock) (known : ℕ) (pins : List Pin) (pin_room : ℕ) (reclaim : Reclaim) (s : Seat T Event told) (v : StripeView T) (story : List Event) (blocks : List Block)
      → ((event : Event) → told.seat_of event ≡ event.seat) → seen_as number cached flushed pool known pins pin_room reclaim s ≡ v → IsWhole cached pool known pins pin_room reclaim s
      → AddsPurgeAsk v story blocks → AddsOne told.seat_of (number_of s) (seen_of s) story
  asks_one cached pool known pins pin_room reclaim s v story blocks tells view_is whole adds_v =
      let adds = subst (λ (v : StripeView T). AddsPurgeAsk v story blocks) (sym view_is) adds_v in
      let event = purge_ask number blocks in
      (event, adds, tells event ∙ sym whole.0.numbered)
