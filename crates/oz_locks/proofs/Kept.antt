-- What a stripe keeps, once its seat has seen more or has decided.
use Rattle.std.proofs.Common.{◌≡◌, ⊎_elim, inl, inr, ℕ, suc, ◌≤◌, List, [], ◌∷◌, ◌++◌, length, take, drop, Any, Option, None, Some, IfSome, refl, sym, ◌∙◌, ap, subst, arith, length-append}
use Rattle.std.proofs.lemmas.List.{take_all, take-append-le, take-append-drop}
use Rattle.std.proofs.lemmas.List.Sums.{fold-append}
use Rattle.std.proofs.lemmas.List.Elements.{Contains-append_left}
use Rattle.oz_cache.specs.Cache.{CacheView, newest}
use Rattle.oz_core.specs.declared.event.Event.{Event}
use Rattle.oz_core.specs.declared.event.EventKind.TheVariants.{Decide, PurgeAsk}
use Rattle.oz_core.specs.Manager.{granted_block, stable_index}
use Rattle.oz_core.specs.Stories.{newer}
use Rattle.oz_fields.specs.declared.block.Block.{Block}
use Rattle.oz_requests.specs.declared.request.AskId.{AskId}
use Rattle.oz_requests.specs.declared.reply.Reply.{Reply}
use Rattle.oz_rows.specs.RowMaps.{Rows}
use Rattle.oz_sound.specs.stripes.Stripes.{only}
use Rattle.oz_locks.specs.declared.pins.Pin.{Pin}
use Rattle.oz_locks.specs.declared.pool.FreeBlock.{FreeBlock}
use Rattle.oz_locks.specs.declared.reclaim.Reclaim.{Reclaim}
use Rattle.oz_locks.specs.Flushes.{IsFlushed, flushed_in}
use Rattle.oz_locks.specs.Pins.{pins_in}
use Rattle.oz_locks.specs.Pool.{AreFresh, AreOfGrants, blocks_granted, pool_of, without}
use Rattle.oz_locks.specs.Purges.{AreAskedWhole}
use Rattle.oz_locks.specs.Reclaims.{KeepsUp}
use Rattle.oz_locks.specs.Rows.{IsReplayed}
use Rattle.oz_locks.specs.Stripe.{IsKept, StripeView}
use Rattle.oz_locks.specs.Writes.{writes_of}
use Rattle.oz_locks.proofs.Pinning.{named_more, pinned_seen, pinned_named}
use Rattle.oz_locks.proofs.Pools.{of_grants_granted, of_more_grants, pool_granted, pool_more}

-- ---- what is flushed

pub flushed_seen : (opened : ℕ) (seen more : List Event) (index : ℕ) → IsFlushed opened seen index → IsFlushed opened (seen ++ more) index
flushed_seen opened seen more index is = ⊎_elim
    (λ at_opening. inl at_opening)
    (λ told. inr (let there = Contains-append_left seen more told.1 (told.0, told.2, told.3) in (there.0, told.1, there.1, there.2, told.4)))
    is

-- the last Flushed is one of those that were seen
pub last_is_flushed : (opened : ℕ) (seen : List Event) → IsFlushed opened seen (flushed_in opened seen)
last_is_flushed opened [] = inl refl
last_is_flushed opened (event ∷ seen) =
    by (stable_index event.kind) refl (λ (before : ℕ). last_is_flushed before seen)
  where
    behind : (index : ℕ) → Any (λ (event : Event). stable_index event.kind ≡ Some index) seen → Any (λ (event : Event). stable_index event.kind ≡ Some index) (event ∷ seen)
    behind index told = let less = told.2 in (suc told.0, told.1, omega arith, told.3, told.4)

    by : (o : Option ℕ) → stable_index event.kind ≡ o → ((before : ℕ) → IsFlushed before seen (flushed_in before seen)) → IsFlushed opened (event ∷ seen) (flushed_in (newer o opened) seen)
    by None e rest = ⊎_elim inl (λ told. inr (behind (flushed_in opened seen) told)) (rest opened)
    by (Some index) e rest = ⊎_elim
        (λ same. inr (0, event, omega arith, refl, e ∙ ap Some (sym same)))
        (λ told. inr (behind (flushed_in index seen) told))
        (rest index)

abbrev decide : ℕ → AskId → ℕ → Reply → List ℕ → Event
decide seat id index reply batch = record { seat = seat; kind = Decide id index reply batch }

-- a Decide flushes nothing
pub none_flushed : (opened : ℕ) (seen : List Event) (seat : ℕ) (id : AskId) (index : ℕ) (reply : Reply) (batch : List ℕ)
    → flushed_in opened (seen ++ decide seat id index reply batch ∷ []) ≡ flushed_in opened seen
none_flushed opened seen seat id index reply batch =
    fold-append (λ told (event : Event). newer (stable_index event.kind) told) opened seen (decide seat id index reply batch ∷ [])

-- nor does a PurgeAsk
pub purge_flushes_none : (opened : ℕ) (seen : List Event) (seat : ℕ) (blocks : List Block)
    → flushed_in opened (seen ++ record { seat = seat; kind = PurgeAsk blocks } ∷ []) ≡ flushed_in opened seen
purge_flushes_none opened seen seat blocks =
    fold-append (λ told (event : Event). newer (stable_index event.kind) told) opened seen (record { seat = seat; kind = PurgeAsk blocks } ∷ [])

-- ---- what a stripe keeps

module _ {T : Type 0} {Coherent : Type 0} (loaded : Rows) (opened : ℕ) (s : StripeView T) (kept : IsKept loaded opened Coherent s) where
  -- the events that were looked at are the same where more follow
  same_known : (more : List Event) → take s.known (s.seen ++ more) ≡ take s.known s.seen
  same_known more = take-append-le s.known s.seen more kept.looked_at

  within_more : (more : List Event) → s.known ≤ length (s.seen ++ more)
  within_more more = let looked_at = kept.looked_at in omega (arith, looked_at, length-append s.seen more)

  -- its seat has seen more
  pub kept_seen : (more : List Event) (room : ℕ) (taken : Option T) → IsKept loaded opened Coherent (record s { seen = s.seen ++ more; room = room; taken = taken })
  kept_seen more room taken = record {
    there = kept.there;
    rows = kept.rows;
    on_disk = flushed_seen opened s.seen more s.flushed kept.on_disk;
    looked_at = within_more more;
    pool_is = λ coherent. kept.pool_is coherent ∙ ap (λ (known : List Event). pool_of s.number known s.mine) (sym (same_known more));
    used = λ coherent. subst (λ (known : List Event). AreOfGrants s.number known s.mine) (sym (same_known more)) (kept.used coherent);
    pinned = pinned_seen s.seen more s.mine s.pins kept.pinned;
    named = kept.named;
    asked = kept.asked;
    reclaims = kept.reclaims;
  }

  -- its seat gave an event
  pub kept_given : (event : Event) (cache : CacheView) (granted : Option Block) (named : List Pin) (pin_room room : ℕ) (reclaim : Reclaim) (taken : Option T)
      → IsReplayed (only s.number loaded) (writes_of (s.mine ++ event ∷ [])) s.flushed cache → granted_block event.kind ≡ granted → named ≡ pins_in event.kind
      → IfSome granted (λ block. Any (λ (free : FreeBlock). free.block ≡ block) s.pool) → (Coherent → AreAskedWhole (newest cache) (s.mine ++ event ∷ []))
      → KeepsUp Coherent s.flushed cache reclaim
      → IsKept loaded opened Coherent (record s {
        cache = cache;
        pool = without granted s.pool;
        pins = s.pins ++ named;
        pin_room = pin_room;
        reclaim = reclaim;
        mine = s.mine ++ event ∷ [];
        seen = s.seen ++ event ∷ [];
        room = room;
        taken = taken;
      })
  kept_given event cache granted named pin_room room reclaim taken rows grants names pooled asked keeps = record {
    there = kept.there;
    rows = rows;
    on_disk = flushed_seen opened s.seen (event ∷ []) s.flushed kept.on_disk;
    looked_at = within_more (event ∷ []);
    pool_is = λ coherent. ap (without granted) (kept.pool_is coherent) ∙ sym (pool_granted s.number (take s.known s.seen) s.mine event granted grants)
        ∙ ap (λ (known : List Event). pool_of s.number known (s.mine ++ event ∷ [])) (sym (same_known (event ∷ [])));
    used = λ coherent. subst (λ (known : List Event). AreOfGrants s.number known (s.mine ++ event ∷ [])) (sym (same_known (event ∷ [])))
        (of_grants_granted s.number (take s.known s.seen) s.mine event granted s.pool grants (kept.pool_is coherent) pooled (kept.used coherent));
    pinned = pinned_named s.seen s.mine event s.pins named names kept.pinned;
    named = named_more s.mine event s.pins named names kept.named;
    asked = asked;
    reclaims = keeps;
  }

  -- it has looked at all that its seat has seen
  pub kept_known : (pool : List FreeBlock) → (Coherent → pool ≡ s.pool ++ blocks_granted s.number (drop s.known s.seen))
      → (Coherent → AreFresh s.number (take s.known s.seen) (drop s.known s.seen))
      → (Coherent → pool ≡ pool_of s.number s.seen s.mine) × IsKept loaded opened Coherent (record s { pool = pool; known = length s.seen })
  kept_known pool is fresh =
      let all = take-append-drop s.known s.seen in
      let whole : take (length s.seen) s.seen ≡ s.seen = take_all (length s.seen) s.seen (omega arith) in
      let pool_is : Coherent → pool ≡ pool_of s.number s.seen s.mine = λ coherent. is coherent ∙ ap (λ (l : List FreeBlock). l ++ blocks_granted s.number (drop s.known s.seen)) (kept.pool_is coherent)
      ∙ sym (pool_more s.number (take s.known s.seen) (drop s.known s.seen) s.mine (kept.used coherent) (fresh coherent)) ∙ ap (λ (known : List Event). pool_of s.number known s.mine) all in (
        pool_is,
        record {
          there = kept.there;
          rows = kept.rows;
          on_disk = kept.on_disk;
          looked_at = omega arith;
          pool_is = λ coherent. pool_is coherent ∙ ap (λ (known : List Event). pool_of s.number known s.mine) (sym whole);
          used = λ coherent. subst (λ (known : List Event). AreOfGrants s.number known s.mine) (all ∙ sym whole)
              (of_more_grants s.number (take s.known s.seen) (drop s.known s.seen) s.mine (kept.used coherent));
          pinned = kept.pinned;
          named = kept.named;
          asked = kept.asked;
          reclaims = kept.reclaims;
        },
      )
