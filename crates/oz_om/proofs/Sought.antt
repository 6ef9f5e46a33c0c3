-- What a stripe at rest finds in its tables, once its sweep was brought on to them.
use Rattle.std.proofs.Common.{◌≡◌, ◌↔◌, ℕ, suc, ◌<◌, ◌≤◌, nat_lt, Bool, true, false, not, List, [], ◌∷◌, ◌++◌, length, map, Contains, arith, refl, sym, ap, ◌∙◌, subst, append-nil}
use Rattle.std.proofs.lemmas.Bool.Decides.{nat_tests}
use Rattle.oz_buffer.specs.Buffer.{AllFollow, Follows}
use Rattle.oz_cache.specs.Cache.{newest}
use Rattle.oz_core.specs.declared.event.Event.{Event}
use Rattle.oz_core.specs.declared.opening.Opening.{Opening}
use Rattle.oz_core.specs.Asks.{is_told}
use Rattle.oz_core.specs.Contents.{OpeningBytes}
use Rattle.oz_core.specs.Law.{IsLegal}
use Rattle.oz_core.specs.Manager.{durable_index, stable_index}
use Rattle.oz_core.specs.Stories.{last_told}
use Rattle.oz_kept.specs.laws.Deleted.{durable_rises}
use Rattle.oz_locks.specs.declared.pins.Pin.{Pin}
use Rattle.oz_locks.specs.Pins.{pinned_blocks, untold}
use Rattle.oz_locks.specs.Reclaims.{AreFound}
use Rattle.oz_locks.specs.Stripe.{IsAtRest, IsKept, StripeView}
use Rattle.oz_model.specs.laws.Members.{of_filtered}
use Rattle.oz_owned.specs.Stood.{TablesStand}
use Rattle.oz_reclaim.specs.declared.finding.TheConstants.{MOST_PURGED}
use Rattle.oz_reclaim.specs.declared.sweep.found.Found.{Found}
use Rattle.oz_reclaim.specs.sweep.Found.{keyed}
use Rattle.oz_rows.specs.declared.key.RowKey.{RowKey}
use Rattle.oz_rows.specs.Counts.{AllRise}
use Rattle.oz_rows.specs.RowMaps.{Rows, row_of}
use Rattle.oz_script.specs.declared.lines.script.Script.{Script}
use Rattle.oz_om.specs.declared.purging.Purged.{Purged}
use Rattle.oz_om.specs.Keeps.{KeepsRows}
use Rattle.oz_om.specs.Opens.{Opens}
use Rattle.oz_om.specs.Purging.{AreFlushed, IsCounted, MayBeAsked, WereFound, blocks_of_all, dated, key_of, with_blocks}
use Rattle.oz_om.proofs.Legal.{legal_of}
use Rattle.oz_om.proofs.Pinned.{pinned_same}
use Rattle.oz_om.proofs.Reclaimed.{keys_same, may_be_asked, were_found}
use Rattle.oz_om.proofs.Tables.{tables_stand}

not_told : (t : Bool) → not t ≡ true → t ≡ false
not_told false e = refl
not_told true e = absurd cc

-- what is left of pins are those of lines that aren't told
pub left_untold : (seen : List Event) (pins left : List Pin) → left ≡ untold seen pins → (pin : Pin) → Contains left pin
    → is_told pin.client pin.line seen ≡ false
left_untold seen pins left is pin there = not_told (is_told pin.client pin.line seen)
    (of_filtered (λ (pin : Pin). not (is_told pin.client pin.line seen)) pins pin (subst (λ (l : List Pin). Contains l pin) is there)).1

as_long : {A B : Type 0} (f : A → B) (l : List A) → length (map f l) ≡ length l
as_long f [] = refl
as_long f (x ∷ l) = ap suc (as_long f l)

fewer : (a b : ℕ) → nat_lt a b ≡ true ↔ a < b
fewer a b = (λ e. grind (arith, nat_tests, e), λ less. grind (arith, nat_tests, less))

-- what was found is counted
pub counted_of : (opening : Opening) (story : List Event) (all : Rows) (found : List (RowKey × ℕ)) (it : Purged)
    → it.rows.items ≡ map (with_blocks all) found → it.since.items ≡ map dated found → it.durable ≡ durable_index opening story
    → AllRise (map keyed found) → length found ≤ MOST_PURGED → it.is_all ≡ nat_lt (length it.rows.items) MOST_PURGED → IsCounted opening story it
counted_of opening story all found it rows since durable rise few is =
    let long : length it.rows.items ≡ length found = ap length rows ∙ as_long (with_blocks all) found in
    record {
      durable = durable;
      in_order = subst AllRise (sym (ap (map key_of) rows ∙ keys_same all found)) rise;
      few = omega (arith, long, few);
      all = subst (λ (t : Bool). (t ≡ true) ↔ (length it.rows.items < MOST_PURGED)) (sym is) (fewer (length it.rows.items) MOST_PURGED);
      dated = ap length since ∙ as_long dated found ∙ sym long;
    }

module _ {T : Type 0} (Coherent Agrees : Type 0) (opening : Opening) (bytes : OpeningBytes) (script : Script) (loaded : Rows) (last : ℕ)
    (Keeps : ℕ → List Event → List Event → Rows → Type 0) (opens : Opens Coherent opening bytes loaded last Agrees Keeps)
    (s : StripeView T) (rests : IsAtRest last Agrees Keeps s) (follow : AllFollow (Follows Coherent opening bytes script) [] s.seen)
    (coherent : Coherent) where
  pub keeps : KeepsRows Coherent opening loaded s.number s.mine s.seen (newest s.cache)
  keeps = (opens.keeps s.number s.mine s.seen (newest s.cache)).0 rests.keeps

  pub legal : IsLegal opening s.seen
  legal = legal_of Coherent opening bytes script coherent s.seen follow

  pub may_ask : (purged : Purged) → 1 ≤ length purged.rows.items → WereFound opening loaded s.number s.seen purged
      → MayBeAsked opening loaded s.number s.seen (newest s.cache) (blocks_of_all purged.rows.items)
  may_ask purged some found = may_be_asked opening bytes loaded (opens.store coherent) opens.fit s.number s.seen legal purged found (newest s.cache)
      (keeps.whole coherent) some

  module _ (kept : IsKept loaded last Agrees s) where
    pub flushed : s.flushed ≡ durable_index opening s.seen
    flushed = rests.whole (opens.agrees.0 coherent) ∙ ap (λ (n : ℕ). last_told stable_index n s.seen) opens.last

    pub stands : AreFlushed opening loaded s.number s.seen (row_of s.cache.durable.rows)
    stands =
        let first : opening.last_index ≤ durable_index opening s.seen = durable_rises opening s.seen [] legal in
        subst (λ (n : ℕ). TablesStand opening loaded s.number s.seen n (row_of s.cache.durable.rows)) flushed
        (tables_stand opening loaded s.number s.flushed s.mine s.seen (newest s.cache) s.cache legal keeps.own keeps.listed (keeps.stood coherent)
        (omega (arith, first, flushed)) kept.rows)

    pub sought : ((pin : Pin) → Contains s.pins pin → is_told pin.client pin.line s.seen ≡ false) → (found : Found) (purged : Purged)
        → AreFound (row_of s.cache.durable.rows) (pinned_blocks s.pins) MOST_PURGED found
        → purged.rows.items ≡ map (with_blocks (row_of s.cache.durable.rows)) found.rows.items → purged.is_partly_pinned ≡ found.is_partly_pinned
        → WereFound opening loaded s.number s.seen purged
    sought untold found purged are its partly = were_found opening bytes loaded (opens.store coherent) s.number s.seen legal (row_of s.cache.durable.rows)
        stands (pinned_blocks s.pins)
        (λ block own. pinned_same opening bytes loaded (opens.store coherent) s.number s.seen s.mine legal keeps.own s.pins kept.named kept.pinned untold block own)
        found purged are its partly
