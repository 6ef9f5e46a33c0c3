-- What the law says of the flusher's events, and of what was decided and not taken.
use Rattle.std.specs.Prelude.{true, false}
use Rattle.std.proofs.Common.{◌≡◌, ◌≢◌, ◌⊎◌, inl, inr, ℕ, ◌+◌, ◌<◌, ◌≤◌, List, [], ◌∷◌, ◌++◌, Option, None, IfSome, refl, sym, ap, ◌∙◌, subst, ⊎_elim, arith}
use Rattle.std.proofs.lemmas.Bool.{cases_lt, false≢true}
use Rattle.oz_script.specs.declared.lines.script.Script.{Script}
use Rattle.oz_buffer.specs.Buffer.{AllFollow, Follows, buffer_after, buffer_of}
use Rattle.oz_buffer.specs.laws.Following.{follow-each, follow-all, told-push, buffer-push}
use Rattle.oz_core.specs.declared.event.Event.{Event}
use Rattle.oz_core.specs.declared.event.EventKind.{EventKind}
use Rattle.oz_core.specs.declared.event.EventKind.TheVariants.{Decide, Swap, Flushed, Halt}
use Rattle.oz_core.specs.declared.event.Node.TheVariants.{Manager, Scm, Datanode}
use Rattle.oz_core.specs.declared.opening.Opening.{Opening}
use Rattle.oz_core.specs.Contents.{OpeningBytes}
use Rattle.oz_core.specs.Law.{KindIsEnabled, IndexGoesOn, DecideIsEnabled, SwapIsEnabled, FlushedIsEnabled, HaltIsEnabled}
use Rattle.oz_core.specs.Manager.{decided_index, taken_index, stable_index, stable_moment, halt_count, last_index, swapped_index, durable_index, halt_of, flushed_moment}
use Rattle.oz_core.specs.Seats.{flusher_seat}
use Rattle.oz_core.specs.Stories.{newer, last_in}
use Rattle.oz_flusher.specs.Quiet.{IsSettled}
use Rattle.oz_flusher.specs.Steps.{swap_event}
use Rattle.oz_flusher.proofs.Quieting.{moment_kept, unhalted_swapped, swapped_last, durable_kept}
use Rattle.oz_flusher.proofs.Own.{is_ours, IsOurs, AreOurs, own, told_own, all_own}

-- by the law they are of its seat
own_kind : (opening : Opening) (story : List Event) (seat : ℕ) (kind : EventKind) → KindIsEnabled opening story seat kind → is_ours kind ≡ true → seat ≡ flusher_seat
own_kind opening story seat (Swap index) may is = may.of_flusher
own_kind opening story seat (Flushed index moment) may is = may.of_flusher
own_kind opening story seat (Halt Manager count) may is = may.of_node
own_kind opening story seat (Halt Scm count) may is = absurd (false≢true is)
own_kind opening story seat (Halt (Datanode dn) count) may is = absurd (false≢true is)
own_kind opening story seat kind may is = absurd (false≢true is)

-- what others tell of the journal: nothing
swaps_only : (kind : EventKind) → is_ours kind ≡ false → taken_index kind ≡ None
swaps_only (Swap index) not = absurd (false≢true (sym not))
swaps_only kind not = refl

flushes_only : (kind : EventKind) → is_ours kind ≡ false → stable_index kind ≡ None
flushes_only (Flushed index moment) not = absurd (false≢true (sym not))
flushes_only kind not = refl

moments_only : (kind : EventKind) → is_ours kind ≡ false → stable_moment kind ≡ None
moments_only (Flushed index moment) not = absurd (false≢true (sym not))
moments_only kind not = refl

halts_only : (kind : EventKind) → is_ours kind ≡ false → halt_count Manager kind ≡ None
halts_only (Halt Manager count) not = absurd (false≢true (sym not))
halts_only (Halt Scm count) not = refl
halts_only (Halt (Datanode dn) count) not = refl
halts_only kind not = refl

-- A decision goes on to a higher index where it has a batch, stays where it has none, and never goes to a lower one.
pub record GoesOn (last index : ℕ) (batch : List ℕ) : Type 0 where
  pub no_lower : last ≤ index
  pub higher : batch ≢ [] → last < index
  pub stays : batch ≡ [] → index ≡ last

no_lower_index : (opening : Opening) (story : List Event) (request : _) (reply : _) (index : ℕ) → IndexGoesOn opening story request reply index → index < last_index opening story → ⊥
no_lower_index opening story request reply index on less =
    let last : ℕ = last_index opening story in
    let next : index ≡ last + 1 = on.changes (λ same.
    (let stays : index ≡ last = on.stays same (λ service. ⊎_elim (λ (is : index ≡ last). omega (arith, is, less)) (λ (is : index ≡ last + 1). omega (arith, is, less)) (on.service service)) in omega (arith, stays, less))) in
    omega (arith, next, less)

decide_goes_on : (opening : Opening) (story : List Event) (seat index : ℕ) (id : _) (reply : _) (batch : List ℕ) → DecideIsEnabled opening story seat id index reply batch → GoesOn (last_index opening story) index batch
decide_goes_on opening story seat index id reply batch may =
    let last : ℕ = last_index opening story in
    let not_lower : (index < last → ⊥) = no_lower_index opening story may.request reply index may.index_goes_on in
    let no_lower : last ≤ index = elim (cases_lt index last) [ inl less ↦ absurd (not_lower less) | inr enough ↦ enough ] in
    record {
      no_lower = no_lower;
      higher = λ some. elim (cases_lt last index) [
        | inl more ↦ more
        | inr most ↦ absurd (some (may.recorded.1 (omega (arith, most, no_lower))))
      ];
      stays = may.recorded.0;
    }

-- The last index that was taken isn't above the last that was decided, and below it exactly where something is left to take.
pub record IsAhead (last swapped : ℕ) (buffer : List ℕ) : Type 0 where
  pub no_higher : swapped ≤ last
  pub lower : buffer ≢ [] → swapped < last
  pub level : buffer ≡ [] → swapped ≡ last

both_empty : (buffer batch : List ℕ) → (buffer ++ batch ≢ []) → (buffer ≢ []) ⊎ (batch ≢ [])
both_empty [] batch some = inr some
both_empty (byte ∷ buffer) batch some = inl (λ none. some (absurd (cc none)))

none_of_both : (buffer batch : List ℕ) → buffer ++ batch ≡ [] → (buffer ≡ []) × (batch ≡ [])
none_of_both [] batch none = (refl, none)
none_of_both (byte ∷ buffer) batch none = absurd cc

ahead_kind : (opening : Opening) (story : List Event) (seat : ℕ) (kind : EventKind) → KindIsEnabled opening story seat kind
    → IsAhead (last_index opening story) (swapped_index opening story) (buffer_of story)
    → IsAhead (newer (decided_index kind) (last_index opening story)) (newer (taken_index kind) (swapped_index opening story)) (buffer_after (buffer_of story) kind)
ahead_kind opening story seat (Decide id index reply batch) may ahead =
    let on = decide_goes_on opening story seat index id reply batch may in
    record {
      no_higher = omega (arith, on.no_lower, ahead.no_higher);
      lower = λ some. ⊎_elim
          (λ (was : buffer_of story ≢ []). (let below = ahead.lower was in omega (arith, below, on.no_lower)))
          (λ (has : batch ≢ []). (let above = on.higher has in omega (arith, above, ahead.no_higher)))
          (both_empty (buffer_of story) batch some);
      level = λ none.
          let parts = none_of_both (buffer_of story) batch none in
          let was = ahead.level parts.0 in
          let stays = on.stays parts.1 in
          omega (arith, was, stays);
    }
ahead_kind opening story seat (Swap index) may ahead = record { no_higher = omega (arith, may.all_decided); lower = λ some. absurd (some refl); level = λ none. may.all_decided }
ahead_kind opening story seat kind may ahead = ahead

module _ (Coherent : Type 0) (opening : Opening) (bytes : OpeningBytes) (script : Script) (coherent : Coherent) (story : List Event) (all : AllFollow (Follows Coherent opening bytes script) [] story) where
  pub ours_all : AreOurs story
  ours_all = follow-all (Follows Coherent opening bytes script) IsOurs [] story (λ front event may. own_kind opening front event.seat event.kind (may.enabled coherent)) all

  pub swapped_own : swapped_index opening story ≡ swapped_index opening (own story)
  swapped_own = sym (told_own taken_index swaps_only opening.last_index story ours_all)

  pub durable_own : durable_index opening story ≡ durable_index opening (own story)
  durable_own = sym (told_own stable_index flushes_only opening.last_index story ours_all)

  pub halt_own : halt_of Manager story ≡ halt_of Manager (own story)
  halt_own = sym (told_own (halt_count Manager) halts_only None story ours_all)

  pub moment_own : flushed_moment story ≡ flushed_moment (own story)
  moment_own = ap (λ (l : List ℕ). last_in l) (sym (all_own stable_moment moments_only story ours_all))

  pub ahead_all : IsAhead (last_index opening story) (swapped_index opening story) (buffer_of story)
  ahead_all =
      let P : List Event → Type 0 = λ front. IsAhead (last_index opening front) (swapped_index opening front) (buffer_of front) in
      follow-each (Follows Coherent opening bytes script) P story
      (λ front event was may.
      let step = ahead_kind opening front event.seat event.kind (may.enabled coherent) was in
      let one = sym (told-push decided_index opening.last_index front event) in
      let two = sym (told-push taken_index opening.last_index front event) in
      let three = sym (buffer-push front event) in
      subst (λ (l : List ℕ). IsAhead (last_index opening (front ++ event ∷ [])) (swapped_index opening (front ++ event ∷ [])) l) three
      (subst (λ (n : ℕ). IsAhead (last_index opening (front ++ event ∷ [])) n (buffer_after (buffer_of front) event.kind)) two
      (subst (λ (n : ℕ). IsAhead n (newer (taken_index event.kind) (swapped_index opening front)) (buffer_after (buffer_of front) event.kind)) one step)))
      (record { no_higher = omega arith; lower = λ some. absurd (some refl); level = λ none. refl }) all

  -- what may follow
  module _ (mine : List Event) (same : own story ≡ mine) (settled : IsSettled opening mine) where
    halt_none : halt_of Manager story ≡ None
    halt_none = halt_own ∙ (ap (halt_of Manager) same ∙ settled.unhalted)

    all_in : swapped_index opening story ≡ durable_index opening story
    all_in = swapped_own ∙ (ap (swapped_index opening) same ∙ (settled.all_flushed ∙ (sym (ap (durable_index opening) same) ∙ sym durable_own)))

    pub swap_enabled : (index : ℕ) → index ≡ last_index opening story → buffer_of story ≢ [] → SwapIsEnabled opening story flusher_seat index
    swap_enabled index last some = record {
      of_flusher = refl;
      unhalted = halt_none;
      all_flushed = all_in;
      all_decided = last;
      some = (let below = ahead_all.lower some in omega (arith, below, last));
    }

    pub swap_rises : (index : ℕ) → index ≡ last_index opening story → buffer_of story ≢ [] → swapped_index opening mine < index
    swap_rises index last some =
        let below = ahead_all.lower some in
        let is = swapped_own ∙ ap (swapped_index opening) same in
        omega (arith, below, last, is)

  pub flushed_enabled : (mine : List Event) (index moment : ℕ) → own story ≡ mine ++ swap_event index ∷ [] → IsSettled opening mine → swapped_index opening mine < index
      → IfSome (flushed_moment mine) (λ earlier. earlier < moment) → FlushedIsEnabled opening story flusher_seat index moment
  flushed_enabled mine index moment same settled rises later = record {
    of_flusher = refl;
    unhalted = halt_own ∙ (ap (halt_of Manager) same ∙ unhalted_swapped mine index settled.unhalted);
    swapped = sym (swapped_own ∙ (ap (swapped_index opening) same ∙ swapped_last opening mine index));
    unstable = (let is = durable_own ∙ (ap (durable_index opening) same ∙ durable_kept opening mine index) in omega (arith, is, settled.all_flushed, rises));
    later = subst (λ (m : Option ℕ). IfSome m (λ earlier. earlier < moment)) (sym (moment_own ∙ (ap flushed_moment same ∙ moment_kept mine index))) later;
  }

  pub halt_enabled : (mine : List Event) (index count : ℕ) → own story ≡ mine ++ swap_event index ∷ [] → IsSettled opening mine → 1 ≤ count → HaltIsEnabled opening story flusher_seat Manager count
  halt_enabled mine index count same settled counted = record {
    of_node = refl;
    unhalted = halt_own ∙ (ap (halt_of Manager) same ∙ unhalted_swapped mine index settled.unhalted);
    counted = counted;
  }
