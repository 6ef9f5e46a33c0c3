-- No event of a legal story has an index above the last that was decided.
use Rattle.std.proofs.Common.{◌≡◌, ⊎_elim, ℕ, ◌≤◌, List, [], ◌∷◌, ◌++◌, Option, Contains, sym, subst, append-nil, arith}
use Rattle.std.proofs.lemmas.List.Elements.{Contains-push_cases}
use Rattle.std.proofs.lemmas.List.Sums.{fold_push}
use Rattle.oz_requests.specs.declared.request.AskId.{AskId}
use Rattle.oz_requests.specs.declared.reply.Reply.{Reply}
use Rattle.oz_core.specs.declared.event.Event.{Event}
use Rattle.oz_core.specs.declared.event.EventKind.{EventKind}
use Rattle.oz_core.specs.declared.event.EventKind.TheVariants.{Decide, Swap, Flushed}
use Rattle.oz_core.specs.declared.opening.Opening.{Opening}
use Rattle.oz_core.specs.Law.{IsLegal, IsLegalFrom, KindIsEnabled}
use Rattle.oz_core.specs.Manager.{decided_index, taken_index, stable_index, last_index, swapped_index, durable_index}
use Rattle.oz_core.specs.Stories.{last_told, newer}
use Rattle.oz_kept.specs.laws.Kept.{index_rises}
use Rattle.oz_kept.specs.laws.Places.{legal_first, legal_rest, moved_over}
use Rattle.oz_kept.specs.laws.Reached.{in_none}

told_next : (tells : EventKind → Option ℕ) (first : ℕ) (before : List Event) (event : Event)
    → last_told tells first (before ++ event ∷ []) ≡ newer (tells event.kind) (last_told tells first before)
told_next tells first before event = fold_push (λ told (event : Event). newer (tells event.kind) told) first before event

-- the indexes of an event, whichever they are
abbrev NoHigher : ℕ → EventKind → Type 0
NoHigher most (Decide id index reply batch) = index ≤ most
NoHigher most (Swap index) = index ≤ most
NoHigher most (Flushed index moment) = index ≤ most
NoHigher most _ = Unit {0}

no_higher : (least most : ℕ) (kind : EventKind) → least ≤ most → NoHigher least kind → NoHigher most kind
no_higher least most (Decide id index reply batch) le within = omega (arith, le, within)
no_higher least most (Swap index) le within = omega (arith, le, within)
no_higher least most (Flushed index moment) le within = omega (arith, le, within)
no_higher least most kind le within = tt

module _ (opening : Opening) where
  record InOrder (last swapped durable : ℕ) : Type 0 where
    opened : opening.last_index ≤ durable
    stable : durable ≤ swapped
    taken : swapped ≤ last

  record NextInOrder (last swapped durable : ℕ) (kind : EventKind) : Type 0 where
    order : InOrder (newer (decided_index kind) last) (newer (taken_index kind) swapped) (newer (stable_index kind) durable)
    rises : last ≤ newer (decided_index kind) last
    within : NoHigher (newer (decided_index kind) last) kind

  kind_in_order : (before : List Event) (seat : ℕ) (kind : EventKind) → KindIsEnabled opening before seat kind
      → InOrder (last_index opening before) (swapped_index opening before) (durable_index opening before)
      → NextInOrder (last_index opening before) (swapped_index opening before) (durable_index opening before) kind
  kind_in_order before seat (Decide id index reply batch) enabled order =
      let rises = index_rises opening before seat id index reply batch enabled in
      record { order = record { opened = order.opened; stable = order.stable; taken = omega (arith, rises, order.taken) }; rises = rises; within = omega arith }
  kind_in_order before seat (Swap index) enabled order =
      record {
        order = record { opened = order.opened; stable = omega (arith, order.stable, enabled.some); taken = omega (arith, enabled.all_decided) };
        rises = omega arith;
        within = omega (arith, enabled.all_decided);
      }
  kind_in_order before seat (Flushed index moment) enabled order =
      record {
        order = record { opened = omega (arith, order.opened, enabled.unstable); stable = omega (arith, enabled.swapped); taken = order.taken };
        rises = omega arith;
        within = omega (arith, enabled.swapped, order.taken);
      }
  kind_in_order before seat kind enabled order = record { order = order; rises = omega arith; within = tt }

  record Ordered (story : List Event) : Type 0 where
    order : InOrder (last_index opening story) (swapped_index opening story) (durable_index opening story)
    each : (event : Event) → Contains story event → NoHigher (last_index opening story) event.kind

  next_ordered : (before : List Event) (event : Event) → KindIsEnabled opening before event.seat event.kind → Ordered before → Ordered (before ++ event ∷ [])
  next_ordered before event enabled is =
      let next = kind_in_order before event.seat event.kind enabled is.order in
      let last = told_next decided_index opening.last_index before event in
      let swapped = told_next taken_index opening.last_index before event in
      let durable = told_next stable_index opening.last_index before event in
      record {
        order = record {
          opened = omega (arith, next.order.opened, durable);
          stable = omega (arith, next.order.stable, durable, swapped);
          taken = omega (arith, next.order.taken, swapped, last);
        };
        each = λ other among. ⊎_elim
            (λ earlier. no_higher (last_index opening before) (last_index opening (before ++ event ∷ [])) other.kind (omega (arith, next.rises, last))
            (is.each other earlier))
            (λ same. subst (λ (e : Event). NoHigher (last_index opening (before ++ event ∷ [])) e.kind) same
            (subst (λ n. NoHigher n event.kind) (sym last) next.within))
            (Contains-push_cases before event other among);
      }

  rest_ordered : (rest before : List Event) → IsLegalFrom opening before rest → Ordered before → Ordered (before ++ rest)
  rest_ordered [] before legal is = subst Ordered (sym (append-nil before)) is
  rest_ordered (event ∷ rest) before legal is =
      subst Ordered (moved_over before rest event)
      (rest_ordered rest (before ++ event ∷ []) (legal_rest opening before event rest legal)
      (next_ordered before event (legal_first opening before event rest legal) is))

  module _ (story : List Event) (legal : IsLegal opening story) where
    ordered : Ordered story
    ordered = rest_ordered story [] legal (record {
      order = record { opened = omega arith; stable = omega arith; taken = omega arith };
      each = λ event among. absurd (in_none event among);
    })

    pub opening_within : opening.last_index ≤ last_index opening story
    opening_within = omega (arith, ordered.order.opened, ordered.order.stable, ordered.order.taken)

    pub swapped_within : swapped_index opening story ≤ last_index opening story
    swapped_within = ordered.order.taken

    pub durable_within_swapped : durable_index opening story ≤ swapped_index opening story
    durable_within_swapped = ordered.order.stable

    pub durable_within_last : durable_index opening story ≤ last_index opening story
    durable_within_last = omega (arith, ordered.order.stable, ordered.order.taken)

    pub decided_within : (seat : ℕ) (id : AskId) (index : ℕ) (reply : Reply) (batch : List ℕ)
        → Contains story (record { seat = seat; kind = Decide id index reply batch }) → index ≤ last_index opening story
    decided_within seat id index reply batch among = ordered.each (record { seat = seat; kind = Decide id index reply batch }) among

    pub taken_within : (seat index : ℕ) → Contains story (record { seat = seat; kind = Swap index }) → index ≤ last_index opening story
    taken_within seat index among = ordered.each (record { seat = seat; kind = Swap index }) among

    pub flushed_within : (seat index moment : ℕ) → Contains story (record { seat = seat; kind = Flushed index moment }) → index ≤ last_index opening story
    flushed_within seat index moment among = ordered.each (record { seat = seat; kind = Flushed index moment }) among
