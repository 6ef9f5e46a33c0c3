-- The bodies that a story took stand for the namespace after the Decides up to an index, and so does what a stop leaves.
use Rattle.std.proofs.Common.{◌≡◌, ⊎_elim, ℕ, ◌≤◌, List, [], ◌∷◌, ◌++◌, take, drop, Contains, append_assoc, arith, sym, ◌∙◌, ap, subst}
use Rattle.std.proofs.lemmas.List.{take-append-drop}
use Rattle.std.proofs.lemmas.List.Elements.{Contains-append_cases}
use Rattle.std.specs.List.{AllByRecursion}
use Rattle.oz_buffer.specs.Buffer.{buffer_of}
use Rattle.oz_buffer.specs.laws.Following.{told-push}
use Rattle.oz_core.specs.declared.event.Event.{Event}
use Rattle.oz_core.specs.declared.event.EventKind.{EventKind}
use Rattle.oz_core.specs.declared.event.EventKind.TheVariants.{Decide, Flushed}
use Rattle.oz_core.specs.declared.opening.Opening.{Opening}
use Rattle.oz_core.specs.Law.{FlushedIsEnabled, IsLegal, IsLegalFrom, KindIsEnabled}
use Rattle.oz_core.specs.Manager.{decided_index, kept_up_to, last_index, namespace_of, swapped_index}
use Rattle.oz_core.specs.Stories.{newer}
use Rattle.oz_decision.specs.Meets.{Stand}
use Rattle.oz_effects.specs.Batches.{ComesTo}
use Rattle.oz_effects.specs.Build.{AllAreBased, Builds}
use Rattle.oz_effects.specs.Effects.{Leads}
use Rattle.oz_effects.specs.laws.Steps.{bodies_based}
use Rattle.oz_flusher.specs.Stops.{IsLater, IsPrefix}
use Rattle.oz_flusher.specs.Taken.{bodies_of}
use Rattle.oz_kept.specs.laws.Deleted.{enabled_at, first_or_later, found_at, legal_parts, legal_to}
use Rattle.oz_kept.specs.laws.Kept.{front, front_behind, index_rises, indexes_rise}
use Rattle.oz_kept.specs.laws.Reached.{in_none}
use Rattle.oz_kept.specs.laws.Places.{legal_behind, legal_first, legal_rest, moved_over}
use Rattle.oz_namespace.specs.declared.namespace.Namespace.{Namespace}
use Rattle.oz_rows.specs.declared.entry.RowEntry.{RowEntry}
use Rattle.oz_rows.specs.declared.operation.Operation.{Operation}
use Rattle.oz_rows.specs.RowMaps.{AreRows, Rows, row_after, row_of}
use Rattle.oz_rows.specs.laws.Batches.{same_batch}
use Rattle.oz_sound.specs.Sound.{IsSound}
use Rattle.oz_store.specs.striped.laws.Indexes.{swapped_within}
use Rattle.oz_headline.specs.restored.Opens.{OpensUpTo, StandUpTo}
use Rattle.oz_headline.specs.restored.Together.{AllStood, AllStoodFrom, LeadsOn, Makes}
use Rattle.oz_headline.specs.restored.laws.Bodies.{same_bodies, same_rows, same_swapped, story_built, swapped_rises}
use Rattle.oz_headline.specs.restored.laws.Leads.{last_split}
use Rattle.oz_headline.specs.restored.laws.Whole.{front_stood, last_place}

-- ---- a batch without bytes leaves listed rows as they were

stays_listed : (all : List RowEntry) (items : List Operation) (after : List RowEntry) → items ≡ [] → Leads all items after → after ≡ all
unfolding Leads
stays_listed all items after none leads = subst (λ (l : List Operation). Leads all l after) none leads

none_leads : (all : List RowEntry) (now next : Rows) (batch : List ℕ) → AreRows all now → AllAreBased all → batch ≡ [] → LeadsOn now batch next → next ≡ now
none_leads all now next batch are based empty leads = leads.leads ∙ (λ i key. each key i)
  where
    comes : ComesTo all leads.batch_of.items leads.changes
    comes = leads.batch_of.comes all are based

    none : leads.batch_of.items ≡ []
    none = same_batch [] leads.batch_of.items tt leads.batch_of.fit (sym empty ∙ leads.batch_of.bytes_are)

    each : (key : _) → row_after leads.changes key (now key) ≡ now key
    each key =
        ap (row_after leads.changes key) (sym (are.rows_are key)) ∙ sym (comes.rows_are key)
        ∙ ap (λ (l : List RowEntry). row_of l key) (stays_listed all leads.batch_of.items comes.after none comes.leads) ∙ are.rows_are key

each_of : {A : Type 0} (P : A → Type 0) (l : List A) (x : A) → AllByRecursion P l → Contains l x → P x
each_of P [] x all there = absurd (in_none x there)
each_of P (y ∷ l) x all there = ⊎_elim (λ same. subst P same all.0) (λ later. each_of P l x all.1 later) (first_or_later y x l there)

module _ (opening : Opening) (loaded : Rows) where
  -- rows stay as they are while the index does
  module _ (all : List RowEntry) (based : AllAreBased all) where
    kind_stays : (before : List Event) (seat : ℕ) (kind : EventKind) (now next : Rows) → AreRows all now → KindIsEnabled opening before seat kind
        → newer (decided_index kind) (last_index opening before) ≤ last_index opening before → Makes now kind next → next ≡ now
    kind_stays before seat (Decide id index reply batch) now next are enabled low makes =
        let rises = index_rises opening before seat id index reply batch enabled in
        none_leads all now next batch are based (enabled.recorded.1 (let same : index ≡ last_index opening before = omega (arith, rises, low) in same)) makes.0
    kind_stays before seat kind now next are enabled low makes = makes

    rest_stays : (rest before : List Event) (now last : Rows) → AreRows all now → IsLegalFrom opening before rest
        → last_index opening (before ++ rest) ≤ last_index opening before
        → AllStoodFrom opening loaded before now rest last → last ≡ now
    unfolding AllStoodFrom
    rest_stays [] before now last are legal low stood = stood.1
    rest_stays (event ∷ rest) before now last are legal low stood =
        let next = stood.1.0 in
        let behind = legal_rest opening before event rest legal in
        let enabled = legal_first opening before event rest legal in
        let pushed = told-push decided_index opening.last_index before event in
        let low_end : last_index opening ((before ++ event ∷ []) ++ rest) ≤ last_index opening before =
        subst (λ (l : List Event). last_index opening l ≤ last_index opening before) (sym (moved_over before rest event)) low in
        let rises = indexes_rise opening 0 rest (before ++ event ∷ []) behind in
        let first_rises = indexes_rise opening 0 (event ∷ []) before (legal_to opening before (event ∷ []) rest legal) in
        let same : next ≡ now = kind_stays before event.seat event.kind now next are enabled (omega (arith, low_end, rises, pushed)) stood.1.1 in
        rest_stays rest (before ++ event ∷ []) next last (subst (λ (r : Rows). AreRows all r) (sym same) are) behind
        (omega (arith, low_end, first_rises)) stood.1.2 ∙ same

  -- ---- rows of bodies, and the namespace

  module _ (bodies : List (List ℕ)) (all : List RowEntry) (builds : Builds bodies all opening.last_index) (same : row_of all ≡ loaded)
      (story : List Event) (legal : IsLegal opening story) (last : Rows) (stood : AllStood opening loaded story last) where
    -- at a place behind a Swap
    at_swap : (place rest : List Event) → story ≡ place ++ rest → buffer_of place ≡ [] → swapped_index opening place ≡ last_index opening place
        → StandUpTo opening story (bodies ++ bodies_of place) (swapped_index opening place)
    at_swap place rest parts taken index =
        let legal_all : IsLegal opening (place ++ rest) = subst (IsLegal opening) parts legal in
        let legal_place = legal_to opening [] place rest legal_all in
        let behind = legal_behind opening [] place rest legal_all in
        let halves = front_stood opening loaded place [] loaded rest last (subst (λ (l : List Event). AllStood opening loaded l last) parts stood) in
        let built = story_built opening loaded bodies all place halves.0 builds same legal_place halves.1 in
        let based = bodies_based (bodies ++ bodies_of place) built.all (swapped_index opening place) built.builds in
        let is_taken = none_leads built.all built.taken halves.0 (buffer_of place) built.are based taken built.leads in
        let are : AreRows built.all halves.0 = subst (λ (r : Rows). AreRows built.all r) (sym is_taken) built.are in
        let most = swapped_index opening place in
        let kept = front opening most rest place behind in
        let again = subst (λ (l : List Event). AllStoodFrom opening loaded place halves.0 l last) (sym (take-append-drop kept.size rest)) halves.2 in
        let further = front_stood opening loaded (take kept.size rest) place halves.0 (drop kept.size rest) last again in
        let low : last_index opening (place ++ take kept.size rest) ≤ last_index opening place =
        let within = kept.index (omega (arith, index)) in omega (arith, within, index) in
        let legal_front = legal_to opening place (take kept.size rest) (drop kept.size rest)
        (subst (IsLegalFrom opening place) (sym (take-append-drop kept.size rest)) behind) in
        let still = rest_stays built.all based (take kept.size rest) place halves.0 further.0 are legal_front low further.1 in
        let stands = last_place opening loaded place halves.0 (take kept.size rest) further.0 further.1 in
        let namespace : kept_up_to opening most story ≡ namespace_of opening (place ++ take kept.size rest) =
        ap (kept_up_to opening most) parts ∙ front_behind opening most place rest behind (omega (arith, index)) legal_place in
        record {
          all = built.all;
          builds = built.builds;
          stand = subst (λ (n : Namespace). Stand IsSound (row_of built.all) n) (sym namespace)
              (subst (λ (r : Rows). Stand IsSound r (namespace_of opening (place ++ take kept.size rest)))
              (still ∙ sym (same_rows built.all halves.0 are)) stands.whole);
        }

    pub front_opens : (taken behind : List Event) → story ≡ taken ++ behind → StandUpTo opening story (bodies ++ bodies_of taken) (swapped_index opening taken)
    front_opens taken behind parts =
        let legal_taken = legal_to opening [] taken behind (subst (IsLegal opening) parts legal) in
        let split = last_split opening taken legal_taken in
        let whole : story ≡ split.front ++ (split.more ++ behind) = parts ∙ ap (λ (l : List Event). l ++ behind) split.parts
        ∙ append_assoc split.front split.more behind in
        let stands = at_swap split.front (split.more ++ behind) whole split.all_taken split.index in
        let bodies_same : bodies_of taken ≡ bodies_of split.front = ap bodies_of split.parts ∙ same_bodies split.front split.more split.none_takes in
        let index_same : swapped_index opening taken ≡ swapped_index opening split.front = ap (swapped_index opening) split.parts
        ∙ same_swapped opening split.front split.more split.none_takes in
        subst (λ (n : ℕ). StandUpTo opening story (bodies ++ bodies_of taken) n) (sym index_same)
        (subst (λ (l : List (List ℕ)). StandUpTo opening story (bodies ++ l) (swapped_index opening split.front)) (sym bodies_same) stands)

    -- ---- what a stop leaves

    flushed_taken : (events : List Event) → IsLegal opening events → (seat index at : ℕ) → Contains events (record { seat = seat; kind = Flushed index at })
        → index ≤ swapped_index opening events
    flushed_taken events legal seat index at among =
        let place = among.0 in
        let enabled : FlushedIsEnabled opening (take place events) seat index at =
        enabled_at opening events legal place (record { seat = seat; kind = Flushed index at })
        (found_at events (record { seat = seat; kind = Flushed index at }) among) in
        let rises = swapped_rises opening (drop place events) (take place events) (legal_parts opening events place legal) in
        let whole : swapped_index opening (take place events ++ drop place events) ≡ swapped_index opening events =
        ap (swapped_index opening) (take-append-drop place events) in
        omega (arith, enabled.swapped, rises, whole)

    pub image_opens : (moment : ℕ) (left : List ℕ) → IsPrefix bodies story moment left → OpensUpTo opening story moment left
    image_opens moment left prefix =
        let legal_all : IsLegal opening (prefix.front ++ prefix.behind) = subst (IsLegal opening) prefix.parts legal in
        let legal_front = legal_to opening [] prefix.front prefix.behind legal_all in
        let within = swapped_within opening prefix.front legal_front in
        let rises = indexes_rise opening 0 prefix.behind prefix.front (legal_behind opening [] prefix.front prefix.behind legal_all) in
        let whole : last_index opening story ≡ last_index opening (prefix.front ++ prefix.behind) = ap (last_index opening) prefix.parts in
        record {
          bodies = bodies ++ bodies_of prefix.front;
          journal = prefix.journal;
          most = swapped_index opening prefix.front;
          stand = front_opens prefix.front prefix.behind prefix.parts;
          opened = swapped_rises opening prefix.front [] legal_front;
          decided = omega (arith, within, rises, whole);
          stable = λ seat index at among early. ⊎_elim
              (λ here. flushed_taken prefix.front legal_front seat index at here)
              (λ there. absurd (omega (
                arith,
                early,
                each_of (λ (event : Event). IsLater moment event.kind) prefix.behind
                    (record { seat = seat; kind = Flushed index at }) prefix.later there,
              )))
              (Contains-append_cases prefix.front prefix.behind (record { seat = seat; kind = Flushed index at })
              (subst (λ (l : List Event). Contains l (record { seat = seat; kind = Flushed index at })) prefix.parts among));
        }
