-- Batches one after another lead on from the rows at a place to those at a later one.
use Rattle.std.proofs.Common.{◌≡◌, ℕ, List, [], ◌∷◌, ◌++◌, fold, Option, None, Some, append-nil, append_assoc, refl, sym, ◌∙◌, ap, subst}
use Rattle.std.proofs.lemmas.List.Sums.{fold-append}
use Rattle.std.specs.List.{AllByRecursion}
use Rattle.oz_buffer.specs.Buffer.{buffer_after, buffer_of}
use Rattle.oz_buffer.specs.laws.Following.{buffer-push, told-push, untold-push}
use Rattle.oz_core.specs.declared.event.Event.{Event}
use Rattle.oz_core.specs.declared.event.EventKind.{EventKind}
use Rattle.oz_core.specs.declared.event.EventKind.TheVariants.{Decide, Swap}
use Rattle.oz_core.specs.declared.opening.Opening.{Opening}
use Rattle.oz_core.specs.Law.{IsLegal, IsLegalFrom, KindIsEnabled}
use Rattle.oz_core.specs.Manager.{decided_index, last_index, swapped_index, taken_index}
use Rattle.oz_core.specs.Stories.{newer}
use Rattle.oz_effects.specs.Batches.{IsBatchOf}
use Rattle.oz_effects.specs.laws.Joined.{batches_are_one}
use Rattle.oz_effects.specs.laws.Steps.{nothing_is_batch}
use Rattle.oz_kept.specs.laws.Places.{legal_first, legal_rest, moved_over}
use Rattle.oz_rows.specs.declared.key.RowKey.{RowKey}
use Rattle.oz_rows.specs.declared.row.Row.{Row}
use Rattle.oz_rows.specs.declared.operation.Change.{Change}
use Rattle.oz_rows.specs.RowMaps.{Rows, after_changes, row_after}
use Rattle.oz_headline.specs.restored.Opens.{IsSinceSwap, NoneTakes}
use Rattle.oz_headline.specs.restored.Together.{AllStood, AllStoodFrom, LeadsOn, Makes}
use Rattle.oz_headline.specs.restored.laws.Whole.{front_stood}

changes_join : (a b : List Change) (key : RowKey) (row : Option Row) → row_after (a ++ b) key row ≡ row_after b key (row_after a key row)
changes_join [] b key row = refl
changes_join (change ∷ a) b key row = changes_join a b key _

joined : (a b : List Change) (rows : Rows) → after_changes (a ++ b) rows ≡ after_changes b (after_changes a rows)
joined a b rows = λ i key. changes_join a b key (rows key) i

pub leads_none : (rows : Rows) → LeadsOn rows [] rows
leads_none rows = record { changes = []; batch_of = nothing_is_batch rows; leads = refl }

pub leads_both : (rows middle next : Rows) (batch later : List ℕ) → LeadsOn rows batch middle → LeadsOn middle later next → LeadsOn rows (batch ++ later) next
leads_both rows middle next batch later one two = record {
  changes = one.changes ++ two.changes;
  batch_of = batches_are_one rows batch later one.changes two.changes one.batch_of (subst (λ (r : Rows). IsBatchOf r later two.changes) one.leads two.batch_of);
  leads = two.leads ∙ ap (after_changes two.changes) one.leads ∙ sym (joined one.changes two.changes rows);
}

-- one event more, which takes nothing
pub one_more : (first : Rows) (buffer : List ℕ) (now next : Rows) (kind : EventKind) → taken_index kind ≡ None → LeadsOn first buffer now
    → Makes now kind next → LeadsOn first (buffer_after buffer kind) next
one_more first buffer now next (Decide id index reply batch) none leads makes = leads_both first now next buffer batch leads makes.0
one_more first buffer now next (Swap index) none leads makes = absurd cc
one_more first buffer now next kind none leads makes = subst (λ (r : Rows). LeadsOn first buffer r) (sym makes) leads

module _ (opening : Opening) (loaded : Rows) where
  leads_from : (more before : List Event) (first now last : Rows) (buffer : List ℕ) → NoneTakes more → LeadsOn first buffer now
      → AllStoodFrom opening loaded before now more last
      → LeadsOn first (fold (λ buffer (event : Event). buffer_after buffer event.kind) buffer more) last
  unfolding AllStoodFrom
  leads_from [] before first now last buffer none leads stood = subst (λ (r : Rows). LeadsOn first buffer r) (sym stood.1) leads
  leads_from (event ∷ more) before first now last buffer none leads stood =
      leads_from more (before ++ event ∷ []) first stood.1.0 last (buffer_after buffer event.kind) none.1
      (one_more first buffer now stood.1.0 event.kind none.0 leads stood.1.1) stood.1.2

  -- from a place to a later one, with no Swap between
  pub leads_between : (before more : List Event) (now last : Rows) → NoneTakes more → AllStoodFrom opening loaded before now more last
      → LeadsOn now (buffer_of more) last
  leads_between before more now last none stood = leads_from more before now now last [] none (leads_none now) stood

-- ---- the last Swap of a story

pub record Split (opening : Opening) (story : List Event) : Type 0 where
  pub front : List Event
  pub more : List Event
  pub parts : story ≡ front ++ more
  pub all_taken : buffer_of front ≡ []
  pub none_takes : NoneTakes more
  pub index : swapped_index opening front ≡ last_index opening front

all_push : (P : Event → Type 0) (l : List Event) (event : Event) → AllByRecursion P l → P event → AllByRecursion P (l ++ event ∷ [])
all_push P [] event all one = (one, tt)
all_push P (first ∷ l) event all one = (all.0, all_push P l event all.1 one)

nothing_left : (buffer : List ℕ) (kind : EventKind) (index : ℕ) → taken_index kind ≡ Some index → buffer_after buffer kind ≡ []
nothing_left buffer (Swap index) other is = refl
nothing_left buffer kind other is = absurd cc

-- what a Swap takes is the last index
taken_last : (opening : Opening) (before : List Event) (seat : ℕ) (kind : EventKind) (index : ℕ) → KindIsEnabled opening before seat kind
    → taken_index kind ≡ Some index
    → (index ≡ last_index opening before) × (decided_index kind ≡ None)
taken_last opening before seat (Swap index) other enabled is = (one index other is ∙ enabled.all_decided, refl)
  where
    one : (index other : ℕ) → Some index ≡ Some other → other ≡ index
    one index other is = cc
taken_last opening before seat kind other enabled is = absurd cc

module _ (opening : Opening) where
  next_split : (before : List Event) (event : Event) → KindIsEnabled opening before event.seat event.kind → Split opening before
      → Split opening (before ++ event ∷ [])
  next_split before event enabled split = by (taken_index event.kind) refl
    where
      by : (o : Option ℕ) → taken_index event.kind ≡ o → Split opening (before ++ event ∷ [])
      by None e = record {
        front = split.front;
        more = split.more ++ event ∷ [];
        parts = ap (λ (l : List Event). l ++ event ∷ []) split.parts ∙ append_assoc split.front split.more (event ∷ []);
        all_taken = split.all_taken;
        none_takes = all_push (λ (event : Event). taken_index event.kind ≡ None) split.more event split.none_takes e;
        index = split.index;
      }
      by (Some index) e =
          let last = taken_last opening before event.seat event.kind index enabled e in
          record {
            front = before ++ event ∷ [];
            more = [];
            parts = sym (append-nil (before ++ event ∷ []));
            all_taken = buffer-push before event ∙ nothing_left (buffer_of before) event.kind index e;
            none_takes = tt;
            index = told-push taken_index opening.last_index before event ∙ ap (λ (o : Option ℕ). newer o (swapped_index opening before)) e ∙ last.0
                ∙ sym (untold-push decided_index opening.last_index before event last.1);
          }

  rest_split : (rest before : List Event) → IsLegalFrom opening before rest → Split opening before → Split opening (before ++ rest)
  rest_split [] before legal split = subst (Split opening) (sym (append-nil before)) split
  rest_split (event ∷ rest) before legal split = subst (Split opening) (moved_over before rest event)
      (rest_split rest (before ++ event ∷ []) (legal_rest opening before event rest legal)
      (next_split before event (legal_first opening before event rest legal) split))

  pub last_split : (story : List Event) → IsLegal opening story → Split opening story
  last_split story legal = rest_split story [] legal (record { front = []; more = []; parts = refl; all_taken = refl; none_takes = tt; index = refl })

  -- what was decided since leads on from there
  pub since_swap : (loaded : Rows) (story : List Event) (last : Rows) → IsLegal opening story → AllStood opening loaded story last
      → IsSinceSwap opening loaded story last
  since_swap loaded story last legal stood =
      let split = last_split story legal in
      let halves = front_stood opening loaded split.front [] loaded split.more last
      (subst (λ (l : List Event). AllStood opening loaded l last) split.parts stood) in
      let same : buffer_of story ≡ buffer_of split.more =
      ap buffer_of split.parts ∙ fold-append (λ buffer (event : Event). buffer_after buffer event.kind) [] split.front split.more
      ∙ ap (λ (buffer : List ℕ). fold (λ buffer (event : Event). buffer_after buffer event.kind) buffer split.more) split.all_taken in
      record {
        front = split.front;
        more = split.more;
        parts = split.parts;
        all_taken = split.all_taken;
        none_takes = split.none_takes;
        taken = halves.0;
        stood = halves.1;
        leads = subst (λ (buffer : List ℕ). LeadsOn halves.0 buffer last) (sym same)
            (leads_between opening loaded split.front split.more halves.0 last split.none_takes halves.2);
      }
