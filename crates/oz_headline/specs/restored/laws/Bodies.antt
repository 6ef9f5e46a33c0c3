-- The bodies that a story took so far make the rows behind its last Swap.
use Rattle.std.proofs.Common.{◌≡◌, ◌≢◌, ℕ, ◌<◌, ◌≤◌, List, [], ◌∷◌, ◌++◌, None, append-nil, append_assoc, arith, refl, sym, ◌∙◌, ap, subst}
use Rattle.oz_journal.specs.batches.Body.{body_bytes}
use Rattle.oz_buffer.specs.Buffer.{buffer_of}
use Rattle.oz_buffer.specs.laws.Following.{buffer-push, told-push, untold-push}
use Rattle.oz_core.specs.declared.event.Event.{Event}
use Rattle.oz_core.specs.declared.event.EventKind.{EventKind}
use Rattle.oz_core.specs.declared.event.EventKind.TheVariants.{Decide, Swap}
use Rattle.oz_core.specs.declared.opening.Opening.{Opening}
use Rattle.oz_core.specs.Law.{IsLegalFrom, KindIsEnabled}
use Rattle.oz_core.specs.Manager.{decided_index, last_index, swapped_index, taken_index}
use Rattle.oz_core.specs.Stories.{newer}
use Rattle.oz_effects.specs.Batches.{IsBatchOf}
use Rattle.oz_effects.specs.Build.{Builds, BuildsFrom, no_head}
use Rattle.oz_effects.specs.laws.Steps.{body_follows, leads_rise}
use Rattle.oz_flusher.specs.Taken.{bodies_from, bodies_of, body_taken}
use Rattle.oz_kept.specs.laws.Places.{legal_first, legal_rest, moved_over}
use Rattle.oz_rows.specs.declared.entry.RowEntry.{RowEntry}
use Rattle.oz_rows.specs.declared.operation.Head.{Head}
use Rattle.oz_rows.specs.declared.operation.TheConstants.{END_OF_INDEXES}
use Rattle.oz_rows.specs.Operations.{head_in}
use Rattle.oz_rows.specs.RowMaps.{AreRows, KeysRise, Rows, after_changes, row_of}
use Rattle.oz_headline.specs.restored.Opens.{NoneTakes}
use Rattle.oz_headline.specs.restored.Together.{AllStood, AllStoodFrom, LeadsOn, Makes}
use Rattle.oz_headline.specs.restored.laws.Leads.{leads_none, one_more}

-- ---- the bodies of a story that goes on

bodies_both : (before xs ys : List Event) → bodies_from before (xs ++ ys) ≡ bodies_from before xs ++ bodies_from (before ++ xs) ys
unfolding bodies_from
bodies_both before [] ys = ap (λ (l : List Event). bodies_from l ys) (sym (append-nil before))
bodies_both before (event ∷ xs) ys =
    ap (λ (l : List (List ℕ)). body_taken before event.kind ++ l)
    (bodies_both (before ++ event ∷ []) xs ys ∙ ap (λ (l : List Event). bodies_from (before ++ event ∷ []) xs ++ bodies_from l ys) (moved_over before xs event))
    ∙ sym (append_assoc (body_taken before event.kind) (bodies_from (before ++ event ∷ []) xs) (bodies_from (before ++ event ∷ xs) ys))

bodies_next : (before : List Event) (event : Event) → bodies_of (before ++ event ∷ []) ≡ bodies_of before ++ body_taken before event.kind
unfolding bodies_from
bodies_next before event = bodies_both [] before (event ∷ []) ∙ ap (λ (l : List (List ℕ)). bodies_of before ++ l) (append-nil (body_taken before event.kind))

none_taken : (before : List Event) (kind : EventKind) → taken_index kind ≡ None → body_taken before kind ≡ []
none_taken before (Swap index) none = absurd cc
none_taken before kind none = refl

none_from : (before more : List Event) → NoneTakes more → bodies_from before more ≡ []
unfolding bodies_from
none_from before [] none = refl
none_from before (event ∷ more) none =
    ap (λ (l : List (List ℕ)). l ++ bodies_from (before ++ event ∷ []) more) (none_taken before event.kind none.0)
    ∙ none_from (before ++ event ∷ []) more none.1

pub same_bodies : (front more : List Event) → NoneTakes more → bodies_of (front ++ more) ≡ bodies_of front
same_bodies front more none = bodies_both [] front more ∙ ap (λ (l : List (List ℕ)). bodies_of front ++ l) (none_from front more none)
    ∙ append-nil (bodies_of front)

pub same_swapped : (opening : Opening) (front more : List Event) → NoneTakes more → swapped_index opening (front ++ more) ≡ swapped_index opening front
same_swapped opening front [] none = ap (swapped_index opening) (append-nil front)
same_swapped opening front (event ∷ more) none =
    ap (swapped_index opening) (sym (moved_over front more event)) ∙ same_swapped opening (front ++ event ∷ []) more none.1
    ∙ untold-push taken_index opening.last_index front event none.0

kind_swapped : (opening : Opening) (before : List Event) (seat : ℕ) (kind : EventKind) → KindIsEnabled opening before seat kind
    → swapped_index opening before ≤ newer (taken_index kind) (swapped_index opening before)
kind_swapped opening before seat (Swap index) enabled = omega (arith, enabled.some)
kind_swapped opening before seat kind enabled = omega arith

pub swapped_rises : (opening : Opening) (rest before : List Event) → IsLegalFrom opening before rest
    → swapped_index opening before ≤ swapped_index opening (before ++ rest)
swapped_rises opening [] before legal =
    subst (λ (l : List Event). swapped_index opening before ≤ swapped_index opening l) (sym (append-nil before)) (omega arith)
swapped_rises opening (event ∷ rest) before legal =
    let first = kind_swapped opening before event.seat event.kind (legal_first opening before event rest legal) in
    let later = swapped_rises opening rest (before ++ event ∷ []) (legal_rest opening before event rest legal) in
    subst (λ (l : List Event). swapped_index opening before ≤ swapped_index opening l) (moved_over before rest event)
    (omega (arith, first, later, told-push taken_index opening.last_index before event))

-- ---- the rows of bodies

rise_from : (before : List RowEntry) (last : Head) (bodies : List (List ℕ)) (all : List RowEntry) (head : Head) → BuildsFrom before last bodies all head
    → KeysRise before → KeysRise all
unfolding BuildsFrom
rise_from before last [] all head builds rise = subst KeysRise (sym builds.0) rise
rise_from before last (first ∷ bodies) all head builds rise =
    rise_from builds.1 (head_in builds.0) bodies all head builds.3 (leads_rise before builds.0.items builds.1 builds.2.leads rise)

limit_from : (before : List RowEntry) (last : Head) (bodies : List (List ℕ)) (all : List RowEntry) (head : Head) → BuildsFrom before last bodies all head
    → last.index < END_OF_INDEXES → head.index < END_OF_INDEXES
unfolding BuildsFrom
limit_from before last [] all head builds few = subst (λ (h : Head). h.index < END_OF_INDEXES) (sym builds.1) few
limit_from before last (first ∷ bodies) all head builds few = limit_from builds.1 (head_in builds.0) bodies all head builds.3 builds.2.body_is.0.1.1

pub same_rows : (all : List RowEntry) (rows : Rows) → AreRows all rows → row_of all ≡ rows
same_rows all rows are = λ i key. are.rows_are key i

module _ (opening : Opening) (loaded : Rows) (bodies : List (List ℕ)) where
  pub record Built (before : List Event) (now : Rows) : Type 0 where
    pub taken : Rows
    pub leads : LeadsOn taken (buffer_of before) now
    pub all : List RowEntry
    pub builds : Builds (bodies ++ bodies_of before) all (swapped_index opening before)
    pub are : AreRows all taken

  quiet_next : (before : List Event) (event : Event) (now next : Rows) → taken_index event.kind ≡ None → Makes now event.kind next → Built before now
      → Built (before ++ event ∷ []) next
  quiet_next before event now next none makes built =
      let no_body : bodies_of (before ++ event ∷ []) ≡ bodies_of before =
      bodies_next before event ∙ ap (λ (l : List (List ℕ)). bodies_of before ++ l) (none_taken before event.kind none) ∙ append-nil (bodies_of before) in
      record {
        taken = built.taken;
        leads = subst (λ (buffer : List ℕ). LeadsOn built.taken buffer next) (sym (buffer-push before event))
            (one_more built.taken (buffer_of before) now next event.kind none built.leads makes);
        all = built.all;
        builds = subst (λ (l : List (List ℕ)). Builds (bodies ++ l) built.all (swapped_index opening (before ++ event ∷ []))) (sym no_body)
            (subst (λ (n : ℕ). Builds (bodies ++ bodies_of before) built.all n)
            (sym (untold-push taken_index opening.last_index before event none)) built.builds);
        are = built.are;
      }

  abbrev swap : ℕ → ℕ → Event
  swap seat index = record { seat = seat; kind = Swap index }

  swap_next : (before : List Event) (seat index : ℕ) (now next : Rows) → swapped_index opening before < index → index < END_OF_INDEXES → next ≡ now
      → Built before now → Built (before ++ swap seat index ∷ []) next
  swap_next before seat index now next rises few same built =
      let of_rows : IsBatchOf (row_of built.all) (buffer_of before) built.leads.changes =
      subst (λ (r : Rows). IsBatchOf r (buffer_of before) built.leads.changes) (sym (same_rows built.all built.taken built.are)) built.leads.batch_of in
      let made = body_follows (bodies ++ bodies_of before) built.all (swapped_index opening before) index
      (buffer_of before) built.leads.changes built.builds (omega (arith, rises), few) rises of_rows in
      let one_body : (bodies ++ bodies_of before) ++ body_bytes index (buffer_of before) ∷ [] ≡ bodies ++ bodies_of (before ++ swap seat index ∷ []) =
      append_assoc bodies (bodies_of before) (body_bytes index (buffer_of before) ∷ [])
      ∙ ap (λ (l : List (List ℕ)). bodies ++ l) (sym (bodies_next before (swap seat index))) in
      record {
        taken = next;
        leads = subst (λ (buffer : List ℕ). LeadsOn next buffer next) (sym (buffer-push before (swap seat index))) (leads_none next);
        all = made.0;
        builds = subst (λ (l : List (List ℕ)). Builds l made.0 (swapped_index opening (before ++ swap seat index ∷ []))) one_body
            (subst (λ (n : ℕ). Builds ((bodies ++ bodies_of before) ++ body_bytes index (buffer_of before) ∷ []) made.0 n)
            (sym (told-push taken_index opening.last_index before (swap seat index))) made.1);
        are = record {
          in_order = made.2.in_order;
          rows_are = λ key. made.2.rows_are key ∙ ap (λ (r : Rows). after_changes built.leads.changes r key) (same_rows built.all built.taken built.are)
              ∙ ap (λ (r : Rows). r key) (sym (same ∙ built.leads.leads));
        };
      }

  kind_next : (before : List Event) (seat : ℕ) (kind : EventKind) (now next : Rows) → KindIsEnabled opening before seat kind
      → last_index opening before < END_OF_INDEXES → Makes now kind next → Built before now → Built (before ++ record { seat = seat; kind = kind } ∷ []) next
  kind_next before seat (Swap index) now next enabled few makes built =
      swap_next before seat index now next enabled.some (omega (arith, enabled.all_decided, few)) makes built
  kind_next before seat kind now next enabled few makes built = quiet_next before (record { seat = seat; kind = kind }) now next refl makes built

  -- no index passes the limit
  within_limit : (last index : ℕ) (batch : List ℕ) → last < END_OF_INDEXES → (batch ≡ [] → index ≡ last) → (batch ≢ [] → index < END_OF_INDEXES)
      → index < END_OF_INDEXES
  within_limit last index [] few stays limit = omega (arith, few, stays refl)
  within_limit last index (byte ∷ batch) few stays limit = limit (λ none. absurd cc)

  kind_few : (before : List Event) (seat : ℕ) (kind : EventKind) (now next : Rows) → KindIsEnabled opening before seat kind
      → last_index opening before < END_OF_INDEXES → Makes now kind next
      → newer (decided_index kind) (last_index opening before) < END_OF_INDEXES
  kind_few before seat (Decide id index reply batch) now next enabled few makes =
      within_limit (last_index opening before) index batch few enabled.recorded.0 makes.1
  kind_few before seat kind now next enabled few makes = few

  rest_built : (rest before : List Event) (now last : Rows) → IsLegalFrom opening before rest → last_index opening before < END_OF_INDEXES → Built before now
      → AllStoodFrom opening loaded before now rest last → Built (before ++ rest) last
  unfolding AllStoodFrom
  rest_built [] before now last legal few built stood =
      subst (λ (l : List Event). Built l last) (sym (append-nil before)) (subst (Built before) (sym stood.1) built)
  rest_built (event ∷ rest) before now last legal few built stood =
      let enabled = legal_first opening before event rest legal in
      let few_next = kind_few before event.seat event.kind now stood.1.0 enabled few stood.1.1 in
      let pushed = told-push decided_index opening.last_index before event in
      let next = kind_next before event.seat event.kind now stood.1.0 enabled few stood.1.1 built in
      subst (λ (l : List Event). Built l last) (moved_over before rest event)
      (rest_built rest (before ++ event ∷ []) stood.1.0 last (legal_rest opening before event rest legal) (omega (arith, few_next, pushed)) next stood.1.2)

  pub story_built : (all : List RowEntry) (story : List Event) (last : Rows) → Builds bodies all opening.last_index → row_of all ≡ loaded
      → IsLegalFrom opening [] story
      → AllStood opening loaded story last → Built story last
  unfolding bodies_from
  story_built all story last builds same legal stood =
      let few = limit_from [] no_head bodies all builds.0 builds.1 (omega arith) in
      rest_built story [] loaded last legal (omega (arith, few, builds.2)) (record {
        taken = loaded;
        leads = leads_none loaded;
        all = all;
        builds = subst (λ (l : List (List ℕ)). Builds l all opening.last_index) (sym (append-nil bodies)) builds;
        are = record { in_order = rise_from [] no_head bodies all builds.0 builds.1 tt; rows_are = λ key. ap (λ (r : Rows). r key) same };
      }) stood
