-- The rows of all stripes together stood at each place of a story.
use Rattle.std.proofs.Common.{
  ◌≡◌,
  ◌≢◌,
  ◌==◌,
  ⊎_elim,
  ℕ,
  ◌<◌,
  ◌≤◌,
  Bool,
  true,
  false,
  List,
  [],
  ◌∷◌,
  ◌++◌,
  Option,
  None,
  Some,
  cond,
  append-nil,
  arith,
  refl,
  sym,
  ◌∙◌,
  ap,
  subst,
}
use mathlib.Core.Bool.{false≢true}
use Rattle.std.proofs.lemmas.Bool.{cases_lt, eq-eqb, eqb-true}
use Rattle.oz_core.specs.declared.event.Event.{Event}
use Rattle.oz_core.specs.declared.event.EventKind.{EventKind}
use Rattle.oz_core.specs.declared.event.EventKind.TheVariants.{Decide}
use Rattle.oz_core.specs.declared.opening.Opening.{Opening}
use Rattle.oz_core.specs.Contents.{OpeningBytes}
use Rattle.oz_core.specs.Law.{IsLegal, KindIsEnabled}
use Rattle.oz_core.specs.Seats.{stripe_seat}
use Rattle.oz_decision.specs.Meets.{AreInGrammar}
use Rattle.oz_kept.specs.laws.Deleted.{legal_to}
use Rattle.oz_kept.specs.laws.Places.{legal_behind, legal_first, moved_over}
use Rattle.oz_names.specs.Names.{stripe_of}
use Rattle.oz_names.specs.declared.limits.TheConstants.{STRIPES}
use Rattle.oz_requests.specs.Names.{volume_in}
use Rattle.oz_rows.specs.declared.key.RowKey.{RowKey}
use Rattle.oz_rows.specs.declared.key.RowKey.TheVariants as keys
use Rattle.oz_rows.specs.declared.row.Row.{Row}
use Rattle.oz_rows.specs.declared.operation.Change.{Change}
use Rattle.oz_rows.specs.Rows.{KeyFits}
use Rattle.oz_rows.specs.RowMaps.{Rows, is_same, row_after, row_after_one}
use Rattle.oz_rows.specs.laws.Same.{same_is_one}
use Rattle.oz_store.specs.Store.{IsStore}
use Rattle.oz_sound.specs.stripes.Stripes.{ChangeOnly, is_own, only, stripe_of_key}
use Rattle.oz_store.specs.striped.laws.Shares.{one_of_sixteen}
use Rattle.oz_om.specs.Keeps.{HasRun}
use Rattle.oz_owned.specs.Stood.{HaveStoodFrom, IsMadeBy, IsWrittenBy, StandAt, StepsTo}
use Rattle.oz_owned.specs.laws.Written.{stood_first}
use Rattle.oz_headline.specs.restored.Together.{AllStood, AllStoodFrom, LeadsOn, Makes, StandTogether, together}
use Rattle.oz_headline.specs.restored.laws.Longer.{stood_all}
use Rattle.oz_headline.specs.restored.laws.Sound.{own_row}
use Rattle.oz_headline.specs.restored.laws.Union.{none_of_more, one_of_few, same_together, union_batch, union_stands}

-- ---- what changes of a stripe leave

stay : (stripe : ℕ) (changes : List Change) → ChangeOnly stripe changes → (key : RowKey) → is_own stripe key ≡ false → (row : Option Row)
    → row_after changes key row ≡ row
stay stripe [] of key outside row = refl
stay stripe (change ∷ changes) of key outside row = stay stripe changes of.1 key outside (row_after_one change key row) ∙ by (is_same change.key key) refl
  where
    other : is_same change.key key ≡ true → ⊥
    other e = false≢true (sym outside ∙ eq-eqb (stripe_of_key key) stripe (ap stripe_of_key (sym (same_is_one change.key key e)) ∙ of.0))

    by : (t : Bool) → is_same change.key key ≡ t → row_after_one change key row ≡ row
    by true e = absurd (other e)
    by false e = ap (λ (t : Bool). cond t change.row row) e

abbrev AreOwn : (ℕ → Rows) → Type 0
AreOwn rows = (stripe : ℕ) → stripe < STRIPES → (key : RowKey) → is_own stripe key ≡ false → rows stripe key ≡ None

made_own : (stripe : ℕ) (now next : Rows) (kind : EventKind) → IsMadeBy stripe now kind next → (key : RowKey) → is_own stripe key ≡ false → now key ≡ None
    → next key ≡ None
made_own stripe now next (Decide id index reply batch) made key outside none =
    ap (λ (r : Rows). r key) made.leads ∙ stay stripe made.changes made.of_stripe.changes_own key outside (now key) ∙ none
made_own stripe now next kind made key outside none = ap (λ (r : Rows). r key) made ∙ none

by_seat : {A : Type 0} (seat other : ℕ) → (seat ≡ other → A) → (seat ≢ other → A) → A
by_seat {A} seat other same apart = by (seat == other) refl
  where
    by : (t : Bool) → (seat == other) ≡ t → A
    by true e = same (eqb-true seat other e)
    by false e = apart (λ is. false≢true (sym e ∙ eq-eqb seat other is))

steps_own : (stripe : ℕ) (now : Rows) (event : Event) (next : Rows) → StepsTo stripe now event next → (key : RowKey) → is_own stripe key ≡ false
    → now key ≡ None → next key ≡ None
steps_own stripe now event next steps key outside none = by_seat event.seat (stripe_seat stripe)
    (λ same. made_own stripe now next event.kind (steps.own same) key outside none)
    (λ apart. ap (λ (r : Rows). r key) (steps.others apart) ∙ none)

-- ---- rows that were loaded

stripe_fits : (key : RowKey) → KeyFits key → stripe_of_key key < STRIPES
stripe_fits (keys.Volume volume) fits = one_of_sixteen volume
stripe_fits (keys.Bucket volume bucket) fits = one_of_sixteen volume
stripe_fits (keys.Key volume bucket key) fits = one_of_sixteen volume
stripe_fits (keys.Open volume bucket key number) fits = one_of_sixteen volume
stripe_fits (keys.Deleted volume bucket owner key local) fits = one_of_sixteen volume
stripe_fits (keys.Snapshot volume bucket number) fits = one_of_sixteen volume
stripe_fits (keys.SnapshotKey volume bucket snapshot key) fits = one_of_sixteen volume
stripe_fits (keys.Renamed volume bucket owner local) fits = one_of_sixteen volume
stripe_fits (keys.Stripe stripe) fits = fits

abbrev parts_of : Rows → ℕ → Rows
parts_of rows stripe = only stripe rows

all_parts : (loaded : Rows) → AreInGrammar loaded → together (parts_of loaded) ≡ loaded
all_parts loaded fit = λ i key. each key i
  where
    gone : (key : RowKey) → STRIPES ≤ stripe_of_key key → (o : Option Row) → loaded key ≡ o → None ≡ o
    gone key more None is = refl
    gone key more (Some row) is = let few = stripe_fits key (fit key row is).0 in absurd (omega (arith, more, few))

    each : (key : RowKey) → together (parts_of loaded) key ≡ loaded key
    each key = ⊎_elim
        (λ few. one_of_few (parts_of loaded) key few ∙ own_row loaded (stripe_of_key key) key refl)
        (λ more. none_of_more (parts_of loaded) key more ∙ gone key more (loaded key) refl)
        (cases_lt (stripe_of_key key) STRIPES)

parts_own : (loaded : Rows) → AreOwn (parts_of loaded)
parts_own loaded stripe few key outside = ap (λ (t : Bool). cond t (loaded key) None) outside

module _ (opening : Opening) (bytes : OpeningBytes) (loaded : Rows) (store : IsStore loaded opening bytes) (fit : AreInGrammar loaded) where
  -- ---- one event more

  module _ (rows next : ℕ → Rows) (own : AreOwn rows) (before : List Event) (legal : IsLegal opening before)
      (stand : (stripe : ℕ) → stripe < STRIPES → StandAt opening loaded stripe before (rows stripe)) where
    written : (stripe : ℕ) → stripe < STRIPES → (index : ℕ) (batch : List ℕ) → IsWrittenBy stripe (rows stripe) index batch (next stripe)
        → ((other : ℕ) → other < STRIPES → other ≢ stripe → next other ≡ rows other) → LeadsOn (together rows) batch (together next)
    written stripe few index batch it others = record {
      changes = it.changes;
      batch_of = union_batch rows own opening bytes loaded store fit before legal stand stripe few batch it.changes it.of_stripe;
      leads = λ i key. each key (is_own stripe key) refl i;
    }
      where
        untouched : (key : RowKey) → is_own stripe key ≡ false → together next key ≡ together rows key
        untouched key outside = ⊎_elim
            (λ among.
            let apart : stripe_of_key key ≢ stripe = λ same. false≢true (sym outside ∙ eq-eqb (stripe_of_key key) stripe same) in
            one_of_few next key among ∙ ap (λ (r : Rows). r key) (others (stripe_of_key key) among apart) ∙ sym (one_of_few rows key among))
            (λ more. none_of_more next key more ∙ sym (none_of_more rows key more))
            (cases_lt (stripe_of_key key) STRIPES)

        each : (key : RowKey) (t : Bool) → is_own stripe key ≡ t → together next key ≡ row_after it.changes key (together rows key)
        each key true e =
            let its = eqb-true (stripe_of_key key) stripe e in
            let among = subst (λ (n : ℕ). n < STRIPES) (sym its) few in
            one_of_few next key among ∙ ap (λ (n : ℕ). next n key) its ∙ ap (λ (r : Rows). r key) it.leads
            ∙ ap (row_after it.changes key) (ap (λ (n : ℕ). rows n key) (sym its) ∙ sym (one_of_few rows key among))
        each key false e = untouched key e ∙ sym (stay stripe it.changes it.of_stripe.changes_own key e (together rows key))

    makes : (seat : ℕ) (kind : EventKind) → KindIsEnabled opening before seat kind
        → ((stripe : ℕ) → stripe < STRIPES → StepsTo stripe (rows stripe) (record { seat = seat; kind = kind }) (next stripe))
        → Makes (together rows) kind (together next)
    makes seat (Decide id index reply batch) enabled steps =
        let stripe = stripe_of (volume_in enabled.request) in
        let few = one_of_sixteen (volume_in enabled.request) in
        let it = (steps stripe few).own enabled.of_stripe in (
          written stripe few index batch it
              (λ other among apart. (steps other among).others (λ same. apart (let is : other ≡ stripe = omega (arith, same, enabled.of_stripe) in is))),
          it.limit,
        )
    makes seat kind enabled steps = same_together rows next
        (λ stripe few. by_seat seat (stripe_seat stripe) (λ same. (steps stripe few).own same) (λ apart. (steps stripe few).others apart))

  -- ---- all of a story

  record Onward (stripe : ℕ) (now : Rows) (before : List Event) (event : Event) (story : List Event) (last : Rows) : Type 0 where
    next : Rows
    steps : stripe < STRIPES → StepsTo stripe now event next
    stood : stripe < STRIPES → HaveStoodFrom (StandAt opening loaded stripe) stripe (before ++ event ∷ []) next story last

  onward : (stripe : ℕ) (now : Rows) (before : List Event) (event : Event) (story : List Event) (last : Rows)
      → (stripe < STRIPES → HaveStoodFrom (StandAt opening loaded stripe) stripe before now (event ∷ story) last) → Onward stripe now before event story last
  unfolding HaveStoodFrom
  onward stripe now before event story last stood = ⊎_elim
      (λ few. record { next = (stood few).1.0; steps = λ again. (stood few).1.1; stood = λ again. (stood few).1.2 })
      (λ more. record { next = now; steps = λ few. absurd (omega (arith, more, few)); stood = λ few. absurd (omega (arith, more, few)) })
      (cases_lt stripe STRIPES)

  ended : (stripe : ℕ) (before : List Event) (rows last : Rows) → HaveStoodFrom (StandAt opening loaded stripe) stripe before rows [] last → last ≡ rows
  unfolding HaveStoodFrom
  ended stripe before rows last stood = stood.1

  all_from : (story before : List Event) (rows last : ℕ → Rows) → AreOwn rows → IsLegal opening (before ++ story)
      → ((stripe : ℕ) → stripe < STRIPES → HaveStoodFrom (StandAt opening loaded stripe) stripe before (rows stripe) story (last stripe))
      → AllStoodFrom opening loaded before (together rows) story (together last)
  unfolding AllStoodFrom
  all_from [] before rows last own legal stood = (
    union_stands rows own opening bytes loaded store fit before (legal_to opening [] before [] legal)
        (λ stripe few. stood_first (StandAt opening loaded stripe) stripe before (rows stripe) [] (last stripe) (stood stripe few)),
    same_together rows last (λ stripe few. ended stripe before (rows stripe) (last stripe) (stood stripe few)),
  )
  all_from (event ∷ story) before rows last own legal stood =
      let legal_before = legal_to opening [] before (event ∷ story) legal in
      let enabled = legal_first opening before event story (legal_behind opening [] before (event ∷ story) legal) in
      let stand = λ (stripe : ℕ) (few : stripe < STRIPES). stood_first (StandAt opening loaded stripe) stripe before (rows stripe) (event ∷ story) (last stripe)
      (stood stripe few) in
      let on = λ (stripe : ℕ). onward stripe (rows stripe) before event story (last stripe) (stood stripe) in
      let next : ℕ → Rows = λ stripe. (on stripe).next in (
        union_stands rows own opening bytes loaded store fit before legal_before stand,
        (
          together next,
          makes rows next own before legal_before stand event.seat event.kind enabled (λ stripe few. (on stripe).steps few),
          all_from story (before ++ event ∷ []) next last
              (λ stripe few key outside. steps_own stripe (rows stripe) event (next stripe) ((on stripe).steps few) key outside (own stripe few key outside))
              (subst (IsLegal opening) (sym (moved_over before story event)) legal) (λ stripe few. (on stripe).stood few),
        ),
      )

  pub all_stood : (story : List Event) (rows : ℕ → Rows) → IsLegal opening story
      → ((stripe : ℕ) → stripe < STRIPES → HasRun opening loaded story stripe (rows stripe))
      → AllStood opening loaded story (together rows)
  all_stood story rows legal run = subst (λ (r : Rows). AllStoodFrom opening loaded [] r story (together rows)) (all_parts loaded fit)
      (all_from story [] (parts_of loaded) rows (parts_own loaded) legal
      (λ stripe few. stood_all opening loaded stripe story (rows stripe) legal (run stripe few)))

-- ---- beginnings

module _ (opening : Opening) (loaded : Rows) where
  pub first_place : (before : List Event) (rows : Rows) (story : List Event) (last : Rows) → AllStoodFrom opening loaded before rows story last
      → StandTogether opening loaded before rows
  unfolding AllStoodFrom
  first_place before rows [] last stood = stood.0
  first_place before rows (event ∷ story) last stood = stood.0

  pub last_place : (before : List Event) (rows : Rows) (story : List Event) (last : Rows) → AllStoodFrom opening loaded before rows story last
      → StandTogether opening loaded (before ++ story) last
  unfolding AllStoodFrom
  last_place before rows [] last stood =
      subst (λ (l : List Event). StandTogether opening loaded l last) (sym (append-nil before))
      (subst (λ (r : Rows). StandTogether opening loaded before r) (sym stood.1) stood.0)
  last_place before rows (event ∷ story) last stood =
      subst (λ (l : List Event). StandTogether opening loaded l last) (moved_over before story event)
      (last_place (before ++ event ∷ []) stood.1.0 story last stood.1.2)

  -- and the two parts of a story
  pub front_stood : (front before : List Event) (rows : Rows) (more : List Event) (last : Rows) → AllStoodFrom opening loaded before rows (front ++ more) last
      → (middle : Rows) × AllStoodFrom opening loaded before rows front middle × AllStoodFrom opening loaded (before ++ front) middle more last
  unfolding AllStoodFrom
  front_stood [] before rows more last stood = (
    rows,
    (first_place before rows more last stood, refl),
    subst (λ (l : List Event). AllStoodFrom opening loaded l rows more last) (sym (append-nil before)) stood,
  )
  front_stood (event ∷ front) before rows more last stood =
      let rest = front_stood front (before ++ event ∷ []) stood.1.0 more last stood.1.2 in (
        rest.0,
        (stood.0, (stood.1.0, stood.1.1, rest.1)),
        subst (λ (l : List Event). AllStoodFrom opening loaded l rest.0 more last) (moved_over before front event) rest.2,
      )
