-- A batch makes one thing of rows, and so do events.
use Rattle.std.proofs.Common.{◌≡◌, ◌≢◌, ◌==◌, ℕ, Bool, true, false, List, [], ◌∷◌, ◌++◌, append-nil, refl, sym, ◌∙◌, ap, subst}
use Rattle.std.proofs.lemmas.Bool.{eq-eqb, eqb-true}
use Rattle.oz_rows.specs.declared.entry.RowEntry.{RowEntry}
use Rattle.oz_rows.specs.declared.key.RowKey.{RowKey}
use Rattle.oz_rows.specs.declared.operation.Operation.{Operation}
use Rattle.oz_rows.specs.declared.operation.Operation.TheVariants.{DropOpen}
use Rattle.oz_rows.specs.RowMaps.{Rows, after_changes, row_after, row_of}
use Rattle.oz_rows.specs.laws.Batches.{same_batch}
use Rattle.oz_effects.specs.Batches.{ComesTo}
use Rattle.oz_effects.specs.Effects.{Leads}
use Rattle.oz_effects.specs.laws.Steps.{leads_rise, nothing_is_batch}
use Rattle.oz_sound.specs.stripes.laws.Lists.{one_list}
use Rattle.oz_core.specs.declared.event.Event.{Event}
use Rattle.oz_core.specs.declared.event.EventKind.{EventKind}
use Rattle.oz_core.specs.declared.event.EventKind.TheVariants.{Decide}
use Rattle.oz_core.specs.Seats.{stripe_seat}
use Rattle.oz_kept.specs.laws.Places.{moved_over}
use Rattle.oz_owned.specs.Stood.{AreBased, HaveStoodFrom, IsBatchOfStripe, IsMadeBy, IsWritten, IsWrittenBy, StepsTo}

-- ---- a batch

leads_to_one : (items : List Operation) (all one other : List RowEntry) → Leads all items one → Leads all items other → one ≡ other
unfolding Leads
leads_to_one [] all one other first second = first ∙ sym second
leads_to_one (item ∷ items) all one other first second =
    let same = one_list first.0 second.0 first.2.in_order second.2.in_order (λ key. first.2.rows key ∙ sym (second.2.rows key)) in
    leads_to_one items first.0 one other first.3 (subst (λ (l : List RowEntry). Leads l items other) (sym same) second.3)

module _ (rows : Rows) (batch : List ℕ) (based : AreBased rows) where
  pub written_one : (next other : Rows) → IsWritten rows batch next → IsWritten rows batch other → next ≡ other
  written_one next other one two = one.leads ∙ (λ i key. each key i) ∙ sym two.leads
    where
      first : ComesTo based.all one.is_batch.items one.changes
      first = one.is_batch.comes based.all based.are based.based

      second : ComesTo based.all two.is_batch.items two.changes
      second = two.is_batch.comes based.all based.are based.based

      items : two.is_batch.items ≡ one.is_batch.items
      items = same_batch one.is_batch.items two.is_batch.items one.is_batch.fit two.is_batch.fit (sym one.is_batch.bytes_are ∙ two.is_batch.bytes_are)

      ends : first.after ≡ second.after
      ends = leads_to_one one.is_batch.items based.all first.after second.after first.leads
          (subst (λ (l : List Operation). Leads based.all l second.after) items second.leads)

      each : (key : RowKey) → after_changes one.changes rows key ≡ after_changes two.changes rows key
      each key =
          ap (row_after one.changes key) (sym (based.are.rows_are key)) ∙ sym (first.rows_are key) ∙ ap (λ (l : List RowEntry). row_of l key) ends
          ∙ second.rows_are key ∙ ap (row_after two.changes key) (based.are.rows_are key)

  pub written_based : (next : Rows) → IsWritten rows batch next → AreBased next
  written_based next it =
      let comes = it.is_batch.comes based.all based.are based.based in record {
        all = comes.after;
        are = record {
          in_order = leads_rise based.all it.is_batch.items comes.after comes.leads based.are.in_order;
          rows_are = λ key. comes.rows_are key ∙ ap (row_after it.changes key) (based.are.rows_are key) ∙ ap (λ (r : Rows). r key) (sym it.leads);
        };
        based = comes.based;
      }

-- an empty one makes nothing
pub nothing_written : (rows : Rows) → IsWritten rows [] rows
nothing_written rows = record { changes = []; is_batch = nothing_is_batch rows; leads = refl }

pub none_written : (rows next : Rows) → AreBased rows → IsWritten rows [] next → next ≡ rows
none_written rows next based it = written_one rows [] based next rows it (nothing_written rows)

-- nor does one of a stripe's Decide
no_drop : (earlier later : List Operation) (volume bucket : List ℕ) → [] ≡ earlier ++ DropOpen volume bucket ∷ later → earlier ≡ []
no_drop [] later volume bucket same = refl
no_drop (first ∷ earlier) later volume bucket same = absurd cc

nothing_of_stripe : (stripe : ℕ) (rows : Rows) → IsBatchOfStripe stripe rows [] []
unfolding Leads
nothing_of_stripe stripe rows = record {
  batch = record {
    items = [];
    fit = tt;
    bytes_are = refl;
    comes = λ all are based. record { after = all; leads = refl; based = based; rows_are = λ q. refl };
  };
  operations_own = tt;
  changes_own = tt;
  drops_first = no_drop;
}

pub decided_nothing : (stripe : ℕ) (rows : Rows) (index : ℕ) → IsWrittenBy stripe rows index [] rows
decided_nothing stripe rows index =
    record { changes = []; of_stripe = nothing_of_stripe stripe rows; limit = λ some. absurd (some refl); leads = refl }

-- ---- an event

-- what a stripe's Decide wrote, its batch makes
pub written_by : (stripe : ℕ) (rows : Rows) (index : ℕ) (batch : List ℕ) (next : Rows) → IsWrittenBy stripe rows index batch next
    → IsWritten rows batch next
written_by stripe rows index batch next it = record { changes = it.changes; is_batch = it.of_stripe.batch; leads = it.leads }

made_one : (stripe : ℕ) (rows next other : Rows) (kind : EventKind) → AreBased rows → IsMadeBy stripe rows kind next → IsMadeBy stripe rows kind other
    → next ≡ other
made_one stripe rows next other (Decide id index reply batch) based one two =
    written_one rows batch based next other (written_by stripe rows index batch next one) (written_by stripe rows index batch other two)
made_one stripe rows next other kind based one two = one ∙ sym two

made_based : (stripe : ℕ) (rows next : Rows) (kind : EventKind) → AreBased rows → IsMadeBy stripe rows kind next → AreBased next
made_based stripe rows next (Decide id index reply batch) based one = written_based rows batch based next (written_by stripe rows index batch next one)
made_based stripe rows next kind based one = subst AreBased (sym one) based

apart : (a b : ℕ) → (a == b) ≡ false → a ≢ b
apart a b e same = absurd (cc (sym e ∙ eq-eqb a b same))

module _ (stripe : ℕ) (rows : Rows) (event : Event) (based : AreBased rows) where
  pub steps_one : (next other : Rows) → StepsTo stripe rows event next → StepsTo stripe rows event other → next ≡ other
  steps_one next other one two = by (event.seat == stripe_seat stripe) refl
    where
      by : (t : Bool) → (event.seat == stripe_seat stripe) ≡ t → next ≡ other
      by true e =
          let own = eqb-true event.seat (stripe_seat stripe) e in
          made_one stripe rows next other event.kind based (one.own own) (two.own own)
      by false e =
          let others = apart event.seat (stripe_seat stripe) e in
          one.others others ∙ sym (two.others others)

  pub steps_based : (next : Rows) → StepsTo stripe rows event next → AreBased next
  steps_based next one = by (event.seat == stripe_seat stripe) refl
    where
      by : (t : Bool) → (event.seat == stripe_seat stripe) ≡ t → AreBased next
      by true e = made_based stripe rows next event.kind based (one.own (eqb-true event.seat (stripe_seat stripe) e))
      by false e = subst AreBased (sym (one.others (apart event.seat (stripe_seat stripe) e))) based

-- ---- rows that stood

module _ (At : List Event → Rows → Type 0) (stripe : ℕ) where
  pub stood_first : (before : List Event) (rows : Rows) (story : List Event) (last : Rows) → HaveStoodFrom At stripe before rows story last → At before rows
  unfolding HaveStoodFrom
  stood_first before rows [] last stood = stood.0
  stood_first before rows (event ∷ story) last stood = stood.0

  pub stood_last : (before : List Event) (rows : Rows) (story : List Event) (last : Rows) → HaveStoodFrom At stripe before rows story last
      → At (before ++ story) last
  unfolding HaveStoodFrom
  stood_last before rows [] last stood =
      subst (λ (l : List Event). At l last) (sym (append-nil before)) (subst (λ (r : Rows). At before r) (sym stood.1) stood.0)
  stood_last before rows (event ∷ story) last stood =
      subst (λ (l : List Event). At l last) (moved_over before story event) (stood_last (before ++ event ∷ []) stood.1.0 story last stood.1.2)

  pub stood_joined : (before : List Event) (rows : Rows) (story : List Event) (middle : Rows) (more : List Event) (last : Rows)
      → HaveStoodFrom At stripe before rows story middle → HaveStoodFrom At stripe (before ++ story) middle more last
      → HaveStoodFrom At stripe before rows (story ++ more) last
  unfolding HaveStoodFrom
  stood_joined before rows [] middle more last one two =
      subst (λ (r : Rows). HaveStoodFrom At stripe before r more last) one.1
      (subst (λ (l : List Event). HaveStoodFrom At stripe l middle more last) (append-nil before) two)
  stood_joined before rows (event ∷ story) middle more last one two = (
    one.0,
    (
      one.1.0,
      one.1.1,
      stood_joined (before ++ event ∷ []) one.1.0 story middle more last one.1.2
          (subst (λ (l : List Event). HaveStoodFrom At stripe l middle more last) (sym (moved_over before story event)) two),
    ),
  )

  -- one event more
  pub stood_more : (before : List Event) (rows : Rows) (story : List Event) (last next : Rows) (event : Event) → HaveStoodFrom At stripe before rows story last
      → StepsTo stripe last event next → At ((before ++ story) ++ event ∷ []) next → HaveStoodFrom At stripe before rows (story ++ event ∷ []) next
  unfolding HaveStoodFrom
  stood_more before rows story last next event stood steps at =
      stood_joined before rows story last (event ∷ []) next stood (stood_last before rows story last stood, (next, steps, (at, refl)))

  pub record Parted (before : List Event) (rows : Rows) (story more : List Event) (last : Rows) : Type 0 where
    pub middle : Rows
    pub first : HaveStoodFrom At stripe before rows story middle
    pub rest : HaveStoodFrom At stripe (before ++ story) middle more last

  pub stood_parted : (before : List Event) (rows : Rows) (story more : List Event) (last : Rows) → HaveStoodFrom At stripe before rows (story ++ more) last
      → Parted before rows story more last
  unfolding HaveStoodFrom
  stood_parted before rows [] more last stood = record {
    middle = rows;
    first = (stood_first before rows more last stood, refl);
    rest = subst (λ (l : List Event). HaveStoodFrom At stripe l rows more last) (sym (append-nil before)) stood;
  }
  stood_parted before rows (event ∷ story) more last stood =
      let behind = stood_parted (before ++ event ∷ []) stood.1.0 story more last stood.1.2 in record {
        middle = behind.middle;
        first = (stood.0, (stood.1.0, stood.1.1, behind.first));
        rest = subst (λ (l : List Event). HaveStoodFrom At stripe l behind.middle more last) (moved_over before story event) behind.rest;
      }

  pub stood_based : (before : List Event) (rows : Rows) (story : List Event) (last : Rows) → AreBased rows → HaveStoodFrom At stripe before rows story last
      → AreBased last
  unfolding HaveStoodFrom
  stood_based before rows [] last based stood = subst AreBased (sym stood.1) based
  stood_based before rows (event ∷ story) last based stood =
      stood_based (before ++ event ∷ []) stood.1.0 story last (steps_based stripe rows event based stood.1.0 stood.1.1) stood.1.2

  -- the same events lead on from rows to the same ones
  pub stood_one : (before : List Event) (rows : Rows) (story : List Event) (last other : Rows) → AreBased rows
      → HaveStoodFrom At stripe before rows story last → HaveStoodFrom At stripe before rows story other → last ≡ other
  unfolding HaveStoodFrom
  stood_one before rows [] last other based one two = one.1 ∙ sym two.1
  stood_one before rows (event ∷ story) last other based one two =
      let same = steps_one stripe rows event based one.1.0 two.1.0 one.1.1 two.1.1 in
      stood_one (before ++ event ∷ []) one.1.0 story last other (steps_based stripe rows event based one.1.0 one.1.1) one.1.2
      (subst (λ (r : Rows). HaveStoodFrom At stripe (before ++ event ∷ []) r story other) (sym same) two.1.2)
