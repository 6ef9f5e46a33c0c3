-- Rows that stood at the front of a story, as the story goes on and as more is brought to them.
use Rattle.std.proofs.Common.{◌≡◌, ◌≢◌, ⊎_elim, ℕ, suc, ◌<◌, ◌≤◌, ◌==◌, ◌&&◌, nat_le, nat_lt, Bool, true, false, cond, List, [], ◌∷◌, ◌++◌}
use Rattle.std.proofs.Common.{Option, None, Some, Contains, append-nil, append_assoc, arith, refl, sym, ◌∙◌, ap, subst}
use Rattle.std.proofs.lemmas.Bool.{cases_lt, eq-eqb, eqb-true, le-leb, lt-leb}
use Rattle.std.proofs.lemmas.Bool.Decides.{nat_tests}
use Rattle.std.proofs.lemmas.List.{append_cancel_left}
use Rattle.std.proofs.lemmas.List.Elements.{Contains-append_left, Contains-append_right, filter-append, filter_map-append}
use Rattle.std.specs.List.{AllByRecursion, cons_option}
use Rattle.oz_rows.specs.RowMaps.{Rows}
use Rattle.oz_sound.specs.stripes.Stripes.{only}
use Rattle.oz_core.specs.declared.event.Event.{Event}
use Rattle.oz_core.specs.declared.event.EventKind.{EventKind}
use Rattle.oz_core.specs.declared.event.EventKind.TheVariants.{Decide}
use Rattle.oz_core.specs.declared.opening.Opening.{Opening}
use Rattle.oz_core.specs.Law.{IsLegal}
use Rattle.oz_core.specs.Manager.{decided_index, last_index, namespace_from}
use Rattle.oz_core.specs.Seats.{stripe_seat}
use Rattle.oz_core.specs.Stories.{all_told, mine, newer}
use Rattle.oz_kept.specs.laws.Deleted.{legal_to}
use Rattle.oz_kept.specs.laws.Kept.{last_next}
use Rattle.oz_kept.specs.laws.Reached.{in_none}
use Rattle.oz_owned.specs.Front.{IsFrontOf}
use Rattle.oz_owned.specs.Stood.{AreBased, AreWritten, HaveStood, HaveStoodFrom, IsMadeBy, IsWritten, StepsTo, StoodAtFront, batch_if, batch_of, batches_of}
use Rattle.oz_owned.specs.laws.Front.{front_of, over_at}
use Rattle.oz_owned.specs.laws.Longer.{front_grows, front_stays}
use Rattle.oz_owned.specs.laws.Written.{Parted, none_written, steps_based, stood_based, stood_first, stood_last}
use Rattle.oz_owned.specs.laws.Written.{stood_more, stood_one, stood_parted, written_by, written_one}

-- ---- as the story goes on

module _ (At : List Event → Rows → Type 0) (opening : Opening) (loaded : Rows) (stripe : ℕ) where
  pub front_stood : (story : List Event) (most : ℕ) (rows : Rows) → (it : StoodAtFront At opening loaded stripe story most rows) → At it.front rows
  front_stood story most rows it = stood_last At stripe [] (only stripe loaded) it.front rows it.stood

  pub stand_at_start : (most : ℕ) → At [] (only stripe loaded) → StoodAtFront At opening loaded stripe [] most (only stripe loaded)
  unfolding HaveStoodFrom namespace_from
  stand_at_start most at = record {
    front = [];
    is_front = record {
      behind = [];
      parts = refl;
      namespace = refl;
      granted = refl;
      within = λ le. le;
      longest = λ start rest same le. (rest, same);
      above = λ event index there is. absurd (in_none event there);
    };
    stood = (at, refl);
  }

  module _ (story : List Event) (event : Event) (most : ℕ) (rows : Rows) where
    -- an event that leads past the index
    stand_before : StoodAtFront At opening loaded stripe story most rows → most < last_index opening (story ++ event ∷ [])
        → StoodAtFront At opening loaded stripe (story ++ event ∷ []) most rows
    stand_before it over =
        record { front = it.front; is_front = front_stays opening most story event it.front it.is_front over; stood = it.stood }

    pub stand_before_decided : (index : ℕ) → decided_index event.kind ≡ Some index → most < index → StoodAtFront At opening loaded stripe story most rows
        → StoodAtFront At opening loaded stripe (story ++ event ∷ []) most rows
    stand_before_decided index is over it =
        stand_before it (subst (λ (n : ℕ). most < n)
        (sym (last_next opening story event ∙ ap (λ (o : Option ℕ). newer o (last_index opening story)) is)) over)

    -- an event that makes nothing of the rows
    pub stand_still : IsLegal opening (story ++ event ∷ []) → StepsTo stripe rows event rows
        → (HaveStood At loaded stripe story rows → At (story ++ event ∷ []) rows)
        → StoodAtFront At opening loaded stripe story most rows → StoodAtFront At opening loaded stripe (story ++ event ∷ []) most rows
    stand_still legal steps at it = ⊎_elim (stand_before it) grows (cases_lt most (last_index opening (story ++ event ∷ [])))
      where
        grows : last_index opening (story ++ event ∷ []) ≤ most → StoodAtFront At opening loaded stripe (story ++ event ∷ []) most rows
        grows low =
            let more = front_grows opening most story event it.front legal it.is_front low in
            let stood = subst (λ (l : List Event). HaveStood At loaded stripe l rows) more.0 it.stood in record {
              front = story ++ event ∷ [];
              is_front = more.1;
              stood = stood_more At stripe [] (only stripe loaded) story rows rows event stood steps (at stood);
            }

-- ---- which batches are brought

abbrev DecideAll : (ℕ → Type 0) → List Event → Type 0
DecideAll Holds story = AllByRecursion (λ (event : Event). (index : ℕ) → decided_index event.kind ≡ Some index → Holds index) story

all_of : (Holds : ℕ → Type 0) (story : List Event) → ((event : Event) (index : ℕ) → Contains story event → decided_index event.kind ≡ Some index → Holds index)
    → DecideAll Holds story
all_of Holds [] each = tt
all_of Holds (event ∷ story) each = (
  λ index is. each event index (0, omega arith, refl) is,
  all_of Holds story (λ other index there is. each other index (suc there.0, omega (arith, there.1), there.2) is),
)

module _ (counts : ℕ → Bool) (stripe : ℕ) where
  batches_both : (a b : List Event) → batches_of counts stripe (a ++ b) ≡ batches_of counts stripe a ++ batches_of counts stripe b
  batches_both a b =
      ap (all_told (batch_of counts)) (filter-append (λ (event : Event). event.seat == stripe_seat stripe) a b)
      ∙ filter_map-append (λ (event : Event). batch_of counts event.kind) (mine (stripe_seat stripe) a) (mine (stripe_seat stripe) b)

  -- those of an event and of what stands behind it
  batches_first : (t : Bool) (event : Event) (story : List Event) → (event.seat == stripe_seat stripe) ≡ t → batches_of counts stripe (event ∷ story)
      ≡ all_told (batch_of counts) (cond t (event ∷ mine (stripe_seat stripe) story) (mine (stripe_seat stripe) story))
  batches_first t event story e =
      ap (λ (u : Bool). all_told (batch_of counts) (cond u (event ∷ mine (stripe_seat stripe) story) (mine (stripe_seat stripe) story))) e

  not_counted : (batch : List ℕ) (t : Bool) → t ≡ false → batch_if t batch ≡ None
  not_counted [] t e = refl
  not_counted (byte ∷ bytes) t e = ap (λ (u : Bool). cond u (Some (byte ∷ bytes)) None) e

  none_of_kind : (kind : EventKind) → ((index : ℕ) → decided_index kind ≡ Some index → counts index ≡ false) → batch_of counts kind ≡ None
  none_of_kind (Decide id index reply batch) none = not_counted batch (counts index) (none index refl)
  none_of_kind kind none = refl

  none_counted : (story : List Event) → DecideAll (λ index. counts index ≡ false) story → batches_of counts stripe story ≡ []
  none_counted [] none = refl
  none_counted (event ∷ story) none = by (event.seat == stripe_seat stripe) refl (none_counted story none.1)
    where
      by : (t : Bool) → (event.seat == stripe_seat stripe) ≡ t → batches_of counts stripe story ≡ [] → batches_of counts stripe (event ∷ story) ≡ []
      by true e behind =
          batches_first true event story e
          ∙ ap (λ (o : Option (List ℕ)). cons_option o (batches_of counts stripe story)) (none_of_kind event.kind none.0) ∙ behind
      by false e behind = batches_first false event story e ∙ behind

  module _ (rows made next : Rows) (others : List (List ℕ)) (based : AreBased rows) where
    wrote : (batch : List ℕ) (t : Bool) → t ≡ true → IsWritten rows batch made → AreWritten rows (cons_option (batch_if t batch) others) next
        → AreWritten made others next
    unfolding AreWritten
    wrote [] t e is written = subst (λ (r : Rows). AreWritten r others next) (sym (none_written rows made based is)) written
    wrote (byte ∷ bytes) true e is written =
        subst (λ (r : Rows). AreWritten r others next) (written_one rows (byte ∷ bytes) based written.0 made written.1 is) written.2
    wrote (byte ∷ bytes) false e is written = absurd cc

    kind_wrote : (kind : EventKind) → ((index : ℕ) → decided_index kind ≡ Some index → counts index ≡ true) → IsMadeBy stripe rows kind made
        → AreWritten rows (cons_option (batch_of counts kind) others) next → AreWritten made others next
    kind_wrote (Decide id index reply batch) all is written =
        wrote batch (counts index) (all index refl) (written_by stripe rows index batch made is) written
    kind_wrote kind all is written = subst (λ (r : Rows). AreWritten r others next) (sym is) written

  module _ (At : List Event → Rows → Type 0) where
    -- where all count, the batches lead where the events do
    leads_there : (more before : List Event) (rows last next : Rows) → AreBased rows → DecideAll (λ index. counts index ≡ true) more
        → HaveStoodFrom At stripe before rows more last → AreWritten rows (batches_of counts stripe more) next → next ≡ last
    unfolding HaveStoodFrom AreWritten
    leads_there [] before rows last next based all stood written = written ∙ sym stood.1
    leads_there (event ∷ more) before rows last next based all stood written =
        leads_there more (before ++ event ∷ []) stood.1.0 last next (steps_based stripe rows event based stood.1.0 stood.1.1) all.1 stood.1.2
        (by (event.seat == stripe_seat stripe) refl)
      where
        made : Rows
        made = stood.1.0

        by : (t : Bool) → (event.seat == stripe_seat stripe) ≡ t → AreWritten made (batches_of counts stripe more) next
        by true e =
            kind_wrote rows made next (batches_of counts stripe more) based event.kind all.0 (stood.1.1.own (eqb-true event.seat (stripe_seat stripe) e))
            (subst (λ (l : List (List ℕ)). AreWritten rows l next) (batches_first true event more e) written)
        by false e =
            subst (λ (r : Rows). AreWritten r (batches_of counts stripe more) next) (sym (stood.1.1.others (apart e)))
            (subst (λ (l : List (List ℕ)). AreWritten rows l next) (batches_first false event more e) written)
          where
            apart : (event.seat == stripe_seat stripe) ≡ false → event.seat ≢ stripe_seat stripe
            apart e same = absurd (cc (sym e ∙ eq-eqb event.seat (stripe_seat stripe) same))

-- ---- what was brought stood

module _ (At : List Event → Rows → Type 0) (opening : Opening) (loaded : Rows) (stripe : ℕ) (seen : List Event) (newest : Rows)
    (legal : IsLegal opening seen) (stood : HaveStood At loaded stripe seen newest) where
  -- the rows at the front of an index
  pub stand_at_front : (most : ℕ) → (tables : Rows) × StoodAtFront At opening loaded stripe seen most tables
  stand_at_front most =
      let front = front_of opening seen most legal in
      let parts = stood_parted At stripe [] (only stripe loaded) front.0 front.1.behind newest
      (subst (λ (l : List Event). HaveStood At loaded stripe l newest) front.1.parts stood) in
      (parts.middle, record { front = front.0; is_front = front.1; stood = parts.first })

  module _ (based : AreBased (only stripe loaded)) where
    led_to : (counts : ℕ → Bool) (first more rest : List Event) (tables next : Rows) → seen ≡ (first ++ more) ++ rest → HaveStood At loaded stripe first tables
        → DecideAll (λ index. counts index ≡ false) first → DecideAll (λ index. counts index ≡ true) more → DecideAll (λ index. counts index ≡ false) rest
        → AreWritten tables (batches_of counts stripe seen) next → HaveStood At loaded stripe (first ++ more) next
    led_to counts first more rest tables next parts there none all none_behind written =
        subst (λ (r : Rows). HaveStood At loaded stripe (first ++ more) r) (sym same) to_front.first
      where
        to_front : Parted At stripe [] (only stripe loaded) (first ++ more) rest newest
        to_front = stood_parted At stripe [] (only stripe loaded) (first ++ more) rest newest
            (subst (λ (l : List Event). HaveStood At loaded stripe l newest) parts stood)

        to_first : Parted At stripe [] (only stripe loaded) first more to_front.middle
        to_first = stood_parted At stripe [] (only stripe loaded) first more to_front.middle to_front.first

        as_tables : to_first.middle ≡ tables
        as_tables = stood_one At stripe [] (only stripe loaded) first to_first.middle tables based to_first.first there

        batches : batches_of counts stripe seen ≡ batches_of counts stripe more
        batches =
            ap (batches_of counts stripe) parts ∙ batches_both counts stripe (first ++ more) rest
            ∙ ap (λ (l : List (List ℕ)). batches_of counts stripe (first ++ more) ++ l) (none_counted counts stripe rest none_behind)
            ∙ append-nil (batches_of counts stripe (first ++ more)) ∙ batches_both counts stripe first more
            ∙ ap (λ (l : List (List ℕ)). l ++ batches_of counts stripe more) (none_counted counts stripe first none)

        same : next ≡ to_front.middle
        same = leads_there counts stripe At more first tables to_front.middle next (stood_based At stripe [] (only stripe loaded) first tables based there) all
            (subst (λ (r : Rows). HaveStoodFrom At stripe first r more to_front.middle) as_tables to_first.rest)
            (subst (λ (l : List (List ℕ)). AreWritten tables l next) batches written)

    -- what stands before the front has no index above it
    low_front : (most : ℕ) (front : List Event) → IsFrontOf opening most seen front → opening.last_index ≤ most
        → (event : Event) (index : ℕ) → Contains front event → decided_index event.kind ≡ Some index → index ≤ most
    low_front most front is loaded_low event index there decides =
        let within = is.within loaded_low in
        let last = over_at opening most event.seat event.kind index decides front
        (legal_to opening [] front is.behind (subst (IsLegal opening) is.parts legal)) there in
        omega (arith, within, last)

    -- all up to an index, over the loaded rows
    pub replayed : (most : ℕ) (tables : Rows) → opening.last_index ≤ most
        → AreWritten (only stripe loaded) (batches_of (λ index. nat_le index most) stripe seen) tables
        → StoodAtFront At opening loaded stripe seen most tables
    unfolding HaveStoodFrom
    replayed most tables loaded_low written =
        let front = front_of opening seen most legal in
        let is = front.1 in
        record {
          front = front.0;
          is_front = is;
          stood = led_to (λ index. nat_le index most) [] front.0 is.behind (only stripe loaded) tables is.parts
              (stood_first At stripe [] (only stripe loaded) seen newest stood, refl) tt
              (all_of (λ index. nat_le index most ≡ true) front.0 (λ event index there decides. le-leb index most
              (low_front most front.0 is loaded_low event index there decides)))
              (all_of (λ index. nat_le index most ≡ false) is.behind (λ event index there decides. lt-leb index most (is.above event index there decides)))
              written;
        }

    -- all between two indexes, over what stood at the front of the first
    pub brought : (most later : ℕ) (tables next : Rows) → opening.last_index ≤ most → most ≤ later → StoodAtFront At opening loaded stripe seen most tables
        → AreWritten tables (batches_of (λ index. nat_lt most index && nat_le index later) stripe seen) next
        → StoodAtFront At opening loaded stripe seen later next
    brought most later tables next loaded_low le it written = record {
      front = there.0;
      is_front = is;
      stood = subst (λ (l : List Event). HaveStood At loaded stripe l next) (sym further.1)
          (led_to counts it.front further.0 is.behind tables next parts it.stood
          (all_of (λ index. counts index ≡ false) it.front (λ event index among decides. too_low index
          (low_front most it.front it.is_front loaded_low event index among decides)))
          (all_of (λ index. counts index ≡ true) further.0 (λ event index among decides. between index (above_it event index among decides)
          (low_front later there.0 is (omega (arith, loaded_low, le)) event index
          (subst (λ (l : List Event). Contains l event) (sym further.1) (Contains-append_right it.front further.0 event among)) decides)))
          (all_of (λ index. counts index ≡ false) is.behind (λ event index among decides. too_high index (is.above event index among decides)))
          written);
    }
      where
        counts : ℕ → Bool
        counts index = nat_lt most index && nat_le index later

        there : (front : List Event) × IsFrontOf opening later seen front
        there = front_of opening seen later legal

        is : IsFrontOf opening later seen there.0
        is = there.1

        further : (more : List Event) × (there.0 ≡ it.front ++ more)
        further =
            let within = it.is_front.within loaded_low in
            is.longest it.front it.is_front.behind it.is_front.parts (omega (arith, within, le))

        parts : seen ≡ (it.front ++ further.0) ++ is.behind
        parts = is.parts ∙ ap (λ (l : List Event). l ++ is.behind) further.1

        behind_it : it.is_front.behind ≡ further.0 ++ is.behind
        behind_it = append_cancel_left it.front it.is_front.behind (further.0 ++ is.behind)
            (sym it.is_front.parts ∙ parts ∙ append_assoc it.front further.0 is.behind)

        above_it : (event : Event) (index : ℕ) → Contains further.0 event → decided_index event.kind ≡ Some index → most < index
        above_it event index among decides =
            it.is_front.above event index
            (subst (λ (l : List Event). Contains l event) (sym behind_it) (Contains-append_left further.0 is.behind event among)) decides

        too_low : (index : ℕ) → index ≤ most → counts index ≡ false
        too_low index low = grind (arith, nat_tests, low)

        too_high : (index : ℕ) → later < index → counts index ≡ false
        too_high index high = grind (arith, nat_tests, high)

        between : (index : ℕ) → most < index → index ≤ later → counts index ≡ true
        between index over low = grind (arith, nat_tests, over, low)
