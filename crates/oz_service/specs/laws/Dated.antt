-- The index at which a block left reach by the tables of its stripe, as they stood at each index, is that at which it left reach in the
-- story.
use Rattle.std.proofs.Common.{◌≡◌, ⊎_elim, ℕ, suc, ◌<◌, ◌≤◌, List, [], ◌∷◌, ◌++◌, length}
use Rattle.std.proofs.Common.{refl, sym, ◌∙◌, ap, subst, append-nil, arith}
use Rattle.std.proofs.lemmas.Bool.{cases_lt}
use Rattle.std.proofs.lemmas.List.{length-append}
use Rattle.oz_fields.specs.declared.block.Block.{Block}
use Rattle.oz_namespace.specs.declared.namespace.Namespace.{Namespace}
use Rattle.oz_reclaim.specs.Reach.{IsShown}
use Rattle.oz_reclaim.specs.laws.Reach.{reached_is_shown, shown_is_reached}
use Rattle.oz_reclaim.specs.sweep.History.{History, LeftAt as LeftInRows}
use Rattle.oz_rows.specs.RowMaps.{Rows}
use Rattle.oz_model.specs.Reach.{IsReached}
use Rattle.oz_core.specs.declared.event.Event.{Event}
use Rattle.oz_core.specs.declared.event.EventKind.{EventKind}
use Rattle.oz_core.specs.declared.event.EventKind.TheVariants.{Decide}
use Rattle.oz_core.specs.declared.opening.Opening.{Opening}
use Rattle.oz_core.specs.Contents.{OpeningBytes}
use Rattle.oz_core.specs.Law.{DecideIsEnabled, IsLegal, IsLegalFrom, KindIsEnabled}
use Rattle.oz_core.specs.Manager.{IsUsed, decided_index, last_index, namespace_from, namespace_of}
use Rattle.oz_core.specs.Stories.{newer}
use Rattle.oz_kept.specs.laws.Deleted.{legal_to}
use Rattle.oz_kept.specs.laws.Kept.{indexes_rise, last_next}
use Rattle.oz_kept.specs.laws.Places.{legal_behind, legal_first, legal_rest, moved_over, namespace_next}
use Rattle.oz_kept.specs.laws.Reached.{used_still}
use Rattle.oz_store.specs.Store.{IsStore}
use Rattle.oz_store.specs.striped.Shares.{share_of}
use Rattle.oz_store.specs.striped.laws.Stories.{decided_next}
use Rattle.oz_owned.specs.Left.{LeftAt}
use Rattle.oz_owned.specs.Own.{IsOwn}
use Rattle.oz_owned.specs.Stood.{StandAt, TablesStand}
use Rattle.oz_owned.specs.laws.Left.{left_at_opening, left_now, left_still, one_at_most}
use Rattle.oz_owned.specs.laws.Owned.{share_reached}
use Rattle.oz_owned.specs.laws.Standing.{unreached_front}
use Rattle.oz_owned.specs.laws.Tables.{front_stood}
use Rattle.oz_service.specs.laws.Since.{reached_used}

-- ---- while the index stays, so does what is reached

step_keeps : (opening : Opening) (before : List Event) (seat : ℕ) (kind : EventKind) (block : Block) → KindIsEnabled opening before seat kind
    → last_index opening (before ++ record { seat = seat; kind = kind } ∷ []) ≤ last_index opening before
    → IsReached (namespace_of opening before) block
    → (IsReached (namespace_of opening (before ++ record { seat = seat; kind = kind } ∷ [])) block → ⊥) → ⊥
step_keeps opening before seat (Decide id index reply batch) block enabled le reached away =
    let event : Event = record { seat = seat; kind = Decide id index reply batch } in
    let next = last_next opening before event in
    let rises = enabled.index_goes_on.changes (λ same. away (subst (λ (n : Namespace). IsReached n block)
    (sym (decided_next opening before seat id index reply batch enabled.request enabled.undecided ∙ same)) reached)) in
    absurd (omega (arith, le, next, rises))
step_keeps opening before seat kind block enabled le reached away =
    away (subst (λ (n : Namespace). IsReached n block) (sym (namespace_next opening before (record { seat = seat; kind = kind }))) reached)

stays_reached : (opening : Opening) (block : Block) (rest before : List Event) → IsLegalFrom opening before rest
    → last_index opening (before ++ rest) ≤ last_index opening before → IsReached (namespace_of opening before) block
    → (IsReached (namespace_of opening (before ++ rest)) block → ⊥) → ⊥
stays_reached opening block [] before legal le reached away =
    away (subst (λ (l : List Event). IsReached (namespace_of opening l) block) (sym (append-nil before)) reached)
stays_reached opening block (event ∷ rest) before legal le reached away =
    let first = legal_first opening before event rest legal in
    let behind = legal_rest opening before event rest legal in
    let moved = moved_over before rest event in
    let one = indexes_rise opening 0 (event ∷ []) before (legal_to opening before (event ∷ []) rest legal) in
    let more = indexes_rise opening 0 rest (before ++ event ∷ []) behind in
    let same = ap (last_index opening) moved in
    step_keeps opening before event.seat event.kind block first (omega (arith, more, same, le)) reached
    (λ there. stays_reached opening block rest (before ++ event ∷ []) behind (omega (arith, same, le, one)) there
    (λ last. away (subst (λ (l : List Event). IsReached (namespace_of opening l) block) moved last)))

-- ---- what tables show

module _ (opening : Opening) (bytes : OpeningBytes) (loaded : Rows) (store : IsStore loaded opening bytes) (story : List Event)
    (legal : IsLegal opening story) (stripe : ℕ) (block : Block) (own : IsOwn loaded stripe story block) where
  module _ (most : ℕ) (tables : Rows) (it : TablesStand opening loaded stripe story most tables) where
    shown_there : IsShown tables block → IsReached (namespace_of opening it.front) block
    shown_there shown =
        let stand = front_stood (StandAt opening loaded stripe) opening loaded stripe story most tables it in
        (share_reached stripe (namespace_of opening it.front) block
        (shown_is_reached tables (share_of stripe (namespace_of opening it.front)) stand.stand.stands block stand.stand.fit shown)).0

    not_shown_there : (IsShown tables block → ⊥) → IsReached (namespace_of opening it.front) block → ⊥
    not_shown_there away = unreached_front opening bytes loaded story stripe most tables block store legal it own
        (λ namespace stands reached. away (reached_is_shown tables namespace stands block reached))

  -- ---- it left reach as all began

  left_first : (tables : Rows) → TablesStand opening loaded stripe story opening.last_index tables → (IsShown tables block → ⊥)
      → IsUsed opening [] block → LeftAt opening story block 0
  unfolding namespace_from
  left_first tables it away used =
      let legal_front : IsLegal opening it.front = legal_to opening [] it.front it.is_front.behind (subst (IsLegal opening) it.is_front.parts legal) in
      let unreached : IsReached opening.namespace block → ⊥ = λ reached.
      stays_reached opening block it.front [] legal_front (it.is_front.within (omega arith)) reached
      (not_shown_there opening.last_index tables it away) in
      left_still opening [] story block 0 legal (left_at_opening opening block unreached) used unreached

  -- ---- it did at a later index

  module _ (before : ℕ) (earlier later : Rows) (le : opening.last_index ≤ before) (one : TablesStand opening loaded stripe story before earlier)
      (two : TablesStand opening loaded stripe story (suc before) later) (shown : IsShown earlier block) (away : IsShown later block → ⊥) where
    reached : IsReached (namespace_of opening one.front) block
    reached = shown_there before earlier one shown

    low : last_index opening one.front ≤ before
    low = one.is_front.within le

    from : (behind : List Event) → one.is_front.behind ≡ behind → suc before ≤ last_index opening story → LeftAt opening story block (suc before)
    from [] none decided =
        let whole = ap (last_index opening) (one.is_front.parts ∙ ap (λ (l : List Event). one.front ++ l) none ∙ append-nil one.front) in
        absurd (omega (arith, decided, whole, low))
    from (event ∷ rest) is decided = by event.kind refl
      where
        parts : story ≡ (one.front ++ event ∷ []) ++ rest
        parts = one.is_front.parts ∙ ap (λ (l : List Event). one.front ++ l) is ∙ sym (moved_over one.front rest event)

        legal_parts : IsLegal opening ((one.front ++ event ∷ []) ++ rest)
        legal_parts = subst (IsLegal opening) parts legal

        legal_one : IsLegal opening (one.front ++ event ∷ [])
        legal_one = legal_to opening [] (one.front ++ event ∷ []) rest legal_parts

        -- the event leads past the index
        past : before < last_index opening (one.front ++ event ∷ [])
        past = ⊎_elim
            (λ lt. lt)
            (λ ge.
            let more = one.is_front.longest (one.front ++ event ∷ []) rest parts ge in
            let long = ap length more.1 in
            let first = length-append (one.front ++ event ∷ []) more.0 in
            let second = length-append one.front (event ∷ []) in
            absurd (omega (arith, long, first, second)))
            (cases_lt before (last_index opening (one.front ++ event ∷ [])))

        by : (kind : EventKind) → event.kind ≡ kind → LeftAt opening story block (suc before)
        by (Decide id index reply batch) e = subst (λ (n : ℕ). LeftAt opening story block n) is_next
            (subst (λ (l : List Event). LeftAt opening l block index) (sym parts)
            (left_still opening (one.front ++ event ∷ []) rest block index legal_parts
            (subst (λ (v : Event). LeftAt opening (one.front ++ v ∷ []) block index) (sym same)
            (left_now opening one.front event.seat id index reply batch block
            (subst (λ (v : Event). IsLegal opening (one.front ++ v ∷ [])) same legal_one) reached
            (subst (λ (v : Event). IsReached (namespace_of opening (one.front ++ v ∷ [])) block → ⊥) same unreached)))
            (used_still opening one.front (event ∷ []) block (reached_used opening one.front block legal_front reached)) unreached))
          where
            same : event ≡ record { seat = event.seat; kind = Decide id index reply batch }
            same = λ i. record { seat = event.seat; kind = e i }

            legal_front : IsLegal opening one.front
            legal_front = legal_to opening [] one.front (event ∷ []) legal_one

            enabled : DecideIsEnabled opening one.front event.seat id index reply batch
            enabled = subst (KindIsEnabled opening one.front event.seat) e
                (legal_first opening one.front event [] (legal_behind opening [] one.front (event ∷ []) legal_one))

            last : last_index opening (one.front ++ event ∷ []) ≡ index
            last = last_next opening one.front event ∙ ap (λ (k : EventKind). newer (decided_index k) (last_index opening one.front)) e

            is_next : index ≡ suc before
            is_next =
                let most = one_at_most opening one.front event.seat id index reply batch enabled in
                omega (arith, most, low, past, last)

            -- the later front goes on from there, under one index
            longer : (more : List Event) × (two.front ≡ (one.front ++ event ∷ []) ++ more)
            longer = two.is_front.longest (one.front ++ event ∷ []) rest parts (omega (arith, last, is_next))

            legal_two : IsLegal opening ((one.front ++ event ∷ []) ++ longer.0)
            legal_two = subst (IsLegal opening) longer.1
                (legal_to opening [] two.front two.is_front.behind (subst (IsLegal opening) two.is_front.parts legal))

            unreached : IsReached (namespace_of opening (one.front ++ event ∷ [])) block → ⊥
            unreached there =
                let within = two.is_front.within (omega (arith, le)) in
                let whole = ap (last_index opening) longer.1 in
                stays_reached opening block longer.0 (one.front ++ event ∷ []) (legal_behind opening [] (one.front ++ event ∷ []) longer.0 legal_two)
                (omega (arith, within, whole, last, is_next)) there
                (subst (λ (l : List Event). IsReached (namespace_of opening l) block → ⊥) longer.1 (not_shown_there (suc before) later two away))
        by kind e =
            let last = last_next opening one.front event ∙ ap (λ (k : EventKind). newer (decided_index k) (last_index opening one.front)) e in
            absurd (omega (arith, past, low, last))

  -- ---- each of both

  pub left_by_rows : (rows : History) (since : ℕ)
      → ((index : ℕ) → opening.last_index ≤ index → index ≤ last_index opening story → TablesStand opening loaded stripe story index (rows index))
      → LeftInRows rows opening.last_index block since → since ≤ last_index opening story → (since ≡ 0 → IsUsed opening [] block)
      → LeftAt opening story block since
  left_by_rows rows since stand left decided used = ⊎_elim
      (λ (none, away).
      subst (λ (n : ℕ). LeftAt opening story block n) (sym none)
      (left_first (rows opening.last_index) (stand opening.last_index (omega arith) (indexes_rise opening 0 story [] legal)) away (used none)))
      (λ (before, next, le, shown, away).
      let within : suc before ≤ last_index opening story = omega (arith, decided, next) in
      let two = stand (suc before) (omega (arith, le)) within in
      subst (λ (n : ℕ). LeftAt opening story block n) (sym next)
      (from before (rows before) (rows (suc before)) le (stand before le (omega (arith, within))) two shown
      (subst (λ (n : ℕ). IsShown (rows n) block → ⊥) next away) _ refl within))
      left
