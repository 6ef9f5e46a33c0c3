-- The index at which a block left reach tells at each place whether something reaches it.
use Rattle.std.proofs.Common.{◌≡◌, ◌≢◌, ◌↔◌, ⊎_elim, ◌⊎◌, ℕ, zero, suc, ◌+◌, ◌-◌, ◌<◌, ◌≤◌, List, [], ◌∷◌, ◌++◌}
use Rattle.std.proofs.Common.{length, take, drop, Some, refl, sym, ◌∙◌, ap, subst, inl, inr, arith}
use Rattle.std.proofs.lemmas.Bool.{cases_lt}
use Rattle.std.proofs.Math.Seq.{take-append_seam, take-length}
use Rattle.std.proofs.lemmas.List.{length-append, take-append-drop, take-append-le, take_all}
use Rattle.std.proofs.lemmas.Option.{none-some, slice_get_within}
use Rattle.std.specs.List.{slice_get}
use Rattle.oz_fields.specs.declared.block.Block.{Block}
use Rattle.oz_requests.specs.declared.request.AskId.{AskId}
use Rattle.oz_requests.specs.declared.request.Family.{Family}
use Rattle.oz_requests.specs.declared.request.Family.TheVariants.{Buckets, Keys, Allocation, Snapshots, Service}
use Rattle.oz_requests.specs.declared.reply.Reply.{Reply}
use Rattle.oz_requests.specs.Families.{family_of}
use Rattle.oz_namespace.specs.declared.namespace.Namespace.{Namespace}
use Rattle.oz_model.specs.Answers.{after}
use Rattle.oz_model.specs.Reach.{IsReached}
use Rattle.oz_core.specs.declared.event.Event.{Event}
use Rattle.oz_core.specs.declared.event.EventKind.TheVariants.{Decide}
use Rattle.oz_core.specs.declared.opening.Opening.{Opening}
use Rattle.oz_core.specs.Law.{DecideIsEnabled, IsLegal, IsLegalFrom}
use Rattle.oz_core.specs.Manager.{IsUsed, last_index, namespace_at, namespace_from, namespace_of}
use Rattle.oz_kept.specs.laws.Places.{later_front, legal_behind, legal_first}
use Rattle.oz_kept.specs.laws.Kept.{indexes_rise, last_next}
use Rattle.oz_kept.specs.laws.Deleted.{enabled_at, front_legal, legal_parts, legal_to}
use Rattle.oz_kept.specs.reopened.laws.Named.{reached_named}
use Rattle.oz_kept.specs.laws.Contents.{front_grows}
use Rattle.oz_store.specs.striped.laws.Stories.{decided_next}
use Rattle.oz_owned.specs.Left.{IsDecidedAt, LeftAt}
use Rattle.oz_owned.specs.laws.Staying.{stays_unreached}

module _ (opening : Opening) (story : List Event) (legal : IsLegal opening story) where
  -- indexes never fall
  pub index_within : (place later : ℕ) → place ≤ later → last_index opening (take place story) ≤ last_index opening (take later story)
  index_within place later le =
      subst (λ (l : List Event). last_index opening (take place story) ≤ last_index opening l) (sym (later_front story place later le))
      (indexes_rise opening 0 (take (later - place) (drop place story)) (take place story)
      (legal_to opening (take place story) (take (later - place) (drop place story)) (drop (later - place) (drop place story))
      (subst (IsLegalFrom opening (take place story)) (sym (take-append-drop (later - place) (drop place story))) (legal_parts opening story place legal))))

  -- right behind a Decide its index is the last
  index_behind : (place index : ℕ) → IsDecidedAt story place index → last_index opening (take (suc place) story) ≡ index
  index_behind place index at =
      let event : Event = record { seat = at.seat; kind = Decide at.id index at.reply at.batch } in
      ap (last_index opening) (front_grows story place event at.there) ∙ last_next opening (take place story) event

  module _ (block : Block) (since : ℕ) (left : LeftAt opening story block since) (place : ℕ) (used : IsUsed opening (take place story) block) where
    unreached_since : (IsReached (namespace_at opening story place) block → ⊥) → since ≤ last_index opening (take place story)
    unreached_since away = ⊎_elim
        (λ none. omega (arith, none))
        (λ (at, decided, reached). ⊎_elim
        (λ lt.
        let within = index_within (suc at) place (omega (arith, lt)) in
        let behind = index_behind at since decided in
        omega (arith, within, behind))
        (λ le. absurd (stays_unreached opening story block place at legal le used away reached))
        (cases_lt at place))
        left.before

    -- at a place where the block was used nothing reaches it just where the index has come to that at which it left reach
    pub since_decides : (IsReached (namespace_at opening story place) block → ⊥) ↔ (since ≤ last_index opening (take place story))
    since_decides = (unreached_since, λ le. left.away place used le)

-- ---- it is one index

is_service : (family : Family) → (family ≡ Service) ⊎ (family ≢ Service)
is_service Buckets = inr (λ e. absurd cc)
is_service Keys = inr (λ e. absurd cc)
is_service Allocation = inr (λ e. absurd cc)
is_service Snapshots = inr (λ e. absurd cc)
is_service Service = inl refl

-- an index rises by one at most
pub one_at_most : (opening : Opening) (before : List Event) (seat : ℕ) (id : AskId) (index : ℕ) (reply : Reply) (batch : List ℕ)
    → DecideIsEnabled opening before seat id index reply batch → index ≤ last_index opening before + 1
one_at_most opening before seat id index reply batch enabled = ⊎_elim (λ above. absurd (none above)) (λ le. le) (cases_lt (last_index opening before + 1) index)
  where
    changed : last_index opening before + 1 < index → after (namespace_of opening before) enabled.request reply ≢ namespace_of opening before
    changed above same = ⊎_elim
        (λ service. ⊎_elim (λ stays. absurd (omega (arith, above, stays))) (λ rises. absurd (omega (arith, above, rises)))
        (enabled.index_goes_on.service service))
        (λ other. absurd (omega (arith, above, enabled.index_goes_on.stays same other)))
        (is_service (family_of enabled.request))

    none : last_index opening before + 1 < index → ⊥
    none above = absurd (omega (arith, above, enabled.index_goes_on.changes (changed above)))

module _ (opening : Opening) (story : List Event) (legal : IsLegal opening story) (block : Block) where
  reached_used : (place : ℕ) → IsReached (namespace_at opening story place) block → IsUsed opening (take place story) block
  reached_used place reached = ⊎_elim
      (λ loaded. inl loaded)
      (λ granted. inr (inr (inr granted)))
      (reached_named opening (take place story) block (front_legal opening story legal place) reached)

  none_earlier : (since other : ℕ) → LeftAt opening story block since → LeftAt opening story block other → since < other → ⊥
  none_earlier since other left also lt = ⊎_elim
      (λ none. absurd (omega (arith, none, lt)))
      (λ (place, decided, reached).
      let enabled : DecideIsEnabled opening (take place story) decided.seat decided.id other decided.reply decided.batch =
      enabled_at opening story legal place (record { seat = decided.seat; kind = Decide decided.id other decided.reply decided.batch }) decided.there in
      let one = one_at_most opening (take place story) decided.seat decided.id other decided.reply decided.batch enabled in
      left.away place (reached_used place reached) (omega (arith, one, lt)) reached)
      also.before

  pub since_once : (since other : ℕ) → LeftAt opening story block since → LeftAt opening story block other → since ≡ other
  since_once since other left also = ⊎_elim
      (λ lt. absurd (none_earlier since other left also lt))
      (λ le. ⊎_elim (λ lt. absurd (none_earlier other since also left lt)) (λ ge. omega (arith, le, ge)) (cases_lt other since))
      (cases_lt since other)

-- ---- where it begins, and that it stays

got_before : {A : Type 0} (l more : List A) (n : ℕ) (x : A) → slice_get l n ≡ Some x → slice_get (l ++ more) n ≡ Some x
got_before [] more n x is = absurd (none-some x is)
got_before (y ∷ l) more zero x is = is
got_before (y ∷ l) more (suc n) x is = got_before l more n x is

got_seam : {A : Type 0} (l : List A) (x : A) → slice_get (l ++ x ∷ []) (length l) ≡ Some x
got_seam [] x = refl
got_seam (y ∷ l) x = got_seam l x

take_none : {A : Type 0} (n : ℕ) → take {A = A} n [] ≡ []
take_none zero = refl
take_none (suc n) = refl

-- what nothing reached as the run began left at 0
pub left_at_opening : (opening : Opening) (block : Block) → (IsReached opening.namespace block → ⊥) → LeftAt opening [] block 0
unfolding namespace_from
left_at_opening opening block away = record {
  away = λ place used le reached. away (subst (λ (l : List Event). IsReached (namespace_of opening l) block) (take_none place) reached);
  before = inl refl;
}

-- what was reached before a Decide, and isn't behind it, left at the Decide's index
pub left_now : (opening : Opening) (before : List Event) (seat : ℕ) (id : AskId) (index : ℕ) (reply : Reply) (batch : List ℕ) (block : Block)
    → IsLegal opening (before ++ record { seat = seat; kind = Decide id index reply batch } ∷ []) → IsReached (namespace_of opening before) block
    → (IsReached (namespace_of opening (before ++ record { seat = seat; kind = Decide id index reply batch } ∷ [])) block → ⊥)
    → LeftAt opening (before ++ record { seat = seat; kind = Decide id index reply batch } ∷ []) block index
left_now opening before seat id index reply batch block legal reached away = record {
  away = λ place used le there. ⊎_elim
      (λ lt.
      let front = take-append-le place before (event ∷ []) (omega (arith, lt)) in
      let within = index_within opening before (legal_to opening [] before (event ∷ []) legal) place (length before) (omega (arith, lt)) in
      let low = ap (last_index opening) front in
      let whole = ap (last_index opening) (take-length before) in
      absurd (omega (arith, le, low, within, whole, next)))
      (λ ge. away (subst (λ (l : List Event). IsReached (namespace_of opening l) block)
      (take_all place (before ++ event ∷ []) (omega (arith, ge, long))) there))
      (cases_lt place (length before + 1));
  before = inr (
    length before,
    record { seat = seat; id = id; reply = reply; batch = batch; there = got_seam before event },
    subst (λ (l : List Event). IsReached (namespace_of opening l) block) (sym (take-append_seam before (event ∷ []))) reached,
  );
}
  where
    event : Event
    event = record { seat = seat; kind = Decide id index reply batch }

    long : length (before ++ event ∷ []) ≡ length before + 1
    long = length-append before (event ∷ [])

    enabled : DecideIsEnabled opening before seat id index reply batch
    enabled = legal_first opening before event [] (legal_behind opening [] before (event ∷ []) legal)

    next : index ≡ last_index opening before + 1
    next = enabled.index_goes_on.changes (λ same.
        away (subst (λ (n : Namespace). IsReached n block) (sym (decided_next opening before seat id index reply batch enabled.request
        enabled.undecided ∙ same)) reached))

-- and that stays so
pub left_still : (opening : Opening) (before more : List Event) (block : Block) (since : ℕ) → IsLegal opening (before ++ more)
    → LeftAt opening before block since
    → IsUsed opening before block → (IsReached (namespace_of opening before) block → ⊥) → LeftAt opening (before ++ more) block since
left_still opening before more block since legal left used away = record {
  away = λ place later le reached. ⊎_elim
      (λ lt.
      let front = take-append-le place before more (omega (arith, lt)) in
      left.away place (subst (λ (l : List Event). IsUsed opening l block) front later) (subst (λ (l : List Event). since ≤ last_index opening l) front le)
      (subst (λ (l : List Event). IsReached (namespace_of opening l) block) front reached))
      (λ ge.
      let seam = take-append_seam before more in
      stays_unreached opening (before ++ more) block (length before) place legal ge (subst (λ (l : List Event). IsUsed opening l block) (sym seam) used)
      (λ there. away (subst (λ (l : List Event). IsReached (namespace_of opening l) block) seam there)) reached)
      (cases_lt place (length before));
  before = ⊎_elim
      (λ none. inl none)
      (λ (place, decided, reached).
      let event : Event = record { seat = decided.seat; kind = Decide decided.id since decided.reply decided.batch } in
      let within = slice_get_within before place event decided.there in
      let front = take-append-le place before more (omega (arith, within)) in
      inr (
        place,
        record { seat = decided.seat; id = decided.id; reply = decided.reply; batch = decided.batch; there = got_before before more place event decided.there },
        subst (λ (l : List Event). IsReached (namespace_of opening l) block) (sym front) reached,
      ))
      left.before;
}
