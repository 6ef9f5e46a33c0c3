-- What a stop would leave of the namespace is what a front of the story made.
use Rattle.std.proofs.Common.{
  ◌≡◌,
  ◌≢◌,
  ⊎_elim,
  ◌⊎◌,
  ℕ,
  suc,
  ◌<◌,
  ◌≤◌,
  Bool,
  true,
  false,
  List,
  [],
  ◌∷◌,
  ◌++◌,
  length,
  take,
  Option,
  None,
  cond,
  inl,
  inr,
  refl,
  sym,
  ◌∙◌,
  ap,
  subst,
  append-nil,
  arith,
}
use Rattle.std.proofs.lemmas.Bool.{cases_lt, lt-leb, le-leb}
use Rattle.std.proofs.lemmas.List.Sums.{fold_push}
use Rattle.std.specs.Prelude.{nat_le}
use Rattle.std.specs.List.{cons_option}
use Rattle.oz_fields.specs.declared.block.Block.{Block}
use Rattle.oz_namespace.specs.declared.namespace.Namespace.{Namespace}
use Rattle.oz_requests.specs.declared.request.AskId.{AskId}
use Rattle.oz_requests.specs.declared.reply.Reply.{Reply}
use Rattle.oz_requests.specs.declared.request.Family.{Family}
use Rattle.oz_requests.specs.declared.request.Family.TheVariants.{Buckets, Keys, Allocation, Snapshots, Service}
use Rattle.oz_requests.specs.Families.{family_of}
use Rattle.oz_model.specs.Answers.{after}
use Rattle.oz_core.specs.declared.event.Event.{Event}
use Rattle.oz_core.specs.declared.event.EventKind.{EventKind}
use Rattle.oz_core.specs.declared.event.EventKind.TheVariants.{Decide}
use Rattle.oz_core.specs.declared.opening.Opening.{Opening}
use Rattle.oz_core.specs.Asks.{pending}
use Rattle.oz_core.specs.Law.{IsLegalFrom, KindIsEnabled, DecideIsEnabled}
use Rattle.oz_core.specs.Manager.{
  last_index,
  decided_index,
  namespace_step,
  namespace_after,
  namespace_from,
  namespace_of,
  kept_block,
  granted_block,
  block_of_reply,
}
use Rattle.oz_core.specs.Stories.{all_told, newer}
use Rattle.oz_kept.specs.laws.Places.{moved_over, legal_first, legal_rest, namespace_next, namespace_parts}

pub last_next : (opening : Opening) (before : List Event) (event : Event)
    → last_index opening (before ++ event ∷ []) ≡ newer (decided_index event.kind) (last_index opening before)
last_next opening before event = fold_push (λ told (event : Event). newer (decided_index event.kind) told) opening.last_index before event

is_service : (family : Family) → (family ≡ Service) ⊎ (family ≢ Service)
is_service Buckets = inr (λ e. absurd cc)
is_service Keys = inr (λ e. absurd cc)
is_service Allocation = inr (λ e. absurd cc)
is_service Snapshots = inr (λ e. absurd cc)
is_service Service = inl refl

-- an index never falls
pub index_rises : (opening : Opening) (before : List Event) (seat : ℕ) (id : AskId) (index : ℕ) (reply : Reply) (batch : List ℕ)
    → DecideIsEnabled opening before seat id index reply batch → last_index opening before ≤ index
index_rises opening before seat id index reply batch enabled = ⊎_elim (λ below. absurd (none below)) (λ le. le) (cases_lt index (last_index opening before))
  where
    changed : index < last_index opening before → after (namespace_of opening before) enabled.request reply ≢ namespace_of opening before
    changed below same = ⊎_elim
        (λ service. ⊎_elim (λ stays. absurd (omega (arith, below, stays))) (λ rises. absurd (omega (arith, below, rises)))
        (enabled.index_goes_on.service service))
        (λ other. absurd (omega (arith, below, enabled.index_goes_on.stays same other)))
        (is_service (family_of enabled.request))

    none : index < last_index opening before → ⊥
    none below = absurd (omega (arith, below, enabled.index_goes_on.changes (changed below)))

module _ (opening : Opening) (most : ℕ) where
  abbrev Counts : ℕ → Bool
  Counts index = nat_le index most

  -- behind an index that is above it nothing counts
  record Past (before : List Event) (kind : EventKind) : Type 0 where
    step : (namespace : Namespace) → namespace_step (λ index. nat_le index most) before namespace kind ≡ namespace
    block : kept_block most kind ≡ None
    above : most < newer (decided_index kind) (last_index opening before)

  decide_past : (before : List Event) (id : AskId) (index : ℕ) (reply : Reply) (batch : List ℕ) → most < index → Past before (Decide id index reply batch)
  decide_past before id index reply batch above =
      let out : nat_le index most ≡ false = lt-leb index most above in
      record {
        step = λ namespace. ap (λ (t : Bool). cond t (namespace_after (pending id before) namespace reply) namespace) out;
        block = ap (λ (t : Bool). cond t (block_of_reply reply) None) out;
        above = above;
      }

  kind_past : (before : List Event) (seat : ℕ) (kind : EventKind) → KindIsEnabled opening before seat kind → most < last_index opening before → Past before kind
  kind_past before seat (Decide id index reply batch) enabled above =
      let rises = index_rises opening before seat id index reply batch enabled in
      decide_past before id index reply batch (omega (arith, above, rises))
  kind_past before seat kind enabled above = record { step = λ namespace. refl; block = refl; above = above }

  record NoMore (before rest : List Event) : Type 0 where
    namespace : (namespace : Namespace) → namespace_from (λ index. nat_le index most) before namespace rest ≡ namespace
    blocks : all_told (kept_block most) rest ≡ []

  no_more : (rest before : List Event) → IsLegalFrom opening before rest → most < last_index opening before → NoMore before rest
  unfolding namespace_from
  no_more [] before legal above = record { namespace = λ namespace. refl; blocks = refl }
  no_more (event ∷ rest) before legal above =
      let past = kind_past before event.seat event.kind (legal_first opening before event rest legal) above in
      let later = no_more rest (before ++ event ∷ []) (legal_rest opening before event rest legal)
      (subst (λ n. most < n) (sym (last_next opening before event)) past.above) in
      record {
        namespace = λ namespace. later.namespace (namespace_step (λ index. nat_le index most) before namespace event.kind) ∙ past.step namespace;
        blocks = ap (λ (o : Option Block). cons_option o (all_told (kept_block most) rest)) past.block ∙ later.blocks;
      }

  -- before it all does
  record Alike (before : List Event) (kind : EventKind) : Type 0 where
    within : last_index opening before ≤ most → newer (decided_index kind) (last_index opening before) ≤ most
    step : (namespace : Namespace) → namespace_step (λ index. nat_le index most) before namespace kind ≡ namespace_step (λ index. true) before namespace kind
    block : kept_block most kind ≡ granted_block kind

  alike_or_past : (before : List Event) (kind : EventKind) → Alike before kind ⊎ Past before kind
  alike_or_past before (Decide id index reply batch) = ⊎_elim
      (λ above. inr (decide_past before id index reply batch above))
      (λ le.
      let counts : nat_le index most ≡ true = le-leb index most le in
      inl (record {
        within = λ below. le;
        step = λ namespace. ap (λ (t : Bool). cond t (namespace_after (pending id before) namespace reply) namespace) counts;
        block = ap (λ (t : Bool). cond t (block_of_reply reply) None) counts;
      }))
      (cases_lt most index)
  alike_or_past before kind = inl (record { within = λ below. below; step = λ namespace. refl; block = refl })

  -- the front of a story that is kept
  pub record Front (before rest : List Event) : Type 0 where
    pub size : ℕ
    pub within : size ≤ length rest
    pub index : last_index opening before ≤ most → last_index opening (before ++ take size rest) ≤ most
    pub namespace : namespace_from (λ index. nat_le index most) before (namespace_of opening before) rest ≡ namespace_of opening (before ++ take size rest)
    pub blocks : all_told (kept_block most) rest ≡ all_told granted_block (take size rest)

  pub front : (rest before : List Event) → IsLegalFrom opening before rest → Front before rest
  unfolding namespace_from
  front [] before legal =
      record {
        size = 0;
        within = omega arith;
        index = λ below. subst (λ (l : List Event). last_index opening l ≤ most) (sym (append-nil before)) below;
        namespace = ap (namespace_of opening) (sym (append-nil before));
        blocks = refl;
      }
  front (event ∷ rest) before legal = ⊎_elim
      (λ alike.
      let later = front rest (before ++ event ∷ []) (legal_rest opening before event rest legal) in
      record {
        size = suc later.size;
        within = omega (arith, later.within);
        index = λ below. subst (λ (l : List Event). last_index opening l ≤ most) (moved_over before (take later.size rest) event)
            (later.index (subst (λ n. n ≤ most) (sym (last_next opening before event)) (alike.within below)));
        namespace =
            ap (λ (n : Namespace). namespace_from (λ index. nat_le index most) (before ++ event ∷ []) n rest)
            (alike.step (namespace_of opening before) ∙ sym (namespace_next opening before event))
            ∙ later.namespace ∙ ap (namespace_of opening) (moved_over before (take later.size rest) event);
        blocks =
            ap (λ (o : Option Block). cons_option o (all_told (kept_block most) rest)) alike.block
            ∙ ap (λ (l : List Block). cons_option (granted_block event.kind) l) later.blocks;
      })
      (λ past.
      let none = no_more rest (before ++ event ∷ []) (legal_rest opening before event rest legal)
      (subst (λ n. most < n) (sym (last_next opening before event)) past.above) in
      record {
        size = 0;
        within = omega arith;
        index = λ below. subst (λ (l : List Event). last_index opening l ≤ most) (sym (append-nil before)) below;
        namespace = none.namespace (namespace_step (λ index. nat_le index most) before (namespace_of opening before) event.kind)
            ∙ past.step (namespace_of opening before)
            ∙ ap (namespace_of opening) (sym (append-nil before));
        blocks = ap (λ (o : Option Block). cons_option o (all_told (kept_block most) rest)) past.block ∙ none.blocks;
      })
      (alike_or_past before event.kind)

  -- up to a place whose index isn't above it all counts
  pub record AllCount (before rest : List Event) : Type 0 where
    pub namespace : namespace_from (λ index. nat_le index most) before (namespace_of opening before) rest ≡ namespace_of opening (before ++ rest)

  kind_index : (before : List Event) (seat : ℕ) (kind : EventKind) → KindIsEnabled opening before seat kind
      → last_index opening before ≤ newer (decided_index kind) (last_index opening before)
  kind_index before seat (Decide id index reply batch) enabled = index_rises opening before seat id index reply batch enabled
  kind_index before seat kind enabled = omega arith

  pub indexes_rise : (rest before : List Event) → IsLegalFrom opening before rest → last_index opening before ≤ last_index opening (before ++ rest)
  indexes_rise [] before legal = subst (λ (l : List Event). last_index opening before ≤ last_index opening l) (sym (append-nil before)) (omega arith)
  indexes_rise (event ∷ rest) before legal =
      let first = kind_index before event.seat event.kind (legal_first opening before event rest legal) in
      let later = indexes_rise rest (before ++ event ∷ []) (legal_rest opening before event rest legal) in
      subst (λ (l : List Event). last_index opening before ≤ last_index opening l) (moved_over before rest event)
      (omega (arith, first, later, last_next opening before event))

  pub all_count : (rest before : List Event) → IsLegalFrom opening before rest → last_index opening (before ++ rest) ≤ most → AllCount before rest
  unfolding namespace_from
  all_count [] before legal le = record { namespace = ap (namespace_of opening) (sym (append-nil before)) }
  all_count (event ∷ rest) before legal le =
      let behind = legal_rest opening before event rest legal in
      let end = subst (λ (l : List Event). last_index opening l ≤ most) (sym (moved_over before rest event)) le in
      let later = all_count rest (before ++ event ∷ []) behind end in
      ⊎_elim
      (λ alike.
      record {
        namespace =
            ap (λ (n : Namespace). namespace_from (λ index. nat_le index most) (before ++ event ∷ []) n rest)
            (alike.step (namespace_of opening before) ∙ sym (namespace_next opening before event))
            ∙ later.namespace ∙ ap (namespace_of opening) (moved_over before rest event);
      })
      (λ past.
      let rises = indexes_rise rest (before ++ event ∷ []) behind in
      absurd (omega (arith, past.above, rises, end, last_next opening before event)))
      (alike_or_past before event.kind)

  -- what it leaves of a story that goes on is what a longer front made
  pub front_behind : (before rest : List Event) → (behind : IsLegalFrom opening before rest) → last_index opening before ≤ most → IsLegalFrom opening [] before
      → namespace_from (λ index. nat_le index most) [] opening.namespace (before ++ rest)
      ≡ namespace_of opening (before ++ take (front rest before behind).size rest)
  unfolding namespace_from
  front_behind before rest behind le legal =
      namespace_parts (λ index. nat_le index most) [] opening.namespace before rest
      ∙ ap (λ (n : Namespace). namespace_from (λ index. nat_le index most) before n rest) (all_count before [] legal le).namespace
      ∙ (front rest before behind).namespace
