-- Each index has a front of a legal story: the longest beginning that has no Decide above it.
use Rattle.std.proofs.Common.{◌≡◌, ⊎_elim, ℕ, zero, suc, ◌+◌, ◌-◌, length, append-nil, ◌<◌, ◌≤◌, Bool, true, List}
use Rattle.std.proofs.Common.{[], ◌∷◌, ◌++◌, take, drop, Option, Some, None, Contains, cond, refl, sym, ◌∙◌, ap}
use Rattle.std.proofs.Common.{subst, arith}
use Rattle.std.proofs.lemmas.Bool.{cases_lt, le-leb, lt-leb}
use Rattle.std.proofs.lemmas.List.{take-append-drop}
use Rattle.std.proofs.lemmas.List.Elements.{filter_map-append}
use Rattle.oz_kept.specs.laws.Deleted.{first_or_later, legal_to}
use Rattle.oz_kept.specs.laws.Reached.{in_none}
use Rattle.std.proofs.lemmas.Option.{none-some, same_Some}
use Rattle.std.specs.List.{AllByRecursion, cons_option}
use Rattle.std.specs.Prelude.{nat_le}
use Rattle.oz_fields.specs.declared.block.Block.{Block}
use Rattle.oz_namespace.specs.declared.namespace.Namespace.{Namespace}
use Rattle.oz_core.specs.declared.event.Event.{Event}
use Rattle.oz_core.specs.declared.event.EventKind.{EventKind}
use Rattle.oz_core.specs.declared.event.EventKind.TheVariants.{Decide}
use Rattle.oz_core.specs.declared.opening.Opening.{Opening}
use Rattle.oz_core.specs.Asks.{pending}
use Rattle.oz_core.specs.Law.{IsLegal, IsLegalFrom, KindIsEnabled}
use Rattle.oz_core.specs.Manager.{block_of_reply, decided_index, granted_block, kept_block, kept_up_to, last_index}
use Rattle.oz_core.specs.Manager.{namespace_after, namespace_from, namespace_of, namespace_step}
use Rattle.oz_core.specs.Stories.{all_told, newer}
use Rattle.std.proofs.Math.Seq.{take-append-add}
use Rattle.oz_store.specs.striped.laws.Indexes.{decided_within}
use Rattle.oz_kept.specs.laws.Places.{legal_first, legal_rest, moved_over, namespace_parts}
use Rattle.oz_kept.specs.laws.Kept.{index_rises, last_next}
use Rattle.oz_owned.specs.Front.{IsFrontOf}

-- where the event is a Decide, its index is so
abbrev IsAt : (ℕ → Type 0) → Event → Type 0
IsAt Holds event = (index : ℕ) → decided_index event.kind ≡ Some index → Holds index

abbrev UpTo : ℕ → Event → Type 0
UpTo most = IsAt (λ index. index ≤ most)

abbrev Over : ℕ → Event → Type 0
Over most = IsAt (λ index. most < index)

record IsCut (most : ℕ) (story : List Event) : Type 0 where
  size : ℕ
  low : AllByRecursion (UpTo most) (take size story)
  high : AllByRecursion (Over most) (drop size story)
  -- it goes as far as it may
  stops : (event : Event) (rest : List Event) → drop size story ≡ event ∷ rest → (index : ℕ) × (decided_index event.kind ≡ Some index) × (most < index)

same_head : (x y : Event) (a b : List Event) → x ∷ a ≡ y ∷ b → x ≡ y
same_head x y a b e = cc

module _ (opening : Opening) (most : ℕ) where
  kind_over : (before : List Event) (seat : ℕ) (kind : EventKind) → KindIsEnabled opening before seat kind → most < last_index opening before
      → (index : ℕ) → decided_index kind ≡ Some index → most < index
  kind_over before seat (Decide id given reply batch) enabled above index is =
      let rises = index_rises opening before seat id given reply batch enabled in
      let same = same_Some given index is in
      omega (arith, above, rises, same)
  kind_over before seat kind enabled above index is = absurd (none-some index is)

  next_over : (before : List Event) (event : Event) → KindIsEnabled opening before event.seat event.kind → most < last_index opening before
      → most < last_index opening (before ++ event ∷ [])
  next_over before event enabled above = by (decided_index event.kind) refl
    where
      by : (o : Option ℕ) → decided_index event.kind ≡ o → most < last_index opening (before ++ event ∷ [])
      by None e = subst (λ n. most < n) (sym (last_next opening before event ∙ ap (λ (o : Option ℕ). newer o (last_index opening before)) e)) above
      by (Some index) e =
          subst (λ n. most < n) (sym (last_next opening before event ∙ ap (λ (o : Option ℕ). newer o (last_index opening before)) e))
          (kind_over before event.seat event.kind enabled above index e)

  all_over : (rest before : List Event) → IsLegalFrom opening before rest → most < last_index opening before → AllByRecursion (Over most) rest
  all_over [] before legal above = tt
  all_over (event ∷ rest) before legal above =
      let enabled = legal_first opening before event rest legal in (
        kind_over before event.seat event.kind enabled above,
        all_over rest (before ++ event ∷ []) (legal_rest opening before event rest legal)
            (next_over before event enabled above),
      )

  cut : (rest before : List Event) → IsLegalFrom opening before rest → IsCut most rest
  cut [] before legal = record { size = 0; low = tt; high = tt; stops = λ event rest e. absurd cc }
  cut (event ∷ rest) before legal = by (decided_index event.kind) refl (cut rest (before ++ event ∷ []) behind)
    where
      behind : IsLegalFrom opening (before ++ event ∷ []) rest
      behind = legal_rest opening before event rest legal

      later : UpTo most event → IsCut most rest → IsCut most (event ∷ rest)
      later first it = record { size = suc it.size; low = (first, it.low); high = it.high; stops = it.stops }

      by : (o : Option ℕ) → decided_index event.kind ≡ o → IsCut most rest → IsCut most (event ∷ rest)
      by None e it = later (λ index is. absurd (none-some index (sym e ∙ is))) it
      by (Some index) e it = ⊎_elim
          (λ above.
          let grown : last_index opening (before ++ event ∷ []) ≡ index = last_next opening before event
          ∙ ap (λ (o : Option ℕ). newer o (last_index opening before)) e in
          record {
            size = 0;
            low = tt;
            high = (
              λ other is. subst (λ n. most < n) (same_Some index other (sym e
                  ∙ is)) above,
              all_over rest (before ++ event ∷ []) behind (subst (λ n. most < n) (sym grown) above),
            );
            stops = λ other others same. (index, ap (λ (e : Event). decided_index e.kind) (sym (same_head event other rest others same)) ∙ e, above);
          })
          (λ le. later (λ other is. subst (λ n. n ≤ most) (same_Some index other (sym e ∙ is)) le) it)
          (cases_lt most index)

-- ---- what counts

module _ (most : ℕ) where
  pub step_low : (before : List Event) (namespace : Namespace) (kind : EventKind) → ((index : ℕ) → decided_index kind ≡ Some index → index ≤ most)
      → namespace_step (λ index. nat_le index most) before namespace kind ≡ namespace_step (λ index. true) before namespace kind
  step_low before namespace (Decide id index reply batch) low =
      ap (λ (t : Bool). cond t (namespace_after (pending id before) namespace reply) namespace) (le-leb index most (low index refl))
  step_low before namespace kind low = refl

  pub step_high : (before : List Event) (namespace : Namespace) (kind : EventKind) → ((index : ℕ) → decided_index kind ≡ Some index → most < index)
      → namespace_step (λ index. nat_le index most) before namespace kind ≡ namespace
  step_high before namespace (Decide id index reply batch) high =
      ap (λ (t : Bool). cond t (namespace_after (pending id before) namespace reply) namespace) (lt-leb index most (high index refl))
  step_high before namespace kind high = refl

  from_low : (story before : List Event) (namespace : Namespace) → AllByRecursion (UpTo most) story
      → namespace_from (λ index. nat_le index most) before namespace story ≡ namespace_from (λ index. true) before namespace story
  unfolding namespace_from
  from_low [] before namespace low = refl
  from_low (event ∷ story) before namespace low =
      ap (λ (n : Namespace). namespace_from (λ index. nat_le index most) (before ++ event ∷ []) n story) (step_low before namespace event.kind low.0)
      ∙ from_low story (before ++ event ∷ []) (namespace_step (λ index. true) before namespace event.kind) low.1

  from_high : (story before : List Event) (namespace : Namespace) → AllByRecursion (Over most) story
      → namespace_from (λ index. nat_le index most) before namespace story ≡ namespace
  unfolding namespace_from
  from_high [] before namespace high = refl
  from_high (event ∷ story) before namespace high =
      from_high story (before ++ event ∷ []) (namespace_step (λ index. nat_le index most) before namespace event.kind) high.1
      ∙ step_high before namespace event.kind high.0

  kept_front : (opening : Opening) (front behind : List Event) → AllByRecursion (UpTo most) front → AllByRecursion (Over most) behind
      → kept_up_to opening most (front ++ behind) ≡ namespace_of opening front
  kept_front opening front behind low high =
      namespace_parts (λ index. nat_le index most) [] opening.namespace front behind
      ∙ from_high behind front (namespace_from (λ index. nat_le index most) [] opening.namespace front) high
      ∙ from_low front [] opening.namespace low

  pub block_low : (kind : EventKind) → ((index : ℕ) → decided_index kind ≡ Some index → index ≤ most) → granted_block kind ≡ kept_block most kind
  block_low (Decide id index reply batch) low = sym (ap (λ (t : Bool). cond t (block_of_reply reply) None) (le-leb index most (low index refl)))
  block_low kind low = refl

  blocks_low : (story : List Event) → AllByRecursion (UpTo most) story → all_told granted_block story ≡ all_told (kept_block most) story
  blocks_low [] low = refl
  blocks_low (event ∷ story) low =
      ap (λ (o : Option Block). cons_option o (all_told granted_block story)) (block_low event.kind low.0)
      ∙ ap (λ (l : List Block). cons_option (kept_block most event.kind) l) (blocks_low story low.1)

-- ---- how far it goes

module _ (opening : Opening) (most : ℕ) where
  next_low : (before : List Event) (event : Event) → UpTo most event → last_index opening before ≤ most → last_index opening (before ++ event ∷ []) ≤ most
  next_low before event low le = by (decided_index event.kind) refl
    where
      by : (o : Option ℕ) → decided_index event.kind ≡ o → last_index opening (before ++ event ∷ []) ≤ most
      by None e = subst (λ n. n ≤ most) (sym (last_next opening before event ∙ ap (λ (o : Option ℕ). newer o (last_index opening before)) e)) le
      by (Some index) e = subst (λ n. n ≤ most) (sym (last_next opening before event
          ∙ ap (λ (o : Option ℕ). newer o (last_index opening before)) e)) (low index e)

  low_from : (story before : List Event) → AllByRecursion (UpTo most) story → last_index opening before ≤ most → last_index opening (before ++ story) ≤ most
  low_from [] before low le = subst (λ (l : List Event). last_index opening l ≤ most) (sym (append-nil before)) le
  low_from (event ∷ story) before low le =
      subst (λ (l : List Event). last_index opening l ≤ most) (moved_over before story event)
      (low_from story (before ++ event ∷ []) low.1 (next_low before event low.0 le))

  low_last : (story : List Event) → AllByRecursion (UpTo most) story → opening.last_index ≤ most → last_index opening story ≤ most
  low_last story low le = low_from story [] low le

  pub over_at : (seat : ℕ) (kind : EventKind) (index : ℕ) → decided_index kind ≡ Some index → (story : List Event) → IsLegal opening story
      → Contains story (record { seat = seat; kind = kind }) → index ≤ last_index opening story
  over_at seat (Decide id given reply batch) index is story legal there =
      subst (λ n. n ≤ last_index opening story) (same_Some given index is) (decided_within opening story legal seat id given reply batch there)
  over_at seat kind index is story legal there = absurd (none-some index is)

  -- a beginning whose last index isn't above it is within
  goes_past : (start rest : List Event) → IsLegal opening start → (it : IsCut most (start ++ rest)) → last_index opening start ≤ most
      → (more : List Event) × (take it.size (start ++ rest) ≡ start ++ more)
  goes_past start rest legal it le = ⊎_elim
      (λ lt.
      let last = first_of start rest it.size lt in
      let stop = it.stops last.0 last.1 last.2 in
      let within = over_at last.0.seat last.0.kind stop.0 stop.1 start legal last.3 in
      absurd (omega (arith, within, stop.2, le)))
      (λ ge.
      let parts : it.size ≡ length start + (it.size - length start) = omega (arith, ge) in
      (take (it.size - length start) rest, ap (λ n. take n (start ++ rest)) parts ∙ take-append-add start rest (it.size - length start)))
      (cases_lt it.size (length start))
    where
      first_of : (start rest : List Event) (n : ℕ) → n < length start
          → (event : Event) × (others : List Event) × (drop n (start ++ rest) ≡ event ∷ others) × Contains start event
      first_of [] rest n lt = absurd (omega (arith, lt))
      first_of (event ∷ start) rest zero lt = (event, start ++ rest, refl, (0, omega arith, refl))
      first_of (event ∷ start) rest (suc n) lt =
          let later = first_of start rest n (omega (arith, lt)) in
          (later.0, later.1, later.2, (suc later.3.0, omega (arith, later.3.1), later.3.2))

-- ---- the front

module _ (most : ℕ) where
  none_granted : (story : List Event) → AllByRecursion (Over most) story → all_told (kept_block most) story ≡ []
  none_granted [] high = refl
  none_granted (event ∷ story) high =
      ap (λ (o : Option Block). cons_option o (all_told (kept_block most) story)) (by event.kind high.0) ∙ none_granted story high.1
    where
      by : (kind : EventKind) → ((index : ℕ) → decided_index kind ≡ Some index → most < index) → kept_block most kind ≡ None
      by (Decide id index reply batch) high = ap (λ (t : Bool). cond t (block_of_reply reply) None) (lt-leb index most (high index refl))
      by kind high = refl

  all_above : (story : List Event) → AllByRecursion (Over most) story → (event : Event) (index : ℕ) → Contains story event
      → decided_index event.kind ≡ Some index → most < index
  all_above [] high event index there is = absurd (in_none event there)
  all_above (first ∷ story) high event index there is = ⊎_elim
      (λ same. high.0 index (ap (λ (e : Event). decided_index e.kind) same ∙ is))
      (λ later. all_above story high.1 event index later is)
      (first_or_later first event story there)

pub front_of : (opening : Opening) (story : List Event) (most : ℕ) → IsLegal opening story → (front : List Event) × IsFrontOf opening most story front
front_of opening story most legal = (
  take it.size story,
  record {
    behind = drop it.size story;
    parts = parts;
    namespace = ap (kept_up_to opening most) parts ∙ kept_front most opening (take it.size story) (drop it.size story) it.low it.high;
    granted =
        ap (all_told (kept_block most)) parts
        ∙ filter_map-append (λ (event : Event). kept_block most event.kind) (take it.size story) (drop it.size story)
        ∙ ap (λ (l : List Block). all_told (kept_block most) (take it.size story) ++ l) (none_granted most (drop it.size story) it.high)
        ∙ append-nil (all_told (kept_block most) (take it.size story))
        ∙ sym (blocks_low most (take it.size story) it.low);
    within = λ le. low_last opening most (take it.size story) it.low le;
    longest = λ start rest same le.
        let legal_start = legal_to opening [] start rest (subst (IsLegal opening) same legal) in
        let past : (more : List Event) × (take it.size (start ++ rest) ≡ start ++ more) =
        goes_past opening most start rest legal_start (record {
          size = it.size;
          low = subst (λ (l : List Event). AllByRecursion (UpTo most) (take it.size l)) same it.low;
          high = subst (λ (l : List Event). AllByRecursion (Over most) (drop it.size l)) same it.high;
          stops = λ event others e. it.stops event others (ap (λ (l : List Event). drop it.size l) same ∙ e);
        }) le in
        (past.0, ap (λ (l : List Event). take it.size l) same ∙ past.1);
    above = λ event index there is. all_above most (drop it.size story) it.high event index there is;
  },
)
  where
    it : IsCut most story
    it = cut opening most story [] legal

    parts : story ≡ take it.size story ++ drop it.size story
    parts = sym (take-append-drop it.size story)
