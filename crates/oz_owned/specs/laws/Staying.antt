-- What nothing reaches and no line works on stays so, and so does garbage.
use Rattle.std.proofs.Common.{◌≡◌, ⊎_elim, ℕ, ◌-◌, ◌≤◌, Bool, true, false, List, [], ◌∷◌, ◌++◌, length, take, drop}
use Rattle.std.proofs.Common.{is_some, Contains, cond, refl, sym, ◌∙◌, ap, subst, append-nil}
use Rattle.std.proofs.lemmas.Bool.{or_left}
use Rattle.std.proofs.Math.Seq.{take-length}
use Rattle.std.proofs.lemmas.List.{take-append-drop}
use Rattle.std.proofs.lemmas.List.Elements.{Contains-append_cases}
use Rattle.std.proofs.lemmas.List.Folds.{list_any-append}
use Rattle.std.specs.List.{list_any}
use Rattle.oz_fields.specs.declared.block.Block.{Block}
use Rattle.oz_namespace.specs.declared.namespace.Namespace.{Namespace}
use Rattle.oz_requests.specs.declared.reply.Reply.{Reply}
use Rattle.oz_requests.specs.declared.request.AskId.{AskId}
use Rattle.oz_model.specs.Reach.{IsReached}
use Rattle.oz_model.specs.laws.Members.{comes, joins}
use Rattle.oz_core.specs.declared.event.Event.{Event}
use Rattle.oz_core.specs.declared.event.EventKind.{EventKind}
use Rattle.oz_core.specs.declared.event.EventKind.TheVariants.{Decide}
use Rattle.oz_core.specs.declared.opening.Opening.{Opening}
use Rattle.oz_core.specs.Asks.{answer_to, is_told}
use Rattle.oz_core.specs.Law.{IsLegal, IsLegalFrom, KindIsEnabled, DecideIsEnabled}
use Rattle.oz_core.specs.Manager.{IsGarbage, IsUsed, kept_up_to, last_index, named_by, namespace_at, namespace_from, namespace_of, pinned, pinned_by}
use Rattle.oz_kept.specs.laws.Places.{later_front, legal_behind, legal_first, legal_rest, moved_over}
use Rattle.oz_kept.specs.laws.Reached.{granted_anew, in_none, in_one, never_back, stays_away, used_still}
use Rattle.oz_kept.specs.laws.Kept.{front, front_behind}
use Rattle.oz_kept.specs.laws.Deleted.{front_legal, legal_parts, legal_to}
use Rattle.oz_owned.specs.laws.Named.{named_reached}

-- ---- reach

-- a used block that nothing reaches isn't reached at any later place, nor by what a stop would leave there of an index that isn't
-- below that of the place
pub stays_unreached : (opening : Opening) (story : List Event) (block : Block) (place later : ℕ) → IsLegal opening story → place ≤ later
    → IsUsed opening (take place story) block → (IsReached (namespace_at opening story place) block → ⊥)
    → IsReached (namespace_at opening story later) block → ⊥
stays_unreached opening story block place later legal le used away reached = never_back opening story block place later legal le used away reached

pub stays_unkept : (opening : Opening) (story : List Event) (block : Block) (place later most : ℕ) → IsLegal opening story → place ≤ later
    → IsUsed opening (take place story) block → (IsReached (namespace_at opening story place) block → ⊥)
    → last_index opening (take place story) ≤ most → IsReached (kept_up_to opening most (take later story)) block → ⊥
unfolding namespace_from
stays_unkept opening story block place later most legal le used away within reached =
    let before = take place story in
    let rest = take (later - place) (drop place story) in
    let behind : IsLegalFrom opening before rest = legal_to opening before rest (drop (later - place) (drop place story))
    (subst (IsLegalFrom opening before) (sym (take-append-drop (later - place) (drop place story))) (legal_parts opening story place legal)) in
    let size = (front opening most rest before behind).size in
    let kept : kept_up_to opening most (take later story) ≡ namespace_of opening (before ++ take size rest) =
    ap (kept_up_to opening most) (later_front story place later le)
    ∙ front_behind opening most before rest behind within (front_legal opening story legal place) in
    stays_away opening block rest before size behind used away (subst (λ (n : Namespace). IsReached n block) kept reached)

-- ---- pins

-- what was told stays so
pub told_still : (client line : ℕ) (before more : List Event) → is_told client line before ≡ true → is_told client line (before ++ more) ≡ true
told_still client line before more told =
    let test = λ (event : Event). is_some (answer_to client line event.kind) in
    list_any-append test before more ∙ or_left (list_any test before) (list_any test more) told

-- who pins a block: a Decide that names it, of a line that wasn't told
record IsPinnedBy (story : List Event) (block : Block) (event : Event) : Type 0 where
  id : AskId
  index : ℕ
  reply : Reply
  batch : List ℕ
  is : event.kind ≡ Decide id index reply batch
  named : Contains (named_by reply) block
  untold : is_told id.client id.line story ≡ false

pinned_by_kind : (story : List Event) (block : Block) (event : Event) → Contains (pinned_by story event.kind) block → IsPinnedBy story block event
pinned_by_kind story block event has = by event.kind refl has
  where
    by : (kind : EventKind) → event.kind ≡ kind → Contains (pinned_by story kind) block → IsPinnedBy story block event
    by (Decide id index reply batch) e has = test (is_told id.client id.line story) refl has
      where
        test : (t : Bool) → is_told id.client id.line story ≡ t → Contains (cond t [] (named_by reply)) block → IsPinnedBy story block event
        test true told has = absurd (in_none block has)
        test false told has = record { id = id; index = index; reply = reply; batch = batch; is = e; named = has; untold = told }
    by kind e has = absurd (in_none block has)

pins : (story : List Event) (block : Block) (event : Event) → IsPinnedBy story block event → Contains (pinned_by story event.kind) block
pins story block event it =
    subst (λ (kind : EventKind). Contains (pinned_by story kind) block) (sym it.is)
    (subst (λ (t : Bool). Contains (cond t [] (named_by it.reply)) block) (sym it.untold) it.named)

not_told_before : (client line : ℕ) (before more : List Event) → is_told client line (before ++ more) ≡ false → is_told client line before ≡ false
not_told_before client line before more untold = by (is_told client line before) refl
  where
    by : (t : Bool) → is_told client line before ≡ t → is_told client line before ≡ false
    by false e = e
    by true e = absurd (let wrong : false ≡ true = sym untold ∙ told_still client line before more e in cc)

module _ (opening : Opening) (block : Block) where
  -- a Decide names no used block that nothing reaches
  names_none : (before : List Event) (seat : ℕ) (id : AskId) (index : ℕ) (reply : Reply) (batch : List ℕ)
      → DecideIsEnabled opening before seat id index reply batch
      → IsUsed opening before block → (IsReached (namespace_of opening before) block → ⊥) → Contains (named_by reply) block → ⊥
  names_none before seat id index reply batch enabled used away named = ⊎_elim
      (λ reached. away reached.reached)
      (granted_anew opening before (namespace_of opening before) enabled.request reply block enabled.one_thread enabled.granted used)
      (named_reached (namespace_of opening before) enabled.request reply block enabled.one_thread named)

  -- by one event more
  still_unpinned : (before : List Event) (event : Event) → KindIsEnabled opening before event.seat event.kind
      → IsUsed opening before block → (IsReached (namespace_of opening before) block → ⊥) → (Contains (pinned before) block → ⊥)
      → Contains (pinned (before ++ event ∷ [])) block → ⊥
  still_unpinned before event enabled used away unpinned has =
      let story = before ++ event ∷ [] in
      let origin = comes (λ (event : Event). pinned_by story event.kind) (before ++ event ∷ []) block has in
      let by = pinned_by_kind story block origin.item origin.has in
      ⊎_elim
      (λ earlier.
      let was : IsPinnedBy before block origin.item = record {
        id = by.id;
        index = by.index;
        reply = by.reply;
        batch = by.batch;
        is = by.is;
        named = by.named;
        untold = not_told_before by.id.client by.id.line before (event ∷ []) by.untold;
      } in
      unpinned (joins (λ (event : Event). pinned_by before event.kind) before origin.item block earlier (pins before block origin.item was)))
      (λ last.
      let same : event.kind ≡ Decide by.id by.index by.reply by.batch = ap (λ (e : Event). e.kind) (in_one event origin.item last) ∙ by.is in
      names_none before event.seat by.id by.index by.reply by.batch (subst (KindIsEnabled opening before event.seat) same enabled) used away by.named)
      (Contains-append_cases before (event ∷ []) origin.item origin.there)

  unpinned_from : (rest before : List Event) → IsLegalFrom opening before rest → IsUsed opening before block
      → (IsReached (namespace_of opening before) block → ⊥) → (Contains (pinned before) block → ⊥) → Contains (pinned (before ++ rest)) block → ⊥
  unpinned_from [] before legal used away unpinned has = unpinned (subst (λ (l : List Event). Contains (pinned l) block) (append-nil before) has)
  unpinned_from (event ∷ rest) before legal used away unpinned has =
      let first = legal_first opening before event rest legal in
      let legal_one : IsLegalFrom opening before (event ∷ []) = legal_to opening before (event ∷ []) rest legal in
      unpinned_from rest (before ++ event ∷ []) (legal_rest opening before event rest legal) (used_still opening before (event ∷ []) block used)
      (λ reached. stays_away opening block (event ∷ []) before 1 legal_one used away reached)
      (still_unpinned before event first used away unpinned)
      (subst (λ (l : List Event). Contains (pinned l) block) (sym (moved_over before rest event)) has)

-- a used block that nothing reaches and no line works on isn't pinned later
pub stays_unpinned : (opening : Opening) (story : List Event) (block : Block) (place later : ℕ) → IsLegal opening story → place ≤ later
    → IsUsed opening (take place story) block → (IsReached (namespace_at opening story place) block → ⊥)
    → (Contains (pinned (take place story)) block → ⊥) → Contains (pinned (take later story)) block → ⊥
stays_unpinned opening story block place later legal le used away unpinned has =
    let rest = take (later - place) (drop place story) in
    let behind : IsLegalFrom opening (take place story) rest = legal_to opening (take place story) rest (drop (later - place) (drop place story))
    (subst (IsLegalFrom opening (take place story)) (sym (take-append-drop (later - place) (drop place story))) (legal_parts opening story place legal)) in
    unpinned_from opening block rest (take place story) behind used away unpinned
    (subst (λ (l : List Event). Contains (pinned l) block) (later_front story place later le) has)

-- ---- garbage

pub garbage_stays : (opening : Opening) (story : List Event) (block : Block) (place later : ℕ) → IsLegal opening story → place ≤ later
    → IsGarbage opening (take place story) block → IsGarbage opening (take later story) block
garbage_stays opening story block place later legal le garbage = record {
  used = subst (λ (l : List Event). IsUsed opening l block) (sym (later_front story place later le))
      (used_still opening (take place story) (take (later - place) (drop place story)) block garbage.used);
  unreached = stays_unreached opening story block place later legal le garbage.used garbage.unreached;
  unpinned = stays_unpinned opening story block place later legal le garbage.used garbage.unreached garbage.unpinned;
}

-- of a story that goes on
pub garbage_still : (opening : Opening) (before more : List Event) (block : Block) → IsLegal opening (before ++ more)
    → IsGarbage opening before block → IsGarbage opening (before ++ more) block
garbage_still opening before more block legal garbage =
    record {
      used = used_still opening before more block garbage.used;
      unreached = λ reached. stays_away opening block more before (length more) (legal_behind opening [] before more legal) garbage.used garbage.unreached
          (subst (λ (l : List Event). IsReached (namespace_of opening (before ++ l)) block) (sym (take-length more)) reached);
      unpinned = unpinned_from opening block more before (legal_behind opening [] before more legal) garbage.used garbage.unreached garbage.unpinned;
    }
