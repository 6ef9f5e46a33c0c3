-- What a story makes of a datanode stays so where the log has more: no two transactions have one number.
use Rattle.std.proofs.Common.{◌≡◌, ⊎_elim, ℕ, suc, ◌==◌, Bool, true, false, ◌&&◌, List, [], ◌∷◌, ◌++◌, take, drop}
use Rattle.std.proofs.Common.{fold, map, Option, None, Some, Contains, cond, max, refl, sym, ◌∙◌, ap, subst, arith}
use Rattle.std.proofs.lemmas.Bool.{eqb-true, and_parts}
use Rattle.std.proofs.lemmas.List.{take-append-drop}
use Rattle.std.proofs.lemmas.List.Elements.{filter_map-append, Contains-append_cases, Contains-append_left, Contains-append_right}
use Rattle.std.proofs.lemmas.List.Sums.{fold-append}
use Rattle.std.specs.List.{flat_map, list_any}
use Rattle.oz_dellog.specs.declared.txn.Txn.{Txn}
use Rattle.oz_fields.specs.declared.block.Block.{Block}
use Rattle.oz_model.specs.laws.Members.{passing, same_test}
use Rattle.oz_entries.specs.Node.{Node}
use Rattle.oz_core.specs.declared.event.Event.{Event}
use Rattle.oz_core.specs.declared.event.EventKind.{EventKind}
use Rattle.oz_core.specs.declared.event.EventKind.TheVariants.{Delete}
use Rattle.oz_core.specs.declared.opening.Opening.{Opening}
use Rattle.oz_core.specs.declared.opening.Unretired.{Unretired}
use Rattle.oz_core.specs.Law.{IsLegal, KindIsEnabled}
use Rattle.oz_core.specs.Nodes.{was_closed, is_closed, closed_after, was_held, holds, held_after, length_in, put_length}
use Rattle.oz_core.specs.Scm.{logs, logged}
use Rattle.oz_core.specs.Stories.{all_told, has_event, last_told, newer}
use Rattle.oz_kept.specs.reopened.Left.{lengths_of, was_greatest, greatest_of, greatest_after, is_txn_of}
use Rattle.oz_kept.specs.laws.Deleted.{found_at, enabled_at, one_passes}
use Rattle.oz_halted.specs.halting.Story.{IsOfStory}
use Rattle.oz_halted.specs.halting.laws.Unchanged.{changes, holds_still, closed_still, greatest_still}

-- no two transactions of a log have one number
abbrev pub AreApart : List Txn → Type 0
AreApart txns = (txn other : Txn) → Contains txns txn → Contains txns other → txn.number ≡ other.number → txn ≡ other

-- what is logged stays in the log
pub log_grows : (opening : Opening) (before behind : List Event) (txn : Txn) → Contains (logs opening before) txn
    → Contains (logs opening (before ++ behind)) txn
log_grows opening before behind txn there =
    let all = map (λ (unretired : Unretired). unretired.txn) opening.unretired in
    ⊎_elim
    (λ old. Contains-append_left all (all_told logged (before ++ behind)) txn old)
    (λ new. Contains-append_right all (all_told logged (before ++ behind)) txn
    (subst (λ (l : List Txn). Contains l txn) (sym (filter_map-append (λ (event : Event). logged event.kind) before behind))
    (Contains-append_left (all_told logged before) (all_told logged behind) txn new)))
    (Contains-append_cases all (all_told logged before) txn there)

-- two ways to go on from what was are one, where each event does the same
alike : {X : Type 0} (one other : X → Event → X) (story : List Event)
    → ((event : Event) → Contains story event → (x : X) → one x event ≡ other x event) → (x : X)
    → fold one x story ≡ fold other x story
alike one other [] each x = refl
alike one other (event ∷ story) each x =
    alike one other story (λ later there. each later (suc there.0, omega (arith, there.1), there.2)) (one x event)
    ∙ ap (λ y. fold other y story) (each event (0, omega arith, refl) x)

-- ---- a log that has the transactions of a story, and others

module _ (opening : Opening) (front : List Event) (legal : IsLegal opening front) (txns : List Txn)
    (more : (txn : Txn) → Contains (logs opening front) txn → Contains txns txn) (apart : AreApart txns) where
  -- a test of which number it is finds the same
  same_found : (number : ℕ) (is : Txn → Bool) → ((txn : Txn) → is txn ≡ true → txn.number ≡ number) → (own : Txn)
      → own.number ≡ number → Contains (logs opening front) own → list_any is txns ≡ list_any is (logs opening front)
  same_found number is of own its there =
      same_test (list_any is txns) (list_any is (logs opening front))
      (λ some.
      let found = passing is txns some in
      let same = apart found.item own found.there (more own there) (of found.item found.so ∙ sym its) in
      one_passes is (logs opening front) own there (ap is (sym same) ∙ found.so))
      (λ some.
      let found = passing is (logs opening front) some in
      one_passes is txns found.item (more found.item found.there) found.so)

  in_front : (place : ℕ) (txn : Txn) → Contains (logs opening (take place front)) txn → Contains (logs opening front) txn
  in_front place txn there =
      subst (λ (l : List Event). Contains (logs opening l) txn) (take-append-drop place front)
      (log_grows opening (take place front) (drop place front) txn there)

  module _ (dn : ℕ) where
    kind_holds : (place : ℕ) (seat : ℕ) (kind : EventKind) → KindIsEnabled opening (take place front) seat kind → (block : Block)
        → held_after txns dn block kind ≡ held_after (logs opening front) dn block kind
    kind_holds place seat (Delete other number locals) enabled block =
        ap (λ (t : Bool). cond (other == dn && (t && list_any (λ local. local == block.local) locals)) (Some false) None)
        (same_found number (λ (txn : Txn). txn.number == number && txn.container == block.container)
        (λ txn e. eqb-true txn.number number (and_parts (txn.number == number) (txn.container == block.container) e).0)
        enabled.txn enabled.of_number (in_front place enabled.txn enabled.logged))
    kind_holds place seat kind enabled block = refl

    kind_applies : (place : ℕ) (seat : ℕ) (kind : EventKind) → KindIsEnabled opening (take place front) seat kind
        → (container most : ℕ) → greatest_after txns dn container most kind ≡ greatest_after (logs opening front) dn container most kind
    kind_applies place seat (Delete other number locals) enabled container most =
        ap (λ (t : Bool). cond (other == dn && t) (max most number) most)
        (same_found number (is_txn_of number container)
        (λ txn e. eqb-true txn.number number (and_parts (txn.number == number) (txn.container == container) e).0)
        enabled.txn enabled.of_number (in_front place enabled.txn enabled.logged))
    kind_applies place seat kind enabled container most = refl

    at : (event : Event) → (there : Contains front event) → KindIsEnabled opening (take there.0 front) event.seat event.kind
    at event there = enabled_at opening front legal there.0 event (found_at front event there)

    pub holds_by : (block : Block) → last_told (held_after txns dn block) (was_held opening dn block) front ≡ holds opening front dn block
    holds_by block =
        alike (λ (told : Bool) (event : Event). newer (held_after txns dn block event.kind) told)
        (λ (told : Bool) (event : Event). newer (held_after (logs opening front) dn block event.kind) told) front
        (λ event there told. ap (λ (o : Option Bool). newer o told) (kind_holds there.0 event.seat event.kind (at event there) block))
        (was_held opening dn block)

    pub greatest_by : (container : ℕ)
        → fold (λ (most : ℕ) (event : Event). greatest_after txns dn container most event.kind) (was_greatest opening dn container) front
        ≡ greatest_of opening front dn container
    greatest_by container =
        alike (λ (most : ℕ) (event : Event). greatest_after txns dn container most event.kind)
        (λ (most : ℕ) (event : Event). greatest_after (logs opening front) dn container most event.kind) front
        (λ event there most. kind_applies there.0 event.seat event.kind (at event there) container most)
        (was_greatest opening dn container)

-- ---- lengths

pub lengths_grow : (opening : Opening) (before behind : List Event) (block : Block) (count : ℕ)
    → Contains (lengths_of opening before block) count → Contains (lengths_of opening (before ++ behind) block) count
lengths_grow opening before behind block count there =
    let old = flat_map (length_in block) opening.nodes in
    ⊎_elim
    (λ was. Contains-append_left old (all_told (put_length block) (before ++ behind)) count was)
    (λ put. Contains-append_right old (all_told (put_length block) (before ++ behind)) count
    (subst (λ (l : List ℕ). Contains l count) (sym (filter_map-append (λ (event : Event). put_length block event.kind) before behind))
    (Contains-append_left (all_told (put_length block) before) (all_told (put_length block) behind) count put)))
    (Contains-append_cases old (all_told (put_length block) before) count there)

-- ---- events behind a legal story

module _ (opening : Opening) (front behind : List Event) (legal : IsLegal opening front)
    (apart : AreApart (logs opening (front ++ behind))) (dn : ℕ) where
  abbrev txns : List Txn
  txns = logs opening (front ++ behind)

  pub holds_then : (block : Block)
      → holds opening (front ++ behind) dn block ≡ last_told (held_after txns dn block) (holds opening front dn block) behind
  holds_then block =
      fold-append (λ (told : Bool) (event : Event). newer (held_after txns dn block event.kind) told) (was_held opening dn block) front behind
      ∙ ap (λ (told : Bool). last_told (held_after txns dn block) told behind)
      (holds_by opening front legal txns (log_grows opening front behind) apart dn block)

  pub greatest_then : (container : ℕ) → greatest_of opening (front ++ behind) dn container
      ≡ fold (λ (most : ℕ) (event : Event). greatest_after txns dn container most event.kind) (greatest_of opening front dn container) behind
  greatest_then container =
      let step = λ (most : ℕ) (event : Event). greatest_after txns dn container most event.kind in
      fold-append step (was_greatest opening dn container) front behind
      ∙ ap (λ (most : ℕ). fold step most behind)
      (greatest_by opening front legal txns (log_grows opening front behind) apart dn container)

  pub closed_then : (container : ℕ)
      → is_closed opening (front ++ behind) dn container ≡ last_told (closed_after dn container) (is_closed opening front dn container) behind
  closed_then container =
      fold-append (λ (told : Bool) (event : Event). newer (closed_after dn container event.kind) told) (was_closed opening dn container) front behind

  -- where they change nothing, it is what it was
  pub of_story_still : has_event (changes dn) behind ≡ false → (node : Node) → IsOfStory opening front dn node
      → IsOfStory opening (front ++ behind) dn node
  of_story_still none node is = record {
    held = λ block. is.held block ∙ sym (holds_then block ∙ holds_still dn behind none txns block (holds opening front dn block));
    lengths = λ block row there. lengths_grow opening front behind block row.length (is.lengths block row there);
    closed = λ container. is.closed container
        ∙ sym (closed_then container ∙ closed_still dn behind none container (is_closed opening front dn container));
    greatest = λ container. is.greatest container
        ∙ sym (greatest_then container ∙ greatest_still dn behind none txns container (greatest_of opening front dn container));
  }
