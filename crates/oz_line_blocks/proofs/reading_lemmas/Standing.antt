-- A datanode that hasn't a block, and neither puts nor copies it, hasn't it later.
use Rattle.std.proofs.Common.{◌≡◌, ℕ, Bool, true, false, ◌&&◌, ◌==◌, cond, List, [], ◌∷◌, ◌++◌, length, drop, None, Some, refl, sym, ap, ◌∙◌, subst, append_assoc}
use Rattle.std.proofs.Math.Seq.{drop-append_seam}
use Rattle.std.proofs.lemmas.Bool.{and_from, and_parts, false≢true, or_left}
use Rattle.std.proofs.lemmas.List.Elements.{All-head, All-tail, filter_map-append}
use Rattle.std.proofs.lemmas.List.Folds.{list_any-append}
use Rattle.std.proofs.lemmas.List.Sums.{fold-append}
use Rattle.std.specs.Prelude.{All, map}
use Rattle.std.specs.List.{list_any}
use Rattle.oz_core.specs.declared.event.Event.{Event}
use Rattle.oz_core.specs.declared.event.EventKind.{EventKind}
use Rattle.oz_core.specs.declared.event.EventKind.TheVariants.{Copy, Delete, Put, Wipe}
use Rattle.oz_core.specs.declared.opening.Opening.{Opening}
use Rattle.oz_core.specs.declared.opening.Unretired.{Unretired}
use Rattle.oz_core.specs.Law.{puts_or_copies}
use Rattle.oz_core.specs.Nodes.{deletes, held_after, holds, was_held}
use Rattle.oz_core.specs.Scm.{logged, logs}
use Rattle.oz_core.specs.Stories.{all_told, last_told, newer}
use Rattle.oz_dellog.specs.declared.txn.Txn.{Txn}
use Rattle.oz_fields.specs.declared.block.Block.{Block}
use Rattle.oz_asker.specs.telling.Still.{StandsStill}
use Rattle.oz_asker.specs.declared.telling.still.Still.TheVariants as rests
use Rattle.oz_turn.specs.Told.{BeginsWith}

-- ---- more transactions

logs_more : (opening : Opening) (front more : List Event) → logs opening (front ++ more) ≡ logs opening front ++ all_told logged more
logs_more opening front more =
    let had = map (λ (unretired : Unretired). unretired.txn) opening.unretired in
    ap (λ (l : List Txn). had ++ l) (filter_map-append (λ (e : Event). logged e.kind) front more)
    ∙ sym (append_assoc had (all_told logged front) (all_told logged more))

module _ (txns new : List Txn) (dn : ℕ) (block : Block) where
  deletes_more : (number : ℕ) (locals : List ℕ) → deletes txns number locals block ≡ true → deletes (txns ++ new) number locals block ≡ true
  deletes_more number locals is =
      let has = λ (txn : Txn). txn.number == number && txn.container == block.container in
      let among = λ (local : ℕ). local == block.local in
      let both = and_parts (list_any has txns) (list_any among locals) is in
      and_from (list_any has (txns ++ new)) (list_any among locals) (list_any-append has txns new ∙ or_left (list_any has txns) (list_any has new) both.0) both.1

  -- what isn't held isn't where there are more transactions
  after_step : (kind : EventKind) (few many : Bool) → (few ≡ false → many ≡ false) → newer (held_after txns dn block kind) few ≡ false
      → newer (held_after (txns ++ new) dn block kind) many ≡ false
  after_step (Put other put id first count) few many less is = by (other == dn && (put.container == block.container && put.local == block.local)) is
    where
      by : (t : Bool) → newer (cond t (Some true) None) few ≡ false → newer (cond t (Some true) None) many ≡ false
      by true is = is
      by false is = less is
  after_step (Copy source target copied) few many less is = by (target == dn && (copied.container == block.container && copied.local == block.local)) is
    where
      by : (t : Bool) → newer (cond t (Some true) None) few ≡ false → newer (cond t (Some true) None) many ≡ false
      by true is = is
      by false is = less is
  after_step (Wipe other) few many less is = by (other == dn) is
    where
      by : (t : Bool) → newer (cond t (Some false) None) few ≡ false → newer (cond t (Some false) None) many ≡ false
      by true is = refl
      by false is = less is
  after_step (Delete other number locals) few many less is =
      by (other == dn) (deletes txns number locals block) (deletes (txns ++ new) number locals block) (deletes_more number locals) is
    where
      by : (o t u : Bool) → (t ≡ true → u ≡ true) → newer (cond (o && t) (Some false) None) few ≡ false → newer (cond (o && u) (Some false) None) many ≡ false
      by true t true more is = refl
      by true true false more is = absurd (false≢true (more refl))
      by true false false more is = less is
      by false t u more is = less is
  after_step kind few many less is = less is

  fewer_held : (story : List Event) (few many : Bool) → (few ≡ false → many ≡ false) → last_told (held_after txns dn block) few story ≡ false
      → last_told (held_after (txns ++ new) dn block) many story ≡ false
  fewer_held [] few many less is = less is
  fewer_held (event ∷ story) few many less is =
      fewer_held story (newer (held_after txns dn block event.kind) few) (newer (held_after (txns ++ new) dn block event.kind) many)
      (after_step event.kind few many less) is

-- ---- nothing puts it

module _ (txns : List Txn) (dn : ℕ) (block : Block) where
  none_put : (kind : EventKind) → puts_or_copies dn block kind ≡ false → newer (held_after txns dn block kind) false ≡ false
  none_put (Put other put id first count) none = ap (λ (t : Bool). newer (cond t (Some true) None) false) none
  none_put (Copy source target copied) none = ap (λ (t : Bool). newer (cond t (Some true) None) false) none
  none_put (Wipe other) none = by (other == dn)
    where
      by : (t : Bool) → newer (cond t (Some false) None) false ≡ false
      by true = refl
      by false = refl
  none_put (Delete other number locals) none = by (other == dn && deletes txns number locals block)
    where
      by : (t : Bool) → newer (cond t (Some false) None) false ≡ false
      by true = refl
      by false = refl
  none_put kind none = refl

  abbrev PutsNot : Event → Type 0
  PutsNot event = puts_or_copies dn block event.kind ≡ false

  never_held : (story : List Event) → All PutsNot story → last_told (held_after txns dn block) false story ≡ false
  never_held [] none = refl
  never_held (event ∷ story) none =
      subst (λ (t : Bool). last_told (held_after txns dn block) t story ≡ false) (sym (none_put event.kind (All-head PutsNot event story none)))
      (never_held story (All-tail PutsNot event story none))

pub absent_still : (opening : Opening) (story front : List Event) (dn : ℕ) (block : Block) → BeginsWith story front → holds opening front dn block ≡ false
    → StandsStill story (rests.Without dn block (length front)) → holds opening story dn block ≡ false
absent_still opening story front dn block begins none still =
    let more : List Event = begins.0 in
    let txns : List Txn = logs opening front ++ all_told logged more in
    let first : last_told (held_after txns dn block) (was_held opening dn block) front ≡ false =
    fewer_held (logs opening front) (all_told logged more) dn block front (was_held opening dn block) (was_held opening dn block) (λ is. is) none in
    let behind : All (λ (event : Event). puts_or_copies dn block event.kind ≡ false) more =
    subst (λ (l : List Event). All (λ (event : Event). puts_or_copies dn block event.kind ≡ false) l) (ap (drop (length front)) begins.1 ∙ drop-append_seam front more) still in
    ap (λ (l : List Event). holds opening l dn block) begins.1
    ∙ (ap (λ (l : List Txn). last_told (held_after l dn block) (was_held opening dn block) (front ++ more)) (logs_more opening front more)
    ∙ (fold-append (λ (told : Bool) (event : Event). newer (held_after txns dn block event.kind) told) (was_held opening dn block) front more
    ∙ (ap (λ (t : Bool). last_told (held_after txns dn block) t more) first
    ∙ never_held txns dn block more behind)))
