-- Events that change nothing on a datanode's disks: those of other seats, and all behind its Halt.
use Rattle.std.proofs.Common.{◌≡◌, ◌≢◌, ℕ, ◌==◌, Bool, true, false, ◌&&◌, ◌||◌, List, [], ◌∷◌, ◌++◌, fold, Option}
use Rattle.std.proofs.Common.{None, Some, cond, max, refl, sym, ◌∙◌, ap, subst}
use mathlib.Core.Bool.{false≢true}
use Rattle.std.proofs.lemmas.Bool.{eqb-true}
use Rattle.std.specs.List.{list_any}
use Rattle.oz_dellog.specs.declared.txn.Txn.{Txn}
use Rattle.oz_fields.specs.declared.block.Block.{Block}
use Rattle.oz_core.specs.declared.event.Event.{Event}
use Rattle.oz_core.specs.declared.event.EventKind.{EventKind}
use Rattle.oz_core.specs.declared.event.EventKind.TheVariants.{Put, Copy, Delete, CloseCommand, Wipe}
use Rattle.oz_core.specs.declared.event.Node.TheVariants.{Datanode}
use Rattle.oz_core.specs.declared.opening.Opening.{Opening}
use Rattle.oz_core.specs.Law.{IsLegalFrom, KindIsEnabled}
use Rattle.oz_core.specs.Manager.{halt_of}
use Rattle.oz_core.specs.Nodes.{is_block, is_running, held_after, deletes, closed_after}
use Rattle.oz_core.specs.Seats.{datanode_seat}
use Rattle.oz_core.specs.Stories.{has_event, last_told, newer}
use Rattle.oz_kept.specs.reopened.Left.{greatest_after, is_txn_of}
use Rattle.oz_kept.specs.laws.Places.{legal_first, legal_rest}
use Rattle.oz_halted.specs.laws.Resting.{IsHalted, halted_still, unhalted_not, running_not}

-- the datanode that an event changes
abbrev pub changes : ℕ → EventKind → Bool
changes dn (Put other put id first count) = other == dn
changes dn (Copy source target copied) = target == dn
changes dn (Delete other number locals) = other == dn
changes dn (CloseCommand other container) = other == dn
changes dn (Wipe other) = other == dn
changes dn _ = false

-- ---- nothing comes of such an event

module _ (dn : ℕ) where
  pub holds_as_before : (txns : List Txn) (block : Block) (kind : EventKind) → changes dn kind ≡ false
      → held_after txns dn block kind ≡ None
  holds_as_before txns block (Put other put id first count) none =
      ap (λ (t : Bool). cond (t && is_block block put) (Some true) None) none
  holds_as_before txns block (Copy source target copied) none =
      ap (λ (t : Bool). cond (t && is_block block copied) (Some true) None) none
  holds_as_before txns block (Delete other number locals) none =
      ap (λ (t : Bool). cond (t && deletes txns number locals block) (Some false) None) none
  holds_as_before txns block (Wipe other) none = ap (λ (t : Bool). cond t (Some false) None) none
  holds_as_before txns block kind none = refl

  pub closed_as_before : (container : ℕ) (kind : EventKind) → changes dn kind ≡ false → closed_after dn container kind ≡ None
  closed_as_before container (CloseCommand other number) none =
      ap (λ (t : Bool). cond (t && number == container) (Some true) None) none
  closed_as_before container (Wipe other) none = ap (λ (t : Bool). cond t (Some false) None) none
  closed_as_before container kind none = refl

  pub greatest_as_before : (txns : List Txn) (container most : ℕ) (kind : EventKind) → changes dn kind ≡ false
      → greatest_after txns dn container most kind ≡ most
  greatest_as_before txns container most (Delete other number locals) none =
      ap (λ (t : Bool). cond (t && list_any (is_txn_of number container) txns) (max most number) most) none
  greatest_as_before txns container most (Wipe other) none = ap (λ (t : Bool). cond t 0 most) none
  greatest_as_before txns container most kind none = refl

  -- ---- nor of many of them

  rests : {X : Type 0} (step : X → Event → X)
      → ((event : Event) → changes dn event.kind ≡ false → (x : X) → step x event ≡ x)
      → (story : List Event) → has_event (changes dn) story ≡ false → (x : X) → fold step x story ≡ x
  rests step each [] none x = refl
  rests {X} step each (event ∷ story) none x = by (changes dn event.kind) refl none (rests step each story)
    where
      by : (t : Bool) → changes dn event.kind ≡ t → (t || has_event (changes dn) story) ≡ false
          → (has_event (changes dn) story ≡ false → (y : X) → fold step y story ≡ y) → fold step (step x event) story ≡ x
      by true e some later = absurd (false≢true (sym some))
      by false e none later = later none (step x event) ∙ each event e x

  module _ (story : List Event) (none : has_event (changes dn) story ≡ false) where
    pub holds_still : (txns : List Txn) (block : Block) (held : Bool) → last_told (held_after txns dn block) held story ≡ held
    holds_still txns block held =
        rests (λ (told : Bool) (event : Event). newer (held_after txns dn block event.kind) told)
        (λ event is told. ap (λ (o : Option Bool). newer o told) (holds_as_before txns block event.kind is)) story none held

    pub closed_still : (container : ℕ) (closed : Bool) → last_told (closed_after dn container) closed story ≡ closed
    closed_still container closed =
        rests (λ (told : Bool) (event : Event). newer (closed_after dn container event.kind) told)
        (λ event is told. ap (λ (o : Option Bool). newer o told) (closed_as_before container event.kind is)) story none closed

    pub greatest_still : (txns : List Txn) (container most : ℕ)
        → fold (λ (so_far : ℕ) (event : Event). greatest_after txns dn container so_far event.kind) most story ≡ most
    greatest_still txns container most =
        rests (λ (so_far : ℕ) (event : Event). greatest_after txns dn container so_far event.kind)
        (λ event is so_far. greatest_as_before txns container so_far event.kind is) story none most

  -- ---- which events are such

  module _ (opening : Opening) where
    -- those of another seat
    pub others_change_nothing : (before : List Event) (seat : ℕ) (kind : EventKind) → KindIsEnabled opening before seat kind
        → seat ≢ datanode_seat dn → changes dn kind ≡ false
    others_change_nothing before seat (Put other put id first count) enabled apart = by (other == dn) refl
      where
        by : (t : Bool) → (other == dn) ≡ t → t ≡ false
        by true e = absurd (apart (enabled.of_datanode.its ∙ ap datanode_seat (eqb-true other dn e)))
        by false e = refl
    others_change_nothing before seat (Copy source target copied) enabled apart = by (target == dn) refl
      where
        by : (t : Bool) → (target == dn) ≡ t → t ≡ false
        by true e = absurd (apart (enabled.of_target.its ∙ ap datanode_seat (eqb-true target dn e)))
        by false e = refl
    others_change_nothing before seat (Delete other number locals) enabled apart = by (other == dn) refl
      where
        by : (t : Bool) → (other == dn) ≡ t → t ≡ false
        by true e = absurd (apart (enabled.of_datanode.its ∙ ap datanode_seat (eqb-true other dn e)))
        by false e = refl
    others_change_nothing before seat (CloseCommand other container) enabled apart = by (other == dn) refl
      where
        by : (t : Bool) → (other == dn) ≡ t → t ≡ false
        by true e = absurd (apart (enabled.of_datanode.its ∙ ap datanode_seat (eqb-true other dn e)))
        by false e = refl
    others_change_nothing before seat (Wipe other) enabled apart = by (other == dn) refl
      where
        by : (t : Bool) → (other == dn) ≡ t → t ≡ false
        by true e = absurd (apart (enabled.of_datanode.its ∙ ap datanode_seat (eqb-true other dn e)))
        by false e = refl
    others_change_nothing before seat kind enabled apart = refl

    -- and of a datanode that halted
    halted_changes_nothing : (before : List Event) (seat : ℕ) (kind : EventKind) → KindIsEnabled opening before seat kind
        → IsHalted (Datanode dn) before → changes dn kind ≡ false
    halted_changes_nothing before seat (Put other put id first count) enabled halted = by (other == dn) refl
      where
        by : (t : Bool) → (other == dn) ≡ t → t ≡ false
        by true e = absurd (running_not dn before halted (subst (λ (n : ℕ). is_running n before ≡ true) (eqb-true other dn e) enabled.runs))
        by false e = refl
    halted_changes_nothing before seat (Copy source target copied) enabled halted = by (target == dn) refl
      where
        by : (t : Bool) → (target == dn) ≡ t → t ≡ false
        by true e = absurd (running_not dn before halted (subst (λ (n : ℕ). is_running n before ≡ true) (eqb-true target dn e) enabled.runs))
        by false e = refl
    halted_changes_nothing before seat (Delete other number locals) enabled halted = by (other == dn) refl
      where
        by : (t : Bool) → (other == dn) ≡ t → t ≡ false
        by true e = absurd (running_not dn before halted (subst (λ (n : ℕ). is_running n before ≡ true) (eqb-true other dn e) enabled.runs))
        by false e = refl
    halted_changes_nothing before seat (CloseCommand other container) enabled halted = by (other == dn) refl
      where
        by : (t : Bool) → (other == dn) ≡ t → t ≡ false
        by true e = absurd (running_not dn before halted (subst (λ (n : ℕ). is_running n before ≡ true) (eqb-true other dn e) enabled.runs))
        by false e = refl
    halted_changes_nothing before seat (Wipe other) enabled halted = by (other == dn) refl
      where
        by : (t : Bool) → (other == dn) ≡ t → t ≡ false
        by true e = absurd (unhalted_not (Datanode dn) before halted
            (subst (λ (n : ℕ). halt_of (Datanode n) before ≡ None) (eqb-true other dn e) enabled.unhalted))
        by false e = refl
    halted_changes_nothing before seat kind enabled halted = refl

    pub nothing_behind_a_halt : (story before : List Event) → IsLegalFrom opening before story → IsHalted (Datanode dn) before
        → has_event (changes dn) story ≡ false
    nothing_behind_a_halt [] before legal halted = refl
    nothing_behind_a_halt (event ∷ story) before legal halted =
        ap (λ (t : Bool). t || has_event (changes dn) story)
        (halted_changes_nothing before event.seat event.kind (legal_first opening before event story legal) halted)
        ∙ nothing_behind_a_halt story (before ++ event ∷ []) (legal_rest opening before event story legal)
        (halted_still (Datanode dn) before event halted)
