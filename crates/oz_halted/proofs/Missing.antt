-- Only what is being deleted may be missing on a datanode that halted.
use Rattle.std.proofs.Common.{◌≡◌, ◌⊎◌, ℕ, ◌==◌, Bool, true, false, ◌&&◌, List, [], ◌∷◌, ◌++◌, map, Option, None, Some, Contains, cond, inl, inr, refl, sym, ◌∙◌, ap, subst, arith}
use mathlib.Core.Bool.{false≢true}
use Rattle.std.proofs.lemmas.Bool.{eqb-true, and_parts}
use Rattle.std.proofs.lemmas.List.Elements.{filter_map-append}
use Rattle.std.proofs.lemmas.List.Sums.{fold-append}
use Rattle.std.specs.List.{cons_option, list_any}
use Rattle.oz_dellog.specs.declared.txn.Txn.{Txn}
use Rattle.oz_fields.specs.declared.block.Block.{Block}
use Rattle.oz_script.specs.declared.lines.script.Script.{Script}
use Rattle.oz_core.specs.declared.event.Event.{Event}
use Rattle.oz_core.specs.declared.event.EventKind.{EventKind}
use Rattle.oz_core.specs.declared.event.EventKind.TheVariants.{Halt, Put, Copy, Delete, Wipe, Log}
use Rattle.oz_core.specs.declared.event.Node.TheVariants.{Datanode}
use Rattle.oz_core.specs.declared.opening.Opening.{Opening}
use Rattle.oz_core.specs.declared.opening.Unretired.{Unretired}
use Rattle.oz_core.specs.Contents.{OpeningBytes}
use Rattle.oz_core.specs.Law.{IsLegal, IsLegalFrom, KindIsEnabled, HaltIsEnabled, DeleteIsEnabled}
use Rattle.oz_core.specs.Manager.{halt_of}
use Rattle.oz_core.specs.Nodes.{is_block, is_running, was_held, holds, held_after, deletes}
use Rattle.oz_core.specs.Scm.{logs, logged, is_logged, names_block}
use Rattle.oz_core.specs.Seats.{datanode_seat}
use Rattle.oz_core.specs.Stories.{all_told, last_told, newer}
use Rattle.oz_kept.specs.laws.Places.{legal_behind, legal_first, legal_rest}
use Rattle.oz_kept.specs.laws.Deleted.{one_passes}
use Rattle.oz_halted.specs.Further.{HasOneMore, MayBeLeftByAll, MayBeLeftByNode}
use Rattle.oz_halted.specs.Missing.{LogIsNumbered, MayHaveLost}
use Rattle.oz_halted.specs.laws.Resting.{IsHalted, halted_by, halted_still, unhalted_not, running_not}
use Rattle.oz_halted.specs.laws.Lasting.{held_as}
use Rattle.oz_halted.proofs.Managing.{passing}
use Rattle.oz_halted.proofs.Deleting.{of_filtered, names_it}
use Rattle.oz_halted.specs.halting.laws.OneLog.{log_grows}
use Rattle.oz_halted.specs.laws.Numbered.{are_numbered}

-- ---- behind its Halt a datanode holds what it held

module _ (opening : Opening) (txns : List Txn) (dn : ℕ) (block : Block) where
  keeps_all : (before : List Event) (seat : ℕ) (kind : EventKind) → KindIsEnabled opening before seat kind → IsHalted (Datanode dn) before → held_after txns dn block kind ≡ None
  keeps_all before seat (Put other put id first count) enabled halted = by (other == dn && is_block block put) refl
    where
      by : (t : Bool) → (other == dn && is_block block put) ≡ t → cond t (Some true) None ≡ None
      by true e = absurd (running_not dn before halted (subst (λ (n : ℕ). is_running n before ≡ true) (eqb-true other dn (and_parts (other == dn) (is_block block put) e).0) enabled.runs))
      by false e = refl
  keeps_all before seat (Copy source target copied) enabled halted = by (target == dn && is_block block copied) refl
    where
      by : (t : Bool) → (target == dn && is_block block copied) ≡ t → cond t (Some true) None ≡ None
      by true e = absurd (running_not dn before halted (subst (λ (n : ℕ). is_running n before ≡ true) (eqb-true target dn (and_parts (target == dn) (is_block block copied) e).0) enabled.runs))
      by false e = refl
  keeps_all before seat (Delete other number locals) enabled halted = by (other == dn && deletes txns number locals block) refl
    where
      by : (t : Bool) → (other == dn && deletes txns number locals block) ≡ t → cond t (Some false) None ≡ None
      by true e = absurd (running_not dn before halted (subst (λ (n : ℕ). is_running n before ≡ true) (eqb-true other dn (and_parts (other == dn) (deletes txns number locals block) e).0) enabled.runs))
      by false e = refl
  keeps_all before seat (Wipe other) enabled halted = by (other == dn) refl
    where
      by : (t : Bool) → (other == dn) ≡ t → cond t (Some false) None ≡ None
      by true e = absurd (unhalted_not (Datanode dn) before halted (subst (λ (n : ℕ). halt_of (Datanode n) before ≡ None) (eqb-true other dn e) enabled.unhalted))
      by false e = refl
  keeps_all before seat kind enabled halted = refl

  held_still : (story before : List Event) → IsLegalFrom opening before story → IsHalted (Datanode dn) before → (held : Bool) → last_told (held_after txns dn block) held story ≡ held
  held_still [] before legal halted held = refl
  held_still (event ∷ story) before legal halted held =
      held_still story (before ++ event ∷ []) (legal_rest opening before event story legal) (halted_still (Datanode dn) before event halted) (newer (held_after txns dn block event.kind) held)
      ∙ ap (λ (o : Option Bool). newer o held) (keeps_all before event.seat event.kind (legal_first opening before event story legal) halted)

-- ---- what the further event takes

not_logged : (opening : Opening) (before : List Event) (seat dn : ℕ) (kind : EventKind) → KindIsEnabled opening before seat kind → seat ≡ datanode_seat dn → logged kind ≡ None
not_logged opening before seat dn (Log number container locals) enabled its = absurd (omega (arith, its, enabled.of_scm))
not_logged opening before seat dn kind enabled its = refl

module _ (opening : Opening) (bytes : OpeningBytes) (script : Script) (story : List Event) (numbered : LogIsNumbered opening) (legal : IsLegal opening story) (dn : ℕ) (block : Block) (longer : List Event) (more : HasOneMore opening bytes script (Datanode dn) story longer) where
  abbrev halt : Event
  halt = record { seat = more.seat; kind = Halt (Datanode dn) more.count }

  abbrev event : Event
  event = record { seat = more.seat; kind = more.further }

  behind_legal : IsLegalFrom opening more.before (halt ∷ more.behind)
  behind_legal = legal_behind opening [] more.before (halt ∷ more.behind) (subst (IsLegal opening) more.halted legal)

  logs_same : logs opening longer ≡ logs opening story
  logs_same = ap (λ (l : List Txn). map (λ (unretired : Unretired). unretired.txn) opening.unretired ++ l) told
    where
      its : HaltIsEnabled opening more.before more.seat (Datanode dn) more.count
      its = legal_first opening more.before halt more.behind behind_legal

      told : all_told logged longer ≡ all_told logged story
      told =
          ap (all_told logged) more.more ∙ filter_map-append (λ (event : Event). logged event.kind) more.before (event ∷ halt ∷ more.behind)
          ∙ ap (λ (o : Option Txn). all_told logged more.before ++ cons_option o (all_told logged more.behind)) (not_logged opening more.before more.seat dn more.further more.enabled its.of_node.its)
          ∙ sym (filter_map-append (λ (event : Event). logged event.kind) more.before (halt ∷ more.behind)) ∙ ap (all_told logged) (sym more.halted)

  abbrev step : Bool → Event → Bool
  step held event = newer (held_after (logs opening story) dn block event.kind) held

  abbrev held_then : Bool
  held_then = last_told (held_after (logs opening story) dn block) (was_held opening dn block) more.before

  rests : (held : Bool) → last_told (held_after (logs opening story) dn block) held more.behind ≡ held
  rests held =
      held_still opening (logs opening story) dn block more.behind (more.before ++ halt ∷ []) (legal_rest opening more.before halt more.behind behind_legal)
      (halted_by (Datanode dn) more.before more.seat more.count) held

  held_by_story : holds opening story dn block ≡ held_then
  held_by_story =
      ap (last_told (held_after (logs opening story) dn block) (was_held opening dn block)) more.halted
      ∙ fold-append step (was_held opening dn block) more.before (halt ∷ more.behind) ∙ rests held_then

  held_by_longer : holds opening longer dn block ≡ newer (held_after (logs opening story) dn block more.further) held_then
  held_by_longer =
      ap (λ (l : List Txn). last_told (held_after l dn block) (was_held opening dn block) longer) logs_same
      ∙ ap (last_told (held_after (logs opening story) dn block) (was_held opening dn block)) more.more
      ∙ fold-append step (was_held opening dn block) more.before (event ∷ halt ∷ more.behind)
      ∙ rests (newer (held_after (logs opening story) dn block more.further) held_then)

  -- a Delete takes what its transaction names
  taken_is_logged : (other number : ℕ) (locals : List ℕ) → DeleteIsEnabled opening more.before more.seat other number locals → deletes (logs opening story) number locals block ≡ true → is_logged opening story block ≡ true
  taken_is_logged other number locals enabled is =
      let parts = and_parts (list_any (λ (txn : Txn). txn.number == number && txn.container == block.container) (logs opening story)) (list_any (λ local. local == block.local) locals) is in
      let found = passing (λ (txn : Txn). txn.number == number && txn.container == block.container) (logs opening story) parts.0 in
      let both = and_parts (found.item.number == number) (found.item.container == block.container) found.so in
      let local = passing (λ local. local == block.local) locals parts.1 in
      let its_local = of_filtered (λ local. holds opening more.before other (record { container = enabled.txn.container; local = local })) enabled.txn.locals local.item (subst (λ (l : List ℕ). Contains l local.item) enabled.held local.there) in
      let there : Contains (logs opening story) enabled.txn = subst (λ (l : List Event). Contains (logs opening l) enabled.txn) (sym more.halted) (log_grows opening more.before (halt ∷ more.behind) enabled.txn enabled.logged) in
      let one = (are_numbered opening story numbered legal).apart enabled.txn found.item there found.there (enabled.of_number ∙ sym (eqb-true found.item.number number both.0)) in
      let container : enabled.txn.container ≡ block.container = ap (λ (t : Txn). t.container) one ∙ eqb-true found.item.container block.container both.1 in
      let names = names_it enabled.txn local.item its_local in
      one_passes (names_block block) (logs opening story) enabled.txn there (named enabled.txn local.item container (eqb-true local.item block.local local.so) names)
    where
      named : (txn : Txn) (local : ℕ) → txn.container ≡ block.container → local ≡ block.local → names_block (record { container = txn.container; local = local }) txn ≡ true → names_block block txn ≡ true
      named txn local container same names = subst (λ (b : Block). names_block b txn ≡ true) (λ i. record { container = container i; local = same i }) names

  kind_takes : (kind : EventKind) → KindIsEnabled opening more.before more.seat kind → (held : Bool) → held ≡ true → newer (held_after (logs opening story) dn block kind) held ≡ false → (is_logged opening story block ≡ true) ⊎ (kind ≡ Wipe dn)
  kind_takes (Put other put id first count) enabled held was gone = absurd (by (other == dn && is_block block put) gone)
    where
      by : (t : Bool) → newer (cond t (Some true) None) held ≡ false → ⊥
      by true gone = false≢true (sym gone)
      by false gone = false≢true (sym gone ∙ was)
  kind_takes (Copy source target copied) enabled held was gone = absurd (by (target == dn && is_block block copied) gone)
    where
      by : (t : Bool) → newer (cond t (Some true) None) held ≡ false → ⊥
      by true gone = false≢true (sym gone)
      by false gone = false≢true (sym gone ∙ was)
  kind_takes (Delete other number locals) enabled held was gone = by (other == dn && deletes (logs opening story) number locals block) refl gone
    where
      by : (t : Bool) → (other == dn && deletes (logs opening story) number locals block) ≡ t → newer (cond t (Some false) None) held ≡ false → (is_logged opening story block ≡ true) ⊎ (Delete other number locals ≡ Wipe dn)
      by true e gone = inl (taken_is_logged other number locals enabled (and_parts (other == dn) (deletes (logs opening story) number locals block) e).1)
      by false e gone = absurd (false≢true (sym gone ∙ was))
  kind_takes (Wipe other) enabled held was gone = by (other == dn) refl gone
    where
      by : (t : Bool) → (other == dn) ≡ t → newer (cond t (Some false) None) held ≡ false → (is_logged opening story block ≡ true) ⊎ (Wipe other ≡ Wipe dn)
      by true e gone = inr (ap Wipe (eqb-true other dn e))
      by false e gone = absurd (false≢true (sym gone ∙ was))
  kind_takes kind enabled held was gone = absurd (false≢true (sym gone ∙ was))

  lost_by : holds opening story dn block ≡ true → holds opening longer dn block ≡ false → MayHaveLost opening bytes script story dn block
  lost_by held gone = record {
    longer = longer;
    one_more = more;
    why = kind_takes more.further more.enabled held_then (sym held_by_story ∙ held) (sym held_by_longer ∙ gone);
  }

pub may_have_lost : (opening : Opening) (bytes : OpeningBytes) (script : Script) (story : List Event) (most : ℕ) (left : Opening) (given : OpeningBytes) (dn : ℕ) (block : Block) → LogIsNumbered opening → IsLegal opening story
    → MayBeLeftByAll opening bytes script story most left given → holds opening story dn block ≡ true → was_held left dn block ≡ false → MayHaveLost opening bytes script story dn block
may_have_lost opening bytes script story most left given dn block numbered legal is held gone = by (is.node dn)
  where
    by : MayBeLeftByNode opening bytes script story dn left given → MayHaveLost opening bytes script story dn block
    by (inl one) = of one.one_more
      where
        of : (one.longer ≡ story) ⊎ HasOneMore opening bytes script (Datanode dn) story one.longer → MayHaveLost opening bytes script story dn block
        of (inl same) = absurd (false≢true (sym gone ∙ one.is.held block ∙ ap (λ (l : List Event). holds opening l dn block) same ∙ held))
        of (inr more) = lost_by opening bytes script story numbered legal dn block one.longer more held (sym (one.is.held block) ∙ gone)
    by (inr but) = absurd (false≢true (sym gone ∙ held_as dn block left but.usual but.same.held ∙ but.is.held block ∙ held))
