-- Where each transaction that isn't retired is acknowledged by the members that are up, a datanode that is up still holds blocks just of
-- transactions that the log had as the run began: who acknowledged one in the run applied it before.
use Rattle.std.proofs.Common.{◌≡◌, ⊎_elim, ℕ, suc, Bool, true, false, ◌==◌, cond, List, [], ◌∷◌, take, drop, map}
use Rattle.std.proofs.Common.{Contains, refl, sym, ◌∙◌, subst, arith}
use mathlib.Core.Bool.{false≢true}
use Rattle.std.proofs.lemmas.Bool.{and_from, and_parts, eq-eqb, eqb-true}
use Rattle.std.proofs.lemmas.List.Elements.{All-contains, Contains-append_cases, Contains-append_left, Contains-append_right}
use Rattle.std.specs.List.{list_any}
use Rattle.oz_dellog.specs.declared.txn.Txn.{Txn}
use Rattle.oz_fields.specs.declared.block.Block.{Block}
use Rattle.oz_model.specs.laws.Members.{Origin, comes, mapped}
use Rattle.oz_core.specs.declared.event.Event.{Event}
use Rattle.oz_core.specs.declared.event.EventKind.TheVariants.{Delete}
use Rattle.oz_core.specs.declared.opening.Opening.{Opening}
use Rattle.oz_core.specs.declared.opening.Unretired.{Unretired}
use Rattle.oz_core.specs.Coherent.{IsCoherent}
use Rattle.oz_core.specs.Contents.{OpeningBytes}
use Rattle.oz_core.specs.Law.{IsLegal, applies}
use Rattle.oz_core.specs.Scm.{acknowledged_at_opening, acknowledger, acknowledgers, is_up, logs, members}
use Rattle.oz_core.specs.Stories.{all_told, has_event}
use Rattle.oz_kept.specs.laws.Deleted.{one_passes, split_at}
use Rattle.oz_kept.specs.laws.Reached.{in_none}
use Rattle.oz_kept.specs.reopened.laws.Placed.{held_by_member}
use Rattle.oz_repl.specs.views.laws.Acknowledged.{IsAppliedAt, ack_applied}
use Rattle.oz_owned.specs.Ordered.{LogIsOrdered}
use Rattle.oz_owned.specs.laws.Numbered.{logs_grow, one_number}
use Rattle.oz_service.specs.Settled.{StillHolds, UpAcknowledged}

applied_there : (story : List Event) (dn number place : ℕ) → IsAppliedAt story dn number place → has_event (applies dn number) story ≡ true
applied_there story dn number place it =
    let event : Event = record { seat = it.seat; kind = Delete dn number it.locals } in
    one_passes (λ (event : Event). applies dn number event.kind) story event
    (subst (λ (l : List Event). Contains l event) (sym (split_at story place event it.there))
    (Contains-append_right (take place story) (event ∷ drop (suc place) story) event (0, omega arith, refl)))
    (and_from (dn == dn) (number == number) (eq-eqb dn dn refl) (eq-eqb number number refl))

module _ (opening : Opening) (story : List Event) (legal : IsLegal opening story) (ordered : LogIsOrdered opening) (txn : Txn)
    (there : Contains (logs opening story) txn) (dn : ℕ) where
  -- who had acknowledged its number as the run began acknowledged it then
  acked_before : Contains (acknowledged_at_opening opening txn.number) dn → Contains (logs opening []) txn
  acked_before acked = by (from.item.txn.number == txn.number) refl from.has
    where
      its : Unretired → List ℕ
      its it = cond (it.txn.number == txn.number) it.acknowledgers []

      from : Origin its opening.unretired dn
      from = comes its opening.unretired dn acked

      old : Contains (logs opening []) from.item.txn
      old = Contains-append_left (map (λ (it : Unretired). it.txn) opening.unretired) [] from.item.txn
          (mapped (λ (it : Unretired). it.txn) opening.unretired from.item from.there)

      by : (t : Bool) → (from.item.txn.number == txn.number) ≡ t → Contains (cond t from.item.acknowledgers []) dn → Contains (logs opening []) txn
      by true e has = subst (Contains (logs opening []))
          (one_number opening story legal ordered from.item.txn txn (logs_grow opening story 0 from.item.txn old) there
          (eqb-true from.item.txn.number txn.number e)) old
      by false e has = absurd (in_none dn has)

  -- so who acknowledged it and didn't apply it in the run did so before
  unapplied_before : Contains (acknowledgers opening story txn.number) dn → has_event (applies dn txn.number) story ≡ false
      → Contains (logs opening []) txn
  unapplied_before acked unapplied = ⊎_elim
      (λ before. acked_before before)
      (λ now.
      let applied = ack_applied opening story legal dn txn.number now in
      absurd (false≢true (sym unapplied ∙ applied_there story dn txn.number applied.0 applied.1)))
      (Contains-append_cases (acknowledged_at_opening opening txn.number) (all_told (acknowledger txn.number) story) dn acked)

pub up_hold_old : (opening : Opening) (bytes : OpeningBytes) (story : List Event) → IsLegal opening story → IsCoherent opening bytes
    → LogIsOrdered opening → UpAcknowledged opening story → (dn : ℕ) (block : Block) → is_up dn story ≡ true
    → (it : StillHolds opening story dn block) → Contains (logs opening []) it.txn
up_hold_old opening bytes story legal coherent ordered acknowledged dn block up it = ⊎_elim
    (λ (there, unretired).
    let parts = and_parts (it.txn.container == block.container) (list_any (λ local. local == block.local) it.txn.locals) it.names in
    let member = subst (λ (n : ℕ). Contains (members opening story n) dn) (sym (eqb-true it.txn.container block.container parts.0))
    (held_by_member opening bytes story block dn legal coherent.blocks it.held) in
    let acked = All-contains (λ dn. is_up dn story ≡ true → Contains (acknowledgers opening story it.txn.number) dn)
    (members opening story it.txn.container) dn (acknowledged it.txn (there, unretired)) member up in
    unapplied_before opening story legal ordered it.txn there dn acked it.unapplied)
    (λ old. old)
    it.watched
