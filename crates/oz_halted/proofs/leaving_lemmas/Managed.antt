-- What a story leaves on the disks of the manager and of the storage container manager.
use Rattle.std.proofs.Common.{◌≡◌, ⊎_elim, ℕ, Bool, true, false, not, List, ◌++◌, map, filter, length, Contains, inl, inr, refl, sym, ap, subst}
use Rattle.std.proofs.lemmas.List.Elements.{Contains-append_cases, Contains-append_left, Contains-append_right}
use Rattle.oz_dellog.specs.declared.txn.Txn.{Txn}
use Rattle.oz_fields.specs.declared.block.Block.{Block}
use Rattle.oz_model.specs.Gathered.{in_namespace}
use Rattle.oz_core.specs.declared.event.Event.{Event}
use Rattle.oz_core.specs.declared.opening.NodeOpening.{NodeOpening}
use Rattle.oz_core.specs.declared.opening.Opening.{Opening}
use Rattle.oz_core.specs.declared.opening.Unretired.{Unretired}
use Rattle.oz_core.specs.Manager.{kept_up_to, kept_block}
use Rattle.oz_core.specs.Scm.{next_id, containers, last_txn, logs, is_retired, acknowledgers}
use Rattle.oz_core.specs.Stories.{all_told}
use Rattle.oz_kept.specs.reopened.Left.{IsOfManager, IsLeftByManager, IsLeftByScm, AreAcknowledgers}
use Rattle.oz_model.specs.laws.Members.{filtered, of_filtered, mapped, of_mapped}
use Rattle.oz_model.specs.laws.Reached.{met, reached}

module _ (opening : Opening) (story : List Event) (most : ℕ) where
  abbrev pub blocks_had : List Block
  blocks_had = in_namespace opening.namespace ++ (opening.left ++ all_told (kept_block most) story)

  abbrev is_in_log : Txn → Bool
  is_in_log txn = not (is_retired txn.number story)

  abbrev entry_of : Txn → Unretired
  entry_of txn = record { txn = txn; acknowledgers = acknowledgers opening story txn.number }

  -- what is left, with these datanodes
  abbrev pub left_with : List NodeOpening → Opening
  left_with nodes = record {
    namespace = kept_up_to opening most story;
    last_index = most;
    left = blocks_had;
    next_id = next_id opening story;
    last_txn = last_txn opening story;
    containers = containers opening story;
    unretired = map entry_of (filter is_in_log (logs opening story));
    nodes = nodes;
  }

  had_is : (block : Block) → Contains blocks_had block → IsOfManager opening most story block
  had_is block there = ⊎_elim
      (λ met. inl (reached block opening.namespace met))
      (λ rest. inr (Contains-append_cases opening.left (all_told (kept_block most) story) block rest))
      (Contains-append_cases (in_namespace opening.namespace) (opening.left ++ all_told (kept_block most) story) block there)

  is_had : (block : Block) → IsOfManager opening most story block → Contains blocks_had block
  is_had block (inl reached) = Contains-append_left (in_namespace opening.namespace) (opening.left ++ all_told (kept_block most) story) block (met block opening.namespace reached)
  is_had block (inr (inl left)) =
      Contains-append_right (in_namespace opening.namespace) (opening.left ++ all_told (kept_block most) story) block
      (Contains-append_left opening.left (all_told (kept_block most) story) block left)
  is_had block (inr (inr granted)) =
      Contains-append_right (in_namespace opening.namespace) (opening.left ++ all_told (kept_block most) story) block
      (Contains-append_right opening.left (all_told (kept_block most) story) block granted)

  pub by_manager : (nodes : List NodeOpening) → IsLeftByManager opening story most (left_with nodes)
  by_manager nodes = record {
    namespace = refl;
    last_index = refl;
    deleted = had_is;
    kept = λ block its. inr (inl (is_had block its));
  }

  not_so : (t : Bool) → not t ≡ true → t ≡ false
  not_so true e = sym e
  not_so false e = refl

  is_so : (t : Bool) → t ≡ false → not t ≡ true
  is_so t e = ap not e

  pub by_scm : (nodes : List NodeOpening) → length nodes ≡ length opening.nodes → IsLeftByScm opening story (left_with nodes)
  by_scm nodes count = record {
    count = count;
    next_id = refl;
    containers = refl;
    last_txn = refl;
    logged = λ txn its. record {
      acknowledged = acknowledgers opening story txn.number;
      there = mapped entry_of (filter is_in_log (logs opening story)) txn (filtered is_in_log (logs opening story) txn its.0 (is_so (is_retired txn.number story) its.1));
    };
    unretired = λ unretired there.
        let of = of_mapped entry_of (filter is_in_log (logs opening story)) unretired there in
        let its = of_filtered is_in_log (logs opening story) of.0 of.1 in
        subst (λ (t : Txn). Contains (logs opening story) t × (is_retired t.number story ≡ false)) (ap (λ (u : Unretired). u.txn) of.2)
        (its.0, not_so (is_retired of.0.number story) its.1);
    acknowledged = λ unretired there.
        let of = of_mapped entry_of (filter is_in_log (logs opening story)) unretired there in
        subst (λ (u : Unretired). AreAcknowledgers opening story u.txn.number u.acknowledgers) of.2 (λ dn. ((λ has. has), (λ has. has)));
  }
