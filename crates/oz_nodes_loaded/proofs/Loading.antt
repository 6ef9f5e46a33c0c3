-- How far loading the datanodes has come.
use Rattle.std.proofs.Common.{◌≡◌, ℕ, suc, ◌+◌, List, [], ◌∷◌, ◌++◌, length, map, reverse, refl, sym, ◌∙◌, ap, subst, arith, append_assoc}
use Rattle.std.specs.List.{AllZip}
use Rattle.std.proofs.lemmas.List.{append-nil}
use Rattle.oz_datanode.specs.Datanode.{State}
use Rattle.oz_datanode.specs.declared.disks.NodeDisks.{NodeDisks}
use Rattle.oz_world.specs.Disk.{Seen}
use Rattle.oz_nodes_loaded.specs.Disks.{LeavesNode}
use Rattle.oz_nodes_loaded.specs.Loads.{AreNodesFrom, IsNodeFrom, disks_in}
use Rattle.oz_nodes_loaded.proofs.Putting.{last_first}

pub zip_then : {A B : Type 0} (R : A → B → Type 0) (xs more : List A) (ys others : List B) → AllZip R xs ys → AllZip R more others
    → AllZip R (xs ++ more) (ys ++ others)
zip_then R [] more [] others first second = second
zip_then R [] more (y ∷ ys) others first second = absurd first
zip_then R (x ∷ xs) more [] others first second = absurd first
zip_then R (x ∷ xs) more (y ∷ ys) others first second = (first.0, zip_then R xs more ys others first.1 second)

module _ {D : Type 0} (see : D → Seen) where
  pub are_as_many : (dn : ℕ) (first : List (NodeDisks D)) (loaded : List (State D)) → AreNodesFrom see dn first loaded
      → length first ≡ length loaded
  are_as_many dn [] [] are = refl
  are_as_many dn [] (node ∷ nodes) are = absurd are
  are_as_many dn (disks ∷ all) [] are = absurd are
  are_as_many dn (disks ∷ all) (node ∷ nodes) are = ap suc (are_as_many (dn + 1) all nodes are.1)

  pub are_more : (dn : ℕ) (first : List (NodeDisks D)) (loaded : List (State D)) (disks : NodeDisks D) (node : State D)
      → AreNodesFrom see dn first loaded → IsNodeFrom see (dn + length first) disks node
      → AreNodesFrom see dn (first ++ disks ∷ []) (loaded ++ node ∷ [])
  are_more dn [] [] disks node are is = (subst (λ (n : ℕ). IsNodeFrom see n disks node) (omega arith) is, tt)
  are_more dn [] (one ∷ nodes) disks node are is = absurd are
  are_more dn (one ∷ all) [] disks node are is = absurd are
  are_more dn (one ∷ all) (other ∷ nodes) disks node are is =
      (are.0, are_more (dn + 1) all nodes disks node are.1 (subst (λ (n : ℕ). IsNodeFrom see n disks node) (omega arith) is))

  pub are_left : (dn : ℕ) (first : List (NodeDisks D)) (loaded : List (State D)) → AreNodesFrom see dn first loaded
      → AllZip (LeavesNode see) first (map disks_in loaded)
  are_left dn [] [] are = tt
  are_left dn [] (node ∷ nodes) are = absurd are
  are_left dn (disks ∷ all) [] are = absurd are
  are_left dn (disks ∷ all) (node ∷ nodes) are = ((are.0.meta, are.0.slots), are_left (dn + 1) all nodes are.1)

  -- Some were loaded, and the others are left, from the last to the next.
  pub record Loading (all behind : List (NodeDisks D)) (loaded : List (State D)) : Type 0 where
    pub first : List (NodeDisks D)
    pub are : AreNodesFrom see 0 first loaded
    pub whole : all ≡ first ++ reverse behind

  pub begins : (all behind : List (NodeDisks D)) (loaded : List (State D)) → all ≡ reverse behind → loaded ≡ []
      → Loading all behind loaded
  begins all behind loaded is none = record {
    first = [];
    are = subst (AreNodesFrom see 0 []) (sym none) tt;
    whole = is;
  }

  -- the next one is one that was left
  pub splits : (all behind rest : List (NodeDisks D)) (own : NodeDisks D) (first : List (NodeDisks D))
      → behind ≡ rest ++ own ∷ [] → all ≡ first ++ reverse behind → all ≡ first ++ own ∷ reverse rest
  splits all behind rest own first was whole =
      whole ∙ ap (λ (l : List (NodeDisks D)). first ++ l) (ap (λ (l : List (NodeDisks D)). reverse l) was ∙ last_first rest own)

  pub goes_on : (all behind rest : List (NodeDisks D)) (loaded more : List (State D)) (own : NodeDisks D) (node : State D)
      → Loading all behind loaded → behind ≡ rest ++ own ∷ [] → more ≡ loaded ++ node ∷ []
      → IsNodeFrom see (length loaded) own node → Loading all rest more
  goes_on all behind rest loaded more own node so was now is = record {
    first = so.first ++ own ∷ [];
    are = subst (AreNodesFrom see 0 (so.first ++ own ∷ [])) (sym now) (are_more 0 so.first loaded own node so.are (subst (λ (n : ℕ). IsNodeFrom see n own node) (sym (are_as_many 0 so.first loaded so.are) ∙ omega arith) is));
    whole = splits all behind rest own so.first was so.whole ∙ sym (append_assoc so.first (own ∷ []) (reverse rest));
  }

  pub ends : (all behind : List (NodeDisks D)) (loaded : List (State D)) → Loading all behind loaded → behind ≡ []
      → AreNodesFrom see 0 all loaded
  ends all behind loaded so none =
      subst (λ (l : List (NodeDisks D)). AreNodesFrom see 0 l loaded) (sym (so.whole ∙ (ap (λ (l : List (NodeDisks D)). so.first ++ reverse l) none ∙ append-nil so.first))) so.are
