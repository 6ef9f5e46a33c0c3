-- How disks come back into their list.
use Rattle.std.proofs.Common.{◌≡◌, List, [], ◌∷◌, ◌++◌, map, reverse, sym, ◌∙◌, ap, append_assoc}
use Rattle.std.proofs.lemmas.List.{map-append, reverse-append}
use Rattle.oz_datanode.specs.Datanode.{State, meta_of, slots_of}
use Rattle.oz_datanode.specs.declared.disks.NodeDisks.{NodeDisks}
use Rattle.oz_nodes_loaded.specs.Loads.{disks_in}

pub are_disks : {D : Type 0} (disks : NodeDisks D) (node : State D) → disks.meta ≡ meta_of node → disks.slots ≡ slots_of node
    → disks ≡ disks_in node
are_disks disks node meta slots = λ i. record { meta = meta i; slots = slots i }

pub last_first : {X : Type 0} (xs : List X) (x : X) → reverse (xs ++ x ∷ []) ≡ x ∷ reverse xs
last_first xs x = reverse-append xs (x ∷ [])

-- the last datanode leaves, and its disks are the last that came back
pub one_back : {D : Type 0} (nodes rest : List (State D)) (node : State D) (disks more : List (NodeDisks D)) (own : NodeDisks D)
    → nodes ≡ rest ++ node ∷ [] → own ≡ disks_in node → more ≡ disks ++ own ∷ []
    → map disks_in rest ++ reverse more ≡ map disks_in nodes ++ reverse disks
one_back {D} nodes rest node disks more own was is now =
    ap (λ (l : List (NodeDisks D)). map disks_in rest ++ reverse l) now
    ∙ (ap (λ (l : List (NodeDisks D)). map disks_in rest ++ l) (last_first disks own)
    ∙ (ap (λ (x : NodeDisks D). map disks_in rest ++ x ∷ reverse disks) is
    ∙ (sym (append_assoc (map disks_in rest) (disks_in node ∷ []) (reverse disks))
    ∙ ap (λ (l : List (NodeDisks D)). l ++ reverse disks) (sym (map-append disks_in rest (node ∷ [])) ∙ ap (λ (l : List (State D)). map disks_in l) (sym was)))))
