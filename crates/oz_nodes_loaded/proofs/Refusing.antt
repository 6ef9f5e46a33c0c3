-- What comes back where a datanode can't be loaded.
use Rattle.std.proofs.Common.{◌≡◌, ℕ, List, [], ◌∷◌, ◌++◌, length, map, reverse, sym, ◌∙◌, ap, subst}
use Rattle.std.specs.List.{AllZip}
use Rattle.oz_datanode.specs.Datanode.{State}
use Rattle.oz_datanode.specs.declared.disks.NodeDisks.{NodeDisks}
use Rattle.oz_datanode.specs.declared.fault.NodeFault.{NodeFault}
use Rattle.oz_world.specs.Disk.{Seen}
use Rattle.oz_nodes_loaded.specs.declared.fault.StoreFault.{StoreFault}
use Rattle.oz_nodes_loaded.specs.Disks.{LeavesNode}
use Rattle.oz_nodes_loaded.specs.Loads.{disks_in}
use Rattle.oz_nodes_loaded.specs.Steps.{EndsWith, Says, named}
use Rattle.oz_nodes_loaded.proofs.Itself.{nodes_themselves}
use Rattle.oz_nodes_loaded.proofs.Loading.{Loading, are_as_many, are_left, splits, zip_then}
use Rattle.oz_nodes_loaded.proofs.Putting.{last_first}

module _ {D : Type 0} (see : D → Seen) where
  back : (loaded : List (State D)) (rest put : List (NodeDisks D)) (left : NodeDisks D) (after : List (NodeDisks D))
      → put ≡ rest ++ left ∷ [] → after ≡ map disks_in loaded ++ reverse put → after ≡ map disks_in loaded ++ left ∷ reverse rest
  back loaded rest put left after was is =
      is ∙ ap (λ (l : List (NodeDisks D)). map disks_in loaded ++ l) (ap (λ (l : List (NodeDisks D)). reverse l) was ∙ last_first rest left)

  pub ends_with : (all behind rest put after : List (NodeDisks D)) (loaded : List (State D)) (own left : NodeDisks D) (dn : ℕ)
      (fault : NodeFault) (whole : StoreFault) → Loading see all behind loaded → behind ≡ rest ++ own ∷ [] → put ≡ rest ++ left ∷ []
      → after ≡ map disks_in loaded ++ reverse put → dn ≡ length loaded → whole ≡ named dn fault → Says see fault own left
      → EndsWith see whole all after
  ends_with all behind rest put after loaded own left dn fault whole so was put_is after_is number names says = record {
    dn = dn;
    fault_of = fault;
    is = names;
    ends = record {
      first = so.first;
      loaded = loaded;
      own = own;
      left = left;
      behind = reverse rest;
      number = are_as_many see 0 so.first loaded so.are ∙ sym number;
      are = so.are;
      why = says;
      were = splits see all behind rest own so.first was so.whole;
      came_back = back loaded rest put left after put_is after_is;
    };
  }

  pub leaves_all : (all behind rest put after : List (NodeDisks D)) (loaded : List (State D)) (own left : NodeDisks D)
      → Loading see all behind loaded → behind ≡ rest ++ own ∷ [] → put ≡ rest ++ left ∷ []
      → after ≡ map disks_in loaded ++ reverse put → LeavesNode see own left → AllZip (LeavesNode see) all after
  leaves_all all behind rest put after loaded own left so was put_is after_is leaves =
      let made = zip_then (LeavesNode see) so.first (own ∷ reverse rest) (map disks_in loaded) (left ∷ reverse rest) (are_left see 0 so.first loaded so.are) (leaves, nodes_themselves see (reverse rest)) in
      let one = subst (λ (l : List (NodeDisks D)). AllZip (LeavesNode see) l (map disks_in loaded ++ left ∷ reverse rest)) (sym (splits see all behind rest own so.first was so.whole)) made in
      subst (AllZip (LeavesNode see) all) (sym (back loaded rest put left after put_is after_is)) one
