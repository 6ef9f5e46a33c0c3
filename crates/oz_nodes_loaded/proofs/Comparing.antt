-- What is so where all were loaded and the ids were compared.
use Rattle.std.proofs.Common.{◌≡◌, ℕ, List, length, Result, Ok, Err, IfOk, IfErr, refl, sym, subst}
use Rattle.std.specs.List.{AllZip}
use Rattle.oz_datanode.specs.Datanode.{State as Datanode}
use Rattle.oz_datanode.specs.declared.disks.NodeDisks.{NodeDisks}
use Rattle.oz_scm.specs.Scm.{State as Scm}
use Rattle.oz_world.specs.Disk.{Seen}
use Rattle.oz_nodes_loaded.specs.declared.fault.StoreFault.{StoreFault}
use Rattle.oz_nodes_loaded.specs.Disks.{LeavesNode, LeavesScm}
use Rattle.oz_nodes_loaded.specs.Loads.{AreNodesFrom, IsScmFrom}
use Rattle.oz_nodes_loaded.specs.Refused.{IsSo, ScmCameBack}
use Rattle.oz_nodes_loaded.specs.Steps.{Disagrees, EndsWith}
use Rattle.oz_nodes_loaded.proofs.Loading.{are_left}
use Rattle.oz_nodes_loaded.proofs.Saying.{node_is_so}

pub ok_so : {T E : Type 0} (P Q : T → Type 0) (result : Result T E) → IfOk result P → ((x : T) → P x → Q x) → IfOk result Q
ok_so P Q (Ok x) is then = then x is
ok_so P Q (Err e) is then = is

pub err_so : {T E : Type 0} (P Q : E → Type 0) (result : Result T E) → IfErr result P → ((e : E) → P e → Q e) → IfErr result Q
err_so P Q (Ok x) is then = is
err_so P Q (Err e) is then = then e is

module _ {D : Type 0} (see : D → Seen) (greatest : ℕ) (disk : D) (nodes : List (NodeDisks D)) (scm : Scm D)
    (from : IsScmFrom see (length nodes) disk scm) (disk_left : D) (nodes_left : List (NodeDisks D)) (fault : StoreFault) where
  abbrev pub came_back : disk_left ≡ scm.disk → ScmCameBack see (length nodes) disk disk_left
  came_back same = record { scm = scm; loaded = from; disk = same }

  pub scm_leaves : disk_left ≡ scm.disk → LeavesScm (length nodes) (see disk) (see disk_left)
  scm_leaves same = subst (λ (d : D). LeavesScm (length nodes) (see disk) (see d)) (sym same) from.left

  -- a datanode wasn't loaded
  pub ended_so : disk_left ≡ scm.disk → EndsWith see fault nodes nodes_left
      → IsSo see greatest disk nodes disk_left nodes_left fault
  ended_so same ends =
      subst (IsSo see greatest disk nodes disk_left nodes_left) (sym ends.is) (node_is_so see greatest disk nodes disk_left nodes_left ends.dn ends.fault_of (came_back same) ends.ends)

  -- an id isn't below the next one
  module _ (loaded : List (Datanode D)) (are : AreNodesFrom see 0 nodes loaded)
      (not : Disagrees greatest scm loaded disk_left nodes_left fault) where
    pub ids_so : IsSo see greatest disk nodes disk_left nodes_left fault
    ids_so = subst (IsSo see greatest disk nodes disk_left nodes_left) (sym not.is) (record {
      scm_came_back = came_back not.scm_came_back;
      loaded = loaded;
      are = are;
      came_back = not.nodes_came_back;
      is_next = refl;
      is_greatest = not.is_greatest;
      not_below = not.not_below;
    })

    pub ids_leave : AllZip (LeavesNode see) nodes nodes_left
    ids_leave =
        subst (λ (l : List (NodeDisks D)). AllZip (LeavesNode see) nodes l) (sym not.nodes_came_back) (are_left see 0 nodes loaded are)
