-- Datanodes that were loaded one after another.
use Rattle.std.proofs.Common.{◌≡◌, ℕ, zero, suc, ◌+◌, ◌<◌, ◌≤◌, inl, inr, List, [], ◌∷◌, length, map, Option, None, Some, refl, sym, ap, subst, arith}
use Rattle.std.specs.Prelude.{All, IfSome, IsSome, IsSomeAnd}
use Rattle.oz_block.specs.Blocks.{StandsFor}
use Rattle.oz_entries.specs.Node.{Node}
use Rattle.oz_journal.specs.Grammar.{IsJournal}
use Rattle.std.proofs.lemmas.Bool.{false≢true}
use Rattle.std.proofs.lemmas.List.Elements.{All-head, All-tail}
use Rattle.std.specs.List.{slice_get}
use Rattle.oz_container.specs.declared.state.State.{State}
use Rattle.oz_container.specs.declared.state.State.TheVariants as states
use Rattle.oz_core.specs.Nodes.{is_open as is_open_by_law}
use Rattle.oz_datanode.specs.Datanode.{State as Datanode}
use Rattle.oz_datanode.specs.Writing.{is_open}
use Rattle.oz_datanode.specs.declared.disks.NodeDisks.{NodeDisks}
use Rattle.oz_nodes_loaded.specs.Loads.{AreNodesFrom, IsNodeFrom}
use Rattle.oz_nodes_loaded.specs.store_opening.Openings.{opened_node}
use Rattle.oz_world.specs.Disk.{Seen}

-- two crates ask in one way whether a replica is open
pub open_alike : (state : State) → is_open_by_law state ≡ is_open state
open_alike states.Open = refl
open_alike states.Closing = refl
open_alike states.QuasiClosed = refl
open_alike states.Closed = refl
open_alike states.Deleting = refl
open_alike states.Deleted = refl

pub there_at : {A B : Type 0} (f : A → B) (nodes : List A) (dn : ℕ) (node : A) → slice_get nodes dn ≡ Some node → dn < length (map f nodes)
there_at f [] dn node is = absurd cc
there_at f (first ∷ nodes) zero node is = omega arith
there_at f (first ∷ nodes) (suc dn) node is = let within = there_at f nodes dn node is in omega (arith, within)

-- what a journal's disk tells once it was loaded stands for what is held
pub told_stands : (was now : Option (List ℕ)) (node : Node) → IsSome was → IfSome was (λ bytes. StandsFor bytes node)
    → IfSome was (λ bytes. length bytes ≤ 1 → now ≡ Some (0 ∷ [])) → IfSome was (λ bytes. 2 ≤ length bytes → now ≡ Some bytes)
    → IsSomeAnd now (λ bytes. StandsFor bytes node)
told_stands None now node some stands closed contents = absurd (false≢true some)
told_stands (Some bytes) now node some stands closed contents = by stands.1
  where
    by : IsJournal bytes stands.0 → IsSomeAnd now (λ bytes. StandsFor bytes node)
    by (inl few) =
        let none : StandsFor (0 ∷ []) node = (stands.0, inl (omega arith, few.1), stands.2) in
        subst (λ (o : Option (List ℕ)). IsSomeAnd o (λ bytes. StandsFor bytes node)) (sym (closed few.0)) none
    by (inr more) =
        subst (λ (o : Option (List ℕ)). IsSomeAnd o (λ bytes. StandsFor bytes node)) (sym (contents more.0)) stands

module _ {D : Type 0} (see : D → Seen) where
  pub so_many : (first : ℕ) (all : List (NodeDisks D)) (nodes : List (Datanode D)) → AreNodesFrom see first all nodes → length all ≡ length (map (λ (node : Datanode D). opened_node node.blocks.held) nodes)
  so_many first [] [] are = refl
  so_many first [] (node ∷ nodes) are = absurd are
  so_many first (disks ∷ all) [] are = absurd are
  so_many first (disks ∷ all) (node ∷ nodes) are = ap (λ (n : ℕ). suc n) (so_many (first + 1) all nodes are.1)

  -- a datanode was loaded from the disks in its place
  pub from_at : (first : ℕ) (all : List (NodeDisks D)) (nodes : List (Datanode D)) → AreNodesFrom see first all nodes → (at : ℕ) (node : Datanode D) → slice_get nodes at ≡ Some node
      → (disks : NodeDisks D) × IsNodeFrom see (first + at) disks node
  from_at first [] [] are at node is = absurd cc
  from_at first [] (other ∷ nodes) are at node is = absurd are
  from_at first (disks ∷ all) [] are at node is = absurd are
  from_at first (disks ∷ all) (other ∷ nodes) are zero node is =
      let one : other ≡ node = cc in
      let here : first ≡ first + zero = omega arith in
      (disks, subst (λ (n : ℕ). IsNodeFrom see n disks node) here (subst (IsNodeFrom see first disks) one are.0))
  from_at first (disks ∷ all) (other ∷ nodes) are (suc at) node is =
      let found = from_at (first + 1) all nodes are.1 at node is in
      let here : (first + 1) + at ≡ first + suc at = omega arith in
      (found.0, subst (λ (n : ℕ). IsNodeFrom see n found.0 node) here found.1)

  -- and so it is of its place in the disks
  pub disks_at : (P : NodeDisks D → Type 0) (first : ℕ) (all : List (NodeDisks D)) (nodes : List (Datanode D)) → AreNodesFrom see first all nodes → All P all
      → (at : ℕ) (node : Datanode D) → slice_get nodes at ≡ Some node → (disks : NodeDisks D) × (IsNodeFrom see (first + at) disks node × P disks)
  disks_at P first [] [] are each at node is = absurd cc
  disks_at P first [] (other ∷ nodes) are each at node is = absurd are
  disks_at P first (disks ∷ all) [] are each at node is = absurd are
  disks_at P first (disks ∷ all) (other ∷ nodes) are each zero node is =
      let one : other ≡ node = cc in
      let here : first ≡ first + zero = omega arith in
      (disks, (subst (λ (n : ℕ). IsNodeFrom see n disks node) here (subst (IsNodeFrom see first disks) one are.0), All-head P disks all each))
  disks_at P first (disks ∷ all) (other ∷ nodes) are each (suc at) node is =
      let found = disks_at P (first + 1) all nodes are.1 (All-tail P disks all each) at node is in
      let here : (first + 1) + at ≡ first + suc at = omega arith in
      (found.0, (subst (λ (n : ℕ). IsNodeFrom see n found.0 node) here found.1.0, found.1.1))
