-- The disks that come back, by their parts, and what was loaded of datanodes.
use Rattle.std.proofs.Common.{◌≡◌, ℕ, zero, suc, ◌+◌, List, [], ◌∷◌, length, map, All, Option, None, Some, IsSome, is_some, slice_get, refl, sym, ◌∙◌, ap, subst, arith}
use Rattle.std.proofs.lemmas.Bool.{false≢true}
use Rattle.std.proofs.lemmas.List.Elements.{All-cons, All-head, All-tail}
use Rattle.std.specs.List.{AllZip}
use Rattle.oz_datanode.specs.declared.disks.NodeDisks.{NodeDisks}
use Rattle.oz_datanode.specs.Datanode.{State as Datanode}
use Rattle.oz_running.specs.disk_run.Coherent.{BothTell}
use Rattle.oz_running.specs.declared.disk_run.disks.Disks.{Disks}
use Rattle.oz_headline.specs.LoadedDisks.{LeavesNode}
use Rattle.oz_headline.specs.Loads.{AreNodesFrom, disks_in}
use Rattle.oz_headline.specs.Stays.{IsIdle}
use Rattle.oz_world.specs.Disk.{Seen, TellsAsBefore}

pub disks_same : {D : Type 0} (some other : Disks D) → some.manager ≡ other.manager → some.scm ≡ other.scm → some.nodes ≡ other.nodes → some ≡ other
disks_same some other manager scm nodes =
    subst (λ x. some ≡ record other { manager = x }) manager
    (subst (λ y. some ≡ record other { manager = some.manager; scm = y }) scm
    (subst (λ z. some ≡ record { manager = some.manager; scm = some.scm; nodes = z }) nodes refl))

-- a disk tells its bytes since it was loaded exactly where it did before
pub tells_still : (before after : Option (List ℕ)) → TellsAsBefore before after → IsSome before → IsSome after
tells_still before None alike some = absurd (false≢true (ap (λ (o : Option (List ℕ)). is_some o) (sym (alike.1 refl)) ∙ some))
tells_still before (Some bytes) alike some = refl

tells_before : (before after : Option (List ℕ)) → TellsAsBefore before after → IsSome after → IsSome before
tells_before None after alike some = absurd (false≢true (ap (λ (o : Option (List ℕ)). is_some o) (sym (alike.0 refl)) ∙ some))
tells_before (Some bytes) after alike some = refl

module _ {D : Type 0} (see : D → Seen) where
  -- the disks of datanodes that were loaded lost nothing
  pub loaded_left : (dn : ℕ) (disks : List (NodeDisks D)) (nodes : List (Datanode D)) → AreNodesFrom see dn disks nodes → AllZip (LeavesNode see) disks (map disks_in nodes)
  loaded_left dn [] [] are = tt
  loaded_left dn [] (node ∷ nodes) are = absurd are
  loaded_left dn (own ∷ disks) [] are = absurd are
  loaded_left dn (own ∷ disks) (node ∷ nodes) are = ((are.0.meta, are.0.slots), loaded_left (dn + 1) disks nodes are.1)

  -- there are as many as were loaded
  pub so_many : (dn : ℕ) (disks : List (NodeDisks D)) (nodes : List (Datanode D)) → AreNodesFrom see dn disks nodes → length nodes ≡ length disks
  so_many dn [] [] are = refl
  so_many dn [] (node ∷ nodes) are = absurd are
  so_many dn (own ∷ disks) [] are = absurd are
  so_many dn (own ∷ disks) (node ∷ nodes) are = ap (λ (n : ℕ). suc n) (so_many (dn + 1) disks nodes are.1)

  -- nothing is half written where it was loaded
  pub idle : (dn : ℕ) (disks : List (NodeDisks D)) (nodes : List (Datanode D)) → AreNodesFrom see dn disks nodes → (k : ℕ) (node : Datanode D) → slice_get nodes k ≡ Some node → IsIdle node
  idle dn disks [] are k node at = absurd cc
  idle dn [] (first ∷ nodes) are k node at = absurd are
  idle dn (own ∷ disks) (first ∷ nodes) are zero node at = let same : first ≡ node = cc in subst (λ (n : Datanode D). IsIdle n) same are.0.written
  idle dn (own ∷ disks) (first ∷ nodes) are (suc k) node at = idle (dn + 1) disks nodes are.1 k node at

  -- the disks of datanodes tell their bytes once they were loaded, and did before
  pub told_still : (dn : ℕ) (disks : List (NodeDisks D)) (nodes : List (Datanode D)) → AreNodesFrom see dn disks nodes → All (BothTell see) disks → All (BothTell see) (map disks_in nodes)
  told_still dn [] [] are tell = λ k own within. absurd (omega (arith, within))
  told_still dn [] (node ∷ nodes) are tell = absurd are
  told_still dn (own ∷ disks) [] are tell = absurd are
  told_still dn (own ∷ disks) (node ∷ nodes) are tell =
      let first = All-head (BothTell see) own disks tell in
      let slots : IsSome (see (disks_in node).slots).told = subst (λ (o : Option (List ℕ)). IsSome o) (sym are.0.slots.contents) first.1 in
      All-cons (BothTell see) (disks_in node) (map disks_in nodes) (tells_still (see own.meta).told (see (disks_in node).meta).told are.0.meta.telling first.0, slots)
      (told_still (dn + 1) disks nodes are.1 (All-tail (BothTell see) own disks tell))

  pub told_before : (dn : ℕ) (disks : List (NodeDisks D)) (nodes : List (Datanode D)) → AreNodesFrom see dn disks nodes → All (BothTell see) (map disks_in nodes) → All (BothTell see) disks
  told_before dn [] [] are tell = λ k own within. absurd (omega (arith, within))
  told_before dn [] (node ∷ nodes) are tell = absurd are
  told_before dn (own ∷ disks) [] are tell = absurd are
  told_before dn (own ∷ disks) (node ∷ nodes) are tell =
      let first = All-head (BothTell see) (disks_in node) (map disks_in nodes) tell in
      let slots : IsSome (see own.slots).told = subst (λ (o : Option (List ℕ)). IsSome o) are.0.slots.contents first.1 in
      All-cons (BothTell see) own disks (tells_before (see own.meta).told (see (disks_in node).meta).told are.0.meta.telling first.0, slots)
      (told_before (dn + 1) disks nodes are.1 (All-tail (BothTell see) (disks_in node) (map disks_in nodes) tell))

  -- the journals alone
  pub journals_tell : (disks : List (NodeDisks D)) → All (BothTell see) disks → All (λ (own : NodeDisks D). IsSome (see own.meta).told) disks
  journals_tell disks tell = λ k own within. (tell k own within).0
