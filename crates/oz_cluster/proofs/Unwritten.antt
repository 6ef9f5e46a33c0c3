-- Disks to which nothing was written are a coherent store.
use Rattle.std.proofs.Common.{◌≡◌, inl, inr, ℕ, ◌+◌, ◌≤◌, List, [], ◌∷◌, length, Option, None, Some, All, IfSome, refl, sym, ◌∙◌, ap, subst, arith}
use Rattle.std.specs.Prelude.{IsSome, IsSomeAnd}
use Rattle.std.specs.List.{slice_index_or}
use Rattle.std.proofs.lemmas.List.Elements.{All-cons, All-head, All-tail}
use Rattle.oz_block.specs.Blocks.{StandsFor as StandsForNode}
use Rattle.oz_cluster.proofs.NoRows.{unwritten_rows_are_sound}
use Rattle.oz_cluster.specs.Unwritten.{AreUnwritten, IsBare}
use Rattle.oz_core.specs.declared.opening.Opening.{Opening}
use Rattle.oz_core.specs.Contents.{OpeningBytes}
use Rattle.oz_datanode.specs.Datanode.{State as Datanode, node_in}
use Rattle.oz_datanode.specs.declared.disks.NodeDisks.{NodeDisks}
use Rattle.oz_running.specs.disk_run.Coherent.{IsCoherentStore}
use Rattle.oz_running.specs.declared.disk_run.disks.Disks.{Disks}
use Rattle.oz_entries.specs.Build.{Makes}
use Rattle.oz_entries.specs.Node.{Node}
use Rattle.oz_scm.specs.grants.Build.{Makes as MakesGrants, made_from}
use Rattle.oz_scm.specs.grants.Made.{Made, begun}
use Rattle.oz_journal.specs.Grammar.{IsJournal}
use Rattle.oz_loaded.specs.Loads.{IsLoaded}
use Rattle.oz_loaded.specs.Unseated.{UnseatedView}
use Rattle.oz_namespace.specs.Namespace.{nothing}
use Rattle.oz_running.specs.Loads.{AreNodesFrom}
use Rattle.oz_rows.specs.RowMaps.{Rows, row_of}
use Rattle.oz_scm.specs.Scm.{StandsFor as StandsForScm, made_for}
use Rattle.oz_store.specs.Store.{IsStore}
use Rattle.oz_running.specs.store_opening.Agreeing.{BlocksAgree}
use Rattle.oz_running.specs.store_opening.Openings.{opening_bytes, opening_of}
use Rattle.oz_world.specs.Disk.{Seen}

-- what is said of the bytes that a bare disk tells is said of at most one byte
of_bare : (told : Option (List ℕ)) (P : List ℕ → Type 0) (R : Type 0) → IsSomeAnd told (λ bytes. length bytes ≤ 1) → IfSome told P
    → ((bytes : List ℕ) → length bytes ≤ 1 → P bytes → R) → R
of_bare None P R bare said so = absurd bare
of_bare (Some bytes) P R bare said so = so bytes bare said

tells : (told : Option (List ℕ)) → IsSomeAnd told (λ bytes. length bytes ≤ 1) → IsSome told
tells None bare = absurd bare
tells (Some bytes) bare = refl

no_bodies : (bytes : List ℕ) (bodies : List (List ℕ)) → length bytes ≤ 1 → IsJournal bytes bodies → bodies ≡ []
no_bodies bytes bodies short (inl few) = few.1
no_bodies bytes bodies short (inr many) = absurd (omega (arith, many.0, short))

none_made : (found : Option Made) → MakesGrants [] found → found ≡ None
unfolding made_from
none_made None makes = refl
none_made (Some made) makes = absurd (cc makes)

scm_begun : (given : ℕ) (bytes : List ℕ) (made : Made) → length bytes ≤ 1 → StandsForScm given bytes made → made ≡ begun given
scm_begun given bytes made short stands =
    let none = no_bodies bytes stands.bodies short stands.journal in
    let found = none_made stands.found (subst (λ (l : List (List ℕ)). MakesGrants l stands.found) none stands.makes) in
    stands.is ∙ ap (made_for given) found

node_empty : (bytes : List ℕ) (node : Node) → length bytes ≤ 1 → StandsForNode bytes node → Makes [] node
node_empty bytes node short stands = subst (λ (l : List (List ℕ)). Makes l node) (no_bodies bytes stands.0 short stands.1) stands.2

module _ {D : Type 0} (see : D → Seen) where
  abbrev Bare : NodeDisks D → Type 0
  Bare own = IsBare (see own.meta) × IsSome (see own.slots).told

  nodes_empty : (dn : ℕ) (disks : List (NodeDisks D)) (nodes : List (Datanode D)) → AreNodesFrom see dn disks nodes → All Bare disks → All (λ (node : Datanode D). Makes [] (node_in node)) nodes
  nodes_empty dn [] [] are bare = λ k node within. absurd (omega (arith, within))
  nodes_empty dn [] (node ∷ nodes) are bare = absurd are
  nodes_empty dn (own ∷ disks) [] are bare = absurd are
  nodes_empty dn (own ∷ disks) (node ∷ nodes) are bare =
      All-cons (λ (other : Datanode D). Makes [] (node_in other)) node nodes
      (of_bare (see own.meta).told (λ bytes. StandsForNode bytes (node_in node)) (Makes [] (node_in node)) (All-head Bare own disks bare).0 are.0.stands (λ bytes short stands. node_empty bytes (node_in node) short stands))
      (nodes_empty (dn + 1) disks nodes are.1 (All-tail Bare own disks bare))

  module _ (empty : (unseated : UnseatedView) (this : IsLoaded [] unseated) (count : ℕ) (nodes : List (Datanode D)) → All (λ (node : Datanode D). Makes [] (node_in node)) nodes
      → IsStore (row_of this.all) (opening_of unseated nothing (begun count) nodes) (opening_bytes see nodes))
      (only : (all : Rows) (opening : Opening) (bytes : OpeningBytes) → IsStore all opening bytes → BlocksAgree all opening bytes)
      (disks : Disks D) (bare : AreUnwritten see disks) (nodes : List (Datanode D)) (are : AreNodesFrom see 0 disks.nodes.items nodes) (unseated : UnseatedView) where
    at_none : (this : IsLoaded [] unseated) (count : ℕ)
        → IsCoherentStore see disks.nodes.items (row_of this.all) (opening_of unseated nothing (begun count) nodes) (opening_bytes see nodes)
    at_none this count =
        let store = empty unseated this count nodes (nodes_empty 0 disks.nodes.items nodes are bare.nodes) in record {
          stands = store.stands;
          sound = unwritten_rows_are_sound unseated this store.sound;
          agree = only (row_of this.all) (opening_of unseated nothing (begun count) nodes) (opening_bytes see nodes) store;
          told = λ k own within. let its = bare.nodes k own within in (tells (see (slice_index_or disks.nodes.items k own).meta).told its.0, its.1);
        }

    at_any : (bodies : List (List ℕ)) → bodies ≡ [] → (this : IsLoaded bodies unseated) (count : ℕ)
        → IsCoherentStore see disks.nodes.items (row_of this.all) (opening_of unseated nothing (begun count) nodes) (opening_bytes see nodes)
    at_any bodies none =
        subst (λ (l : List (List ℕ)). (this : IsLoaded l unseated) (count : ℕ) → IsCoherentStore see disks.nodes.items (row_of this.all) (opening_of unseated nothing (begun count) nodes) (opening_bytes see nodes))
        (sym none) at_none

    pub unwritten_coherent : (bodies : List (List ℕ)) (this : IsLoaded bodies unseated) → IfSome (see disks.manager).told (λ bytes. IsJournal bytes bodies)
        → (made : Made) → IfSome (see disks.scm).told (λ bytes. StandsForScm (length disks.nodes.items) bytes made)
        → IsCoherentStore see disks.nodes.items (row_of this.all) (opening_of unseated nothing made nodes) (opening_bytes see nodes)
    unwritten_coherent bodies this journal made stands =
        let count = length disks.nodes.items in
        let none = of_bare (see disks.manager).told (λ bytes. IsJournal bytes bodies) (bodies ≡ []) bare.manager journal (λ bytes short its. no_bodies bytes bodies short its) in
        let first = of_bare (see disks.scm).told (λ bytes. StandsForScm count bytes made) (made ≡ begun count) bare.scm stands (λ bytes short its. scm_begun count bytes made short its) in
        subst (λ (m : Made). IsCoherentStore see disks.nodes.items (row_of this.all) (opening_of unseated nothing m nodes) (opening_bytes see nodes)) (sym first) (at_any bodies none this count)
