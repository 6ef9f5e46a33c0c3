-- Where nothing is on any disk.
use Rattle.std.proofs.Common.{
  ◌≡◌,
  ⊎_elim,
  ℕ,
  zero,
  suc,
  ◌<◌,
  true,
  false,
  List,
  [],
  ◌∷◌,
  length,
  map,
  None,
  Some,
  All,
  Any,
  refl,
  sym,
  ◌∙◌,
  ap,
  subst,
  arith,
  Contains,
  ◌↔◌,
}
use Rattle.std.proofs.lemmas.Bool.{false≢true}
use Rattle.std.specs.FinMap.{empty}
use Rattle.std.specs.List.{slice_get, slice_index_or}
use Rattle.std.specs.Option.{option_map_or}
use Rattle.oz_core.specs.Contents.{OpeningBytes}
use Rattle.oz_core.specs.Nodes.{was_held}
use Rattle.oz_datanode.specs.Datanode.{State as Datanode, node_in}
use Rattle.oz_entries.specs.Build.{Makes, MakesFrom}
use Rattle.oz_entries.specs.Node.{Node, is_held}
use Rattle.oz_fields.specs.declared.block.Block.{Block}
use Rattle.oz_scm.specs.grants.Made.{Made, begun}
use Rattle.oz_effects.specs.Build.{BuildsFrom}
use Rattle.oz_loaded.specs.Counted.{IsGreatestId}
use Rattle.oz_loaded.specs.Loads.{IsLoaded}
use Rattle.oz_loaded.specs.Unseated.{UnseatedView}
use Rattle.oz_model.specs.Reach.{IsReached}
use Rattle.oz_namespace.specs.declared.namespace.Namespace.{Namespace}
use Rattle.oz_namespace.specs.Namespace.{nothing}
use Rattle.oz_world.specs.Disk.{Seen}
use Rattle.oz_nodes_loaded.specs.Ids.{AreBelow, HoldsId}
use Rattle.oz_rows.specs.RowMaps.{Rows, row_of}
use Rattle.oz_rows.specs.declared.entry.RowEntry.{RowEntry}
use Rattle.oz_sound.specs.Sound.{IsSoundButRenames}
use Rattle.oz_sound.specs.StandsFor.{StandsFor}
use Rattle.oz_store.specs.Store.{IsInADeletedRow, IsInARow, IsStore, empty_store}
use Rattle.oz_nodes_loaded.specs.store_opening.Agreeing.{BlocksAgree, HoldsNothing}
use Rattle.oz_nodes_loaded.specs.store_opening.Openings.{opening_bytes, opening_of}
use Rattle.oz_nodes_loaded.specs.store_opening.laws.Logs.{empty_log, no_log_is_coherent}
use Rattle.oz_nodes_loaded.specs.store_opening.laws.Stores.{coherent, rows_agree}
use Rattle.oz_nodes_loaded.specs.store_opening.laws.Held.{was_held_as}

no_row : {X : Type 0} (block : Block) → IsInARow (row_of []) block → X
no_row block is = let there : None ≡ Some is.1.row = is.1.there in absurd (cc)

none_held : {D : Type 0} (nodes : List (Datanode D)) → All HoldsNothing nodes → (dn : ℕ) (block : Block)
    → option_map_or (λ (node : Datanode D). is_held (node_in node) block) (slice_get nodes dn) false ≡ false
none_held [] none dn block = refl
none_held (node ∷ nodes) none zero block = none zero node (omega arith) block
none_held (node ∷ nodes) none (suc dn) block = none_held nodes (λ k d within. none (suc k) d (omega (arith, within))) dn block

none_there : {D : Type 0} (nodes : List (Datanode D)) → All HoldsNothing nodes → (k : ℕ) (node : Node) → k < length (map node_in nodes) → (block : Block)
    → is_held (slice_index_or (map node_in nodes) k node) block ≡ false
none_there [] none k node within block = absurd (omega (arith, within))
none_there (first ∷ nodes) none zero node within block = none zero first (omega arith) block
none_there (first ∷ nodes) none (suc k) node within block =
    none_there nodes (λ i d below. none (suc i) d (omega (arith, below))) k node (omega (arith, within)) block

pub nothing_below : {D : Type 0} (count : ℕ) (nodes : List (Datanode D)) → All HoldsNothing nodes → AreBelow 0 (map node_in nodes) (begun count).next_id
nothing_below {D} count nodes none id seen =
    ⊎_elim (λ zero_it. subst (λ (n : ℕ). n < (begun count).next_id) (sym zero_it) (omega arith)) (λ any. holds any) seen
  where
    holds : Any (HoldsId id) (map (node_in {D = D}) nodes) → id < (begun count).next_id
    holds any =
        let none_of = none_there nodes none any.0 any.1 any.2 any.4.0 in
        absurd (false≢true (sym none_of ∙ (ap (λ (n : Node). is_held n any.4.0) any.3 ∙ any.4.1)))

module _ {D : Type 0} (nodes : List (Datanode D)) (none : All HoldsNothing nodes) where
  pub nothing_agrees : (unseated : UnseatedView) (namespace : Namespace) (made : Made) (bytes : OpeningBytes) → made.unretired ≡ empty
      → BlocksAgree (row_of []) (opening_of unseated namespace made nodes) bytes
  nothing_agrees unseated namespace made bytes no_log = record {
    made = λ block is. no_row block is;
    placed = λ block dn held. never block dn held;
    digests_match = λ block dn held. never block dn held;
    alike = λ block dn other held also. never block dn held;
    whole = λ piece dn content is held its. never piece.block dn held;
    logged = no_log_is_coherent (opening_of unseated namespace made nodes) (empty_log made.unretired no_log);
  }
    where
      never : {X : Type 0} (block : Block) (dn : ℕ) → was_held (opening_of unseated namespace made nodes) dn block ≡ true → X
      never block dn held = absurd (false≢true (sym (none_held nodes none dn block) ∙ (sym (was_held_as block nodes dn) ∙ held)))

pub no_bodies_hold_nothing : {D : Type 0} (node : Datanode D) → Makes [] (node_in node) → HoldsNothing node
unfolding MakesFrom
no_bodies_hold_nothing node makes block = ap (λ (n : Node). is_held n block) makes

-- ---- rows of no body

unwritten_greatest : (id : ℕ) → IsGreatestId (row_of []) id → id ≡ 0
unwritten_greatest id is = ⊎_elim (λ none. none) (λ there. let found : None ≡ Some there.1 = there.2 in absurd cc) is.reached

module _ {D : Type 0} (see : D → Seen) (empty_store_is : (bytes : OpeningBytes) → IsStore (row_of []) empty_store bytes)
    (unseated : UnseatedView) (this : IsLoaded [] unseated)
    (left : (block : Block) → Contains unseated.left block ↔ IsInADeletedRow (row_of this.all) block)
    (reached_in : (all : Rows) (namespace : Namespace) (block : Block) → StandsFor all namespace → IsReached namespace block → IsInARow all block)
    (count : ℕ) (nodes : List (Datanode D)) (unwritten : All (λ (node : Datanode D). Makes [] (node_in node)) nodes) where
  no_rows : this.all ≡ []
  unfolding BuildsFrom
  no_rows = this.builds.1.0

  hold_nothing : All HoldsNothing nodes
  hold_nothing k d within = no_bodies_hold_nothing (slice_index_or nodes k d) (unwritten k d within)

  below : AreBelow unseated.greatest_id (map node_in nodes) (begun count).next_id
  below =
      let none : unseated.greatest_id ≡ 0 =
      unwritten_greatest unseated.greatest_id
      (subst (λ (all : List RowEntry). IsGreatestId (row_of all) unseated.greatest_id) no_rows this.greatest_id) in
      subst (λ (id : ℕ). AreBelow id (map node_in nodes) (begun count).next_id) (sym none) (nothing_below count nodes hold_nothing)

  pub unwritten_store : IsStore (row_of this.all) (opening_of unseated nothing (begun count) nodes) (opening_bytes see nodes)
  unwritten_store =
      let bytes = opening_bytes see nodes in
      let old = empty_store_is bytes in
      let agree : BlocksAgree (row_of this.all) (opening_of unseated nothing (begun count) nodes) bytes =
      subst (λ (all : List RowEntry). BlocksAgree (row_of all) (opening_of unseated nothing (begun count) nodes) bytes) (sym no_rows)
      (nothing_agrees nodes hold_nothing unseated nothing (begun count) bytes refl) in
      let stands : StandsFor (row_of this.all) nothing = subst (λ (all : List RowEntry). StandsFor (row_of all) nothing) (sym no_rows) old.stands in
      let reached : (block : Block) → IsReached nothing block
      → IsInARow (row_of this.all) block = λ block is. reached_in (row_of this.all) nothing block stands is in
      record {
        stands = stands;
        sound = subst (λ (all : List RowEntry). IsSoundButRenames (row_of all)) (sym no_rows) old.sound;
        left = left;
        rows = rows_agree (row_of this.all) unseated this.greatest_id left nothing reached (begun count) nodes below bytes agree;
        disks = coherent (row_of this.all) unseated this.greatest_id left nothing reached (begun count) nodes below bytes agree;
      }
