-- What follows from loading, and what follows where the blocks agree.
use Rattle.std.proofs.Common.{
  ◌≡◌,
  ◌↔◌,
  ⊎_elim,
  inl,
  inr,
  ℕ,
  zero,
  suc,
  ◌<◌,
  true,
  false,
  List,
  [],
  ◌∷◌,
  length,
  map,
  Option,
  None,
  Some,
  IsSome,
  Any,
  Contains,
  refl,
  sym,
  ◌∙◌,
  arith,
}
use Rattle.std.proofs.lemmas.Bool.{false≢true}
use Rattle.std.specs.FinMap.{get}
use Rattle.std.specs.List.{slice_get}
use Rattle.std.specs.Option.{option_map_or}
use Rattle.oz_core.specs.declared.opening.Container.{Container}
use Rattle.oz_core.specs.declared.opening.Opening.{Opening}
use Rattle.oz_core.specs.Coherent.{IdsAreFresh, IsCoherent, IsOnDisk}
use Rattle.oz_core.specs.Contents.{OpeningBytes}
use Rattle.oz_core.specs.Nodes.{was_held}
use Rattle.oz_core.specs.Scm.{members}
use Rattle.oz_datanode.specs.Datanode.{State as Datanode, node_in}
use Rattle.oz_entries.specs.Node.{Node, is_held}
use Rattle.oz_fields.specs.declared.block.Block.{Block}
use Rattle.oz_scm.specs.grants.Made.{Made}
use Rattle.oz_loaded.specs.Counted.{IsGreatestId}
use Rattle.oz_loaded.specs.Unseated.{UnseatedView}
use Rattle.oz_model.specs.Reach.{IsReached}
use Rattle.oz_namespace.specs.declared.namespace.Namespace.{Namespace}
use Rattle.oz_nodes.specs.Pipelines.{members_of}
use Rattle.oz_nodes_loaded.specs.Ids.{AreBelow, HoldsId}
use Rattle.oz_rows.specs.declared.key.RowKey.{RowKey}
use Rattle.oz_rows.specs.declared.key.RowKey.TheVariants as keys
use Rattle.oz_rows.specs.declared.row.Row.{Row}
use Rattle.oz_rows.specs.RowMaps.{Rows}
use Rattle.oz_store.specs.Store.{IsInADeletedRow, IsInARow, RowsAreCoherent, local_in}
use Rattle.oz_nodes_loaded.specs.store_opening.Agreeing.{BlocksAgree}
use Rattle.oz_nodes_loaded.specs.store_opening.Openings.{opening_of}
use Rattle.oz_nodes_loaded.specs.store_opening.laws.Held.{was_held_as}

deleted_in_a_row : (all : Rows) (block : Block) → IsInADeletedRow all block → IsInARow all block
deleted_in_a_row all block is = (keys.Deleted is.volume is.bucket is.owner is.key is.local, is.has)

-- whoever holds a block has its id
holder_has : {D : Type 0} (nodes : List (Datanode D)) (dn : ℕ) (block : Block)
    → option_map_or (λ (node : Datanode D). is_held (node_in node) block) (slice_get nodes dn) false ≡ true
    → Any (HoldsId block.local) (map node_in nodes)
holder_has [] dn block is = absurd (false≢true is)
holder_has (node ∷ nodes) zero block is = (zero, node_in node, omega arith, refl, (block, is, refl))
holder_has (node ∷ nodes) (suc dn) block is =
    let others = holder_has nodes dn block is in
    (suc others.0, others.1, omega (arith, others.2), others.3, others.4)

module _ (all : Rows) (unseated : UnseatedView) (greatest : IsGreatestId all unseated.greatest_id) (nodes : List Node) (next : ℕ)
    (below : AreBelow unseated.greatest_id nodes next) where
  all_below : unseated.greatest_id < next
  all_below = below unseated.greatest_id (inl refl)

  pub rows_fresh : (block : Block) → IsInARow all block → block.local < next
  rows_fresh block is =
      let none = greatest.none_above is.0 is.1.row block.local is.1.there (inl (block, is.1.has, refl)) in
      omega (arith, none, all_below)

  pub keys_fresh : (key : RowKey) (local : ℕ) → IsSome (all key) → local_in key ≡ Some local → local < next
  keys_fresh key local some is = by (all key) refl some
    where
      by : (o : Option Row) → all key ≡ o → IsSome o → local < next
      by None e none = absurd (false≢true none)
      by (Some row) e has = let none = greatest.none_above key row local e (inr is) in omega (arith, none, all_below)

module _ {D : Type 0} (all : Rows) (unseated : UnseatedView) (greatest : IsGreatestId all unseated.greatest_id)
    (left : (block : Block) → Contains unseated.left block ↔ IsInADeletedRow all block)
    (namespace : Namespace) (reached : (block : Block) → IsReached namespace block → IsInARow all block)
    (made : Made) (nodes : List (Datanode D)) (below : AreBelow unseated.greatest_id (map node_in nodes) made.next_id) where
  abbrev opening : Opening
  opening = opening_of unseated namespace made nodes

  held_fresh : (block : Block) (dn : ℕ) → was_held opening dn block ≡ true → block.local < made.next_id
  held_fresh block dn held = below block.local (inr (holder_has nodes dn block (sym (was_held_as block nodes dn) ∙ held)))

  -- a block on a disk is named by a row or held
  on_disk : {P : Type 0} (block : Block) → IsOnDisk opening block → (IsInARow all block → P) → ((dn : ℕ) → was_held opening dn block ≡ true → P) → P
  on_disk block is row held = ⊎_elim (λ there. row (reached block there))
      (λ others. ⊎_elim (λ among. row (deleted_in_a_row all block ((left block).0 among))) (λ its. held its.0 its.1) others) is

  pub ids_fresh : IdsAreFresh opening
  ids_fresh block is = on_disk block is (rows_fresh all unseated greatest (map node_in nodes) made.next_id below block) (held_fresh block)

  module _ (bytes : OpeningBytes) (agree : BlocksAgree all opening bytes) where
    -- a container that has members was made
    has_members : (block : Block) (dn : ℕ) → Contains (members opening [] block.container) dn → IsSome (get opening.containers block.container)
    has_members block dn among = by (get opening.containers block.container) among
      where
        by : (o : Option Container) → Contains (option_map_or (λ (container : Container). members_of (length opening.nodes) container.pipeline) o []) dn
            → IsSome o
        by None none = absurd (omega (arith, none.1))
        by (Some container) some = refl

    pub coherent : IsCoherent opening bytes
    coherent = record {
      log = agree.logged;
      blocks = record {
        made = λ block is. on_disk block is (agree.made block) (λ dn held. has_members block dn (agree.placed block dn held));
        placed = agree.placed;
        digests_match = agree.digests_match;
        alike = agree.alike;
        whole = agree.whole;
      };
      fresh = ids_fresh;
    }

    pub rows_agree : RowsAreCoherent all opening
    rows_agree = record {
      made = agree.made;
      fresh = rows_fresh all unseated greatest (map node_in nodes) made.next_id below;
      fresh_in_keys = keys_fresh all unseated greatest (map node_in nodes) made.next_id below;
    }
