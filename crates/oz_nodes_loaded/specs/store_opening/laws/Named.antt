-- The lengths and replicas of an opening are those of the datanodes.
use Rattle.std.proofs.Common.{
  ◌≡◌,
  ℕ,
  zero,
  suc,
  eqb,
  eqb-true,
  Bool,
  true,
  false,
  not,
  ◌&&◌,
  ◌||◌,
  ◌==◌,
  cond,
  List,
  [],
  ◌∷◌,
  map,
  Option,
  None,
  Some,
  is_some,
  option_map,
  refl,
  sym,
  ◌∙◌,
  ap,
  subst,
  Contains,
  ◌<◌,
  ◌≤◌,
  length,
  arith,
}
use Rattle.std.proofs.lemmas.Bool.{eq-eqb, false≢true}
use Rattle.std.specs.List.{cons_option, filter_map, list_any, slice_get, slice_index_or}
use Rattle.std.specs.Option.{option_map_or}
use Rattle.std.specs.Ordering.{is_eq, nat_cmp}
use Rattle.oz_container.specs.declared.state.State.TheVariants as states
use Rattle.oz_core.specs.Nodes.{closes_at_opening, is_block, is_open, length_in}
use Rattle.oz_core.specs.Stories.{first_in}
use Rattle.oz_datanode.specs.Datanode.{State as Datanode}
use Rattle.oz_entries.specs.Held.{HeldView, node_of, replica_of}
use Rattle.oz_entries.specs.Node.{Node}
use Rattle.oz_entries.specs.laws.Blocks.{eq_number}
use Rattle.oz_entries.specs.declared.replica.Replica.{Replica as KeptReplica}
use Rattle.oz_entries.specs.declared.row.BlockRow.{BlockRow}
use Rattle.oz_fields.specs.declared.block.Block.{Block}
use Rattle.oz_fields.specs.declared.block.Piece.{Piece}
use Rattle.oz_core.specs.declared.opening.Replica.{Replica}
use Rattle.oz_nodes_loaded.specs.store_opening.Openings.{opened_node, pieces_of, replicas_of}
use Rattle.oz_nodes_loaded.specs.store_opening.laws.Held.{blocks_in, or_left, or_right, row_listed, same_test, turned, with_length}

-- ---- lengths

abbrev its_length : Block → Piece → Option ℕ
its_length block piece = cond (is_block block piece.block) (Some piece.length) None

module _ (node : Node) (block : Block) where
  abbrev lengths : List Block → List ℕ
  lengths blocks = filter_map (its_length block) (pieces_of node blocks)

  abbrev lengths_with : Option BlockRow → Block → List Piece → List ℕ
  lengths_with o other pieces = filter_map (its_length block) (cons_option (option_map (with_length other) o) pieces)

  -- a block without a row has no length
  none_next : (other : Block) (pieces : List Piece) (o : Option BlockRow) → node.rows other ≡ o → (t : Bool) → is_block block other ≡ t
      → node.rows block ≡ None → filter_map (its_length block) pieces ≡ [] → lengths_with o other pieces ≡ []
  none_next other pieces None its t same none others = others
  none_next other pieces (Some row) its true same none others =
      let found : Some row ≡ None = sym its ∙ (ap node.rows (turned block other same) ∙ none) in absurd cc
  none_next other pieces (Some row) its false same none others =
      ap (λ (t : Bool). cons_option (cond t (Some row.length) None) (filter_map (its_length block) pieces)) same ∙ others

  no_length : (blocks : List Block) → node.rows block ≡ None → lengths blocks ≡ []
  no_length [] none = refl
  no_length (other ∷ blocks) none = none_next other (pieces_of node blocks) (node.rows other) refl (is_block block other) refl none (no_length blocks none)

  -- one that has a row has its length first
  first_next : (other : Block) (pieces : List Piece) (blocks : List Block) (row : BlockRow) (o : Option BlockRow) → node.rows other ≡ o → (t : Bool)
      → is_block block other ≡ t
      → node.rows block ≡ Some row
      → (list_any (λ (b : Block). is_block block b) blocks ≡ true → first_in (filter_map (its_length block) pieces) ≡ Some row.length)
      → (t || list_any (λ (b : Block). is_block block b) blocks) ≡ true → first_in (lengths_with o other pieces) ≡ Some row.length
  first_next other pieces blocks row None its true same has others e =
      let found : None ≡ Some row = sym its ∙ (ap node.rows (turned block other same) ∙ has) in absurd cc
  first_next other pieces blocks row None its false same has others e = others e
  first_next other pieces blocks row (Some first) its true same has others e =
      let found : Some first ≡ Some row = sym its ∙ (ap node.rows (turned block other same) ∙ has) in
      let one : first ≡ row = cc in
      ap (λ (t : Bool). first_in (cons_option (cond t (Some first.length) None) (filter_map (its_length block) pieces))) same
      ∙ ap (λ (r : BlockRow). Some r.length) one
  first_next other pieces blocks row (Some first) its false same has others e =
      ap (λ (t : Bool). first_in (cons_option (cond t (Some first.length) None) (filter_map (its_length block) pieces))) same ∙ others e

  first_length : (blocks : List Block) (row : BlockRow) → node.rows block ≡ Some row → list_any (λ (b : Block). is_block block b) blocks ≡ true
      → first_in (lengths blocks) ≡ Some row.length
  first_length [] row has among = absurd (false≢true among)
  first_length (other ∷ blocks) row has among =
      first_next other (pieces_of node blocks) blocks row (node.rows other) refl (is_block block other) refl has (first_length blocks row has) among

pub no_length_in : (held : HeldView) (block : Block) → (node_of held).rows block ≡ None → length_in block (opened_node held) ≡ []
no_length_in held block none = no_length (node_of held) block (blocks_in held.rows) none

pub first_length_in : (held : HeldView) (block : Block) (row : BlockRow) → (node_of held).rows block ≡ Some row
    → first_in (length_in block (opened_node held)) ≡ Some row.length
first_length_in held block row has =
    first_length (node_of held) block (blocks_in held.rows) row has (row_listed held.rows block (ap (λ (o : Option BlockRow). is_some o) has))

pub length_is : (held : HeldView) (block : Block)
    → first_in (length_in block (opened_node held)) ≡ option_map (λ (row : BlockRow). row.length) ((node_of held).rows block)
length_is held block = by ((node_of held).rows block) refl
  where
    by : (o : Option BlockRow) → (node_of held).rows block ≡ o
        → first_in (length_in block (opened_node held)) ≡ option_map (λ (row : BlockRow). row.length) ((node_of held).rows block)
    by None is = ap (λ (xs : List ℕ). first_in xs) (no_length_in held block is) ∙ ap (option_map (λ (row : BlockRow). row.length)) (sym is)
    by (Some row) is = first_length_in held block row is ∙ ap (option_map (λ (row : BlockRow). row.length)) (sym is)

-- ---- replicas

module _ (node : Node) (container : ℕ) where
  abbrev closes : Replica → Bool
  closes replica = replica.container == container && not (is_open replica.state)

  closed_next : (other : ℕ) (t : Bool) → eqb other container ≡ t → (rest : Bool) → (rest ≡ true → not (is_open (node.states container)) ≡ true)
      → ((t && not (is_open (node.states other))) || rest) ≡ true → not (is_open (node.states container)) ≡ true
  closed_next other true same rest others e = by (not (is_open (node.states other))) refl e
    where
      one : other ≡ container
      one = eqb-true other container same

      by : (c : Bool) → not (is_open (node.states other)) ≡ c → (c || rest) ≡ true → not (is_open (node.states container)) ≡ true
      by true is e = subst (λ (n : ℕ). not (is_open (node.states n)) ≡ true) one is
      by false is e = others e
  closed_next other false same rest others e = others e

  listed_closed : (containers : List ℕ) → list_any closes (replicas_of node containers) ≡ true → not (is_open (node.states container)) ≡ true
  listed_closed [] is = absurd (false≢true is)
  listed_closed (other ∷ containers) is =
      closed_next other (eqb other container) refl (list_any closes (replicas_of node containers)) (listed_closed containers) is

  found_next : (other : ℕ) (t : Bool) → eqb container other ≡ t → (rest among : Bool) → not (is_open (node.states container)) ≡ true
      → (among ≡ true → rest ≡ true)
      → (t || among) ≡ true → ((eqb other container && not (is_open (node.states other))) || rest) ≡ true
  found_next other true same rest among closed others e =
      let one : container ≡ other = eqb-true container other same in
      or_left (eqb other container && not (is_open (node.states other))) rest
      (subst (λ (n : ℕ). (eqb n container && not (is_open (node.states n))) ≡ true) one
      (ap (λ (t : Bool). t && not (is_open (node.states container))) (eq-eqb container container refl) ∙ closed))
  found_next other false same rest among closed others e = or_right (eqb other container && not (is_open (node.states other))) rest (others e)

  closed_listed : (containers : List ℕ) → not (is_open (node.states container)) ≡ true → list_any (λ (other : ℕ). eqb container other) containers ≡ true
      → list_any closes (replicas_of node containers) ≡ true
  closed_listed [] closed among = absurd (false≢true among)
  closed_listed (other ∷ containers) closed among =
      found_next other (eqb container other) refl (list_any closes (replicas_of node containers)) (list_any (λ (o : ℕ). eqb container o) containers) closed
      (closed_listed containers closed) among

-- a replica that is found stands under its container
abbrev pub containers_in : List (ℕ × KeptReplica) → List ℕ
containers_in replicas = map (λ (entry : ℕ × KeptReplica). entry.0) replicas

replica_next : (container first : ℕ) (replica : KeptReplica) (rest : Option KeptReplica) (among t : Bool) → is_eq (nat_cmp container first) ≡ t
    → (is_some rest ≡ true → among ≡ true) → is_some (cond t (Some replica) rest) ≡ true → (eqb container first || among) ≡ true
replica_next container first replica rest among true same others e = or_left (eqb container first) among (sym (eq_number container first) ∙ same)
replica_next container first replica rest among false same others e = or_right (eqb container first) among (others e)

pub replica_listed : (replicas : List (ℕ × KeptReplica)) (container : ℕ) → is_some (replica_of replicas container) ≡ true
    → list_any (λ (other : ℕ). eqb container other) (containers_in replicas) ≡ true
replica_listed [] container is = absurd (false≢true is)
replica_listed (entry ∷ replicas) container is =
    replica_next container entry.0 entry.1 (replica_of replicas container) (list_any (λ (other : ℕ). eqb container other) (containers_in replicas))
    (is_eq (nat_cmp container entry.0)) refl (replica_listed replicas container) is

-- one that isn't open is found
not_open_found : (o : Option KeptReplica) → not (is_open (option_map_or (λ (replica : KeptReplica). replica.state) o states.Open)) ≡ true → is_some o ≡ true
not_open_found None is = is
not_open_found (Some replica) is = refl

pub closed_as : (held : HeldView) (container : ℕ) → closes_at_opening container (opened_node held) ≡ not (is_open ((node_of held).states container))
closed_as held container =
    same_test (closes_at_opening container (opened_node held)) (not (is_open ((node_of held).states container)))
    (listed_closed (node_of held) container (containers_in held.replicas))
    (λ is. closed_listed (node_of held) container (containers_in held.replicas) is
    (replica_listed held.replicas container (not_open_found (replica_of held.replicas container) is)))

-- each has the state and the greatest transaction of its container
listed_said : (node : Node) (containers : List ℕ) (k : ℕ) (replica : Replica) → k < length (replicas_of node containers)
    → slice_index_or (replicas_of node containers) k replica ≡ replica
    → (replica.state ≡ node.states replica.container) × (replica.greatest ≡ node.greatest replica.container)
listed_said node [] k replica within is = absurd (omega (arith, within))
listed_said node (container ∷ containers) zero replica within is = (
  sym (ap (λ (r : Replica). r.state) is) ∙ ap (λ (r : Replica). node.states r.container) is,
  sym (ap (λ (r : Replica). r.greatest) is) ∙ ap (λ (r : Replica). node.greatest r.container) is,
)
listed_said node (container ∷ containers) (suc k) replica within is = listed_said node containers k replica (omega (arith, within)) is

pub replica_said : (held : HeldView) (replica : Replica) → Contains (opened_node held).replicas replica
    → (replica.state ≡ (node_of held).states replica.container) × (replica.greatest ≡ (node_of held).greatest replica.container)
replica_said held replica among = listed_said (node_of held) (containers_in held.replicas) among.0 replica among.1 among.2

-- one to which a transaction was applied is listed
abbrev its : Node → ℕ → Replica
its node n = record { container = n; state = node.states n; greatest = node.greatest n }

found_listed : (containers : List ℕ) (node : Node) (container : ℕ) → list_any (λ (other : ℕ). eqb container other) containers ≡ true
    → Contains (replicas_of node containers) (its node container)
found_listed [] node container among = absurd (false≢true among)
found_listed (other ∷ containers) node container among = by (eqb container other) refl (found_listed containers node container) among
  where
    by : (t : Bool) → eqb container other ≡ t
        → (list_any (λ (o : ℕ). eqb container o) containers ≡ true → Contains (replicas_of node containers) (its node container))
        → (t || list_any (λ (o : ℕ). eqb container o) containers) ≡ true → Contains (its node other ∷ replicas_of node containers) (its node container)
    by true same later e = (zero, omega arith, ap (its node) (sym (eqb-true container other same)))
    by false same later e = let found = later e in (suc found.0, omega (arith, found.1), found.2)

applied_found : (o : Option KeptReplica) → 1 ≤ option_map_or (λ (replica : KeptReplica). replica.greatest) o 0 → is_some o ≡ true
applied_found None some = absurd (omega (arith, some))
applied_found (Some replica) some = refl

pub applied_listed : (held : HeldView) (container : ℕ) → 1 ≤ (node_of held).greatest container
    → Contains (opened_node held).replicas (its (node_of held) container)
applied_listed held container some =
    found_listed (containers_in held.replicas) (node_of held) container
    (replica_listed held.replicas container (applied_found (replica_of held.replicas container) some))

-- ---- of one of all datanodes

module _ {D B : Type 0} (f : Datanode D → B) where
  pub at_place : (nodes : List (Datanode D)) (dn : ℕ) (node : Datanode D) → slice_get nodes dn ≡ Some node → slice_get (map f nodes) dn ≡ Some (f node)
  at_place [] dn node at = absurd cc
  at_place (first ∷ nodes) zero node at = let one : first ≡ node = cc in ap (λ (n : Datanode D). Some (f n)) one
  at_place (first ∷ nodes) (suc dn) node at = at_place nodes dn node at
