-- Lists of what is held.
use Rattle.std.specs.Prelude.{
  ◌≡◌,
  ℕ,
  ◌≤◌,
  Bool,
  true,
  ◌&&◌,
  ◌↔◌,
  List,
  [],
  ◌∷◌,
  Option,
  None,
  Some,
  is_some,
  IsSomeAnd,
  IsTrue,
  Contains,
  max,
  map,
  if◌then◌else◌,
}
use Rattle.std.specs.List.Sorted.{IsStrictlyIncreasing, IsStrictlySortedBy}
use Rattle.std.specs.Option.{option_map}
use Rattle.oz_container.specs.declared.state.State.{State}
use Rattle.oz_entries.specs.declared.replica.Replica.{Replica}
use Rattle.oz_entries.specs.declared.row.BlockRow.{BlockRow}
use Rattle.oz_entries.specs.Held.{HeldView, node_of, IsNamed, block_order}
use Rattle.oz_entries.specs.Node.{Node, is_held, is_in}
use Rattle.oz_fields.specs.declared.block.Block.{Block}
use Rattle.oz_fields.specs.declared.block.Piece.{Piece}

-- the blocks that are held, each with its length, in the order of their containers and then of their own numbers
pub record AreHeld (node : Node) (pieces : List Piece) : Type 0 where
  pub each : (piece : Piece) → Contains pieces piece ↔ IsSomeAnd (node.rows piece.block) (λ row. piece.length ≡ row.length)
  pub rising : IsStrictlySortedBy block_order (map (λ (piece : Piece). piece.block) pieces)

-- the own numbers of the blocks of a container that are held
pub record AreHeldIn (node : Node) (container : ℕ) (locals : List ℕ) : Type 0 where
  pub each : (local : ℕ) → Contains locals local ↔ IsTrue (is_held node (record { container = container; local = local }))
  pub rising : IsStrictlyIncreasing locals

-- the greatest own number of a block that is held, 0 where none is
pub record IsGreatestHeld (node : Node) (local : ℕ) : Type 0 where
  pub none_above : (block : Block) → is_held node block ≡ true → block.local ≤ local
  pub is_held : 1 ≤ local → (block : Block) × (is_held node block ≡ true) × (local ≡ block.local)

-- The replicas that were named, each with its state and its greatest transaction, in the order of their containers. Each
-- other one is open, and no transaction was applied to it.
pub record AreReplicas (held : HeldView) (replicas : List (ℕ × State × ℕ)) : Type 0 where
  pub each : (replica : ℕ × State × ℕ) → Contains replicas replica
      ↔ (IsNamed held replica.0 × (replica.1 ≡ (node_of held).states replica.0)
      × (replica.2 ≡ (node_of held).greatest replica.0))
  pub rising : IsStrictlyIncreasing (map (λ (replica : ℕ × State × ℕ). replica.0) replicas)

-- For private calls: a row, or the room for one, and what is listed of it.
abbrev pub Place : Type 0
Place = Block × Option BlockRow

abbrev pub piece_of : Place → Option Piece
piece_of place = option_map (λ (row : BlockRow). record { block = place.0; length = row.length }) place.1

abbrev pub local_of : ℕ → Place → Option ℕ
local_of container place = if is_in container place.0 && is_some place.1 then Some place.0.local else None

abbrev pub greatest_local : List Place → ℕ
greatest_local [] = 0
greatest_local (place ∷ places) = max (if is_some place.1 then place.0.local else 0) (greatest_local places)

abbrev pub replica_state : ℕ × Replica → ℕ × State × ℕ
replica_state replica = (replica.0, replica.1.state, replica.1.greatest)
