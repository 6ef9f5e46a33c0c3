-- Cells in a list.
use Rattle.std.proofs.Common.{◌≡◌, ℕ, zero, suc, ◌+◌, List, [], ◌∷◌, ◌++◌, length, slice_get, Some, subst, arith}
use Rattle.oz_replicas.specs.Cells.{CellView, AreInOrder}

module _ {D K : Type 0} where
  pub none_in_order : AreInOrder {D = D} {K = K} []
  none_in_order place cell at = absurd cc

  -- one more at its place
  more_from : (start : ℕ) (cells : List (CellView D K)) (cell : CellView D K)
      → ((place : ℕ) (one : CellView D K) → slice_get cells place ≡ Some one → one.node.id ≡ start + place)
      → cell.node.id ≡ start + length cells
      → (place : ℕ) (one : CellView D K) → slice_get (cells ++ cell ∷ []) place ≡ Some one → one.node.id ≡ start + place
  more_from start [] cell are number zero one at = subst (λ (x : CellView D K). x.node.id ≡ start + 0) (inside at) number
    where
      inside : Some cell ≡ Some one → cell ≡ one
      inside e = cc
  more_from start [] cell are number (suc place) one at = absurd cc
  more_from start (x ∷ cells) cell are number zero one at = are 0 one at
  more_from start (x ∷ cells) cell are number (suc place) one at =
      let e = more_from (start + 1) cells cell (λ place one at. let r = are (suc place) one at in omega (arith, r)) (omega (arith, number)) place one at in
      omega (arith, e)

  pub more_in_order : (cells : List (CellView D K)) (cell : CellView D K) → AreInOrder cells → cell.node.id ≡ length cells → AreInOrder (cells ++ cell ∷ [])
  more_in_order cells cell are number place one at =
      let e = more_from 0 cells cell (λ place one at. let r = are place one at in omega (arith, r)) (omega (arith, number)) place one at in
      omega (arith, e)
