-- How long a batch is, by how many operations it has.
use Rattle.std.proofs.Common.{◌≡◌, ◌≤◌, ◌*◌, suc, List, [], ◌∷◌, map, length, length-append, refl, ap, arith}
use Rattle.std.proofs.lemmas.List.Concat.{flat_map-cons}
use Rattle.std.specs.List.{AllByRecursion}
use Rattle.oz_decision.specs.Drafts.{row_by_row}
use Rattle.oz_rows.specs.declared.key.RowKey.{RowKey}
use Rattle.oz_rows.specs.declared.operation.Operation.{Operation}
use Rattle.oz_rows.specs.Operations.{AreOperations, batch_bytes, operation_bytes}
use Rattle.oz_rows.specs.Rows.{KeyFits}
use Rattle.oz_rows.specs.RowMaps.{gone}
use Rattle.oz_rows.specs.laws.Sizes.{operation_size}

pub batch_size : (items : List Operation) → AreOperations items → length (batch_bytes items) ≤ length items * 6304
batch_size [] fit = omega arith
batch_size (item ∷ items) fit =
    omega (arith, ap length (flat_map-cons operation_bytes item items), length-append (operation_bytes item) (batch_bytes items), operation_size item fit.0, batch_size items fit.1)

-- rows that go
pub goings_fit : (found : List RowKey) → AllByRecursion KeyFits found → AreOperations (row_by_row (map gone found))
goings_fit [] fit = tt
goings_fit (key ∷ found) fit = (fit.0, goings_fit found fit.1)

pub goings_many : (found : List RowKey) → length (row_by_row (map gone found)) ≡ length found
goings_many [] = refl
goings_many (key ∷ found) = ap suc (goings_many found)
