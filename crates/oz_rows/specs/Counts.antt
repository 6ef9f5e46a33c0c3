-- How many keys have a row, and lists without repetitions.
use Rattle.std.specs.Prelude.{◌≡◌, ◌≢◌, ℕ, true, List, [], ◌∷◌, length, IsSome}
use Rattle.std.specs.List.{AllByRecursion, list_any}
use Rattle.oz_rows.specs.declared.key.RowKey.{RowKey}
use Rattle.oz_rows.specs.RowMaps.{Rows, IsBelow, is_same}

-- a key with a row, from one key on and below another
pub record IsBetween (rows : Rows) (from to key : RowKey) : Type 0 where
  pub has_row : IsSome (rows key)
  pub not_below : IsBelow key from → ⊥
  pub below : IsBelow key to

-- each key is below those behind it
abbrev pub AllRise : List RowKey → Type 0
AllRise [] = Unit {0}
AllRise (key ∷ others) = AllByRecursion (λ other. IsBelow key other) others × AllRise others

-- The keys with a row, from one key on and below another, are these, in order.
pub record AreKeys (rows : Rows) (from to : RowKey) (keys : List RowKey) : Type 0 where
  pub rise : AllRise keys
  pub each : AllByRecursion (IsBetween rows from to) keys
  pub every : (key : RowKey) → IsBetween rows from to key → list_any (is_same key) keys ≡ true

-- there are so many of them
abbrev pub IsCount : Rows → RowKey → RowKey → ℕ → Type 0
IsCount rows from to count = (keys : List RowKey) × AreKeys rows from to keys × (count ≡ length keys)

-- no two of a list are the same
abbrev pub AllDiffer : {A : Type 0} → List A → Type 0
AllDiffer [] = Unit {0}
AllDiffer (item ∷ items) = AllByRecursion (λ other. item ≢ other) items × AllDiffer items
