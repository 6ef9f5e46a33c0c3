-- The order of rows: by kind, and then by their key fields from left to right, names by their bytes.
use Rattle.std.specs.Prelude.{ℕ, List, [], ◌∷◌}
use Rattle.std.specs.declared.cmp.Ordering.{Ordering}
use Rattle.std.specs.Ordering.{nat_cmp}
use Rattle.std.specs.Cmp.Lexicographic.{slice_cmp}
use Rattle.oz_rows.specs.declared.key.RowKey.{RowKey}
use Rattle.oz_rows.specs.declared.key.RowKey.TheVariants as keys
use Rattle.oz_rows.specs.Rows.{kind_of}

-- the key fields, a number as a list of one
abbrev pub key_fields : RowKey → List (List ℕ)
key_fields (keys.Volume volume) = volume ∷ []
key_fields (keys.Bucket volume bucket) = volume ∷ bucket ∷ []
key_fields (keys.Key volume bucket key) = volume ∷ bucket ∷ key ∷ []
key_fields (keys.Open volume bucket key number) = volume ∷ bucket ∷ key ∷ (number ∷ []) ∷ []
key_fields (keys.Deleted volume bucket owner key local) = volume ∷ bucket ∷ (owner ∷ []) ∷ key ∷ (local ∷ []) ∷ []
key_fields (keys.Snapshot volume bucket number) = volume ∷ bucket ∷ (number ∷ []) ∷ []
key_fields (keys.SnapshotKey volume bucket snapshot key) = volume ∷ bucket ∷ (snapshot ∷ []) ∷ key ∷ []
key_fields (keys.Renamed volume bucket owner local) = volume ∷ bucket ∷ (owner ∷ []) ∷ (local ∷ []) ∷ []
key_fields (keys.Stripe stripe) = (stripe ∷ []) ∷ []

-- the kind first, and then the fields
abbrev pub key_order : RowKey → RowKey → Ordering
key_order a b = slice_cmp (slice_cmp nat_cmp) ((kind_of a ∷ []) ∷ key_fields a) ((kind_of b ∷ []) ∷ key_fields b)
