-- Which rows are of a stripe, and the operations that change no others.
use Rattle.std.specs.Prelude.{◌≡◌, ℕ, Bool, ◌==◌, List, ◌∷◌, ◌++◌, None, if◌then◌else◌}
use Rattle.std.specs.List.{AllByRecursion}
use Rattle.oz_names.specs.Names.{stripe_of}
use Rattle.oz_rows.specs.declared.key.RowKey.{RowKey}
use Rattle.oz_rows.specs.declared.key.RowKey.TheVariants as keys
use Rattle.oz_rows.specs.declared.operation.Change.{Change}
use Rattle.oz_rows.specs.declared.operation.Operation.{Operation}
use Rattle.oz_rows.specs.declared.operation.Operation.TheVariants.{Put, Remove, CopyKeys, MoveDeleted, DropKeys}
use Rattle.oz_rows.specs.declared.operation.Operation.TheVariants.{DropOpen}
use Rattle.oz_rows.specs.declared.entry.RowEntry.{RowEntry}
use Rattle.oz_rows.specs.RowMaps.{Rows, AreRows, row_of}
use Rattle.oz_effects.specs.Effects.{Leads}
use Rattle.oz_sound.specs.stripes.Parts.{IsApart}

-- the stripe of a row: that of its volume, or the one that it counts for
abbrev pub stripe_of_key : RowKey → ℕ
stripe_of_key (keys.Volume volume) = stripe_of volume
stripe_of_key (keys.Bucket volume bucket) = stripe_of volume
stripe_of_key (keys.Key volume bucket key) = stripe_of volume
stripe_of_key (keys.Open volume bucket key number) = stripe_of volume
stripe_of_key (keys.Deleted volume bucket owner key local) = stripe_of volume
stripe_of_key (keys.Snapshot volume bucket number) = stripe_of volume
stripe_of_key (keys.SnapshotKey volume bucket snapshot key) = stripe_of volume
stripe_of_key (keys.Renamed volume bucket owner local) = stripe_of volume
stripe_of_key (keys.Stripe stripe) = stripe

abbrev pub is_own : ℕ → RowKey → Bool
is_own stripe key = stripe_of_key key == stripe

-- the rows of the stripe alone
abbrev pub only : ℕ → Rows → Rows
only stripe rows key = if is_own stripe key then rows key else None

-- the stripe whose rows an operation changes
abbrev pub stripe_of_operation : Operation → ℕ
stripe_of_operation (Put key row) = stripe_of_key key
stripe_of_operation (Remove key) = stripe_of_key key
stripe_of_operation (CopyKeys volume bucket number) = stripe_of volume
stripe_of_operation (MoveDeleted volume bucket from to) = stripe_of volume
stripe_of_operation (DropKeys volume bucket number) = stripe_of volume
stripe_of_operation (DropOpen volume bucket) = stripe_of volume

-- all operations are of the stripe
abbrev pub AreOf : ℕ → List Operation → Type 0
AreOf stripe items = AllByRecursion (λ item. stripe_of_operation item ≡ stripe) items

-- and all changes are
abbrev pub ChangeOnly : ℕ → List Change → Type 0
ChangeOnly stripe changes = AllByRecursion (λ (change : Change). stripe_of_key change.key ≡ stripe) changes

-- Where the operations drop a bucket's sessions, no block that these have then stands in a key of another stripe.
abbrev pub AllApart : ℕ → Rows → List Operation → Type 0
AllApart stripe rows items =
    (earlier later : List Operation) (volume bucket : List ℕ) (before between : List RowEntry)
    → items ≡ earlier ++ DropOpen volume bucket ∷ later
    → AreRows before (only stripe rows) → Leads before earlier between
    → IsApart (is_own stripe) (row_of between) rows volume bucket
