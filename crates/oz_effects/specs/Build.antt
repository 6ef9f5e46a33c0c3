-- What the bodies of a manager's journal make of the rows, and where they are damaged.
use Rattle.std.specs.Prelude.{◌≡◌, ◌⊎◌, ℕ, zero, suc, Bool, false, ◌+◌, ◌-◌, ◌<◌, ◌≤◌, List, [], ◌∷◌, ◌++◌, length}
use Rattle.std.specs.Prelude.{Option, None, Some, Ok, Err}
use Rattle.std.specs.List.{list_any}
use Rattle.oz_rows.specs.declared.key.RowKey.{RowKey}
use Rattle.oz_rows.specs.declared.key.RowKey.TheVariants as keys
use Rattle.oz_rows.specs.declared.row.Row.{Row}
use Rattle.oz_rows.specs.declared.row.Row.TheVariants as rows
use Rattle.oz_rows.specs.declared.row.SnapshotState.TheVariants.{Live, Marked}
use Rattle.oz_rows.specs.declared.operation.Operation.{Operation}
use Rattle.oz_rows.specs.declared.operation.Operation.TheVariants.{Put, Remove}
use Rattle.oz_rows.specs.declared.operation.Head.{Head}
use Rattle.oz_rows.specs.declared.operation.Operations.{Operations}
use Rattle.oz_rows.specs.declared.operation.TheConstants.{LAYOUT}
use Rattle.oz_rows.specs.Operations.{IsBody, AreOperations, batch_bytes, head_bytes, head_in}
use Rattle.oz_rows.specs.Reading.{head_at, operation_at}
use Rattle.oz_rows.specs.declared.entry.RowEntry.{RowEntry}
use Rattle.oz_rows.specs.RowMaps.{row_of, is_same}
use Rattle.oz_effects.specs.Effects.{Leads}

-- The row that a row needs: a bucket its volume; a key, an open key and a live snapshot their bucket. All others, a
-- marked snapshot among them, may outlive their bucket.
abbrev pub base_of : RowKey → Row → Option RowKey
base_of (keys.Bucket volume bucket) row = Some (keys.Volume volume)
base_of (keys.Key volume bucket key) row = Some (keys.Bucket volume bucket)
base_of (keys.Open volume bucket key number) row = Some (keys.Bucket volume bucket)
base_of (keys.Snapshot volume bucket number) (rows.Snapshot name previous Live) = Some (keys.Bucket volume bucket)
base_of (keys.Volume volume) row = None
base_of (keys.Deleted volume bucket owner key local) row = None
base_of (keys.SnapshotKey volume bucket snapshot key) row = None
base_of (keys.Renamed volume bucket owner local) row = None
base_of (keys.Stripe stripe) row = None
base_of (keys.Snapshot volume bucket number) (rows.Snapshot name previous Marked) = None
base_of (keys.Snapshot volume bucket number) rows.Volume = None
base_of (keys.Snapshot volume bucket number) rows.Bucket = None
base_of (keys.Snapshot volume bucket number) (rows.Key of_number pieces) = None
base_of (keys.Snapshot volume bucket number) (rows.Open blocks) = None
base_of (keys.Snapshot volume bucket number) (rows.Deleted blocks) = None
base_of (keys.Snapshot volume bucket number) (rows.SnapshotKey of_number pieces) = None
base_of (keys.Snapshot volume bucket number) (rows.Renamed key) = None
base_of (keys.Snapshot volume bucket number) (rows.Stripe of_number) = None

-- a row stands without the one that it needs
pub record IsOrphan (all : List RowEntry) (key base : RowKey) : Type 0 where
  pub row : Row
  pub stands : row_of all key ≡ Some row
  pub needs : base_of key row ≡ Some base
  pub absent : row_of all base ≡ None

-- none does
abbrev pub AllAreBased : List RowEntry → Type 0
AllAreBased all = (key base : RowKey) → IsOrphan all key base → ⊥

-- an operation puts this row, with whatever value
abbrev pub puts : RowKey → Operation → Bool
puts key (Put other row) = is_same other key
puts key operation = false

-- it removes this row
abbrev pub removes : RowKey → Operation → Bool
removes key (Remove other) = is_same other key
removes key operation = false

-- a row that none of the operations put stands without this one, which it needs
abbrev pub LeavesOne : List RowEntry → List Operation → RowKey → Type 0
LeavesOne after items base = (key : RowKey) × IsOrphan after key base × (list_any (puts key) items ≡ false)

-- An operation is at fault where it puts a row that stands without the one that it needs after all of them; or where it
-- is the last that removes what such a row needs, and none of them put that row. The later ones stand behind it.
abbrev pub IsAtFault : List RowEntry → List Operation → List Operation → Operation → Type 0
IsAtFault after items later (Put key row) = (base : RowKey) × IsOrphan after key base
IsAtFault after items later (Remove base) = LeavesOne after items base × (list_any (removes base) later ≡ false)
IsAtFault after items later operation = ⊥

-- none of some operations of a body is at fault, where these others stand behind them
abbrev pub NoneAtFault : List RowEntry → List Operation → List Operation → List Operation → Type 0
NoneAtFault after items [] behind = Unit {0}
NoneAtFault after items (operation ∷ operations) behind =
    (IsAtFault after items (operations ++ behind) operation → ⊥) × NoneAtFault after items operations behind

-- what stands before the first body
abbrev pub no_head : Head
no_head = record { layout = LAYOUT; index = 0 }

-- a head may follow another: its layout is not below that one's, and its index is above it
pub record Rises (last head : Head) : Type 0 where
  pub layout : last.layout ≤ head.layout
  pub index : last.index < head.index

-- A body may follow these rows: it is in the grammar, its head may follow the last, each row that it removes is there,
-- and after it each row has the one that it needs.
pub record IsNextBody (last : Head) (before : List RowEntry) (bytes : List ℕ) (body : Operations)
    (after : List RowEntry) : Type 0 where
  pub body_is : IsBody bytes body
  pub rises : Rises last (head_in body)
  pub leads : Leads before body.items after
  pub based : AllAreBased after

-- bodies lead from rows and a head to rows and the last head
unfoldable pub BuildsFrom : List RowEntry → Head → List (List ℕ) → List RowEntry → Head → Type 0
BuildsFrom before last [] after head = (after ≡ before) × (head ≡ last)
BuildsFrom before last (bytes ∷ bodies) after head =
    (body : Operations) × (between : List RowEntry) × IsNextBody last before bytes body between
    × BuildsFrom between (head_in body) bodies after head

-- what the bodies of a journal make, and their last index
abbrev pub Builds : List (List ℕ) → List RowEntry → ℕ → Type 0
Builds bodies all index = (head : Head) × BuildsFrom [] no_head bodies all head × (head.index ≡ index)

-- a head that was read may not follow the last, at its layout, or else at its index, which stands behind it
abbrev pub HeadFalls : Head → Head → ℕ → Type 0
HeadFalls last head place =
    ((head.layout < last.layout) × (place ≡ 0))
    ⊎ ((last.layout ≤ head.layout) × (head.index ≤ last.index) × (place ≡ 1))

-- the head can't be read, at its layout or its index; or it may not follow the last
abbrev pub HeadFails : Head → List ℕ → ℕ → Type 0
HeadFails last bytes place =
    ((left : ℕ) × (head_at bytes ≡ Err left) × (place ≡ length bytes - left))
    ⊎ ((head : Head) × (rest : List ℕ) × (head_at bytes ≡ Ok (head, rest)) × HeadFalls last head place)

-- an operation can't be read, at a field of it; or it removes a row that isn't there, and begins at the place
abbrev pub OperationFails : List RowEntry → List ℕ → List ℕ → ℕ → Type 0
OperationFails all bytes rest place =
    ((left : ℕ) × (operation_at rest ≡ Err left) × (place ≡ length bytes - left))
    ⊎ ((key : RowKey) × (behind : List ℕ) × (operation_at rest ≡ Ok (Remove key, behind)) × (row_of all key ≡ None)
    × (place ≡ length bytes - length rest))

-- behind a good head and operations that may follow each other stands one that fails
pub record BatchFails (last : Head) (before : List RowEntry) (bytes : List ℕ) (place : ℕ) : Type 0 where
  pub head : Head
  pub items : List Operation
  pub rest : List ℕ
  pub between : List RowEntry
  pub reads : head_at bytes ≡ Ok (head, batch_bytes items ++ rest)
  pub rises : Rises last head
  pub fit : AreOperations items
  pub leads : Leads before items between
  pub not_over : 1 ≤ length rest
  pub fails : OperationFails between bytes rest place

-- all operations may follow each other, and behind some that aren't at fault stands one that is, which begins at the
-- place
pub record LeavesOrphan (last : Head) (before : List RowEntry) (bytes : List ℕ) (place : ℕ) : Type 0 where
  pub body : Operations
  pub after : List RowEntry
  pub earlier : List Operation
  pub operation : Operation
  pub later : List Operation
  pub body_is : IsBody bytes body
  pub rises : Rises last (head_in body)
  pub leads : Leads before body.items after
  pub parts : body.items ≡ earlier ++ operation ∷ later
  pub first : NoneAtFault after body.items earlier (operation ∷ later)
  pub at_fault : IsAtFault after body.items later operation
  pub begins : place ≡ length (head_bytes (head_in body)) + length (batch_bytes earlier)

-- a body that may not follow these rows is damaged at this place of its bytes
abbrev pub IsDamagedBody : Head → List RowEntry → List ℕ → ℕ → Type 0
IsDamagedBody last before bytes place =
    HeadFails last bytes place ⊎ (BatchFails last before bytes place ⊎ LeavesOrphan last before bytes place)

-- behind so many good bodies stands one that is damaged at this place of its bytes
unfoldable pub FailsFrom : List RowEntry → Head → List (List ℕ) → ℕ → ℕ → Type 0
FailsFrom before last [] count place = ⊥
FailsFrom before last (bytes ∷ bodies) zero place = IsDamagedBody last before bytes place
FailsFrom before last (bytes ∷ bodies) (suc count) place =
    (body : Operations) × (between : List RowEntry) × IsNextBody last before bytes body between
    × FailsFrom between (head_in body) bodies count place

-- the bodies of a journal are damaged at this place of the bytes of this body, counted from 0
abbrev pub FailsAt : List (List ℕ) → ℕ → ℕ → Type 0
FailsAt bodies count place = FailsFrom [] no_head bodies count place
