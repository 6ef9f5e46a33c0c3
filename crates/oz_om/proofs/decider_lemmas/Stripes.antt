-- A batch whose changes are of a stripe has operations of that stripe alone.
use Rattle.std.proofs.Common.{◌≡◌, ℕ, List, [], ◌∷◌, ◌++◌, Option, None, Some, refl, sym, ◌∙◌, subst}
use Rattle.oz_om.specs.decider.Records.{operations_of_snapshots}
use Rattle.oz_owned.specs.Stood.{DropsFirst, IsBatchOfStripe}
use Rattle.std.specs.List.{AllByRecursion}
use Rattle.oz_decision.specs.Drafts.{operation_for, row_by_row}
use Rattle.oz_effects.specs.Batches.{IsBatchOf}
use Rattle.oz_names.specs.Names.{stripe_of}
use Rattle.oz_om_session.specs.om_open.Records.{operations_for as operations_of_opening}
use Rattle.oz_reclaim.specs.Service.{operations_for as operations_of_service}
use Rattle.oz_requests.specs.declared.request.Request.{Request}
use Rattle.oz_requests.specs.declared.request.Request.TheVariants.{CreateSnapshot, ExpireOpen, MoveDeleted, PurgeSnapshot}
use Rattle.oz_requests.specs.Names.{volume_in}
use Rattle.oz_rows.specs.declared.key.RowKey.{RowKey}
use Rattle.oz_rows.specs.declared.operation.Change.{Change}
use Rattle.oz_rows.specs.declared.operation.Operation.{Operation}
use Rattle.oz_rows.specs.declared.operation.Operation.TheVariants.{DropOpen}
use Rattle.oz_rows.specs.declared.row.Row.{Row}
use Rattle.oz_rows.specs.Operations.{AreOperations, batch_bytes}
use Rattle.oz_rows.specs.RowMaps.{Rows}
use Rattle.oz_rows.specs.laws.Batches.{same_batch}
use Rattle.oz_sound.specs.stripes.Stripes.{stripe_of_key, stripe_of_operation, AreOf, ChangeOnly}

one_own : (stripe : ℕ) (key : RowKey) (row : Option Row) → stripe_of_key key ≡ stripe → stripe_of_operation (operation_for key row) ≡ stripe
one_own stripe key (Some row) e = e
one_own stripe key None e = e

each_own : (stripe : ℕ) (changes : List Change) → ChangeOnly stripe changes → AreOf stripe (row_by_row changes)
each_own stripe [] own = tt
each_own stripe (change ∷ changes) own = (one_own stripe change.key change.row own.0, each_own stripe changes own.1)

operations_own : (request : Request) (changes : List Change) → ChangeOnly (stripe_of (volume_in request)) changes → AreOf (stripe_of (volume_in request)) (operations_of_opening request changes)
operations_own (ExpireOpen v b) [] own = tt
operations_own (ExpireOpen v b) (change ∷ changes) own = (refl, tt)
operations_own request changes own = each_own (stripe_of (volume_in request)) changes own

-- no operation that puts or removes one row drops sessions
one_drops : (key : RowKey) (row : Option Row) (volume bucket : List ℕ) → operation_for key row ≡ DropOpen volume bucket → ⊥
one_drops key (Some row) volume bucket e = absurd cc
one_drops key None volume bucket e = absurd cc

none_drops : (changes : List Change) (earlier later : List Operation) (volume bucket : List ℕ) → row_by_row changes ≡ earlier ++ DropOpen volume bucket ∷ later → ⊥
none_drops [] [] later volume bucket e = absurd cc
none_drops [] (first ∷ earlier) later volume bucket e = absurd cc
none_drops (change ∷ changes) [] later volume bucket e = one_drops change.key change.row volume bucket (let is : operation_for change.key change.row ≡ DropOpen volume bucket = cc in is)
none_drops (change ∷ changes) (first ∷ earlier) later volume bucket e = none_drops changes earlier later volume bucket (let rest : row_by_row changes ≡ earlier ++ DropOpen volume bucket ∷ later = cc in rest)

one_alone : (first : Operation) (earlier later : List Operation) (volume bucket : List ℕ) → first ∷ [] ≡ earlier ++ DropOpen volume bucket ∷ later → earlier ≡ []
one_alone first [] later volume bucket e = refl
one_alone first (x ∷ []) later volume bucket e = absurd cc
one_alone first (x ∷ y ∷ earlier) later volume bucket e = absurd cc

drops_first : (request : Request) (changes : List Change) → DropsFirst (operations_of_opening request changes)
drops_first (ExpireOpen v b) [] [] later volume bucket e = refl
drops_first (ExpireOpen v b) [] (first ∷ earlier) later volume bucket e = absurd cc
drops_first (ExpireOpen v b) (change ∷ changes) earlier later volume bucket e = one_alone (DropOpen v b) earlier later volume bucket e
drops_first request changes earlier later volume bucket e = absurd (none_drops changes earlier later volume bucket e)

-- ---- of snapshots, and of the manager's own requests

pub snapshots_own : (request : Request) (changes : List Change) → ChangeOnly (stripe_of (volume_in request)) changes → AreOf (stripe_of (volume_in request)) (operations_of_snapshots request changes)
snapshots_own (CreateSnapshot v b s) [] own = tt
snapshots_own (CreateSnapshot v b s) (drawn ∷ []) own = each_own (stripe_of v) (drawn ∷ []) own
snapshots_own (CreateSnapshot v b s) (drawn ∷ made ∷ changes) own = (one_own (stripe_of v) drawn.key drawn.row own.0, (one_own (stripe_of v) made.key made.row own.1.0, (refl, (refl, tt))))
snapshots_own request changes own = each_own (stripe_of (volume_in request)) changes own

pub service_own : (request : Request) (changes : List Change) → ChangeOnly (stripe_of (volume_in request)) changes → AreOf (stripe_of (volume_in request)) (operations_of_service request changes)
service_own (MoveDeleted v b n to) [] own = tt
service_own (MoveDeleted v b n to) (change ∷ changes) own = (refl, tt)
service_own (PurgeSnapshot v b n) [] own = tt
service_own (PurgeSnapshot v b n) (change ∷ changes) own = (refl, (refl, tt))
service_own request changes own = each_own (stripe_of (volume_in request)) changes own

-- none of them drops sessions
abbrev DropsNone : Operation → Type 0
DropsNone item = (volume bucket : List ℕ) → item ≡ DropOpen volume bucket → ⊥

none_among : (items earlier later : List Operation) (volume bucket : List ℕ) → AllByRecursion DropsNone items → items ≡ earlier ++ DropOpen volume bucket ∷ later → ⊥
none_among [] [] later volume bucket none e = absurd cc
none_among [] (first ∷ earlier) later volume bucket none e = absurd cc
none_among (item ∷ items) [] later volume bucket none e = none.0 volume bucket (let is : item ≡ DropOpen volume bucket = cc in is)
none_among (item ∷ items) (first ∷ earlier) later volume bucket none e = none_among items earlier later volume bucket none.1 (let rest : items ≡ earlier ++ DropOpen volume bucket ∷ later = cc in rest)

row_drops_none : (changes : List Change) → AllByRecursion DropsNone (row_by_row changes)
row_drops_none [] = tt
row_drops_none (change ∷ changes) = (one_drops change.key change.row, row_drops_none changes)

snapshots_drop_none : (request : Request) (changes : List Change) → AllByRecursion DropsNone (operations_of_snapshots request changes)
snapshots_drop_none (CreateSnapshot v b s) [] = tt
snapshots_drop_none (CreateSnapshot v b s) (drawn ∷ []) = row_drops_none (drawn ∷ [])
snapshots_drop_none (CreateSnapshot v b s) (drawn ∷ made ∷ changes) = (one_drops drawn.key drawn.row, (one_drops made.key made.row, ((λ w c e. absurd (cc)), ((λ w c e. absurd (cc)), tt))))
snapshots_drop_none request changes = row_drops_none changes

service_drops_none : (request : Request) (changes : List Change) → AllByRecursion DropsNone (operations_of_service request changes)
service_drops_none (MoveDeleted v b n to) [] = tt
service_drops_none (MoveDeleted v b n to) (change ∷ changes) = ((λ w c e. absurd (cc)), tt)
service_drops_none (PurgeSnapshot v b n) [] = tt
service_drops_none (PurgeSnapshot v b n) (change ∷ changes) = ((λ w c e. absurd (cc)), ((λ w c e. absurd (cc)), tt))
service_drops_none request changes = row_drops_none changes

pub snapshots_drop_first : (request : Request) (changes : List Change) → DropsFirst (operations_of_snapshots request changes)
snapshots_drop_first request changes earlier later volume bucket e = absurd (none_among (operations_of_snapshots request changes) earlier later volume bucket (snapshots_drop_none request changes) e)

pub service_drops_first : (request : Request) (changes : List Change) → DropsFirst (operations_of_service request changes)
service_drops_first request changes earlier later volume bucket e = absurd (none_among (operations_of_service request changes) earlier later volume bucket (service_drops_none request changes) e)

-- ---- the batch

-- bytes have one reading, so that the operations of the batch are those that are known
pub batch_of_operations : (stripe : ℕ) (rows : Rows) (items : List Operation) (bytes : List ℕ) (changes : List Change) → IsBatchOf rows bytes changes → bytes ≡ batch_bytes items → AreOperations items → AreOf stripe items → DropsFirst items → ChangeOnly stripe changes → IsBatchOfStripe stripe rows bytes changes
batch_of_operations stripe rows items bytes changes batch are fit own first changes_own =
    let same = same_batch items batch.items fit batch.fit (sym are ∙ batch.bytes_are) in
    record {
      batch = batch;
      operations_own = subst (AreOf stripe) (sym same) own;
      changes_own = changes_own;
      drops_first = subst DropsFirst (sym same) first;
    }

pub batch_of_stripe : (rows : Rows) (request : Request) (bytes : List ℕ) (changes : List Change) → IsBatchOf rows bytes changes → bytes ≡ batch_bytes (operations_of_opening request changes) → AreOperations (operations_of_opening request changes) → ChangeOnly (stripe_of (volume_in request)) changes → IsBatchOfStripe (stripe_of (volume_in request)) rows bytes changes
batch_of_stripe rows request bytes changes batch are fit own =
    batch_of_operations (stripe_of (volume_in request)) rows (operations_of_opening request changes) bytes changes batch are fit (operations_own request changes own) (drops_first request changes) own
