-- What these requests record that aren't refused.
use Rattle.std.specs.Prelude.{◌≡◌, ℕ, List, [], ◌∷◌}
use Rattle.oz_decision.specs.Drafts.{row_by_row}
use Rattle.oz_effects.specs.Effects.{operation_changes}
use Rattle.oz_names.specs.Names.{stripe_of}
use Rattle.oz_requests.specs.declared.reply.Reply.{Reply}
use Rattle.oz_requests.specs.declared.reply.Reply.TheVariants as replies
use Rattle.oz_requests.specs.declared.request.Request.{Request}
use Rattle.oz_requests.specs.declared.request.Request.TheVariants.{CreateKey, ExpireOpen}
use Rattle.oz_rows.specs.declared.entry.RowEntry.{RowEntry}
use Rattle.oz_rows.specs.declared.key.RowKey.TheVariants as keys
use Rattle.oz_rows.specs.declared.row.Row.TheVariants as rows
use Rattle.oz_rows.specs.declared.operation.Change.{Change}
use Rattle.oz_rows.specs.declared.operation.Operation.{Operation}
use Rattle.oz_rows.specs.declared.operation.Operation.TheVariants.{DropOpen}
use Rattle.oz_rows.specs.RowMaps.{Rows, AreRows, put}

-- a session of this number without blocks is there, and the number was drawn
abbrev pub changes_of_create : Request → ℕ → List Change
changes_of_create (CreateKey volume bucket key) number =
    put (keys.Open volume bucket key number) (rows.Open [])
    ∷ put (keys.Stripe (stripe_of volume)) (rows.Stripe number) ∷ []
changes_of_create request number = []

-- the changes are those by which the bucket's sessions go, and their blocks stand in deleted rows of the bucket itself
abbrev pub AreExpired : Rows → Request → List Change → Type 0
AreExpired all (ExpireOpen volume bucket) changes =
    (entries : List RowEntry) → AreRows entries all → changes ≡ operation_changes entries (DropOpen volume bucket)
AreExpired all request changes = changes ≡ []

-- there are none where the reply is a code
abbrev pub AreRecorded : Rows → Request → Reply → List Change → Type 0
AreRecorded all request (replies.Session number) changes = changes ≡ changes_of_create request number
AreRecorded all request (replies.Count count) changes = AreExpired all request changes
AreRecorded all request reply changes = changes ≡ []

-- the operations that make the changes: one for all sessions of a bucket, none where there are none
abbrev pub operations_for : Request → List Change → List Operation
operations_for (ExpireOpen volume bucket) [] = []
operations_for (ExpireOpen volume bucket) (change ∷ changes) = DropOpen volume bucket ∷ []
operations_for request changes = row_by_row changes
