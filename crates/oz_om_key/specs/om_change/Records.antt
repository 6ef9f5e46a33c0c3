-- What the requests record that change a key.
use Rattle.std.specs.Prelude.{◌≡◌, ℕ, List, [], ◌∷◌, ◌++◌, Option, None, Some}
use Rattle.oz_decision.specs.Versions.{deleted, version_at}
use Rattle.oz_om_key.specs.om_change.Noting.{AreSnapshotNumbers, noted}
use Rattle.oz_requests.specs.declared.reply.Reply.{Reply}
use Rattle.oz_requests.specs.declared.reply.Reply.TheVariants as replies
use Rattle.oz_requests.specs.declared.request.Request.{Request}
use Rattle.oz_requests.specs.declared.request.Request.TheVariants.{DeleteKey, RenameKey}
use Rattle.oz_rows.specs.declared.key.RowKey.{RowKey}
use Rattle.oz_rows.specs.declared.key.RowKey.TheVariants as keys
use Rattle.oz_rows.specs.declared.operation.Change.{Change}
use Rattle.oz_rows.specs.declared.row.Row.{Row}
use Rattle.oz_rows.specs.RowMaps.{Rows, put, gone}

-- what stood in a row, if there was one, stands in that of this key
abbrev pub moved : RowKey → Option Row → List Change
moved to None = []
moved to (Some row) = put to row ∷ []

-- A renamed key has its row, with all that stood in it, under the new name. Behind that the old name is noted for those of
-- its blocks that a live snapshot has. The numbers are those of the bucket's snapshots.
abbrev pub renamed : Rows → List ℕ → List ℕ → List ℕ → List ℕ → List ℕ → List Change
renamed all volume bucket key to numbers =
    gone (keys.Key volume bucket key)
    ∷ moved (keys.Key volume bucket to) (all (keys.Key volume bucket key))
    ++ noted all volume bucket key numbers (version_at (all (keys.Key volume bucket key)))

-- The key's row goes. The blocks of a deleted key stand in a deleted row of the bucket.
abbrev pub AreChangesOf : Rows → Request → List Change → Type 0
AreChangesOf all (DeleteKey volume bucket key) changes =
    changes
    ≡ gone (keys.Key volume bucket key) ∷ deleted volume bucket key (version_at (all (keys.Key volume bucket key)))
AreChangesOf all (RenameKey volume bucket key to) changes =
    (numbers : List ℕ) × AreSnapshotNumbers all volume bucket numbers
    × (changes ≡ renamed all volume bucket key to numbers)
AreChangesOf all request changes = changes ≡ []

-- nothing where it isn't done
abbrev pub AreRecorded : Rows → Request → Reply → List Change → Type 0
AreRecorded all request replies.Done changes = AreChangesOf all request changes
AreRecorded all request reply changes = changes ≡ []
