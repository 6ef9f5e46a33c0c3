-- Rows of a manager in which everything stands at once, and the namespace that they stand for.
use Rattle.std.specs.Prelude.{ℕ, List, [], ◌∷◌, codes}
use Rattle.std.specs.FinMap.{empty, from_entries}
use Rattle.oz_fields.specs.declared.block.Block.{Block}
use Rattle.oz_fields.specs.declared.block.Piece.{Piece}
use Rattle.oz_namespace.specs.declared.namespace.Bucket.{Bucket}
use Rattle.oz_namespace.specs.declared.namespace.Namespace.{Namespace}
use Rattle.oz_namespace.specs.declared.namespace.Session.{Session}
use Rattle.oz_namespace.specs.declared.namespace.Snapshot.{Snapshot}
use Rattle.oz_namespace.specs.Namespace.{ByName, new_bucket}
use Rattle.oz_rows.specs.declared.key.RowKey.{RowKey}
use Rattle.oz_rows.specs.declared.key.RowKey.TheVariants as keys
use Rattle.oz_rows.specs.declared.row.Row.{Row}
use Rattle.oz_rows.specs.declared.row.Row.TheVariants as values
use Rattle.oz_rows.specs.declared.row.SnapshotState.TheVariants.{Live, Marked}
use Rattle.oz_rows.specs.declared.entry.RowEntry.{RowEntry}

-- ---- names: two volumes, four buckets, of which `bills` is gone, keys and snapshots

abbrev pub home : List ℕ
home = codes "home"

abbrev pub shop : List ℕ
shop = codes "shop"

abbrev pub drafts : List ℕ
drafts = codes "drafts"

abbrev pub photos : List ℕ
photos = codes "photos"

abbrev pub orders : List ℕ
orders = codes "orders"

abbrev pub bills : List ℕ
bills = codes "bills"

abbrev pub cat : List ℕ
cat = codes "cat"

abbrev pub dog : List ℕ
dog = codes "dog"

abbrev pub elk : List ℕ
elk = codes "elk"

abbrev pub fox : List ℕ
fox = codes "fox"

abbrev pub sea : List ℕ
sea = codes "sea"

abbrev pub lake : List ℕ
lake = codes "lake"

abbrev pub pond : List ℕ
pond = codes "pond"

abbrev pub old : List ℕ
old = codes "old"

abbrev pub one : List ℕ
one = codes "one"

abbrev pub two : List ℕ
two = codes "two"

abbrev pub monday : List ℕ
monday = codes "monday"

abbrev pub tuesday : List ℕ
tuesday = codes "tuesday"

-- ---- blocks: those of `home` lie in the container 1, those of `shop` in the container 2

abbrev pub block : ℕ → ℕ → Block
block container local = record { container = container; local = local }

abbrev pub piece : ℕ → ℕ → ℕ → Piece
piece container local length = record { block = block container local; length = length }

-- what keys have, each of its first name; of `cat` before it was written anew, and since
abbrev pub of_cat : List Piece
of_cat = piece 1 2 300 ∷ []

abbrev pub cat_now : List Piece
cat_now = piece 1 7 65536 ∷ piece 1 8 40 ∷ []

abbrev pub of_dog : List Piece
of_dog = piece 1 3 65536 ∷ piece 1 4 1 ∷ []

abbrev pub of_sea : List Piece
of_sea = piece 1 5 9000 ∷ []

abbrev pub of_elk : List Piece
of_elk = piece 1 6 77 ∷ []

abbrev pub of_one : List Piece
of_one = piece 2 66 65536 ∷ piece 2 67 512 ∷ []

-- ---- the rows

abbrev pub entry : RowKey → Row → RowEntry
entry key row = record { key = key; row = row }

-- In `photos` this was done. The keys `cat` (twice), `dog`, `sea` and `elk` were written, and the snapshot 6 was made. Then
-- `elk` was deleted, the snapshot too, its name `monday` given to the snapshot 7, and the block of `elk` reclaimed. Then
-- `sea` was renamed to `lake`, `dog` deleted, and the snapshot 8 made, `tuesday`. Then `lake` was renamed to `pond` and
-- `cat` written once more. Two sessions are open, and one has expired.
unfoldable pub rows : List RowEntry
rows =
    -- two volumes
    entry (keys.Volume home) values.Volume
    ∷ entry (keys.Volume shop) values.Volume
    -- an empty bucket, and one with all kinds of rows
    ∷ entry (keys.Bucket home drafts) values.Bucket
    ∷ entry (keys.Bucket home photos) values.Bucket
    -- a bucket with one snapshot
    ∷ entry (keys.Bucket shop orders) values.Bucket
    -- the newest `cat`, of two pieces, made by the session 9
    ∷ entry (keys.Key home photos cat) (values.Key 9 cat_now)
    -- once `sea`, then `lake`: a key that was renamed has the number and the pieces that it had
    ∷ entry (keys.Key home photos pond) (values.Key 4 of_sea)
    -- another key of two pieces, and an empty one
    ∷ entry (keys.Key shop orders one) (values.Key 3 of_one)
    ∷ entry (keys.Key shop orders two) (values.Key 4 [])
    -- a session that writes `cat` anew, with two blocks, and one that writes a key which isn't there yet
    ∷ entry (keys.Open home photos cat 10) (values.Open (block 1 9 ∷ block 1 10 ∷ []))
    ∷ entry (keys.Open home photos fox 11) (values.Open (block 1 11 ∷ []))
    -- `cat` as it was until the session 9 replaced it, after the last snapshot
    ∷ entry (keys.Deleted home photos 0 cat 2) (values.Deleted (block 1 2 ∷ []))
    -- `cat` as it was before that, replaced before the first snapshot, which has been its owner since
    ∷ entry (keys.Deleted home photos 6 cat 1) (values.Deleted (block 1 1 ∷ []))
    -- `dog`, deleted between the snapshots 7 and 8, of which the later is its owner
    ∷ entry (keys.Deleted home photos 8 dog 3) (values.Deleted (block 1 3 ∷ block 1 4 ∷ []))
    -- a key of a bucket that is gone
    ∷ entry (keys.Deleted shop bills 0 old 65) (values.Deleted (block 2 65 ∷ []))
    -- a deleted snapshot, whose rows wait to be worked off
    ∷ entry (keys.Snapshot home photos 6) (values.Snapshot monday 0 Marked)
    -- two live snapshots, each with the number of the one before it; the name of the deleted one was free
    ∷ entry (keys.Snapshot home photos 7) (values.Snapshot monday 6 Live)
    ∷ entry (keys.Snapshot home photos 8) (values.Snapshot tuesday 7 Live)
    -- a deleted snapshot, which has outlived its bucket
    ∷ entry (keys.Snapshot shop bills 2) (values.Snapshot monday 0 Marked)
    -- another bucket may have a snapshot of the same name
    ∷ entry (keys.Snapshot shop orders 5) (values.Snapshot monday 0 Live)
    -- what the deleted snapshot had; no other row has the block of its `elk`
    ∷ entry (keys.SnapshotKey home photos 6 cat) (values.SnapshotKey 2 of_cat)
    ∷ entry (keys.SnapshotKey home photos 6 dog) (values.SnapshotKey 3 of_dog)
    ∷ entry (keys.SnapshotKey home photos 6 elk) (values.SnapshotKey 5 of_elk)
    ∷ entry (keys.SnapshotKey home photos 6 sea) (values.SnapshotKey 4 of_sea)
    -- what `monday` has
    ∷ entry (keys.SnapshotKey home photos 7 cat) (values.SnapshotKey 2 of_cat)
    ∷ entry (keys.SnapshotKey home photos 7 dog) (values.SnapshotKey 3 of_dog)
    ∷ entry (keys.SnapshotKey home photos 7 sea) (values.SnapshotKey 4 of_sea)
    -- what `tuesday` has
    ∷ entry (keys.SnapshotKey home photos 8 cat) (values.SnapshotKey 2 of_cat)
    ∷ entry (keys.SnapshotKey home photos 8 lake) (values.SnapshotKey 4 of_sea)
    -- what the deleted snapshot of the bucket that is gone had
    ∷ entry (keys.SnapshotKey shop bills 2 old) (values.SnapshotKey 1 (piece 2 65 8 ∷ []))
    -- what the snapshot of `orders` has
    ∷ entry (keys.SnapshotKey shop orders 5 one) (values.SnapshotKey 3 of_one)
    ∷ entry (keys.SnapshotKey shop orders 5 two) (values.SnapshotKey 4 [])
    -- the block 5 was renamed after `tuesday`, where its key was `lake`
    ∷ entry (keys.Renamed home photos 0 5) (values.Renamed lake)
    -- and between `monday` and `tuesday`: in `monday` its key was `sea`
    ∷ entry (keys.Renamed home photos 8 5) (values.Renamed sea)
    -- in the stripe of `home` twelve numbers were drawn, in that of `shop` five
    ∷ entry (keys.Stripe 9) (values.Stripe 12)
    ∷ entry (keys.Stripe 10) (values.Stripe 5)
    ∷ []

-- ---- the namespace

abbrev pub keys_of_photos : List (List ℕ × List Piece)
keys_of_photos = (cat, cat_now) ∷ (pond, of_sea) ∷ []

abbrev pub keys_of_monday : List (List ℕ × List Piece)
keys_of_monday = (cat, of_cat) ∷ (dog, of_dog) ∷ (sea, of_sea) ∷ []

abbrev pub keys_of_tuesday : List (List ℕ × List Piece)
keys_of_tuesday = (cat, of_cat) ∷ (lake, of_sea) ∷ []

-- and so in the snapshot of `orders`
abbrev pub keys_of_orders : List (List ℕ × List Piece)
keys_of_orders = (one, of_one) ∷ (two, []) ∷ []

abbrev pub session : List ℕ → List Block → Session
session key blocks = record { key = key; blocks = blocks }

abbrev pub sessions_of_photos : List (ℕ × Session)
sessions_of_photos = (10, session cat (block 1 9 ∷ block 1 10 ∷ [])) ∷ (11, session fox (block 1 11 ∷ [])) ∷ []

abbrev pub snapshot : List ℕ → List (List ℕ × List Piece) → Snapshot
snapshot name keys = record { name = name; keys = from_entries keys }

abbrev pub bucket_photos : Bucket
bucket_photos = record {
  keys = from_entries keys_of_photos;
  sessions = from_entries sessions_of_photos;
  snapshots = snapshot monday keys_of_monday ∷ snapshot tuesday keys_of_tuesday ∷ [];
}

abbrev pub bucket_orders : Bucket
bucket_orders = record { keys = from_entries keys_of_orders; sessions = empty; snapshots = snapshot monday keys_of_orders ∷ [] }

abbrev pub buckets_of_home : List (List ℕ × Bucket)
buckets_of_home = (drafts, new_bucket) ∷ (photos, bucket_photos) ∷ []

abbrev pub buckets_of_shop : List (List ℕ × Bucket)
buckets_of_shop = (orders, bucket_orders) ∷ []

abbrev pub volumes : List (List ℕ × ByName Bucket)
volumes = (home, from_entries buckets_of_home) ∷ (shop, from_entries buckets_of_shop) ∷ []

-- the numbers of the stripes 9 and 10 are those of `home` and `shop`
unfoldable pub namespace : Namespace
namespace = record {
  volumes = from_entries volumes;
  stripes = 0 ∷ 0 ∷ 0 ∷ 0 ∷ 0 ∷ 0 ∷ 0 ∷ 0 ∷ 0 ∷ 12 ∷ 5 ∷ 0 ∷ 0 ∷ 0 ∷ 0 ∷ 0 ∷ [];
}
