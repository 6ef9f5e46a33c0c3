-- What four requests change among the example's rows.
use Rattle.std.specs.Prelude.{ℕ, zero, suc, ◌/◌, ◌%◌, List, [], ◌∷◌, None, Some}
use Rattle.std.specs.FinMap.{remove}
use Rattle.oz_fields.specs.declared.block.Block.{Block}
use Rattle.oz_fields.specs.declared.block.Piece.{Piece}
use Rattle.oz_namespace.specs.declared.namespace.Bucket.{Bucket}
use Rattle.oz_rows.specs.declared.key.RowKey.TheVariants as keys
use Rattle.oz_rows.specs.declared.row.Row.TheVariants as values
use Rattle.oz_rows.specs.declared.operation.Change.{Change}
use Rattle.oz_rows.specs.RowMaps.{put, gone}
use Rattle.oz_sound.specs.frames.Parts.{parted}
use Rattle.oz_sound.specs.frames.Sessions.{blocks_in}
use Rattle.oz_sound.specs.example.Example.{home, photos, cat, elk, fox, pond, block, piece, cat_now, of_sea, bucket_photos}

-- the session 11 becomes the key `fox`
abbrev pub of_fox : List Piece
of_fox = piece 1 11 2048 ∷ []

abbrev pub committing : List Change
committing = parted (keys.Open home photos fox 11) None (keys.Key home photos fox) (Some (values.Key 11 of_fox))

-- the key `cat` becomes a deleted row, and the bucket has no key of this name
abbrev pub deleting : List Change
deleting = parted (keys.Key home photos cat) None (keys.Deleted home photos 0 cat 7) (Some (values.Deleted (blocks_in cat_now)))

abbrev pub photos_without_cat : Bucket
photos_without_cat =
    record { keys = remove bucket_photos.keys cat; sessions = bucket_photos.sessions; snapshots = bucket_photos.snapshots }

-- the session 10 gets a block more
abbrev pub new_block : Block
new_block = block 1 12

abbrev pub granting : List Change
granting = put (keys.Open home photos cat 10) (values.Open (block 1 9 ∷ block 1 10 ∷ new_block ∷ [])) ∷ []

-- the key `pond` is renamed to `elk`, and no renamed row is written: the first one behind each snapshot names its block
-- as it was there
abbrev pub renaming : List Change
renaming = parted (keys.Key home photos pond) None (keys.Key home photos elk) (Some (values.Key 4 of_sea))

-- ---- what no request may do

-- the key `cat` goes, and nothing keeps its blocks
abbrev pub forgetting : List Change
forgetting = gone (keys.Key home photos cat) ∷ []

-- a block of the key `cat` stands in a deleted row as well
abbrev pub standing_twice : List Change
standing_twice = put (keys.Deleted home photos 0 cat 7) (values.Deleted (block 1 7 ∷ [])) ∷ []

-- a session has a number that wasn't drawn
abbrev pub undrawn : List Change
undrawn = put (keys.Open home photos elk 13) (values.Open []) ∷ []

-- so many keys come in, each with a name of its own
abbrev pub key_named : ℕ → List ℕ
key_named number = number / 64 ∷ number % 64 ∷ []

abbrev pub crowding : ℕ → List Change
crowding zero = []
crowding (suc number) = put (keys.Key home photos (key_named number)) (values.Key number []) ∷ crowding number
