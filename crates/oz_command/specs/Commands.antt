-- The commands of a script: two verbs, and what stands behind them.
use Rattle.std.specs.Prelude.{ℕ, ◌^◌, ◌-◌, nat_le, ◌==◌, List, [], ◌∷◌, length, codes, Option, None, Some, if◌then◌else◌}
use Rattle.std.specs.Option.{option_map}
use Rattle.std.specs.Str.{bytes_eq}
use Rattle.oz_command.specs.declared.command.AdminCommand.{AdminCommand}
use Rattle.oz_command.specs.declared.command.AdminCommand.TheVariants.{Stop, Start, Wipe, Close, Containers, Drain}
use Rattle.oz_command.specs.declared.command.Command.{Command}
use Rattle.oz_command.specs.declared.command.Command.TheVariants.{VolumeCreate, VolumeDelete, VolumeInfo, BucketCreate, BucketDelete, BucketInfo, BucketList}
use Rattle.oz_command.specs.declared.command.Command.TheVariants.{KeyPut, KeyOpen, KeyCommit, KeyGet, KeyDelete, KeyRename, KeyList, KeyExpire}
use Rattle.oz_command.specs.declared.command.Command.TheVariants.{SnapshotCreate, SnapshotDelete, SnapshotInfo, SnapshotList, Admin}
use Rattle.oz_command.specs.declared.command.Data.{Data}
use Rattle.oz_command.specs.declared.command.Data.TheVariants.{Text, Fill}
use Rattle.oz_command.specs.declared.paths.BucketPath.{BucketPath}
use Rattle.oz_command.specs.declared.paths.KeyPath.{KeyPath}
use Rattle.oz_command.specs.declared.payload.TheConstants.{LONGEST_TEXT, LONGEST_FILL}
use Rattle.oz_command.specs.declared.ranges.KeyRange.{KeyRange}
use Rattle.oz_command.specs.declared.ranges.TheConstants.{LONGEST_BOUND, GREATEST_COUNT, COUNT_IF_NONE}
use Rattle.oz_command.specs.declared.admin.TheConstants.{GREATEST_NODE}
use Rattle.oz_command.specs.Numbers.{number_in}
use Rattle.oz_command.specs.declared.paths.SnapshotKey.{SnapshotKey}
use Rattle.oz_command.specs.Paths.{volume_in, bucket_in, key_in, snapshot_key, snapshot_alone}
use Rattle.oz_command.specs.Words.{only, is_client_name}

-- what is made of what is there, if it is there
infixl 10 ◌>>=◌
abbrev pub ◌>>=◌ : {A B : Type 0} → Option A → (A → Option B) → Option B
None >>= next = None
(Some value) >>= next = next value

-- ---- volumes and buckets

abbrev pub volume_verb : List ℕ → List ℕ → Option Command
volume_verb verb volume =
    if bytes_eq verb (codes "create") then Some (VolumeCreate volume)
    else if bytes_eq verb (codes "delete") then Some (VolumeDelete volume)
    else if bytes_eq verb (codes "info") then Some (VolumeInfo volume)
    else None

unfoldable pub volume_command : List ℕ → List (List ℕ) → Option Command
volume_command verb words = do
  word ← only words
  volume ← volume_in word
  volume_verb verb volume

abbrev pub bucket_verb : List ℕ → BucketPath → Option Command
bucket_verb verb path =
    if bytes_eq verb (codes "create") then Some (BucketCreate path.volume path.bucket)
    else if bytes_eq verb (codes "delete") then Some (BucketDelete path.volume path.bucket)
    else if bytes_eq verb (codes "info") then Some (BucketInfo path.volume path.bucket)
    else None

unfoldable pub bucket_command : List ℕ → List (List ℕ) → Option Command
bucket_command verb words = do
  word ← only words
  if bytes_eq verb (codes "list") then option_map BucketList (volume_in word) else bucket_in word >>= bucket_verb verb

-- ---- data

unfoldable pub text_of : List (List ℕ) → Option Data
text_of words = do
  text ← only words
  if nat_le (length text) LONGEST_TEXT then Some (Text text) else None

unfoldable pub fill_of : List (List ℕ) → Option Data
fill_of [] = None
fill_of (number ∷ words) = do
  size ← only words
  number ← number_in 0 (2 ^ 64 - 1) number
  size ← number_in 0 LONGEST_FILL size
  Some (Fill number size)

-- what is put, by its words
unfoldable pub payload_of : List (List ℕ) → Option Data
payload_of [] = None
payload_of (form ∷ words) =
    if bytes_eq form (codes "text") then text_of words
    else if bytes_eq form (codes "fill") then fill_of words
    else None

-- ---- keys

unfoldable pub key_put : List (List ℕ) → Option Command
key_put [] = None
key_put (word ∷ words) = do
  path ← key_in word
  payload ← payload_of words
  Some (KeyPut path.volume path.bucket path.key payload)

abbrev pub opened : List ℕ → List (List ℕ) → Option Command
opened label [] = None
opened label (word ∷ words) = do
  path ← key_in word
  payload ← payload_of words
  Some (KeyOpen label path.volume path.bucket path.key payload)

unfoldable pub key_open : List (List ℕ) → Option Command
key_open [] = None
key_open (label ∷ words) = if is_client_name label then opened label words else None

unfoldable pub key_commit : List (List ℕ) → Option Command
key_commit words = do
  label ← only words
  if is_client_name label then Some (KeyCommit label) else None

-- a key as it is, or that of a snapshot
abbrev pub got_at : KeyPath → Option SnapshotKey → Command
got_at path None = KeyGet path.volume path.bucket None path.key
got_at path (Some found) = KeyGet path.volume path.bucket (Some found.snapshot) found.key

unfoldable pub got : KeyPath → Command
got path = got_at path (snapshot_key path.key)

unfoldable pub key_get : List (List ℕ) → Option Command
key_get words = do
  word ← only words
  option_map got (key_in word)

unfoldable pub key_delete : List (List ℕ) → Option Command
key_delete words = do
  word ← only words
  path ← key_in word
  Some (KeyDelete path.volume path.bucket path.key)

unfoldable pub key_rename : List (List ℕ) → Option Command
key_rename [] = None
key_rename (word ∷ words) = do
  path ← key_in word
  to ← only words
  Some (KeyRename path.volume path.bucket path.key to)

-- a prefix or a start, `-` alone being none
unfoldable pub bound_of : List ℕ → Option (List ℕ)
bound_of word =
    if bytes_eq word (codes "-") then Some []
    else if nat_le (length word) LONGEST_BOUND then Some word
    else None

-- the prefix, the start and the count of a list; all of them, or none
abbrev pub range_behind : List ℕ → List (List ℕ) → Option KeyRange
range_behind prefix [] = None
range_behind prefix (start ∷ words) = do
  count ← only words
  prefix ← bound_of prefix
  start ← bound_of start
  count ← number_in 1 GREATEST_COUNT count
  Some (record { prefix = prefix; start = start; count = count })

unfoldable pub range_of : List (List ℕ) → Option KeyRange
range_of [] = Some (record { prefix = []; start = []; count = COUNT_IF_NONE })
range_of (prefix ∷ words) = range_behind prefix words

-- a bucket, or its snapshot
abbrev pub listed_in : BucketPath → Option (List ℕ) → KeyRange → Command
listed_in path snapshot range = KeyList path.volume path.bucket snapshot range.prefix range.start range.count

-- A rest that names no snapshot belongs to the bucket's name.
abbrev pub listed_at : BucketPath → BucketPath → Option (List ℕ) → KeyRange → Command
listed_at whole cut None range = listed_in whole None range
listed_at whole cut (Some snapshot) range = listed_in cut (Some snapshot) range

unfoldable pub listed : BucketPath → KeyPath → KeyRange → Command
listed whole path range =
    let cut : BucketPath = record { volume = path.volume; bucket = path.bucket } in
    if length path.key == 0 then listed_in cut None range else listed_at whole cut (snapshot_alone path.key) range

unfoldable pub key_list : List (List ℕ) → Option Command
key_list [] = None
key_list (word ∷ words) = do
  range ← range_of words
  whole ← bucket_in word
  cut ← key_in word
  Some (listed whole cut range)

unfoldable pub key_expire : List (List ℕ) → Option Command
key_expire words = do
  word ← only words
  path ← bucket_in word
  Some (KeyExpire path.volume path.bucket)

unfoldable pub key_command : List ℕ → List (List ℕ) → Option Command
key_command verb words =
    if bytes_eq verb (codes "put") then key_put words
    else if bytes_eq verb (codes "open") then key_open words
    else if bytes_eq verb (codes "commit") then key_commit words
    else if bytes_eq verb (codes "get") then key_get words
    else if bytes_eq verb (codes "delete") then key_delete words
    else if bytes_eq verb (codes "rename") then key_rename words
    else if bytes_eq verb (codes "list") then key_list words
    else if bytes_eq verb (codes "expire") then key_expire words
    else None

-- ---- snapshots

abbrev pub snapshot_verb : List ℕ → BucketPath → List ℕ → Option Command
snapshot_verb verb path snapshot =
    if bytes_eq verb (codes "create") then Some (SnapshotCreate path.volume path.bucket snapshot)
    else if bytes_eq verb (codes "delete") then Some (SnapshotDelete path.volume path.bucket snapshot)
    else if bytes_eq verb (codes "info") then Some (SnapshotInfo path.volume path.bucket snapshot)
    else None

unfoldable pub snapshot_named : List ℕ → List (List ℕ) → Option Command
snapshot_named verb [] = None
snapshot_named verb (word ∷ words) = do
  path ← bucket_in word
  snapshot ← only words
  snapshot_verb verb path snapshot

unfoldable pub snapshot_list : List (List ℕ) → Option Command
snapshot_list words = do
  word ← only words
  path ← bucket_in word
  Some (SnapshotList path.volume path.bucket)

unfoldable pub snapshot_command : List ℕ → List (List ℕ) → Option Command
snapshot_command verb words =
    if bytes_eq verb (codes "list") then snapshot_list words else snapshot_named verb words

-- ---- datanodes and containers

abbrev pub node_verb : List ℕ → ℕ → Option AdminCommand
node_verb verb node =
    if bytes_eq verb (codes "stop") then Some (Stop node)
    else if bytes_eq verb (codes "start") then Some (Start node)
    else if bytes_eq verb (codes "wipe") then Some (Wipe node)
    else None

abbrev pub admin_verb : List ℕ → Option AdminCommand
admin_verb verb =
    if bytes_eq verb (codes "close") then Some Close
    else if bytes_eq verb (codes "containers") then Some Containers
    else if bytes_eq verb (codes "drain") then Some Drain
    else None

-- alone, or with the number of a datanode
unfoldable pub admin_command : List ℕ → List (List ℕ) → Option AdminCommand
admin_command verb [] = admin_verb verb
admin_command verb (word ∷ words) = do
  word ← only (word ∷ words)
  node ← number_in 0 GREATEST_NODE word
  node_verb verb node

-- ---- all of them

unfoldable pub command_behind : List ℕ → List ℕ → List (List ℕ) → Option Command
command_behind kind verb words =
    if bytes_eq kind (codes "volume") then volume_command verb words
    else if bytes_eq kind (codes "bucket") then bucket_command verb words
    else if bytes_eq kind (codes "key") then key_command verb words
    else if bytes_eq kind (codes "snapshot") then snapshot_command verb words
    else if bytes_eq kind (codes "admin") then option_map Admin (admin_command verb words)
    else None

-- the command of these words
unfoldable pub command_of : List (List ℕ) → Option Command
command_of [] = None
command_of (kind ∷ []) = None
command_of (kind ∷ verb ∷ words) = command_behind kind verb words
