-- The paths in a line.
use Rattle.std.specs.Prelude.{ℕ, ◌==◌, List, [], ◌∷◌, take, drop, codes, Option, None, Some, if◌then◌else◌}
use Rattle.std.specs.Option.{option_map}
use Rattle.std.specs.Str.{bytes_eq}
use Rattle.std.specs.List.{list_any}
use Rattle.oz_names.specs.Paths.{is_slash, front, back, volume_part, bucket_part, rest_part}
use Rattle.oz_command.specs.declared.paths.BucketPath.{BucketPath}
use Rattle.oz_command.specs.declared.paths.KeyPath.{KeyPath}
use Rattle.oz_command.specs.declared.paths.SnapshotKey.{SnapshotKey}

-- what stands behind the `/` that a word begins with
abbrev pub behind_slash : List ℕ → Option (List ℕ)
behind_slash [] = None
behind_slash (first ∷ path) = if first == 47 then Some path else None

-- the volume that a word names
unfoldable pub volume_in : List ℕ → Option (List ℕ)
volume_in word = option_map (volume_part 1) (behind_slash word)

-- the bucket that a word names, cut at the first `/` behind the volume's
abbrev pub bucket_path : List ℕ → BucketPath
bucket_path path = record { volume = volume_part 2 path; bucket = bucket_part 2 path }

unfoldable pub bucket_in : List ℕ → Option BucketPath
bucket_in word = option_map bucket_path (behind_slash word)

-- the key that a word names, cut at the first two
abbrev pub key_path : List ℕ → KeyPath
key_path path = record { volume = volume_part 3 path; bucket = bucket_part 3 path; key = rest_part 3 path }

unfoldable pub key_in : List ℕ → Option KeyPath
key_in word = option_map key_path (behind_slash word)

-- what stands behind the `.snapshot/` that the rest of a path begins with
unfoldable pub behind_mark : List ℕ → Option (List ℕ)
behind_mark rest = if bytes_eq (take 10 rest) (codes ".snapshot/") then Some (drop 10 rest) else None

-- the snapshot and the key of a rest `.snapshot/NAME/KEY`; the name has no `/`
abbrev pub cut_behind : Option (List ℕ) → Option SnapshotKey
cut_behind None = None
cut_behind (Some behind) =
    if list_any is_slash behind then Some (record { snapshot = front behind; key = back behind }) else None

unfoldable pub snapshot_key : List ℕ → Option SnapshotKey
snapshot_key rest = cut_behind (behind_mark rest)

-- the snapshot of a rest `.snapshot/NAME`
abbrev pub whole_behind : Option (List ℕ) → Option (List ℕ)
whole_behind None = None
whole_behind (Some behind) = if list_any is_slash behind then None else Some behind

unfoldable pub snapshot_alone : List ℕ → Option (List ℕ)
snapshot_alone rest = whole_behind (behind_mark rest)
