-- Few rows are few of each kind.
use Rattle.std.proofs.Common.{◌≡◌, ◌≤◌, ℕ, Bool, true, false, List, length, Option, Some, None, IsSome, refl}
use Rattle.oz_names.specs.declared.limits.TheConstants.{MOST_BUCKETS, MOST_KEYS, MOST_SNAPSHOTS}
use Rattle.oz_rows.specs.declared.key.RowKey.{RowKey}
use Rattle.oz_rows.specs.declared.key.RowKey.TheVariants as keys
use Rattle.oz_rows.specs.declared.entry.RowEntry.{RowEntry}
use Rattle.oz_sound.specs.Sound.{IsUsing, CountsAreSound}
use Rattle.oz_sound.specs.StandsFor.{IsLive}
use Rattle.oz_rows.specs.RowMaps.{row_of}
use Rattle.oz_sound.proofs.example_lemmas.Entries.{is_there}
use Rattle.oz_sound.proofs.example_lemmas.Few.{keys_passing, at_most}

abbrev pub is_bucket : RowKey → Bool
is_bucket (keys.Bucket volume bucket) = true
is_bucket key = false

abbrev pub is_use : RowKey → Bool
is_use (keys.Key volume bucket key) = true
is_use (keys.Open volume bucket key number) = true
is_use key = false

abbrev pub is_snapshot : RowKey → Bool
is_snapshot (keys.Snapshot volume bucket number) = true
is_snapshot key = false

abbrev pub is_snapshot_key : RowKey → Bool
is_snapshot_key (keys.SnapshotKey volume bucket number key) = true
is_snapshot_key key = false

-- the key of a key or of a session of the bucket
use_key : List ℕ → List ℕ → (List ℕ × Option ℕ) → RowKey
use_key volume bucket (key, None) = keys.Key volume bucket key
use_key volume bucket (key, Some number) = keys.Open volume bucket key number

one_use : (volume bucket : List ℕ) (a b : List ℕ × Option ℕ) → use_key volume bucket a ≡ use_key volume bucket b → a ≡ b
unfolding use_key
one_use volume bucket (key, None) (other, None) e = let same : key ≡ other = cc in cc
one_use volume bucket (key, Some number) (other, Some twin) e = let same : key ≡ other = cc in let one : number ≡ twin = cc in cc
one_use volume bucket (key, None) (other, Some twin) e = absurd (cc)
one_use volume bucket (key, Some number) (other, None) e = absurd (cc)

is_used : (volume bucket : List ℕ) (a : List ℕ × Option ℕ) → is_use (use_key volume bucket a) ≡ true
unfolding use_key
is_used volume bucket (key, None) = refl
is_used volume bucket (key, Some number) = refl

use_there : (rows : List RowEntry) (volume bucket : List ℕ) (a : List ℕ × Option ℕ) → IsUsing (row_of rows) volume bucket a → IsSome (row_of rows (use_key volume bucket a))
unfolding use_key
use_there rows volume bucket (key, None) some = some
use_there rows volume bucket (key, Some number) some = some

module _ (rows : List RowEntry) where
  -- so few rows are there of each kind
  pub record AreFew : Type 0 where
    pub buckets : length (keys_passing is_bucket rows) ≤ MOST_BUCKETS
    pub uses : length (keys_passing is_use rows) ≤ MOST_KEYS
    pub snapshots : length (keys_passing is_snapshot rows) ≤ MOST_SNAPSHOTS
    pub snapshot_keys : length (keys_passing is_snapshot_key rows) ≤ MOST_KEYS

  pub counts_are_sound : AreFew → CountsAreSound (row_of rows)
  counts_are_sound few = record {
    buckets = λ volume. at_most is_bucket (keys.Bucket volume) (λ a b e. cc) (λ a. refl) rows (λ bucket. IsSome (row_of rows (keys.Bucket volume bucket))) (λ a some. some) MOST_BUCKETS few.buckets;
    keys_and_sessions = λ volume bucket. at_most is_use (use_key volume bucket) (one_use volume bucket) (is_used volume bucket) rows (IsUsing (row_of rows) volume bucket) (use_there rows volume bucket) MOST_KEYS few.uses;
    snapshots = λ volume bucket. at_most is_snapshot (keys.Snapshot volume bucket) (λ a b e. cc) (λ a. refl) rows (IsLive (row_of rows) volume bucket) (λ number live. is_there _ _ live.2) MOST_SNAPSHOTS few.snapshots;
    snapshot_keys = λ volume bucket number live. at_most is_snapshot_key (keys.SnapshotKey volume bucket number) (λ a b e. cc) (λ a. refl) rows (λ key. IsSome (row_of rows (keys.SnapshotKey volume bucket number key))) (λ a some. some) MOST_KEYS few.snapshot_keys;
  }
