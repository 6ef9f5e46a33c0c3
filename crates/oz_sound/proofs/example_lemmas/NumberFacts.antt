-- The tests on numbers tell the facts.
use Rattle.std.proofs.Common.{◌≡◌, ◌≢◌, ◌⊎◌, ◌||◌, ◌==◌, ℕ, Bool, true, List, IsSome, inl, inr}
use Rattle.std.specs.List.{list_all}
use Rattle.std.proofs.lemmas.Bool.{leb-true}
use Rattle.oz_names.specs.Names.{stripe_of}
use Rattle.oz_rows.specs.declared.key.RowKey.{RowKey}
use Rattle.oz_rows.specs.declared.key.RowKey.TheVariants as keys
use Rattle.oz_rows.specs.declared.entry.RowEntry.{RowEntry}
use Rattle.oz_sound.specs.Sound.{NumbersAreSound}
use Rattle.oz_sound.specs.StandsFor.{drawn_in}
use Rattle.oz_rows.specs.RowMaps.{Rows, row_of}
use Rattle.oz_sound.proofs.example_lemmas.Lists.{split_or}
use Rattle.oz_sound.proofs.example_lemmas.Entries.{key_passes}
use Rattle.oz_sound.proofs.example_lemmas.Blocks.{eq_from}
use Rattle.oz_sound.proofs.example_lemmas.Tests.{session_is_drawn, snapshot_is_drawn, deleted_owner_stands, renamed_owner_stands, snapshot_key_stands}

module _ (rows : List RowEntry) where
  abbrev pub each_key : (Rows → RowKey → Bool) → Bool
  each_key test = list_all (λ (entry : RowEntry). test (row_of rows) entry.key) rows

  told : (test : Rows → RowKey → Bool) → each_key test ≡ true → (key : RowKey) → IsSome (row_of rows key) → test (row_of rows) key ≡ true
  told test all key some = key_passes (test (row_of rows)) rows all key some

  owner_stands : (owner : ℕ) (b : Bool) → (owner == 0 || b) ≡ true → owner ≢ 0 → b ≡ true
  owner_stands owner b e some = by (split_or (owner == 0) b e)
    where
      by : ((owner == 0) ≡ true) ⊎ (b ≡ true) → b ≡ true
      by (inl zero) = absurd (some (eq_from owner 0 zero))
      by (inr so) = so

  -- the tests on numbers
  pub record NumbersPass : Type 0 where
    pub sessions : each_key session_is_drawn ≡ true
    pub snapshots : each_key snapshot_is_drawn ≡ true
    pub deleted : each_key deleted_owner_stands ≡ true
    pub renamed : each_key renamed_owner_stands ≡ true
    pub snapshot_keys : each_key snapshot_key_stands ≡ true

  pub numbers_are_sound : NumbersPass → NumbersAreSound (row_of rows)
  numbers_are_sound pass = record {
    sessions = λ volume bucket key number some. leb-true number (drawn_in (row_of rows (keys.Stripe (stripe_of volume)))) (told session_is_drawn pass.sessions (keys.Open volume bucket key number) some);
    snapshots = λ volume bucket number some. leb-true number (drawn_in (row_of rows (keys.Stripe (stripe_of volume)))) (told snapshot_is_drawn pass.snapshots (keys.Snapshot volume bucket number) some);
    deleted = λ volume bucket key owner local some apart. owner_stands owner _ (told deleted_owner_stands pass.deleted (keys.Deleted volume bucket owner key local) some) apart;
    renamed = λ volume bucket owner local some apart. owner_stands owner _ (told renamed_owner_stands pass.renamed (keys.Renamed volume bucket owner local) some) apart;
    snapshot_keys = λ volume bucket key number some. told snapshot_key_stands pass.snapshot_keys (keys.SnapshotKey volume bucket number key) some;
  }
