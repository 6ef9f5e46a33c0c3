-- The tests on blocks tell the facts.
use Rattle.std.proofs.Common.{◌≡◌, ◌&&◌, ℕ, Bool, true, false, List, Option, Some, None, refl, subst}
use mathlib.Core.Bool.{false≢true}
use Rattle.std.specs.List.{list_all}
use Rattle.std.proofs.lemmas.Bool.{eq-eqb}
use Rattle.oz_fields.specs.declared.block.Block.{Block}
use Rattle.oz_rows.specs.declared.key.RowKey.{RowKey}
use Rattle.oz_rows.specs.declared.key.RowKey.TheVariants as keys
use Rattle.oz_rows.specs.declared.entry.RowEntry.{RowEntry}
use Rattle.oz_rows.specs.RowMaps.{is_block, row_of, KeysRise}
use Rattle.oz_sound.specs.Sound.{bucket_of_row, StandsIn, IsHome, IsKeeper, SnapshotHas, AreTogether, BlocksAreSound}
use Rattle.oz_sound.specs.StandsFor.{IsLive, is_among}
use Rattle.oz_sound.proofs.example_lemmas.Keys.{same_is_one, same_self}
use Rattle.oz_sound.proofs.example_lemmas.Lists.{split_and, if_so}
use Rattle.oz_sound.proofs.example_lemmas.Entries.{row_passes}
use Rattle.oz_sound.proofs.example_lemmas.Blocks.{each_block, block_passes, found_block, same_block, block_itself}
use Rattle.oz_sound.proofs.example_lemmas.Tests.{is_same_bucket, is_home, is_keeper, agree_on_bucket, agree_on_home, agree_on_local, has_number, name_in, is_of_snapshot, is_kept, follows, is_together, agree_on_snapshots}

pub both_so : (a b : Bool) → a ≡ true → b ≡ true → (a && b) ≡ true
both_so true b e f = f
both_so false b e f = absurd (false≢true e)

-- each two blocks, with their keys, pass
abbrev pub each_two : (RowKey → Block → RowKey → Block → Bool) → List RowEntry → Bool
each_two test rows = each_block (λ key block. each_block (test key block) rows) rows

pub two_pass : (test : RowKey → Block → RowKey → Block → Bool) (rows : List RowEntry) → each_two test rows ≡ true → (block twin : Block) (key other : RowKey) → StandsIn (row_of rows) block key → StandsIn (row_of rows) twin other → test key block other twin ≡ true
two_pass test rows all block twin key other here there = block_passes (test key block) rows (block_passes (λ key block. each_block (test key block) rows) rows all block key here) twin other there

pub buckets_same : (a b : Option (List ℕ × List ℕ)) → is_same_bucket a b ≡ true → a ≡ b
buckets_same None None e = refl
buckets_same (Some (volume, bucket)) (Some (other, another)) e =
    let same : keys.Bucket volume bucket ≡ keys.Bucket other another = same_is_one (keys.Bucket volume bucket) (keys.Bucket other another) e in
    let v : volume ≡ other = cc in
    let b : bucket ≡ another = cc in
    cc
buckets_same None (Some place) e = absurd (false≢true e)
buckets_same (Some place) None e = absurd (false≢true e)

home_is : (key : RowKey) → IsHome key → is_home key ≡ true
home_is (keys.Key a b c) home = refl
home_is (keys.Open a b c d) home = refl
home_is (keys.Deleted a b c d e) home = refl
home_is (keys.Volume a) home = absurd home
home_is (keys.Bucket a b) home = absurd home
home_is (keys.Snapshot a b c) home = absurd home
home_is (keys.SnapshotKey a b c d) home = absurd home
home_is (keys.Renamed a b c d) home = absurd home
home_is (keys.Stripe a) home = absurd home

is_a_keeper : (key : RowKey) → is_keeper key ≡ true → IsKeeper key
is_a_keeper (keys.Key a b c) e = tt
is_a_keeper (keys.Deleted a b c d f) e = tt
is_a_keeper (keys.Open a b c d) e = absurd (false≢true e)
is_a_keeper (keys.Volume a) e = absurd (false≢true e)
is_a_keeper (keys.Bucket a b) e = absurd (false≢true e)
is_a_keeper (keys.Snapshot a b c) e = absurd (false≢true e)
is_a_keeper (keys.SnapshotKey a b c d) e = absurd (false≢true e)
is_a_keeper (keys.Renamed a b c d) e = absurd (false≢true e)
is_a_keeper (keys.Stripe a) e = absurd (false≢true e)

module _ (rows : List RowEntry) where
  pub one_bucket : each_two agree_on_bucket rows ≡ true → (block : Block) (key other : RowKey) → StandsIn (row_of rows) block key → StandsIn (row_of rows) block other → bucket_of_row key ≡ bucket_of_row other
  one_bucket all block key other here there = buckets_same _ _ (if_so _ _ (two_pass agree_on_bucket rows all block block key other here there) (block_itself block))

  pub one_home : each_two agree_on_home rows ≡ true → (block : Block) (key other : RowKey) → IsHome key → IsHome other → StandsIn (row_of rows) block key → StandsIn (row_of rows) block other → key ≡ other
  one_home all block key other home another here there =
      same_is_one key other (if_so _ _ (two_pass agree_on_home rows all block block key other here there) (both_so _ _ (both_so _ _ (block_itself block) (home_is key home)) (home_is other another)))

  pub one_local : each_two agree_on_local rows ≡ true → (block twin : Block) (key other : RowKey) → StandsIn (row_of rows) block key → StandsIn (row_of rows) twin other → block.local ≡ twin.local → block ≡ twin
  one_local all block twin key other here there same = same_block twin block (if_so _ _ (two_pass agree_on_local rows all block twin key other here there) (eq-eqb block.local twin.local same))

  module _ (rise : KeysRise rows) (live : List ℕ) (numbered : list_all (λ (entry : RowEntry). has_number live entry.key entry.row) rows ≡ true) where
    pub is_numbered : (volume bucket : List ℕ) (number : ℕ) → IsLive (row_of rows) volume bucket number → is_among number live ≡ true
    is_numbered volume bucket number is = row_passes (has_number live) rows numbered (keys.Snapshot volume bucket number) _ is.2

    pub kept : each_block (is_kept live rows) rows ≡ true → (volume bucket name : List ℕ) (number : ℕ) (block : Block) → SnapshotHas (row_of rows) volume bucket number block name → (key : RowKey) × IsKeeper key × StandsIn (row_of rows) block key
    kept all volume bucket name number block has =
        let some = if_so _ _ (block_passes (is_kept live rows) rows all block (keys.SnapshotKey volume bucket number name) has.stands) (is_numbered volume bucket number has.live) in
        let found = found_block (λ other twin. is_keeper other && is_block block twin) rows rise some in
        let parts = split_and (is_keeper found.1) (is_block block found.0) found.3 in
        (found.1, is_a_keeper found.1 parts.0, subst (λ (b : Block). StandsIn (row_of rows) b found.1) (same_block block found.0 parts.1) found.2)

    pub together : each_two (agree_on_snapshots live rows) rows ≡ true → (key : RowKey) → is_keeper key ≡ true → (block other : Block) → StandsIn (row_of rows) block key → StandsIn (row_of rows) other key → (volume bucket : List ℕ) → AreTogether (row_of rows) volume bucket block other
    together all key keeper block other here there volume bucket number name has =
        let agree = two_pass (agree_on_snapshots live rows) rows all block other key key here there in
        let all_follow = subst (λ (t : Bool). is_together live rows t block other ≡ true) (both_so _ _ keeper (same_self key)) agree in
        let one = block_passes (λ key twin. follows live rows (is_block block twin) other key) rows all_follow block (keys.SnapshotKey volume bucket number name) has.stands in
        let some = if_so _ _ (subst (λ (t : Bool). follows live rows t other (keys.SnapshotKey volume bucket number name) ≡ true) (block_itself block) one) (is_numbered volume bucket number has.live) in
        let found = found_block (λ key twin. is_of_snapshot volume bucket number key && is_block other twin) rows rise some in
        let parts = split_and (is_of_snapshot volume bucket number found.1) (is_block other found.0) found.3 in
        let its = same_is_one found.1 (keys.SnapshotKey volume bucket number (name_in found.1)) parts.0 in
        (name_in found.1, record { live = has.live; stands = subst (λ (k : RowKey). StandsIn (row_of rows) other k) its (subst (λ (b : Block). StandsIn (row_of rows) b found.1) (same_block other found.0 parts.1) found.2) })

    -- the tests on blocks
    pub record BlocksPass : Type 0 where
      pub bucket : each_two agree_on_bucket rows ≡ true
      pub home : each_two agree_on_home rows ≡ true
      pub local : each_two agree_on_local rows ≡ true
      pub keepers : each_block (is_kept live rows) rows ≡ true
      pub snapshots : each_two (agree_on_snapshots live rows) rows ≡ true

    pub blocks_are_sound : BlocksPass → BlocksAreSound (row_of rows)
    blocks_are_sound pass = record {
      one_bucket = one_bucket pass.bucket;
      one_home = one_home pass.home;
      one_local = one_local pass.local;
      kept = kept pass.keepers;
      deleted_together = λ volume bucket key owner local block other here there. together pass.snapshots (keys.Deleted volume bucket owner key local) refl block other here there volume bucket;
      key_together = λ volume bucket key block other here there. together pass.snapshots (keys.Key volume bucket key) refl block other here there volume bucket;
    }
