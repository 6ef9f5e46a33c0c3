-- A key of the example that is renamed: its bucket's rows alone are sound, so all are.
use Rattle.std.proofs.Common.{◌≡◌, ◌||◌, ◌==◌, ℕ, Bool, true, false, not, List, [], ◌∷◌, Option, None, Some, cond, refl, sym, ◌∙◌, ap, subst, arith}
use mathlib.Core.Bool.{false≢true}
use Rattle.std.proofs.lemmas.Bool.{eq-eqb}
use Rattle.std.specs.List.{list_all}
use Rattle.oz_fields.specs.declared.block.Block.{Block}
use Rattle.oz_sound.specs.frames.Apart.{ChangedInOne, only_in, is_this}
use Rattle.oz_sound.specs.frames.Buckets.{IsOutside}
use Rattle.oz_sound.specs.frames.laws.Apart.{sound_apart, renames_apart}
use Rattle.oz_rows.specs.declared.key.RowKey.{RowKey}
use Rattle.oz_rows.specs.declared.key.RowKey.TheVariants as keys
use Rattle.oz_rows.specs.declared.row.Row.TheVariants as values
use Rattle.oz_rows.specs.declared.entry.RowEntry.{RowEntry}
use Rattle.oz_rows.specs.RowMaps.{Rows, row_of, after_changes, is_same, KeysRise}
use Rattle.oz_rows.specs.laws.Same.{same_is_one}
use Rattle.oz_sound.specs.Sound.{StandsIn, bucket_of_row, IsSoundButRenames, RenamesAreSound}
use Rattle.oz_sound.specs.example.Example.{rows, entry, home, photos, pond, elk, of_sea}
use Rattle.oz_sound.specs.example.Steps.{renaming}
use Rattle.oz_sound.proofs.example_lemmas.Entries.{do_rise, rising}
use Rattle.oz_sound.proofs.example_lemmas.Few.{keys_passing}
use Rattle.oz_sound.proofs.example_lemmas.Tests.{has_number}
use Rattle.oz_sound.proofs.example_lemmas.Blocks.{each_block, block_passes}
use Rattle.oz_sound.proofs.example_lemmas.BlockFacts.{BlocksPass, blocks_are_sound, buckets_same}
use Rattle.oz_sound.proofs.example_lemmas.NameFacts.{NamesPass, names_are_sound, renames_are_sound}
use Rattle.oz_sound.proofs.example_lemmas.NumberFacts.{NumbersPass, numbers_are_sound}
use Rattle.oz_sound.proofs.example_lemmas.CountFacts.{AreFew, counts_are_sound}
use Rattle.oz_sound.proofs.example_lemmas.Changed.{those, row_of_those, placed, row_of_placed}
use Rattle.oz_sound.proofs.example_lemmas.Moves.{most, bare}
use Rattle.oz_sound.proofs.example_lemmas.SoundRows.{rows_are_sound}

abbrev all : Rows
all = row_of rows

abbrev now : Rows
now = after_changes renaming all

abbrev old : RowKey
old = keys.Key home photos pond

abbrev new : RowKey
new = keys.Key home photos elk

-- ---- the rows of the bucket, and those of stripes, as a list

abbrev is_stripe : RowKey → Bool
is_stripe (keys.Stripe stripe) = true
is_stripe key = false

abbrev is_here : RowKey → Bool
is_here key = is_stripe key || is_this home photos (bucket_of_row key)

abbrev is_other : RowKey → Bool
is_other key = not (is_same old key)

abbrev its_rows : List RowEntry
its_rows = those is_here (placed (entry new (values.Key 4 of_sea)) (those is_other rows))

only_those : (some : Rows) (key : RowKey) → cond (is_here key) (some key) None ≡ only_in home photos some key
only_those some (keys.Volume a) = refl
only_those some (keys.Bucket a b) = refl
only_those some (keys.Key a b c) = refl
only_those some (keys.Open a b c d) = refl
only_those some (keys.Deleted a b c d e) = refl
only_those some (keys.Snapshot a b c) = refl
only_those some (keys.SnapshotKey a b c d) = refl
only_those some (keys.Renamed a b c d) = refl
only_those some (keys.Stripe a) = refl

-- once renamed, a row is the new one, or none where it was the old one
now_is : (key : RowKey) → row_of (placed (entry new (values.Key 4 of_sea)) (those is_other rows)) key ≡ now key
now_is key =
    row_of_placed (entry new (values.Key 4 of_sea)) (those is_other rows) key
    ∙ ap (λ row. cond (is_same new key) (Some (values.Key 4 of_sea)) row) (row_of_those is_other rows key ∙ by (is_same old key))
  where
    by : (t : Bool) → cond (not t) (all key) None ≡ cond t None (all key)
    by true = refl
    by false = refl

rows_are : row_of its_rows ≡ only_in home photos now
rows_are = λ i key. each key i
  where
    each : (key : RowKey) → row_of its_rows key ≡ only_in home photos now key
    each key =
        row_of_those is_here (placed (entry new (values.Key 4 of_sea)) (those is_other rows)) key
        ∙ ap (λ row. cond (is_here key) row None) (now_is key) ∙ only_those now key

-- ---- they are sound

all_rise : do_rise its_rows ≡ true
unfolding rows do_rise
all_rise = refl

its_rise : KeysRise its_rows
its_rise = rising its_rows all_rise

-- the numbers of the bucket's live snapshots
live : List ℕ
live = 7 ∷ 8 ∷ []

are_numbered : list_all (λ (entry : RowEntry). has_number live entry.key entry.row) its_rows ≡ true
unfolding rows live
are_numbered = refl

blocks_pass : BlocksPass its_rows its_rise live are_numbered
unfolding rows live
blocks_pass = record { bucket = refl; home = refl; local = refl; keepers = refl; snapshots = refl }

names_pass : NamesPass its_rows its_rise
unfolding rows
names_pass = record { snapshots = refl; names = refl; sessions = refl; renames = refl; notes = refl }

numbers_pass : NumbersPass its_rows
unfolding rows
numbers_pass = record { sessions = refl; snapshots = refl; deleted = refl; renamed = refl; snapshot_keys = refl }

are_few : AreFew its_rows
unfolding rows keys_passing
are_few = record { buckets = omega arith; uses = omega arith; snapshots = omega arith; snapshot_keys = omega arith }

pub alone_sound : IsSoundButRenames (only_in home photos now)
alone_sound = subst IsSoundButRenames rows_are (record {
  blocks = blocks_are_sound its_rows its_rise live are_numbered blocks_pass;
  names = names_are_sound its_rows its_rise names_pass;
  numbers = numbers_are_sound its_rows numbers_pass;
  counts = counts_are_sound its_rows are_few;
})

pub alone_renames : RenamesAreSound (only_in home photos now)
alone_renames = subst RenamesAreSound rows_are (renames_are_sound its_rows its_rise names_pass)

-- ---- nothing else changed

-- a row that is neither of the two is as it was
outside : (key : RowKey) → IsOutside home photos key → now key ≡ all key
outside key out = ap (λ t. cond t (Some (values.Key 4 of_sea)) (cond (is_same old key) None (all key))) (none new refl) ∙ ap (λ t. cond t None (all key)) (none old refl)
  where
    none : (q : RowKey) → bucket_of_row q ≡ Some (home, photos) → is_same q key ≡ false
    none q of = by (is_same q key) refl
      where
        by : (t : Bool) → is_same q key ≡ t → is_same q key ≡ false
        by false e = e
        by true e = absurd (out.other (ap bucket_of_row (sym (same_is_one q key e)) ∙ of))

-- no block of the bucket has the local id of one that stands in another
abbrev is_apart : RowKey → Block → Bool
is_apart key block = each_block (λ other twin. is_this home photos (bucket_of_row other) || not (block.local == twin.local)) rows

all_apart : each_block is_apart its_rows ≡ true
unfolding rows
all_apart = refl

not_this : (place : Option (List ℕ × List ℕ)) → (place ≡ Some (home, photos) → ⊥) → is_this home photos place ≡ false
not_this None out = refl
not_this (Some (volume, name)) out = by (is_this home photos (Some (volume, name))) refl
  where
    by : (t : Bool) → is_this home photos (Some (volume, name)) ≡ t → t ≡ false
    by true e = absurd (out (sym (buckets_same (Some (home, photos)) (Some (volume, name)) e)))
    by false e = refl

stands_alone : (block : Block) (key : RowKey) → StandsIn now block key → bucket_of_row key ≡ Some (home, photos) → StandsIn (row_of its_rows) block key
stands_alone block key stands of =
    let here : is_here key ≡ true = ap (λ place. is_stripe key || is_this home photos place) of ∙ or_true (is_stripe key) in
    let same : row_of its_rows key ≡ now key = row_of_those is_here (placed (entry new (values.Key 4 of_sea)) (those is_other rows)) key ∙ ap (λ t. cond t (row_of (placed (entry new (values.Key 4 of_sea)) (those is_other rows)) key) None) here ∙ now_is key in
    record { row = stands.row; there = same ∙ stands.there; has = stands.has }
  where
    or_true : (t : Bool) → (t || true) ≡ true
    or_true true = refl
    or_true false = refl

apart : (block twin : Block) (key other : RowKey) → StandsIn now block key → bucket_of_row key ≡ Some (home, photos) → StandsIn all twin other → IsOutside home photos other → block.local ≡ twin.local → ⊥
apart block twin key other stands of there out same =
    let far = block_passes is_apart its_rows all_apart block key (stands_alone block key stands of) in
    let one = block_passes (λ other twin. is_this home photos (bucket_of_row other) || not (block.local == twin.local)) rows far twin other there in
    let elsewhere = not_this (bucket_of_row other) out.other in
    false≢true (sym (ap (λ t. t || not (block.local == twin.local)) elsewhere ∙ ap not (eq-eqb block.local twin.local same)) ∙ one)

changed : ChangedInOne all now home photos
changed = record {
  outside = outside;
  apart = apart;
  bare = λ stripe block stands. bare stripe block (record { row = stands.row; there = stands.there; has = stands.has });
  drawn = λ stripe. omega arith;
  no_bucket_more = λ some. some;
}

-- ---- so all of them are

pub rename_sound : IsSoundButRenames (after_changes renaming (row_of rows))
rename_sound = sound_apart all now home photos changed alone_sound most

pub rename_renames : RenamesAreSound (after_changes renaming (row_of rows))
rename_renames = renames_apart all now home photos changed alone_renames rows_are_sound.renames
