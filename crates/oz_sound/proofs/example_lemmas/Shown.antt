-- What the example's rows stand for once a key is deleted.
use Rattle.std.proofs.Common.{◌≡◌, ◌↔◌, ℕ, Bool, true, false, List, [], ◌∷◌, None, Some, IsSome, cond, refl, sym, ◌∙◌, ap, subst}
use mathlib.Core.Bool.{false≢true}
use Rattle.std.proofs.lemmas.Cmp.{nat_list_cmp_total}
use Rattle.std.specs.FinMap.{get, from_entries, get-remove}
use Rattle.std.specs.Option.{option_and_then}
use Rattle.oz_sound.specs.frames.Buckets.{IsOutside, BucketBecomes, with_bucket}
use Rattle.oz_sound.specs.frames.laws.Becoming.{bucket_becomes}
use Rattle.oz_namespace.specs.declared.namespace.Bucket.{Bucket}
use Rattle.oz_namespace.specs.declared.namespace.Session.{Session}
use Rattle.oz_rows.specs.declared.key.RowKey.{RowKey}
use Rattle.oz_rows.specs.declared.key.RowKey.TheVariants as keys
use Rattle.oz_rows.specs.declared.row.Row.TheVariants as values
use Rattle.oz_rows.specs.RowMaps.{Rows, row_of, after_changes, is_same}
use Rattle.oz_rows.specs.laws.Same.{same_is_one}
use Rattle.oz_sound.specs.frames.Sessions.{blocks_in}
use Rattle.oz_sound.specs.Sound.{bucket_of_row}
use Rattle.oz_sound.specs.StandsFor.{StandsFor, SnapshotsStand, AreSnapshots, pieces_in}
use Rattle.oz_sound.specs.laws.BucketChanges.{is_name, one_name}
use Rattle.oz_namespace.specs.Namespace.{snapshots_in}
use Rattle.oz_namespace.specs.declared.namespace.Snapshot.{Snapshot}
use Rattle.oz_sound.specs.example.Example.{rows, namespace, home, photos, cat, cat_now, bucket_photos, buckets_of_home}
use Rattle.oz_sound.specs.example.Steps.{deleting, photos_without_cat}
use Rattle.oz_sound.proofs.example_lemmas.Standing.{rows_stand, home_is, photos_is}

abbrev all : Rows
all = row_of rows

abbrev now : Rows
now = after_changes deleting all

abbrev old : RowKey
old = keys.Key home photos cat

abbrev new : RowKey
new = keys.Deleted home photos 0 cat 7

-- a row that is neither of the two is as it was
as_it_was : (key : RowKey) → is_same old key ≡ false → is_same new key ≡ false → now key ≡ all key
as_it_was key one two =
    ap (λ t. cond t (Some (values.Deleted (blocks_in cat_now))) (cond (is_same old key) None (all key))) two ∙ ap (λ t. cond t None (all key)) one

outside : (key : RowKey) → IsOutside home photos key → now key ≡ all key
outside key out = as_it_was key (by_test old refl) (by_test new refl)
  where
    by_test : (q : RowKey) → bucket_of_row q ≡ Some (home, photos) → is_same q key ≡ false
    by_test q of = by (is_same q key) refl
      where
        by : (t : Bool) → is_same q key ≡ t → is_same q key ≡ false
        by false e = e
        by true e = absurd (out.other (ap bucket_of_row (sym (same_is_one q key e)) ∙ of))

-- the row of a key of the bucket, once `cat` is gone
key_row : (key : List ℕ) → now (keys.Key home photos key) ≡ cond (is_name key cat) None (all (keys.Key home photos key))
key_row key = by_test (is_same old (keys.Key home photos key)) refl (is_name key cat) refl
  where
    by_test : (t : Bool) → is_same old (keys.Key home photos key) ≡ t → (s : Bool) → is_name key cat ≡ s → cond t None (all (keys.Key home photos key)) ≡ cond s None (all (keys.Key home photos key))
    by_test true e true f = refl
    by_test false e false f = refl
    by_test true e false f =
        let same = same_is_one old (keys.Key home photos key) e in
        let name : cat ≡ key = cc in
        absurd (false≢true (sym f ∙ subst (λ q. is_name q cat ≡ true) name refl))
    by_test false e true f = absurd (false≢true (sym e ∙ subst (λ q. is_same old (keys.Key home photos q) ≡ true) (sym (one_name key cat f)) refl))

pieces_are : (key : List ℕ) → get photos_without_cat.keys key ≡ pieces_in (now (keys.Key home photos key))
pieces_are key = get-remove nat_list_cmp_total bucket_photos.keys cat key ∙ by_test (is_name key cat) ∙ ap pieces_in (sym (key_row key))
  where
    there : get bucket_photos.keys key ≡ pieces_in (all (keys.Key home photos key))
    there = sym (ap (option_and_then (λ (b : Bucket). get b.keys key)) photos_is) ∙ rows_stand.pieces home photos key

    by_test : (t : Bool) → cond t None (get bucket_photos.keys key) ≡ pieces_in (cond t None (all (keys.Key home photos key)))
    by_test true = refl
    by_test false = there

sessions_are : (number : ℕ) (session : Session) → (get photos_without_cat.sessions number ≡ Some session) ↔ (now (keys.Open home photos session.key number) ≡ Some (values.Open session.blocks))
sessions_are number session =
    let iff = rows_stand.sessions home photos number session in
    let seen = ap (option_and_then (λ (b : Bucket). get b.sessions number)) photos_is in
    (λ e. iff.0 (seen ∙ e), λ e. sym seen ∙ iff.1 e)

snapshots_are : SnapshotsStand now home photos photos_without_cat.snapshots
snapshots_are =
    let stand = subst (SnapshotsStand all home photos) (ap snapshots_in photos_is) (rows_stand.snapshots home photos) in
    record { numbers = stand.numbers; rise = stand.rise; every = stand.every; each = again stand.numbers bucket_photos.snapshots stand.each }
  where
    again : (numbers : List ℕ) (snapshots : List Snapshot) → AreSnapshots all home photos numbers snapshots → AreSnapshots now home photos numbers snapshots
    again [] [] are = tt
    again (n ∷ numbers) (s ∷ snapshots) are = (record { previous = are.0.previous; row = are.0.row; pieces = are.0.pieces }, again numbers snapshots are.1)
    again [] (s ∷ snapshots) are = are
    again (n ∷ numbers) [] are = are

there : IsSome (now (keys.Bucket home photos))
unfolding rows
there = refl

becomes : BucketBecomes all now namespace home (from_entries buckets_of_home) photos photos_without_cat namespace.stripes
becomes = record {
  volume_there = home_is;
  outside = outside;
  there = there;
  pieces = pieces_are;
  sessions = sessions_are;
  snapshots = snapshots_are;
  numbers = rows_stand.stripes;
}

pub delete_stands : StandsFor now (with_bucket namespace home (from_entries buckets_of_home) photos photos_without_cat namespace.stripes)
delete_stands = bucket_becomes all now namespace home (from_entries buckets_of_home) photos photos_without_cat namespace.stripes becomes rows_stand
