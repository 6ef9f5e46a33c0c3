-- The example's rows stand for its namespace.
use Rattle.std.proofs.Common.{◌≡◌, ◌==◌, ℕ, List, [], ◌∷◌, filter, Option, None, Some, IsSome, is_some, refl, sym, ◌∙◌, ap, subst, arith}
use mathlib.Core.Bool.{false≢true}
use Rattle.std.specs.Cmp.{nat_cmp_total}
use Rattle.std.specs.Cmp.Lexicographic.{slice_cmp}
use Rattle.std.specs.FinMap.{get, find, from_entries, get-empty, get-from_entries, nat_cmp-IsAntisymmetric, slice_cmp-IsAntisymmetric, IsAntisymmetric}
use Rattle.std.specs.List.{AllByRecursion}
use Rattle.std.specs.Option.{option_and_then}
use Rattle.std.specs.Ordering.{nat_cmp}
use Rattle.std.proofs.lemmas.Cmp.{nat_list_cmp_total}
use Rattle.oz_fields.specs.declared.block.Block.{Block}
use Rattle.oz_fields.specs.declared.block.Piece.{Piece}
use Rattle.oz_namespace.specs.declared.namespace.Bucket.{Bucket}
use Rattle.oz_namespace.specs.declared.namespace.Session.{Session}
use Rattle.oz_namespace.specs.Namespace.{ByName, new_bucket, buckets_of, bucket_of, pieces_of, session_of, snapshots_in}
use Rattle.oz_rows.specs.declared.key.RowKey.{RowKey}
use Rattle.oz_rows.specs.declared.key.RowKey.TheVariants as keys
use Rattle.oz_rows.specs.declared.row.Row.{Row}
use Rattle.oz_rows.specs.declared.row.Row.TheVariants as values
use Rattle.oz_rows.specs.declared.row.SnapshotState.TheVariants.{Live}
use Rattle.oz_rows.specs.Rows.{kind_of}
use Rattle.oz_rows.specs.declared.entry.RowEntry.{RowEntry}
use Rattle.oz_sound.specs.StandsFor.{StandsFor, SnapshotsStand, pieces_in}
use Rattle.oz_rows.specs.RowMaps.{row_of}
use Rattle.oz_sound.specs.example.Example.{rows, namespace, home, shop, drafts, photos, orders, cat, fox, pond, one, two, block, volumes, buckets_of_home, buckets_of_shop, bucket_photos, bucket_orders, keys_of_photos, keys_of_monday, keys_of_tuesday, keys_of_orders, sessions_of_photos, dog, sea, lake, session}
use Rattle.oz_sound.proofs.example_lemmas.Entries.{each_row, row_passes}
use Rattle.oz_sound.proofs.example_lemmas.Found.{each_found, not_none, same_option, same_test, came_of}
use Rattle.oz_sound.proofs.example_lemmas.Tests.{has_number, is_of_snapshot, is_snapshot_of}

one_name : IsAntisymmetric (slice_cmp nat_cmp)
one_name = slice_cmp-IsAntisymmetric nat_cmp-IsAntisymmetric

-- the rows of a kind
abbrev of_kind : ℕ → List RowEntry
unfolding rows
of_kind kind = filter (λ (entry : RowEntry). kind_of entry.key == kind) rows

-- what holds of each bucket
bucket_holds : (Holds : List ℕ → List ℕ → Bucket → Type 0) → Holds home drafts new_bucket → Holds home photos bucket_photos → Holds shop orders bucket_orders → (volume bucket : List ℕ) (b : Bucket) → bucket_of namespace volume bucket ≡ Some b → Holds volume bucket b
unfolding namespace
bucket_holds Holds first second third volume bucket b e =
    let came = came_of (λ buckets. get buckets bucket) (get (from_entries volumes) volume) b e in
    each_found nat_list_cmp_total one_name (λ volume buckets. (bucket : List ℕ) (b : Bucket) → get buckets bucket ≡ Some b → Holds volume bucket b) volumes
    (each_found nat_list_cmp_total one_name (Holds home) buckets_of_home (first, (second, tt)), (each_found nat_list_cmp_total one_name (Holds shop) buckets_of_shop (third, tt), tt))
    volume came.0 came.1 bucket b came.2

pub home_is : buckets_of namespace home ≡ Some (from_entries buckets_of_home)
unfolding namespace
home_is = get-from_entries nat_list_cmp_total volumes home

shop_is : buckets_of namespace shop ≡ Some (from_entries buckets_of_shop)
unfolding namespace
shop_is = get-from_entries nat_list_cmp_total volumes shop

drafts_is : bucket_of namespace home drafts ≡ Some new_bucket
drafts_is = ap (option_and_then (λ (buckets : ByName Bucket). get buckets drafts)) home_is ∙ get-from_entries nat_list_cmp_total buckets_of_home drafts

pub photos_is : bucket_of namespace home photos ≡ Some bucket_photos
photos_is = ap (option_and_then (λ (buckets : ByName Bucket). get buckets photos)) home_is ∙ get-from_entries nat_list_cmp_total buckets_of_home photos

orders_is : bucket_of namespace shop orders ≡ Some bucket_orders
orders_is = ap (option_and_then (λ (buckets : ByName Bucket). get buckets orders)) shop_is ∙ get-from_entries nat_list_cmp_total buckets_of_shop orders

there : {A : Type 0} (o : Option A) (a : A) → o ≡ Some a → IsSome o
there o a e = subst IsSome (sym e) refl

-- ---- volumes and buckets

VolumeStands : RowKey → Row → Type 0
VolumeStands (keys.Volume volume) row = IsSome (buckets_of namespace volume)
VolumeStands key row = Unit {0}

volume_stands : (volume : List ℕ) (row : Row) → row_of rows (keys.Volume volume) ≡ Some row → IsSome (buckets_of namespace volume)
unfolding rows VolumeStands
volume_stands volume row e = each_row VolumeStands (of_kind 1) (there _ _ home_is, (there _ _ shop_is, tt)) (keys.Volume volume) row e

volume_has_row : (volume : List ℕ) (buckets : ByName Bucket) → buckets_of namespace volume ≡ Some buckets → IsSome (row_of rows (keys.Volume volume))
unfolding rows namespace
volume_has_row = each_found nat_list_cmp_total one_name (λ volume buckets. IsSome (row_of rows (keys.Volume volume))) volumes (refl, (refl, tt))

BucketStands : RowKey → Row → Type 0
BucketStands (keys.Bucket volume bucket) row = IsSome (bucket_of namespace volume bucket)
BucketStands key row = Unit {0}

bucket_stands : (volume bucket : List ℕ) (row : Row) → row_of rows (keys.Bucket volume bucket) ≡ Some row → IsSome (bucket_of namespace volume bucket)
unfolding rows BucketStands
bucket_stands volume bucket row e = each_row BucketStands (of_kind 2) (there _ _ drafts_is, (there _ _ photos_is, (there _ _ orders_is, tt))) (keys.Bucket volume bucket) row e

bucket_has_row : (volume bucket : List ℕ) (b : Bucket) → bucket_of namespace volume bucket ≡ Some b → IsSome (row_of rows (keys.Bucket volume bucket))
unfolding rows
bucket_has_row = bucket_holds (λ volume bucket b. IsSome (row_of rows (keys.Bucket volume bucket))) refl refl refl

-- ---- keys

abbrev of_bucket : Option Bucket → List ℕ → Option (List Piece)
of_bucket b key = option_and_then (λ (b : Bucket). get b.keys key) b

KeyStands : RowKey → Row → Type 0
KeyStands (keys.Key volume bucket key) row = pieces_of namespace volume bucket key ≡ pieces_in (Some row)
KeyStands key row = Unit {0}

in_photos : (key : List ℕ) → pieces_of namespace home photos key ≡ get (from_entries {R = slice_cmp nat_cmp} keys_of_photos) key
in_photos key = ap (λ (b : Option Bucket). of_bucket b key) photos_is

in_orders : (key : List ℕ) → pieces_of namespace shop orders key ≡ get (from_entries {R = slice_cmp nat_cmp} keys_of_orders) key
in_orders key = ap (λ (b : Option Bucket). of_bucket b key) orders_is

key_stands : (volume bucket key : List ℕ) (row : Row) → row_of rows (keys.Key volume bucket key) ≡ Some row → pieces_of namespace volume bucket key ≡ pieces_in (Some row)
unfolding rows KeyStands
key_stands volume bucket key row e =
    each_row KeyStands (of_kind 3) (
      in_photos cat ∙ get-from_entries nat_list_cmp_total keys_of_photos cat,
      (
        in_photos pond ∙ get-from_entries nat_list_cmp_total keys_of_photos pond,
        (
          in_orders one ∙ get-from_entries nat_list_cmp_total keys_of_orders one,
          (
            in_orders two ∙ get-from_entries nat_list_cmp_total keys_of_orders two,
            tt,
          ),
        ),
      ),
    ) (keys.Key volume bucket key) row e

key_has_row : (volume bucket : List ℕ) (b : Bucket) → bucket_of namespace volume bucket ≡ Some b → (key : List ℕ) (pieces : List Piece) → get b.keys key ≡ Some pieces → pieces_in (row_of rows (keys.Key volume bucket key)) ≡ Some pieces
unfolding rows
key_has_row = bucket_holds (λ volume bucket b. (key : List ℕ) (pieces : List Piece) → get b.keys key ≡ Some pieces → pieces_in (row_of rows (keys.Key volume bucket key)) ≡ Some pieces)
    (λ key pieces e. not_none pieces (sym (get-empty (slice_cmp nat_cmp) key) ∙ e))
    (each_found nat_list_cmp_total one_name (λ key pieces. pieces_in (row_of rows (keys.Key home photos key)) ≡ Some pieces) keys_of_photos (refl, (refl, tt)))
    (each_found nat_list_cmp_total one_name (λ key pieces. pieces_in (row_of rows (keys.Key shop orders key)) ≡ Some pieces) keys_of_orders (refl, (refl, tt)))

-- pieces are those of a row
of_row : (o : Option Row) (pieces : List Piece) → pieces_in o ≡ Some pieces → (row : Row) × (o ≡ Some row)
of_row None pieces e = not_none pieces e
of_row (Some row) pieces e = (row, refl)

pieces_stand : (volume bucket key : List ℕ) → pieces_of namespace volume bucket key ≡ pieces_in (row_of rows (keys.Key volume bucket key))
pieces_stand volume bucket key = same_option _ _
    (λ pieces e. let came = came_of (λ (b : Bucket). get b.keys key) (bucket_of namespace volume bucket) pieces e in key_has_row volume bucket came.0 came.1 key pieces came.2)
    (λ pieces e. let found = of_row (row_of rows (keys.Key volume bucket key)) pieces e in key_stands volume bucket key found.0 found.1 ∙ sym (ap pieces_in found.1) ∙ e)

-- ---- sessions

OpenStands : RowKey → Row → Type 0
OpenStands (keys.Open volume bucket key number) row = (blocks : List Block) → row ≡ values.Open blocks → session_of namespace volume bucket number ≡ Some (session key blocks)
OpenStands key row = Unit {0}

open_blocks : (blocks others : List Block) → values.Open blocks ≡ values.Open others → blocks ≡ others
open_blocks blocks others e = cc

in_session : (number : ℕ) → session_of namespace home photos number ≡ get (from_entries {R = nat_cmp} sessions_of_photos) number
in_session number = ap (option_and_then (λ (b : Bucket). get b.sessions number)) photos_is

open_stands : (volume bucket key : List ℕ) (number : ℕ) (row : Row) → row_of rows (keys.Open volume bucket key number) ≡ Some row → (blocks : List Block) → row ≡ values.Open blocks → session_of namespace volume bucket number ≡ Some (session key blocks)
unfolding rows OpenStands
open_stands volume bucket key number row e =
    each_row OpenStands (of_kind 4) (
      (λ blocks is. in_session 10 ∙ get-from_entries nat_cmp_total sessions_of_photos 10 ∙ ap (λ (l : List Block). Some (session cat l)) (open_blocks (block 1 9 ∷ block 1 10 ∷ []) blocks is)),
      (
        (λ blocks is. in_session 11 ∙ get-from_entries nat_cmp_total sessions_of_photos 11 ∙ ap (λ (l : List Block). Some (session fox l)) (open_blocks (block 1 11 ∷ []) blocks is)),
        tt,
      ),
    ) (keys.Open volume bucket key number) row e

session_has_row : (volume bucket : List ℕ) (b : Bucket) → bucket_of namespace volume bucket ≡ Some b → (number : ℕ) (session : Session) → get b.sessions number ≡ Some session → row_of rows (keys.Open volume bucket session.key number) ≡ Some (values.Open session.blocks)
unfolding rows
session_has_row = bucket_holds (λ volume bucket b. (number : ℕ) (session : Session) → get b.sessions number ≡ Some session → row_of rows (keys.Open volume bucket session.key number) ≡ Some (values.Open session.blocks))
    (λ number session e. not_none session (sym (get-empty nat_cmp number) ∙ e))
    (each_found nat_cmp_total nat_cmp-IsAntisymmetric (λ number session. row_of rows (keys.Open home photos session.key number) ≡ Some (values.Open session.blocks)) sessions_of_photos (refl, (refl, tt)))
    (λ number session e. not_none session (sym (get-empty nat_cmp number) ∙ e))

-- ---- snapshots

HeldStands : List (List ℕ × List Piece) → RowKey → Row → Type 0
HeldStands held (keys.SnapshotKey volume bucket number key) row = get (from_entries {R = slice_cmp nat_cmp} held) key ≡ pieces_in (Some row)
HeldStands held key row = Unit {0}

-- the rows of a snapshot's keys have what it holds
module _ (volume bucket : List ℕ) (number : ℕ) (held : List (List ℕ × List Piece)) (few : List RowEntry) where
  held_stand : AllByRecursion (λ (entry : RowEntry). HeldStands held entry.key entry.row) few → AllByRecursion (λ (e : List ℕ × List Piece). pieces_in (row_of few (keys.SnapshotKey volume bucket number e.0)) ≡ Some e.1) held
      → (key : List ℕ) → get (from_entries {R = slice_cmp nat_cmp} held) key ≡ pieces_in (row_of few (keys.SnapshotKey volume bucket number key))
  unfolding HeldStands
  held_stand stand has key = same_option _ _
      (λ pieces e. each_found nat_list_cmp_total one_name (λ key pieces. pieces_in (row_of few (keys.SnapshotKey volume bucket number key)) ≡ Some pieces) held has key pieces e)
      (λ pieces e. let found = of_row (row_of few (keys.SnapshotKey volume bucket number key)) pieces e in
      each_row (HeldStands held) few stand (keys.SnapshotKey volume bucket number key) found.0 found.1 ∙ sym (ap pieces_in found.1) ∙ e)

-- the rows of a snapshot's keys
abbrev keys_of : List ℕ → List ℕ → ℕ → List RowEntry
unfolding rows
keys_of volume bucket number = filter (λ (entry : RowEntry). is_of_snapshot volume bucket number entry.key) rows

SnapshotStands : RowKey → Row → Type 0
SnapshotStands (keys.Snapshot volume bucket number) row = (name : List ℕ) (previous : ℕ) → row ≡ values.Snapshot name previous Live → IsSome (bucket_of namespace volume bucket)
SnapshotStands key row = Unit {0}

snapshot_stands : (volume bucket : List ℕ) (number : ℕ) (row : Row) → row_of rows (keys.Snapshot volume bucket number) ≡ Some row → (name : List ℕ) (previous : ℕ) → row ≡ values.Snapshot name previous Live → IsSome (bucket_of namespace volume bucket)
unfolding rows SnapshotStands
snapshot_stands volume bucket number row e =
    each_row SnapshotStands (of_kind 6) (
      (λ name previous is. there _ _ photos_is),
      (
        (λ name previous is. there _ _ photos_is),
        (
          (λ name previous is. there _ _ photos_is),
          (
            (λ name previous is. absurd (cc)),
            (
              (λ name previous is. there _ _ orders_is),
              tt,
            ),
          ),
        ),
      ),
    ) (keys.Snapshot volume bucket number) row e

drafts_stand : SnapshotsStand (row_of rows) home drafts []
unfolding rows
drafts_stand = record { numbers = []; rise = tt; every = λ number live. not_none _ live.2; each = tt }

photos_stand : SnapshotsStand (row_of rows) home photos bucket_photos.snapshots
unfolding rows HeldStands
photos_stand = record {
  numbers = 7 ∷ 8 ∷ [];
  rise = ((omega arith, tt), (tt, tt));
  every = λ number live. row_passes (has_number (7 ∷ 8 ∷ [])) (filter (λ (entry : RowEntry). is_snapshot_of home photos entry.key) rows) refl (keys.Snapshot home photos number) _ live.2;
  each = (
    record { previous = 6; row = refl; pieces = λ key. held_stand home photos 7 keys_of_monday (keys_of home photos 7) (held cat, (held dog, (held sea, tt))) (refl, (refl, (refl, tt))) key },
    (
      record { previous = 7; row = refl; pieces = λ key. held_stand home photos 8 keys_of_tuesday (keys_of home photos 8) (later cat, (later lake, tt)) (refl, (refl, tt)) key },
      tt,
    ),
  );
}
  where
    held : (key : List ℕ) → get (from_entries {R = slice_cmp nat_cmp} keys_of_monday) key ≡ find (slice_cmp nat_cmp) key keys_of_monday
    held = get-from_entries nat_list_cmp_total keys_of_monday

    later : (key : List ℕ) → get (from_entries {R = slice_cmp nat_cmp} keys_of_tuesday) key ≡ find (slice_cmp nat_cmp) key keys_of_tuesday
    later = get-from_entries nat_list_cmp_total keys_of_tuesday

orders_stand : SnapshotsStand (row_of rows) shop orders bucket_orders.snapshots
unfolding rows HeldStands
orders_stand = record {
  numbers = 5 ∷ [];
  rise = (tt, tt);
  every = λ number live. row_passes (has_number (5 ∷ [])) (filter (λ (entry : RowEntry). is_snapshot_of shop orders entry.key) rows) refl (keys.Snapshot shop orders number) _ live.2;
  each = (record { previous = 0; row = refl; pieces = λ key. held_stand shop orders 5 keys_of_orders (keys_of shop orders 5) (held one, (held two, tt)) (refl, (refl, tt)) key }, tt);
}
  where
    held : (key : List ℕ) → get (from_entries {R = slice_cmp nat_cmp} keys_of_orders) key ≡ find (slice_cmp nat_cmp) key keys_of_orders
    held = get-from_entries nat_list_cmp_total keys_of_orders

snapshots_stand : (volume bucket : List ℕ) → SnapshotsStand (row_of rows) volume bucket (snapshots_in (bucket_of namespace volume bucket))
snapshots_stand volume bucket = by (bucket_of namespace volume bucket) refl
  where
    by : (o : Option Bucket) → bucket_of namespace volume bucket ≡ o → SnapshotsStand (row_of rows) volume bucket (snapshots_in o)
    by (Some b) e = bucket_holds (λ volume bucket b. SnapshotsStand (row_of rows) volume bucket b.snapshots) drafts_stand photos_stand orders_stand volume bucket b e
    by None e = record {
      numbers = [];
      rise = tt;
      every = λ number live. absurd (false≢true (sym (ap is_some e) ∙ snapshot_stands volume bucket number _ live.2 live.0 live.1 refl));
      each = tt;
    }

pub rows_stand : StandsFor (row_of rows) namespace
unfolding rows namespace
rows_stand = record {
  volumes = λ volume. same_test _ _ (volume_has_row volume) (volume_stands volume);
  buckets = λ volume bucket. same_test _ _ (bucket_has_row volume bucket) (bucket_stands volume bucket);
  pieces = pieces_stand;
  sessions = λ volume bucket number session. (
    (λ e. let came = came_of (λ (b : Bucket). get b.sessions number) (bucket_of namespace volume bucket) session e in session_has_row volume bucket came.0 came.1 number session came.2),
    (λ e. open_stands volume bucket session.key number _ e session.blocks refl),
  );
  snapshots = snapshots_stand;
  stripes = refl;
}
