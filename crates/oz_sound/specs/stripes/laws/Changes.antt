-- What an operation changes among a part of the rows that has all of its bucket.
use Rattle.std.proofs.Common.{
  ◌≡◌,
  ℕ,
  ◌==◌,
  Bool,
  true,
  false,
  not,
  ◌&&◌,
  ◌||◌,
  List,
  [],
  ◌∷◌,
  ◌++◌,
  map,
  Option,
  None,
  Some,
  is_some,
  cond,
  refl,
  sym,
  ◌∙◌,
  ap,
  subst,
}
use mathlib.Core.Bool.{false≢true}
use Rattle.std.proofs.lemmas.Bool.{eq-eqb}
use Rattle.std.specs.List.{AllByRecursion, filter, flat_map, list_any}
use Rattle.oz_fields.specs.declared.block.Block.{Block}
use Rattle.oz_rows.specs.declared.key.RowKey.{RowKey}
use Rattle.oz_rows.specs.declared.key.RowKey.TheVariants as keys
use Rattle.oz_rows.specs.declared.row.Row.{Row}
use Rattle.oz_rows.specs.declared.row.Row.TheVariants as rows
use Rattle.oz_rows.specs.declared.entry.RowEntry.{RowEntry}
use Rattle.oz_rows.specs.declared.operation.Change.{Change}
use Rattle.oz_rows.specs.declared.operation.Operation.{Operation}
use Rattle.oz_rows.specs.declared.operation.Operation.TheVariants.{CopyKeys, MoveDeleted, DropKeys, DropOpen}
use Rattle.oz_rows.specs.RowMaps.{row_of, is_bucket, is_block, put, gone, KeysRise}
use Rattle.oz_rows.specs.laws.Same.{same_is_one}
use Rattle.oz_effects.specs.Effects.{copied, moved, dropped, closed, has_block, is_in_a_key, freed, operation_changes}
use Rattle.oz_sound.specs.stripes.Parts.{part_of, HasBucket, IsApart}
use Rattle.oz_sound.specs.stripes.laws.Lists.{each_found, in_part, mapped, any_of_part, mapped_alike}

volume_in : RowKey → List ℕ
volume_in (keys.Bucket volume bucket) = volume
volume_in key = []

bucket_in : RowKey → List ℕ
bucket_in (keys.Bucket volume bucket) = bucket
bucket_in key = []

-- the test says that both names are the same
pub one_bucket : (volume bucket of_volume of_bucket : List ℕ) → is_bucket volume bucket of_volume of_bucket ≡ true → (volume ≡ of_volume) × (bucket ≡ of_bucket)
unfolding volume_in bucket_in
one_bucket volume bucket of_volume of_bucket e =
    let same = same_is_one (keys.Bucket volume bucket) (keys.Bucket of_volume of_bucket) e in
    (ap volume_in same, ap bucket_in same)

-- a block is among blocks that it is one of
is_itself : (block : Block) → is_block block block ≡ true
is_itself block = ap (λ (t : Bool). t && block.local == block.local) (eq-eqb block.container block.container refl) ∙ eq-eqb block.local block.local refl

among_more : (first : Block) (blocks l : List Block) → AllByRecursion (λ (block : Block). list_any (is_block block) blocks ≡ true) l
    → AllByRecursion (λ (block : Block). list_any (is_block block) (first ∷ blocks) ≡ true) l
among_more first blocks [] among = tt
among_more first blocks (block ∷ l) among = (by (is_block block first), among_more first blocks l among.1)
  where
    by : (t : Bool) → t || list_any (is_block block) blocks ≡ true
    by true = refl
    by false = among.0

each_among : (blocks : List Block) → AllByRecursion (λ (block : Block). list_any (is_block block) blocks ≡ true) blocks
each_among [] = tt
each_among (block ∷ blocks) =
    (ap (λ (t : Bool). t || list_any (is_block block) blocks) (is_itself block), among_more block blocks blocks (each_among blocks))

module _ (p : RowKey → Bool) (volume bucket : List ℕ) (has : HasBucket p volume bucket) where
  -- a key of this shape outside the part is of another bucket
  apart : (shape : List ℕ → List ℕ → RowKey) (of_volume of_bucket : List ℕ) → p (shape volume bucket) ≡ true → p (shape of_volume of_bucket) ≡ false
      → is_bucket volume bucket of_volume of_bucket ≡ false
  apart shape of_volume of_bucket inside outside = by (is_bucket volume bucket of_volume of_bucket) refl
    where
      by : (t : Bool) → is_bucket volume bucket of_volume of_bucket ≡ t → is_bucket volume bucket of_volume of_bucket ≡ false
      by false e = e
      by true e =
          let same = one_bucket volume bucket of_volume of_bucket e in
          absurd (false≢true (sym outside ∙ ap (λ v. p (shape v of_bucket)) (sym same.0) ∙ ap (λ b. p (shape volume b)) (sym same.1) ∙ inside))

  copied_outside : (number : ℕ) (key : RowKey) (row : Row) → p key ≡ false → copied volume bucket number key row ≡ []
  copied_outside number (keys.Key of_volume of_bucket key) (rows.Key made pieces) e =
      ap (λ (t : Bool). cond t (put (keys.SnapshotKey volume bucket number key) (rows.SnapshotKey made pieces) ∷ []) [])
      (apart (λ v b. keys.Key v b key) of_volume of_bucket (has.keys_in key) e)
  copied_outside number key row e = refl

  dropped_outside : (number : ℕ) (key : RowKey) → p key ≡ false → dropped volume bucket number key ≡ []
  dropped_outside number (keys.SnapshotKey of_volume of_bucket snapshot key) e =
      ap (λ (t : Bool). cond (t && snapshot == number) (gone (keys.SnapshotKey volume bucket number key) ∷ []) [])
      (apart (λ v b. keys.SnapshotKey v b snapshot key) of_volume of_bucket (has.snapshot_keys snapshot key) e)
  dropped_outside number key e = refl

  closed_outside : (key : RowKey) → p key ≡ false → closed volume bucket key ≡ []
  closed_outside (keys.Open of_volume of_bucket key number) e =
      ap (λ (t : Bool). cond t (gone (keys.Open volume bucket key number) ∷ []) [])
      (apart (λ v b. keys.Open v b key number) of_volume of_bucket (has.sessions key number) e)
  closed_outside key e = refl

  moved_outside : (all : List RowEntry) (from to : ℕ) (key : RowKey) (row : Row) → p key ≡ false → moved all volume bucket from to key row ≡ []
  moved_outside all from to (keys.Deleted of_volume of_bucket owner key local) row e =
      ap (λ (t : Bool). cond (t && owner == from)
      (gone (keys.Deleted volume bucket from key local) ∷ put (keys.Deleted volume bucket to key local) row ∷ []) [])
      (apart (λ v b. keys.Deleted v b owner key local) of_volume of_bucket (has.deleted owner local key) e)
  moved_outside all from to (keys.Renamed of_volume of_bucket owner local) row e =
      ap (λ (t : Bool). cond (t && owner == from) (gone (keys.Renamed volume bucket from local)
      ∷ cond (from == 0 && is_some (row_of all (keys.Renamed volume bucket to local))) [] (put (keys.Renamed volume bucket to local) row ∷ [])) [])
      (apart (λ v b. keys.Renamed v b owner local) of_volume of_bucket (has.renamed owner local) e)
  moved_outside all from to key row e = refl

  moved_alike : (all : List RowEntry) (from to : ℕ) (key : RowKey) (row : Row)
      → moved (part_of p all) volume bucket from to key row ≡ moved all volume bucket from to key row
  moved_alike all from to (keys.Renamed of_volume of_bucket owner local) row =
      ap (λ (found : Option Row). cond (is_bucket volume bucket of_volume of_bucket && owner == from) (gone (keys.Renamed volume bucket from local)
      ∷ cond (from == 0 && is_some found) [] (put (keys.Renamed volume bucket to local) row ∷ [])) [])
      (in_part p all (keys.Renamed volume bucket to local) (has.renamed to local))
  moved_alike all from to key row = refl

  freed_outside : (all : List RowEntry) (key : RowKey) (row : Row) → p key ≡ false → freed all volume bucket key row ≡ []
  freed_outside all (keys.Open of_volume of_bucket key number) (rows.Open blocks) e =
      ap (λ (t : Bool). cond t (map (λ (block : Block). put (keys.Deleted volume bucket 0 key block.local) (rows.Deleted (block ∷ [])))
      (filter (λ block. not (is_in_a_key all block)) blocks)) [])
      (apart (λ v b. keys.Open v b key number) of_volume of_bucket (has.sessions key number) e)
  freed_outside all key row e = refl

  freed_by : List ℕ → Bool → List Block → List Change
  freed_by key t left = cond t (map (λ (block : Block). put (keys.Deleted volume bucket 0 key block.local) (rows.Deleted (block ∷ []))) left) []

  module _ (all : List RowEntry) (rise : KeysRise all) where
    module _ (away : IsApart p (row_of all) (row_of all) volume bucket) where
      none_outside : (key : List ℕ) (number : ℕ) (blocks : List Block) (block : Block)
          → row_of all (keys.Open volume bucket key number) ≡ Some (rows.Open blocks) → list_any (is_block block) blocks ≡ true
          → (l : List RowEntry) → AllByRecursion (λ (x : RowEntry). row_of all x.key ≡ Some x.row) l
          → AllByRecursion (λ (x : RowEntry). p x.key ≡ false → has_block block x.key x.row ≡ false) l
      none_outside key number blocks block stands among [] found = tt
      none_outside key number blocks block stands among (x ∷ l) found =
          (λ e. away key number blocks block x.key x.row stands among e found.0, none_outside key number blocks block stands among l found.1)

      in_a_key_alike : (key : List ℕ) (number : ℕ) (blocks : List Block) (block : Block)
          → row_of all (keys.Open volume bucket key number) ≡ Some (rows.Open blocks) → list_any (is_block block) blocks ≡ true
          → is_in_a_key (part_of p all) block ≡ is_in_a_key all block
      in_a_key_alike key number blocks block stands among =
          any_of_part p (λ (entry : RowEntry). has_block block entry.key entry.row) all
          (none_outside key number blocks block stands among all (each_found all rise))

      unfreed_alike : (key : List ℕ) (number : ℕ) (blocks : List Block) → row_of all (keys.Open volume bucket key number) ≡ Some (rows.Open blocks)
          → (l : List Block) → AllByRecursion (λ (block : Block). list_any (is_block block) blocks ≡ true) l
          → filter (λ block. not (is_in_a_key (part_of p all) block)) l ≡ filter (λ block. not (is_in_a_key all block)) l
      unfreed_alike key number blocks stands [] among = refl
      unfreed_alike key number blocks stands (block ∷ l) among =
          let rest = unfreed_alike key number blocks stands l among.1 in
          ap (λ (t : Bool). cond (not t) (block ∷ filter (λ block. not (is_in_a_key (part_of p all) block)) l)
          (filter (λ block. not (is_in_a_key (part_of p all) block)) l)) (in_a_key_alike key number blocks block stands among.0)
          ∙ ap (λ (later : List Block). cond (not (is_in_a_key all block)) (block ∷ later) later) rest

      freed_alike : (key : RowKey) (row : Row) → row_of all key ≡ Some row → freed (part_of p all) volume bucket key row ≡ freed all volume bucket key row
      unfolding freed_by
      freed_alike (keys.Open of_volume of_bucket key number) (rows.Open blocks) stands = by (is_bucket volume bucket of_volume of_bucket) refl
        where
          by : (t : Bool) → is_bucket volume bucket of_volume of_bucket ≡ t
              → freed (part_of p all) volume bucket (keys.Open of_volume of_bucket key number) (rows.Open blocks)
              ≡ freed all volume bucket (keys.Open of_volume of_bucket key number) (rows.Open blocks)
          by false e =
              ap (λ (t : Bool). freed_by key t (filter (λ block. not (is_in_a_key (part_of p all) block)) blocks)) e
              ∙ sym (ap (λ (t : Bool). freed_by key t (filter (λ block. not (is_in_a_key all block)) blocks)) e)
          by true e =
              let same = one_bucket volume bucket of_volume of_bucket e in
              let here = subst (λ v. row_of all (keys.Open v bucket key number) ≡ Some (rows.Open blocks)) (sym same.0)
              (subst (λ b. row_of all (keys.Open of_volume b key number) ≡ Some (rows.Open blocks)) (sym same.1) stands) in
              ap (freed_by key (is_bucket volume bucket of_volume of_bucket)) (unfreed_alike key number blocks here blocks (each_among blocks))
      freed_alike key row stands = refl

      each_freed_alike : (l : List RowEntry) → AllByRecursion (λ (x : RowEntry). row_of all x.key ≡ Some x.row) l
          → AllByRecursion (λ (x : RowEntry). freed (part_of p all) volume bucket x.key x.row ≡ freed all volume bucket x.key x.row) l
      each_freed_alike [] found = tt
      each_freed_alike (x ∷ l) found = (freed_alike x.key x.row found.0, each_freed_alike l found.1)

      pub sessions_drop_alike : operation_changes (part_of p all) (DropOpen volume bucket) ≡ operation_changes all (DropOpen volume bucket)
      sessions_drop_alike =
          let shut = mapped p (λ (entry : RowEntry). closed volume bucket entry.key) (λ x e. closed_outside x.key e) all in
          let free =
          mapped p (λ (entry : RowEntry). freed (part_of p all) volume bucket entry.key entry.row) (λ x e. freed_outside (part_of p all) x.key x.row e) all
          ∙ mapped_alike (λ (entry : RowEntry). freed (part_of p all) volume bucket entry.key entry.row)
          (λ (entry : RowEntry). freed all volume bucket entry.key entry.row) all (each_freed_alike all (each_found all rise)) in
          ap (λ (first : List Change). first ++ flat_map (λ (entry : RowEntry). freed (part_of p all) volume bucket entry.key entry.row) (part_of p all)) shut
          ∙ ap (λ (rest : List Change). flat_map (λ (entry : RowEntry). closed volume bucket entry.key) all ++ rest) free

  -- the others look at no key row
  pub keys_copy_alike : (all : List RowEntry) (number : ℕ)
      → operation_changes (part_of p all) (CopyKeys volume bucket number) ≡ operation_changes all (CopyKeys volume bucket number)
  keys_copy_alike all number = mapped p (λ (entry : RowEntry). copied volume bucket number entry.key entry.row) (λ x e. copied_outside number x.key x.row e) all

  pub keys_drop_alike : (all : List RowEntry) (number : ℕ)
      → operation_changes (part_of p all) (DropKeys volume bucket number) ≡ operation_changes all (DropKeys volume bucket number)
  keys_drop_alike all number = mapped p (λ (entry : RowEntry). dropped volume bucket number entry.key) (λ x e. dropped_outside number x.key e) all

  each_moved_alike : (all : List RowEntry) (from to : ℕ) (l : List RowEntry)
      → AllByRecursion (λ (x : RowEntry). moved (part_of p all) volume bucket from to x.key x.row ≡ moved all volume bucket from to x.key x.row) l
  each_moved_alike all from to [] = tt
  each_moved_alike all from to (x ∷ l) = (moved_alike all from to x.key x.row, each_moved_alike all from to l)

  pub rows_move_alike : (all : List RowEntry) (from to : ℕ)
      → operation_changes (part_of p all) (MoveDeleted volume bucket from to) ≡ operation_changes all (MoveDeleted volume bucket from to)
  rows_move_alike all from to =
      let same =
      mapped p (λ (entry : RowEntry). moved (part_of p all) volume bucket from to entry.key entry.row)
      (λ x e. moved_outside (part_of p all) from to x.key x.row e) all
      ∙ mapped_alike (λ (entry : RowEntry). moved (part_of p all) volume bucket from to entry.key entry.row)
      (λ (entry : RowEntry). moved all volume bucket from to entry.key entry.row) all (each_moved_alike all from to all) in
      ap (λ (changes : List Change). cond (from == to) [] changes) same
