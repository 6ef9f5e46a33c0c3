-- Operations on a bucket change rows of that bucket alone.
use Rattle.std.proofs.Common.{◌≡◌, ◌&&◌, ◌||◌, ◌==◌, ℕ, Bool, true, false, List, [], ◌∷◌, ◌++◌, Some, is_some, cond, refl, sym, ◌∙◌, ap}
use Rattle.std.specs.Prelude.{not, map, filter}
use mathlib.Core.Bool.{false≢true}
use Rattle.std.proofs.lemmas.Bool.{eq-eqb}
use Rattle.std.specs.List.{flat_map, list_any}
use Rattle.std.specs.Ordering.{is_eq}
use Rattle.std.specs.declared.cmp.Ordering.TheVariants.{Less, Equal, Greater}
use Rattle.oz_rows.specs.declared.key.RowKey.{RowKey}
use Rattle.oz_rows.specs.declared.key.RowKey.TheVariants as keys
use Rattle.oz_rows.specs.declared.row.Row.{Row}
use Rattle.oz_rows.specs.declared.row.Row.TheVariants as rows
use Rattle.oz_rows.specs.declared.operation.Change.{Change}
use Rattle.oz_rows.specs.declared.entry.RowEntry.{RowEntry}
use Rattle.oz_effects.specs.Effects.{copied, moved, dropped, closed, freed, has_block, is_in_a_key}
use Rattle.oz_rows.specs.RowMaps.{row_of, is_same, put, is_bucket, is_block}
use Rattle.oz_fields.specs.declared.block.Block.{Block}
use Rattle.oz_effects.specs.changes.Steps.{in_bucket, moved_but, freed_block, freed_if, has_open_block, is_in_a_session}
use Rattle.oz_effects.specs.Parts.{IsPart, part_order}
use Rattle.oz_rows.specs.laws.Same.{same_is_one}
use Rattle.oz_rows.specs.laws.Order.{itself}
use Rattle.oz_effects.specs.changes.laws.PartLists.{flat_each, flat_part, flat_parts, any_part}

abbrev IsOutside : ℕ → List ℕ → List ℕ → RowKey → Type 0
IsOutside kind volume bucket key = is_eq (part_order (in_bucket kind volume bucket) key) ≡ false

off : (t : Bool) (changes : List Change) → t ≡ false → cond t changes [] ≡ []
off t changes e = ap (λ (t : Bool). cond t changes []) e

both_off : (t u : Bool) (changes : List Change) → t ≡ false → cond (t && u) changes [] ≡ []
both_off t u changes e = ap (λ (t : Bool). cond (t && u) changes []) e

not_copied : (volume bucket : List ℕ) (number : ℕ) (key : RowKey) (row : Row) → IsOutside 3 volume bucket key → copied volume bucket number key row ≡ []
not_copied volume bucket number (keys.Key v b k) (rows.Key made pieces) e = off _ _ e
not_copied volume bucket number key row e = refl

not_dropped : (volume bucket : List ℕ) (number : ℕ) (key : RowKey) → IsOutside 7 volume bucket key → dropped volume bucket number key ≡ []
not_dropped volume bucket number (keys.SnapshotKey v b s k) e = both_off _ _ _ e
not_dropped volume bucket number key e = refl

not_closed : (volume bucket : List ℕ) (key : RowKey) → IsOutside 4 volume bucket key → closed volume bucket key ≡ []
not_closed volume bucket (keys.Open v b k n) e = off _ _ e
not_closed volume bucket key e = refl

not_freed : (all : List RowEntry) (volume bucket : List ℕ) (key : RowKey) (row : Row) → IsOutside 4 volume bucket key → freed all volume bucket key row ≡ []
not_freed all volume bucket (keys.Open v b k n) (rows.Open blocks) e = off _ _ e
not_freed all volume bucket key row e = refl

-- the renamed rows alone
renamed : List RowEntry → List ℕ → List ℕ → ℕ → ℕ → RowKey → Row → List Change
renamed all volume bucket from to (keys.Renamed v b owner local) row = moved all volume bucket from to (keys.Renamed v b owner local) row
renamed all volume bucket from to key row = []

module _ (all : List RowEntry) (volume bucket : List ℕ) (from to : ℕ) where
  none_before : (key : RowKey) (row : Row) → part_order (in_bucket 5 volume bucket) key ≡ Greater → moved all volume bucket from to key row ≡ []
  none_before (keys.Deleted v b owner k local) row e = both_off _ _ _ (ap is_eq e)
  none_before (keys.Renamed v b owner local) row e = cc
  none_before key row e = refl

  not_before : (key : RowKey) (row : Row) → part_order (in_bucket 5 volume bucket) key ≡ Greater → renamed all volume bucket from to key row ≡ []
  unfolding renamed
  not_before (keys.Renamed v b owner local) row e = cc
  not_before key row e = refl

  not_here : (key : RowKey) (row : Row) → part_order (in_bucket 5 volume bucket) key ≡ Equal → renamed all volume bucket from to key row ≡ []
  unfolding renamed
  not_here (keys.Renamed v b owner local) row e = cc
  not_here key row e = refl

  behind : (key : RowKey) (row : Row) → part_order (in_bucket 5 volume bucket) key ≡ Less
      → moved all volume bucket from to key row ≡ renamed all volume bucket from to key row
  unfolding renamed
  behind (keys.Deleted v b owner k local) row e = both_off _ _ _ (ap is_eq e)
  behind (keys.Renamed v b owner local) row e = refl
  behind key row e = refl

  outside : (key : RowKey) (row : Row) → IsOutside 8 volume bucket key → renamed all volume bucket from to key row ≡ []
  unfolding renamed
  outside (keys.Renamed v b owner local) row e = both_off _ _ _ e
  outside key row e = refl

  inside : (key : RowKey) (row : Row) → part_order (in_bucket 8 volume bucket) key ≡ Equal
      → moved all volume bucket from to key row ≡ renamed all volume bucket from to key row
  unfolding renamed
  inside (keys.Deleted v b owner k local) row e = cc
  inside (keys.Renamed v b owner local) row e = refl
  inside key row e = refl

  pub moved_parts : (deleted others : List RowEntry) → IsPart all (in_bucket 5 volume bucket) deleted → IsPart all (in_bucket 8 volume bucket) others
      → flat_map (λ (entry : RowEntry). moved all volume bucket from to entry.key entry.row) all
      ≡ flat_map (λ (entry : RowEntry). moved all volume bucket from to entry.key entry.row) deleted
      ++ flat_map (λ (entry : RowEntry). moved all volume bucket from to entry.key entry.row) others
  moved_parts deleted others is is_later =
      flat_parts (λ (entry : RowEntry). moved all volume bucket from to entry.key entry.row)
      (λ (entry : RowEntry). renamed all volume bucket from to entry.key entry.row)
      all (in_bucket 5 volume bucket) (in_bucket 8 volume bucket) deleted others is is_later
      (λ entry e. none_before entry.key entry.row e) (λ entry e. not_before entry.key entry.row e) (λ entry e. not_here entry.key entry.row e)
      (λ entry e. behind entry.key entry.row e)
      (λ entry e. outside entry.key entry.row e) (λ entry e. inside entry.key entry.row e)

module _ (all part : List RowEntry) (volume bucket : List ℕ) where
  pub copied_part : (number : ℕ) → IsPart all (in_bucket 3 volume bucket) part
      → flat_map (λ (entry : RowEntry). copied volume bucket number entry.key entry.row) all
      ≡ flat_map (λ (entry : RowEntry). copied volume bucket number entry.key entry.row) part
  copied_part number is =
      flat_part (λ (entry : RowEntry). copied volume bucket number entry.key entry.row) all (in_bucket 3 volume bucket) part is
      (λ entry e. not_copied volume bucket number entry.key entry.row e)

  pub dropped_part : (number : ℕ) → IsPart all (in_bucket 7 volume bucket) part
      → flat_map (λ (entry : RowEntry). dropped volume bucket number entry.key) all
      ≡ flat_map (λ (entry : RowEntry). dropped volume bucket number entry.key) part
  dropped_part number is =
      flat_part (λ (entry : RowEntry). dropped volume bucket number entry.key) all (in_bucket 7 volume bucket) part is
      (λ entry e. not_dropped volume bucket number entry.key e)

  pub closed_part : IsPart all (in_bucket 4 volume bucket) part
      → flat_map (λ (entry : RowEntry). closed volume bucket entry.key) all ≡ flat_map (λ (entry : RowEntry). closed volume bucket entry.key) part
  closed_part is = flat_part (λ (entry : RowEntry). closed volume bucket entry.key) all (in_bucket 4 volume bucket) part is
      (λ entry e. not_closed volume bucket entry.key e)

  pub freed_part : IsPart all (in_bucket 4 volume bucket) part
      → flat_map (λ (entry : RowEntry). freed all volume bucket entry.key entry.row) all
      ≡ flat_map (λ (entry : RowEntry). freed all volume bucket entry.key entry.row) part
  freed_part is = flat_part (λ (entry : RowEntry). freed all volume bucket entry.key entry.row) all (in_bucket 4 volume bucket) part is
      (λ entry e. not_freed all volume bucket entry.key entry.row e)

-- ---- what a test of numbers tells

-- whether a key has a row, as a test of each
there_is : (key : RowKey) (l : List RowEntry) → list_any (λ (entry : RowEntry). is_same entry.key key) l ≡ is_some (row_of l key)
there_is key [] = refl
there_is key (x ∷ l) = by (there_is key l) (is_same x.key key)
  where
    by : list_any (λ (entry : RowEntry). is_same entry.key key) l ≡ is_some (row_of l key) → (t : Bool)
        → (t || list_any (λ (entry : RowEntry). is_same entry.key key) l) ≡ is_some (cond t (Some x.row) (row_of l key))
    by behind true = refl
    by behind false = behind

module _ (all : List RowEntry) (volume bucket : List ℕ) where
  apart : (owner local : ℕ) (key : RowKey) → IsOutside 8 volume bucket key → is_same key (keys.Renamed volume bucket owner local) ≡ false
  apart owner local key outside = by (is_same key (keys.Renamed volume bucket owner local)) refl
    where
      by : (t : Bool) → is_same key (keys.Renamed volume bucket owner local) ≡ t → is_same key (keys.Renamed volume bucket owner local) ≡ false
      by true same = absurd
          (false≢true (sym outside ∙ ap (λ (k : RowKey). is_eq (part_order (in_bucket 8 volume bucket) k))
          (same_is_one key (keys.Renamed volume bucket owner local) same) ∙ ap is_eq (itself (keys.Bucket volume bucket))))
      by false same = same

  -- among the bucket's renamed rows, and so among all
  pub renamed_told : (renamed : List RowEntry) (owner local : ℕ) → IsPart all (in_bucket 8 volume bucket) renamed
      → list_any (λ (entry : RowEntry). is_same entry.key (keys.Renamed volume bucket owner local)) renamed
      ≡ is_some (row_of all (keys.Renamed volume bucket owner local))
  renamed_told renamed owner local is =
      let key = keys.Renamed volume bucket owner local in
      sym (any_part (λ (entry : RowEntry). is_same entry.key key) all (in_bucket 8 volume bucket) renamed is
      (λ entry outside. apart owner local entry.key outside)) ∙ there_is key all

  moved_is : (from to : ℕ) (key : RowKey) (row : Row)
      → moved_but (λ local. is_some (row_of all (keys.Renamed volume bucket to local))) volume bucket from to key row
      ≡ moved all volume bucket from to key row
  moved_is from to (keys.Deleted v b owner k local) row = refl
  moved_is from to (keys.Renamed v b owner local) row = refl
  moved_is from to key row = refl

  pub moved_told : (test : ℕ → Bool) (from to : ℕ) (l : List RowEntry) → ((local : ℕ) → test local ≡ is_some (row_of all (keys.Renamed volume bucket to local)))
      → flat_map (λ (entry : RowEntry). moved_but test volume bucket from to entry.key entry.row) l
      ≡ flat_map (λ (entry : RowEntry). moved all volume bucket from to entry.key entry.row) l
  moved_told test from to l same =
      ap (λ (test : ℕ → Bool). flat_map (λ (entry : RowEntry). moved_but test volume bucket from to entry.key entry.row) l) (λ i local. same local i)
      ∙ flat_each (λ (entry : RowEntry). moved_but
      (λ local. is_some (row_of all (keys.Renamed volume bucket to local))) volume bucket from to entry.key entry.row)
      (λ (entry : RowEntry). moved all volume bucket from to entry.key entry.row) (λ entry. moved_is from to entry.key entry.row) l

-- ---- what a test of blocks tells

not_kept : (block : Block) (key : RowKey) (row : Row) → is_eq (part_order ((3 ∷ []) ∷ []) key) ≡ false → has_block block key row ≡ false
not_kept block (keys.Key v b k) (rows.Key made pieces) outside = absurd (false≢true (sym outside))
not_kept block key row outside = refl

-- the blocks of all key rows are those of all rows
pub kept_part : (all part : List RowEntry) (block : Block) → IsPart all ((3 ∷ []) ∷ []) part → is_in_a_key all block ≡ is_in_a_key part block
kept_part all part block is =
    any_part (λ (entry : RowEntry). has_block block entry.key entry.row) all ((3 ∷ []) ∷ []) part is
    (λ entry outside. not_kept block entry.key entry.row outside)

each_freed : (test : Block → Bool) (volume bucket key : List ℕ) (blocks : List Block)
    → flat_map (freed_block test volume bucket key) blocks
    ≡ map (λ (block : Block). put (keys.Deleted volume bucket 0 key block.local) (rows.Deleted (block ∷ []))) (filter test blocks)
each_freed test volume bucket key [] = refl
each_freed test volume bucket key (block ∷ blocks) = by (each_freed test volume bucket key blocks) (test block) refl
  where
    by : flat_map (freed_block test volume bucket key) blocks
        ≡ map (λ (block : Block). put (keys.Deleted volume bucket 0 key block.local) (rows.Deleted (block ∷ []))) (filter test blocks)
        → (t : Bool) → test block ≡ t
        → flat_map (freed_block test volume bucket key) (block ∷ blocks)
        ≡ map (λ (block : Block). put (keys.Deleted volume bucket 0 key block.local) (rows.Deleted (block ∷ []))) (filter test (block ∷ blocks))
    by behind true e = rw e (ap (λ (changes : List Change). put (keys.Deleted volume bucket 0 key block.local) (rows.Deleted (block ∷ [])) ∷ changes) behind)
    by behind false e = rw e behind

freed_is : (all : List RowEntry) (volume bucket : List ℕ) (key : RowKey) (row : Row)
    → freed_if (λ block. not (is_in_a_key all block)) volume bucket key row ≡ freed all volume bucket key row
freed_is all volume bucket (keys.Open v b k n) (rows.Open blocks) =
    ap (λ (changes : List Change). cond (is_bucket volume bucket v b) changes []) (each_freed (λ block. not (is_in_a_key all block)) volume bucket k blocks)
freed_is all volume bucket key row = refl

same_block : (block : Block) → is_block block block ≡ true
same_block block = ap (λ (t : Bool). t && (block.local == block.local)) (eq-eqb block.container block.container refl) ∙ eq-eqb block.local block.local refl

or_true : (t : Bool) → (t || true) ≡ true
or_true true = refl
or_true false = refl

-- Two tests that agree on the blocks of some rows free the same of them.
module _ (test other : Block → Bool) (volume bucket : List ℕ) where
  blocks_same : (key : List ℕ) (blocks : List Block) → ((block : Block) → list_any (is_block block) blocks ≡ true → test block ≡ other block)
      → flat_map (freed_block test volume bucket key) blocks ≡ flat_map (freed_block other volume bucket key) blocks
  blocks_same key [] same = refl
  blocks_same key (block ∷ blocks) same =
      ap (λ (t : Bool). cond t (put (keys.Deleted volume bucket 0 key block.local) (rows.Deleted (block ∷ [])) ∷ []) []
      ++ flat_map (freed_block test volume bucket key) blocks)
      (same block (ap (λ (t : Bool). t || list_any (is_block block) blocks) (same_block block)))
      ∙ ap (λ (changes : List Change). freed_block other volume bucket key block ++ changes)
      (blocks_same key blocks (λ another there. same another (ap (λ (t : Bool). is_block another block || t) there ∙ or_true (is_block another block))))

  row_same : (key : RowKey) (row : Row) → ((block : Block) → has_open_block block row ≡ true → test block ≡ other block)
      → freed_if test volume bucket key row ≡ freed_if other volume bucket key row
  row_same (keys.Open v b k n) (rows.Open blocks) same =
      ap (λ (changes : List Change). cond (is_bucket volume bucket v b) changes []) (blocks_same k blocks same)
  row_same key row same = refl

  rows_same : (l : List RowEntry) → ((block : Block) → is_in_a_session l block ≡ true → test block ≡ other block)
      → flat_map (λ (entry : RowEntry). freed_if test volume bucket entry.key entry.row) l
      ≡ flat_map (λ (entry : RowEntry). freed_if other volume bucket entry.key entry.row) l
  rows_same [] same = refl
  rows_same (x ∷ l) same =
      ap (λ (changes : List Change). changes ++ flat_map (λ (entry : RowEntry). freed_if test volume bucket entry.key entry.row) l)
      (row_same x.key x.row (λ block there. same block (ap (λ (t : Bool). t || is_in_a_session l block) there)))
      ∙ ap (λ (changes : List Change). freed_if other volume bucket x.key x.row ++ changes)
      (rows_same l (λ block there. same block (ap (λ (t : Bool). has_open_block block x.row || t) there ∙ or_true (has_open_block block x.row))))

-- a test that tells the sessions' blocks that no key row has
pub freed_told : (test : Block → Bool) (all sessions : List RowEntry) (volume bucket : List ℕ)
    → ((block : Block) → test block ≡ (is_in_a_session sessions block && not (is_in_a_key all block)))
    → flat_map (λ (entry : RowEntry). freed_if test volume bucket entry.key entry.row) sessions
    ≡ flat_map (λ (entry : RowEntry). freed all volume bucket entry.key entry.row) sessions
freed_told test all sessions volume bucket told =
    rows_same test (λ block. not (is_in_a_key all block)) volume bucket sessions
    (λ block there. told block ∙ ap (λ (t : Bool). t && not (is_in_a_key all block)) there)
    ∙ flat_each (λ (entry : RowEntry). freed_if (λ block. not (is_in_a_key all block)) volume bucket entry.key entry.row)
    (λ (entry : RowEntry). freed all volume bucket entry.key entry.row) (λ entry. freed_is all volume bucket entry.key entry.row) sessions
