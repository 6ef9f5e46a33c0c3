-- The rows of a bucket, gathered from rows in order.
use Rattle.std.proofs.Common.{◌≡◌, ◌↔◌, ⊎_elim, ℕ, Bool, true, false, ◌||◌, List, [], ◌∷◌, ◌++◌, Option, None, Some, IsSome, is_some, cond, refl, sym, ◌∙◌, ap, subst, append-nil}
use mathlib.Core.Bool.{false≢true}
use Rattle.std.specs.BTreeSet.{BTreeSet}
use Rattle.std.specs.List.{AllByRecursion, list_any}
use Rattle.std.specs.Ordering.{is_eq}
use Rattle.std.specs.declared.cmp.Ordering.{Ordering}
use Rattle.std.specs.declared.cmp.Ordering.TheVariants.{Less, Equal, Greater}
use Rattle.oz_effects.specs.Parts.{IsPart, front_of, part_order}
use Rattle.oz_effects.specs.changes.Steps.{holds}
use Rattle.oz_effects.specs.declared.parts.Part.TheVariants as parts
use Rattle.oz_fields.specs.declared.block.Block.{Block}
use Rattle.oz_reclaim.specs.Gathered.{AreAllOf}
use Rattle.oz_reclaim.specs.sweep.Filing.{IsAmong, IsDeletedIn, IsDeletedThere, is_of_live, is_of_number, keeps, names_block}
use Rattle.oz_reclaim.specs.sweep.Dates.{SnapshotNames}
use Rattle.oz_reclaim.specs.sweep.Kept.{AreKept, IsKept}
use Rattle.oz_reclaim.proofs.Between.{back, both, front, number_itself, same_bucket, same_number}
use Rattle.oz_reclaim.proofs.ShownBlocks.{or_cases, or_first, or_second, row_passes}
use Rattle.oz_rows.specs.declared.entry.RowEntry.{RowEntry}
use Rattle.oz_rows.specs.declared.key.RowKey.{RowKey}
use Rattle.oz_rows.specs.declared.key.RowKey.TheVariants as keys
use Rattle.oz_rows.specs.declared.row.Row.{Row}
use Rattle.oz_rows.specs.RowMaps.{IsBelow, KeysRise, Rows, is_block, is_bucket, is_same, row_of}
use Rattle.oz_rows.specs.laws.Order.{equal_from_test, itself}
use Rattle.oz_rows.specs.laws.Same.{same_is_one}
use Rattle.oz_sound.specs.Sound.{StandsIn, blocks_of}

-- ---- what stands in a part

module _ (home : List (List ℕ)) (key : RowKey) (within : part_order home key ≡ Equal) where
  not_here : (order : Ordering) → (order ≡ Equal → ⊥) → (l m : List RowEntry) → AllByRecursion (λ (entry : RowEntry). part_order home entry.key ≡ order) l → row_of (l ++ m) key ≡ row_of m key
  not_here order other [] m all = refl
  not_here order other (x ∷ l) m all = by (is_same x.key key) refl (not_here order other l m all.1)
    where
      by : (t : Bool) → is_same x.key key ≡ t → row_of (l ++ m) key ≡ row_of m key → cond (is_same x.key key) (Some x.row) (row_of (l ++ m) key) ≡ row_of m key
      by true e later = absurd (other (sym all.0 ∙ ap (part_order home) (same_is_one x.key key e) ∙ within))
      by false e later = ap (λ (t : Bool). cond t (Some x.row) (row_of (l ++ m) key)) e ∙ later

  through : (l m : List RowEntry) → row_of m key ≡ None → row_of (l ++ m) key ≡ row_of l key
  through [] m none = none
  through (x ∷ l) m none = ap (cond (is_same x.key key) (Some x.row)) (through l m none)

  pub part_finds : (all part : List RowEntry) → IsPart all home part → row_of part key ≡ row_of all key
  part_finds all part is =
      let behind : row_of is.greater key ≡ None = ap (λ (l : List RowEntry). row_of l key) (sym (append-nil is.greater)) ∙ not_here Less (λ e. false≢true (ap is_eq e)) is.greater [] is.behind in
      sym (through part is.greater behind)
      ∙ sym (not_here Greater (λ e. false≢true (ap is_eq e)) is.lower (part ++ is.greater) is.before)
      ∙ ap (λ (l : List RowEntry). row_of l key) (sym is.parts)

-- each of rows in order is found under its key
each_found : (l : List RowEntry) → KeysRise l → AllByRecursion (λ (entry : RowEntry). row_of l entry.key ≡ Some entry.row) l
each_found [] rise = tt
each_found (x ∷ l) rise = (ap (λ o. cond (is_eq o) (Some x.row) (row_of l x.key)) (itself x.key), behind l rise.0 (each_found l rise.1))
  where
    behind : (m : List RowEntry) → AllByRecursion (λ (other : RowEntry). IsBelow x.key other.key) m → AllByRecursion (λ (entry : RowEntry). row_of l entry.key ≡ Some entry.row) m
        → AllByRecursion (λ (entry : RowEntry). row_of (x ∷ l) entry.key ≡ Some entry.row) m
    behind [] below found = tt
    behind (y ∷ m) below found = (ap (λ o. cond (is_eq o) (Some x.row) (row_of l y.key)) below.0 ∙ found.0, behind m below.1 found.1)

middle : (P : RowEntry → Type 0) (a b c : List RowEntry) → AllByRecursion P (a ++ (b ++ c)) → AllByRecursion P b
middle P (x ∷ a) b c all = middle P a b c all.1
middle P [] [] c all = tt
middle P [] (x ∷ b) c all = (all.0, middle P [] b c all.1)

pub part_found : (home : List (List ℕ)) (all part : List RowEntry) → KeysRise all → IsPart all home part → AllByRecursion (λ (entry : RowEntry). row_of all entry.key ≡ Some entry.row) part
part_found home all part rise is =
    let P = λ (entry : RowEntry). row_of all entry.key ≡ Some entry.row in
    middle P is.lower part is.greater (subst (AllByRecursion P) is.parts (each_found all rise))

-- ---- the blocks of live snapshots

pub one_bucket_has : (P : List ℕ → List ℕ → Type 0) (v b w c : List ℕ) → is_bucket v b w c ≡ true → P w c → P v b
one_bucket_has P v b w c e has =
    let same = same_bucket v b w c e in
    subst (λ (x : List ℕ). P x b) (sym same.volume) (subst (λ (y : List ℕ). P w y) (sym same.bucket) has)

module _ (all : List RowEntry) (v b : List ℕ) (block : Block) where
  live_row : (key : RowKey) (row : Row) → part_order (front_of parts.SnapshotKeys v b) key ≡ Equal → row_of all key ≡ Some row → is_of_live (row_of all) key ≡ true
      → list_any (is_block block) (blocks_of row) ≡ true → IsKept (row_of all) v b block
  live_row (keys.SnapshotKey w c n name) row within there live has =
      one_bucket_has (λ (v b : List ℕ). IsKept (row_of all) v b block) v b w c (ap is_eq within)
      (record { number = n; name = name; live = live; stands = record { row = row; there = there; has = has } })
  live_row key row within there live has = absurd (false≢true live)

  one_kept : (l : List RowEntry) → AllByRecursion (λ (entry : RowEntry). part_order (front_of parts.SnapshotKeys v b) entry.key ≡ Equal) l
      → AllByRecursion (λ (entry : RowEntry). row_of all entry.key ≡ Some entry.row) l → list_any (keeps (row_of all) block) l ≡ true → IsKept (row_of all) v b block
  one_kept [] among found e = absurd (false≢true e)
  one_kept (x ∷ l) among found e = ⊎_elim
      (λ keep. live_row x.key x.row among.0 found.0 (front (is_of_live (row_of all) x.key) _ keep) (back (is_of_live (row_of all) x.key) _ keep))
      (one_kept l among.1 found.1)
      (or_cases (keeps (row_of all) block x) _ e)

  kept_told : (found : List RowEntry) → KeysRise all → IsPart all (front_of parts.SnapshotKeys v b) found → (list_any (keeps (row_of all) block) found ≡ true) ↔ IsKept (row_of all) v b block
  kept_told found rise is = (one_kept found is.among (part_found (front_of parts.SnapshotKeys v b) all found rise is), given)
    where
      given : IsKept (row_of all) v b block → list_any (keeps (row_of all) block) found ≡ true
      given it =
          let key = keys.SnapshotKey v b it.number it.name in
          let within = equal_from_test (part_order (front_of parts.SnapshotKeys v b) key) (ap is_eq (itself (keys.Bucket v b))) in
          row_passes (λ (k : RowKey) (r : Row). keeps (row_of all) block (record { key = k; row = r })) found key it.stands.row
          (part_finds (front_of parts.SnapshotKeys v b) key within all found is ∙ it.stands.there)
          (both (is_of_live (row_of all) key) _ it.live it.stands.has)

pub set_is_right : (all : List RowEntry) (v b : List ℕ) (found : List RowEntry) (before set : BTreeSet Block) → KeysRise all → IsPart all (front_of parts.SnapshotKeys v b) found
    → ((block : Block) → holds before block ≡ false)
    → ((block : Block) → holds set block ≡ (holds before block || list_any (keeps (row_of all) block) found)) → AreKept (row_of all) v b set
set_is_right all v b found before set rise is none told = λ block.
    let same : holds set block ≡ list_any (keeps (row_of all) block) found = told block ∙ ap (λ (t : Bool). t || list_any (keeps (row_of all) block) found) (none block) in
    let kept = kept_told all v b block found rise is in
    (λ e. kept.0 (sym same ∙ e), λ it. same ∙ kept.1 it)

-- ---- the blocks of one snapshot

module _ (all : List RowEntry) (v b : List ℕ) (number : ℕ) (block : Block) where
  abbrev Named : Type 0
  Named = (name : List ℕ) × StandsIn (row_of all) block (keys.SnapshotKey v b number name)

  named_row : (key : RowKey) (row : Row) → part_order (front_of parts.SnapshotKeys v b) key ≡ Equal → row_of all key ≡ Some row → is_of_number number key ≡ true
      → list_any (is_block block) (blocks_of row) ≡ true → Named
  named_row (keys.SnapshotKey w c n name) row within there of has =
      let stands : StandsIn (row_of all) block (keys.SnapshotKey w c n name) = record { row = row; there = there; has = has } in
      one_bucket_has (λ (v b : List ℕ). (name : List ℕ) × StandsIn (row_of all) block (keys.SnapshotKey v b number name)) v b w c (ap is_eq within)
      (name, subst (λ (m : ℕ). StandsIn (row_of all) block (keys.SnapshotKey w c m name)) (same_number n number of) stands)
  named_row key row within there of has = absurd (false≢true of)

  one_named : (l : List RowEntry) → AllByRecursion (λ (entry : RowEntry). part_order (front_of parts.SnapshotKeys v b) entry.key ≡ Equal) l
      → AllByRecursion (λ (entry : RowEntry). row_of all entry.key ≡ Some entry.row) l → list_any (names_block number block) l ≡ true → Named
  one_named [] among found e = absurd (false≢true e)
  one_named (x ∷ l) among found e = ⊎_elim
      (λ here. named_row x.key x.row among.0 found.0 (front (is_of_number number x.key) _ here) (back (is_of_number number x.key) _ here))
      (one_named l among.1 found.1)
      (or_cases (names_block number block x) _ e)

  names_told : (found : List RowEntry) → KeysRise all → IsPart all (front_of parts.SnapshotKeys v b) found → (list_any (names_block number block) found ≡ true) ↔ Named
  names_told found rise is = (one_named found is.among (part_found (front_of parts.SnapshotKeys v b) all found rise is), given)
    where
      given : Named → list_any (names_block number block) found ≡ true
      given (name, it) =
          let key = keys.SnapshotKey v b number name in
          let within = equal_from_test (part_order (front_of parts.SnapshotKeys v b) key) (ap is_eq (itself (keys.Bucket v b))) in
          row_passes (λ (k : RowKey) (r : Row). names_block number block (record { key = k; row = r })) found key it.row
          (part_finds (front_of parts.SnapshotKeys v b) key within all found is ∙ it.there)
          (both (is_of_number number key) _ (number_itself number) it.has)

pub snapshot_is_right : (all : List RowEntry) (v b : List ℕ) (number : ℕ) (found : List RowEntry) (before set : BTreeSet Block) → KeysRise all → IsPart all (front_of parts.SnapshotKeys v b) found
    → ((block : Block) → holds before block ≡ false)
    → ((block : Block) → holds set block ≡ (holds before block || list_any (names_block number block) found))
    → (block : Block) → (holds set block ≡ true) ↔ SnapshotNames (row_of all) (keys.Snapshot v b number) block
snapshot_is_right all v b number found before set rise is none told = λ block.
    let same : holds set block ≡ list_any (names_block number block) found = told block ∙ ap (λ (t : Bool). t || list_any (names_block number block) found) (none block) in
    let named = names_told all v b number block found rise is in
    (λ e. named.0 (sym same ∙ e), λ it. same ∙ named.1 it)

-- ---- deleted rows of a bucket

pub has_entry : (l : List RowEntry) (key : RowKey) → IsSome (row_of l key) → IsAmong l key
has_entry [] key there = absurd (false≢true there)
has_entry (x ∷ l) key there = by (is_same x.key key) refl there (has_entry l key)
  where
    by : (t : Bool) → is_same x.key key ≡ t → IsSome (cond t (Some x.row) (row_of l key)) → (IsSome (row_of l key) → IsAmong l key) → (is_same x.key key || list_any (λ (entry : RowEntry). is_same entry.key key) l) ≡ true
    by true e there later = or_first (is_same x.key key) _ e
    by false e there later = or_second (is_same x.key key) _ (later there)

pub deleted_among : (all found : List RowEntry) (v b : List ℕ) → IsPart all (front_of parts.Deleted v b) found → (key : RowKey) → IsDeletedIn (row_of all) v b key → IsAmong found key
deleted_among all found v b is (keys.Deleted w c owner k local) it =
    let key = keys.Deleted w c owner k local in
    has_entry found key (subst IsSome (sym (part_finds (front_of parts.Deleted v b) key (equal_from_test (part_order (front_of parts.Deleted v b) key) it.1) all found is)) it.0)
deleted_among all found v b is key it = absurd (false≢true it.1)

pub all_among : (all : Rows) (kind : ℕ) (found : List RowEntry) → kind ≡ 5 → AreAllOf all kind found → (key : RowKey) → IsDeletedThere all key → IsAmong found key
all_among all kind found is are key it = by (all key) refl it.0
  where
    by : (o : Option Row) → all key ≡ o → IsSome o → IsAmong found key
    by None e there = absurd (false≢true there)
    by (Some row) e there = has_entry found key (ap is_some (are.every key row (it.1 ∙ sym is) e))
