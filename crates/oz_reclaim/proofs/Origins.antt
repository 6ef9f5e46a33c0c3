-- Where the rows come from that a decision leaves, and that it changes a snapshot's keys with the snapshot alone.
use Rattle.std.proofs.Common.{◌≡◌, ⊎_elim, inl, ℕ, ◌==◌, ◌&&◌, ◌||◌, Bool, true, false, List, [], ◌∷◌, ◌++◌, map, Option, Some, is_some, cond, refl, sym, ◌∙◌, ap, subst, arith, append-nil}
use mathlib.Core.Bool.{false≢true}
use Rattle.std.proofs.lemmas.List.Folds.{list_any-append}
use Rattle.std.specs.List.{AllByRecursion, flat_map, list_any}
use Rattle.oz_decision.specs.laws.SessionRows.{all_append}
use Rattle.oz_effects.specs.Effects.{copied, dropped, moved, operation_changes}
use Rattle.oz_fields.specs.declared.block.Block.{Block}
use Rattle.oz_reclaim.specs.Creates.{operations_of_create}
use Rattle.oz_reclaim.specs.Origins.{ChangesSnapshot, HasSource, IsSource, IsTidy, RowsComeFrom, SnapshotKeysStay}
use Rattle.oz_reclaim.specs.laws.Origins.{Gives, was_or_given}
use Rattle.oz_reclaim.proofs.Between.{back, front, same_bucket, same_number}
use Rattle.oz_reclaim.proofs.Touched.{key_itself}
use Rattle.oz_rows.specs.declared.entry.RowEntry.{RowEntry}
use Rattle.oz_rows.specs.declared.key.RowKey.{RowKey}
use Rattle.oz_rows.specs.declared.key.RowKey.TheVariants as keys
use Rattle.oz_rows.specs.declared.operation.Change.{Change}
use Rattle.oz_rows.specs.declared.operation.Operation.TheVariants.{CopyKeys, DropKeys, MoveDeleted}
use Rattle.oz_rows.specs.declared.row.Row.{Row}
use Rattle.oz_rows.specs.declared.row.Row.TheVariants as rows
use Rattle.oz_rows.specs.declared.row.SnapshotState.{SnapshotState}
use Rattle.oz_rows.specs.Rows.{kind_of}
use Rattle.oz_rows.specs.RowMaps.{Rows, after_changes, gone, is_bucket, is_same, put, row_of}
use Rattle.oz_sound.specs.Sound.{StandsIn}

-- what each row gives holds of all that they give
pub each_given : (P : Change → Type 0) (all : Rows) (give : RowKey → Row → List Change) → ((key : RowKey) (row : Row) → all key ≡ Some row → AllByRecursion P (give key row))
    → (l : List RowEntry) → AllByRecursion (λ (x : RowEntry). all x.key ≡ Some x.row) l → AllByRecursion P (flat_map (λ (x : RowEntry). give x.key x.row) l)
each_given P all give its [] found = tt
each_given P all give its (x ∷ l) found = all_append P (give x.key x.row) _ (its x.key x.row found.0) (each_given P all give its l found.1)

-- ---- where rows come from

module _ (all : Rows) where
  -- a deleted or a renamed row was there under some owner, and no row of a key or a session comes
  abbrev Comes : RowKey → Row → Type 0
  Comes (keys.Deleted v b o k l) row = (before : ℕ) × (all (keys.Deleted v b before k l) ≡ Some row)
  Comes (keys.Renamed v b o l) row = (before : ℕ) × (all (keys.Renamed v b before l) ≡ Some row)
  Comes (keys.Key v b k) row = ⊥
  Comes (keys.Open v b k n) row = ⊥
  Comes key row = Unit {0}

  -- the change keeps that, and the snapshot's row changes where it is of a key of a snapshot
  abbrev pub IsFine : List Change → Change → Type 0
  IsFine changes change = Gives Comes change × IsTidy changes change.key

  pub gone_fine : (changes : List Change) (key : RowKey) → IsTidy changes key → IsFine changes (gone key)
  gone_fine changes key tidy = ((λ row e. absurd (false≢true (ap is_some e))), tidy)

  given : (changes l : List Change) → AllByRecursion (IsFine changes) l → AllByRecursion (Gives Comes) l
  given changes [] each = tt
  given changes (change ∷ l) each = (each.0.0, given changes l each.1)

  tidy_each : (changes l : List Change) → AllByRecursion (IsFine changes) l → AllByRecursion (λ (change : Change). IsTidy changes change.key) l
  tidy_each changes [] each = tt
  tidy_each changes (change ∷ l) each = (each.0.1, tidy_each changes l each.1)

  module _ (changes : List Change) (each : AllByRecursion (IsFine changes) changes) where
    abbrev now : Rows
    now = after_changes changes all

    pub come_from : (granted : Option Block) → RowsComeFrom all now granted
    come_from granted = record {
      deleted = λ v b k o l row e. inl (⊎_elim (λ was. (o, was)) (λ it. it) (was_or_given Comes changes (given changes changes each) (keys.Deleted v b o k l) (all (keys.Deleted v b o k l)) row e));
      renamed = λ v b o l row e. inl (⊎_elim (λ was. (o, was)) (λ it. it) (was_or_given Comes changes (given changes changes each) (keys.Renamed v b o l) (all (keys.Renamed v b o l)) row e));
      sources = λ block has. inl (source block has.0 has.1 has.2);
    }
      where
        source : (block : Block) (key : RowKey) → IsSource key → StandsIn now block key → HasSource all block
        source block (keys.Key v b k) is stands = (keys.Key v b k, tt, record { row = stands.row; there = ⊎_elim (λ was. was) (λ it. absurd it) (was_or_given Comes changes (given changes changes each) (keys.Key v b k) (all (keys.Key v b k)) stands.row stands.there); has = stands.has })
        source block (keys.Open v b k n) is stands = (keys.Open v b k n, tt, record { row = stands.row; there = ⊎_elim (λ was. was) (λ it. absurd it) (was_or_given Comes changes (given changes changes each) (keys.Open v b k n) (all (keys.Open v b k n)) stands.row stands.there); has = stands.has })
        source block key is stands = absurd is

    pub are_tidy : SnapshotKeysStay changes
    are_tidy = tidy_each changes changes each

  -- where there is nothing there is nothing to be said
  pub none_fine : (changes : List Change) → changes ≡ [] → AllByRecursion (IsFine changes) changes
  none_fine changes none = subst (λ (c : List Change). AllByRecursion (IsFine c) c) (sym none) tt

  -- ---- operation by operation

  moved_fine : (changes : List Change) (l : List RowEntry) (v b : List ℕ) (from to : ℕ) (key : RowKey) (row : Row) → all key ≡ Some row → AllByRecursion (IsFine changes) (moved l v b from to key row)
  moved_fine changes l v b from to (keys.Deleted w c o k local) row there = by (is_bucket v b w c && o == from) refl
    where
      by : (t : Bool) → is_bucket v b w c && o == from ≡ t → AllByRecursion (IsFine changes) (cond t (gone (keys.Deleted v b from k local) ∷ put (keys.Deleted v b to k local) row ∷ []) [])
      by false e = tt
      by true e =
          let same = same_bucket v b w c (front (is_bucket v b w c) _ e) in
          let number = same_number o from (back (is_bucket v b w c) _ e) in
          let was : all (keys.Deleted v b from k local) ≡ Some row = (λ i. all (keys.Deleted (same.volume i) (same.bucket i) (sym number i) k local)) ∙ there in
          (gone_fine changes (keys.Deleted v b from k local) tt, (((λ r is. (from, was ∙ is)), tt), tt))
  moved_fine changes l v b from to (keys.Renamed w c o local) row there = by (is_bucket v b w c && o == from) refl (from == 0 && is_some (row_of l (keys.Renamed v b to local)))
    where
      by : (s : Bool) → is_bucket v b w c && o == from ≡ s → (t : Bool) → AllByRecursion (IsFine changes) (cond s (gone (keys.Renamed v b from local) ∷ cond t [] (put (keys.Renamed v b to local) row ∷ [])) [])
      by false e t = tt
      by true e true = (gone_fine changes (keys.Renamed v b from local) tt, tt)
      by true e false =
          let same = same_bucket v b w c (front (is_bucket v b w c) _ e) in
          let number = same_number o from (back (is_bucket v b w c) _ e) in
          let was : all (keys.Renamed v b from local) ≡ Some row = (λ i. all (keys.Renamed (same.volume i) (same.bucket i) (sym number i) local)) ∙ there in
          (gone_fine changes (keys.Renamed v b from local) tt, (((λ r is. (from, was ∙ is)), tt), tt))
  moved_fine changes l v b from to key row there = tt

  copied_fine : (changes : List Change) (v b : List ℕ) (n : ℕ) → ChangesSnapshot changes v b n → (key : RowKey) (row : Row) → AllByRecursion (IsFine changes) (copied v b n key row)
  copied_fine changes v b n has (keys.Key w c k) (rows.Key made pieces) = by (is_bucket v b w c)
    where
      by : (t : Bool) → AllByRecursion (IsFine changes) (cond t (put (keys.SnapshotKey v b n k) (rows.SnapshotKey made pieces) ∷ []) [])
      by true = (((λ r is. tt), has), tt)
      by false = tt
  copied_fine changes v b n has key row = tt

  dropped_fine : (changes : List Change) (v b : List ℕ) (n : ℕ) → ChangesSnapshot changes v b n → (key : RowKey) → AllByRecursion (IsFine changes) (dropped v b n key)
  dropped_fine changes v b n has (keys.SnapshotKey w c m k) = by (is_bucket v b w c && m == n)
    where
      by : (t : Bool) → AllByRecursion (IsFine changes) (cond t (gone (keys.SnapshotKey v b n k) ∷ []) [])
      by true = (gone_fine changes (keys.SnapshotKey v b n k) has, tt)
      by false = tt
  dropped_fine changes v b n has key = tt

  or_right : (s t : Bool) → t ≡ true → s || t ≡ true
  or_right true t e = refl
  or_right false t e = e

  -- deleted rows go
  pub gone_all_fine : (changes : List Change) (l : List RowKey) → AllByRecursion (λ key. kind_of key ≡ 5) l → AllByRecursion (IsFine changes) (map gone l)
  gone_all_fine changes [] each = tt
  gone_all_fine changes (key ∷ l) each = (gone_fine changes key (by key each.0), gone_all_fine changes l each.1)
    where
      by : (key : RowKey) → kind_of key ≡ 5 → IsTidy changes key
      by (keys.SnapshotKey v b n k) e = absurd (omega (arith, e))
      by key e = tt

  -- a snapshot is marked
  pub marked_fine : (v b name : List ℕ) (n previous : ℕ) (state : SnapshotState) → AllByRecursion (IsFine (put (keys.Snapshot v b n) (rows.Snapshot name previous state) ∷ [])) (put (keys.Snapshot v b n) (rows.Snapshot name previous state) ∷ [])
  marked_fine v b name n previous state = (((λ r is. tt), tt), tt)

  module _ (entries : List RowEntry) (found : AllByRecursion (λ (x : RowEntry). all x.key ≡ Some x.row) entries) where
    moves_fine : (changes : List Change) (v b : List ℕ) (from to : ℕ) → AllByRecursion (IsFine changes) (operation_changes entries (MoveDeleted v b from to))
    moves_fine changes v b from to = by (from == to)
      where
        by : (t : Bool) → AllByRecursion (IsFine changes) (cond t [] (flat_map (λ (entry : RowEntry). moved entries v b from to entry.key entry.row) entries))
        by true = tt
        by false = each_given (IsFine changes) all (moved entries v b from to) (moved_fine changes entries v b from to) entries found

    -- what a snapshot owned goes on
    pub moving_fine : (v b : List ℕ) (from to : ℕ) → AllByRecursion (IsFine (operation_changes entries (MoveDeleted v b from to))) (operation_changes entries (MoveDeleted v b from to))
    moving_fine v b from to = moves_fine (operation_changes entries (MoveDeleted v b from to)) v b from to

    -- a marked snapshot goes
    pub dropping_fine : (v b : List ℕ) (n : ℕ) → let changes = operation_changes entries (DropKeys v b n) ++ gone (keys.Snapshot v b n) ∷ [] in AllByRecursion (IsFine changes) changes
    dropping_fine v b n =
        let drops = operation_changes entries (DropKeys v b n) in
        let changes = drops ++ gone (keys.Snapshot v b n) ∷ [] in
        let has : ChangesSnapshot changes v b n =
        list_any-append (λ (change : Change). is_same change.key (keys.Snapshot v b n)) drops (gone (keys.Snapshot v b n) ∷ [])
        ∙ or_right (list_any (λ (change : Change). is_same change.key (keys.Snapshot v b n)) drops) _ (ap (λ (t : Bool). t || false) (key_itself (keys.Snapshot v b n))) in
        all_append (IsFine changes) drops (gone (keys.Snapshot v b n) ∷ [])
        (each_given (IsFine changes) all (λ key row. dropped v b n key) (λ key row there. dropped_fine changes v b n has key) entries found)
        (gone_fine changes (keys.Snapshot v b n) tt, tt)

    -- a snapshot is made
    pub making_fine : (v b name : List ℕ) (n previous : ℕ) → let changes = flat_map (operation_changes entries) (operations_of_create v b name n previous) in AllByRecursion (IsFine changes) changes
    making_fine v b name n previous =
        let changes = flat_map (operation_changes entries) (operations_of_create v b name n previous) in
        let later : List Change = operation_changes entries (CopyKeys v b n) ++ (operation_changes entries (MoveDeleted v b 0 n) ++ []) in
        let has : ChangesSnapshot changes v b n = ap (λ (t : Bool). t || list_any (λ (change : Change). is_same change.key (keys.Snapshot v b n)) later) (key_itself (keys.Snapshot v b n)) in (
          ((λ r is. tt), tt),
          (
            ((λ r is. tt), tt),
            all_append (IsFine changes) (operation_changes entries (CopyKeys v b n)) (operation_changes entries (MoveDeleted v b 0 n) ++ [])
                (each_given (IsFine changes) all (copied v b n) (λ key row there. copied_fine changes v b n has key row) entries found)
                (subst (AllByRecursion (IsFine changes)) (sym (append-nil (operation_changes entries (MoveDeleted v b 0 n)))) (moves_fine changes v b 0 n)),
          ),
        )
