-- Each block of a snapshot's key that a decision puts stood in a row before.
use Rattle.std.proofs.Common.{◌≡◌, ℕ, Bool, true, false, List, [], ◌∷◌, ◌++◌, map, Some, cond, sym, subst}
use mathlib.Core.Bool.{false≢true}
use Rattle.std.specs.List.{AllByRecursion, list_any}
use Rattle.oz_decision.specs.laws.SessionRows.{all_append}
use Rattle.oz_effects.specs.Effects.{copied, operation_changes}
use Rattle.oz_fields.specs.declared.block.Block.{Block}
use Rattle.oz_reclaim.specs.laws.Origins.{Gives}
use Rattle.oz_rows.specs.declared.entry.RowEntry.{RowEntry}
use Rattle.oz_rows.specs.declared.key.RowKey.{RowKey}
use Rattle.oz_rows.specs.declared.key.RowKey.TheVariants as keys
use Rattle.oz_rows.specs.declared.operation.Change.{Change}
use Rattle.oz_rows.specs.declared.operation.Operation.TheVariants.{CopyKeys, DropKeys, MoveDeleted}
use Rattle.oz_rows.specs.declared.row.Row.{Row}
use Rattle.oz_rows.specs.declared.row.Row.TheVariants as rows
use Rattle.oz_rows.specs.RowMaps.{Rows, AreRows, gone, is_block, is_bucket, put}
use Rattle.oz_sound.specs.Sound.{StandsIn, blocks_of}
use Rattle.oz_om.proofs.Recorded.{Spares, is_snapshot_key}
use Rattle.oz_om.proofs.decider_lemmas.Comes.{each_gives, found_in, gone_gives, put_gives}
use Rattle.oz_om.proofs.decider_lemmas.Wide.{drops_each, moves_each}

module _ (all : Rows) where
  abbrev pub IsCopied : RowKey → Row → Type 0
  IsCopied (keys.SnapshotKey v b n k) row = (block : Block) → list_any (is_block block) (blocks_of row) ≡ true → (before : RowKey) × StandsIn all block before
  IsCopied key row = Unit {0}

  abbrev pub AreCopies : List Change → Type 0
  AreCopies changes = AllByRecursion (Gives IsCopied) changes

  pub none_copies : (changes : List Change) → changes ≡ [] → AreCopies changes
  none_copies changes none = subst AreCopies (sym none) tt

  -- what puts no key of a snapshot
  spared_copies : (key : RowKey) (row : Row) → is_snapshot_key key ≡ false → IsCopied key row
  spared_copies (keys.SnapshotKey v b n k) row e = absurd (false≢true (sym e))
  spared_copies key row e = tt

  pub spares_copies : (changes : List Change) → Spares changes → AreCopies changes
  spares_copies [] spares = tt
  spares_copies (change ∷ changes) spares = ((λ row e. spared_copies change.key row spares.0), spares_copies changes spares.1)

  pub copied_in : (key : RowKey) (row : Row) → is_snapshot_key key ≡ true → IsCopied key row → (block : Block) → list_any (is_block block) (blocks_of row) ≡ true → (before : RowKey) × StandsIn all block before
  copied_in (keys.SnapshotKey v b n k) row e copied block has = copied block has
  copied_in key row e copied block has = absurd (false≢true e)

  pub moves_copy : (entries : List RowEntry) (v b : List ℕ) (from to : ℕ) → AreCopies (operation_changes entries (MoveDeleted v b from to))
  moves_copy entries v b from to = moves_each (Gives IsCopied) v b (λ o k l row e. tt) (λ o k l row other e. tt) (λ o l row e. tt) (λ o l row other e. tt) entries from to

  pub drops_copy : (entries : List RowEntry) (v b : List ℕ) (n : ℕ) → AreCopies (operation_changes entries (DropKeys v b n))
  drops_copy entries v b n = drops_each (Gives IsCopied) v b n (λ k. gone_gives IsCopied (keys.SnapshotKey v b n k)) entries

  pub gone_copies : (found : List RowKey) → AreCopies (map gone found)
  gone_copies [] = tt
  gone_copies (key ∷ found) = (gone_gives IsCopied key, gone_copies found)

  -- a snapshot gets what the bucket's keys have
  copied_copies : (v b : List ℕ) (n : ℕ) (key : RowKey) (row : Row) → all key ≡ Some row → AreCopies (copied v b n key row)
  copied_copies v b n (keys.Key w c k) (rows.Key made pieces) there = by (is_bucket v b w c)
    where
      by : (t : Bool) → AreCopies (cond t (put (keys.SnapshotKey v b n k) (rows.SnapshotKey made pieces) ∷ []) [])
      by true = (put_gives IsCopied (keys.SnapshotKey v b n k) (rows.SnapshotKey made pieces) (λ block has. (keys.Key w c k, record { row = rows.Key made pieces; there = there; has = has })), tt)
      by false = tt
  copied_copies v b n key row there = tt

  pub copies_copy : (entries : List RowEntry) → AreRows entries all → (v b : List ℕ) (n : ℕ) (more : List Change) → AreCopies more → AreCopies (operation_changes entries (CopyKeys v b n) ++ more)
  copies_copy entries are v b n more others =
      all_append (Gives IsCopied) (operation_changes entries (CopyKeys v b n)) more
      (each_gives (Gives IsCopied) all (copied v b n) (copied_copies v b n) entries (found_in all entries are)) others
