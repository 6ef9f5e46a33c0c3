-- The batch of a change may follow any rows in the grammar.
use Rattle.std.proofs.Common.{◌≡◌, ◌≤◌, ◌+◌, ℕ, Bool, false, List, [], ◌∷◌, ◌++◌, length, Option, None, Some, IsSome, is_some, cond, refl, sym, ◌∙◌, ap, subst, arith, append_assoc}
use mathlib.Core.Bool.{false≢true}
use Rattle.std.proofs.lemmas.Option.{same_Some}
use Rattle.std.specs.List.{AllByRecursion}
use Rattle.oz_effects.specs.Batches.{IsBatchOf}
use Rattle.oz_effects.specs.Build.{base_of}
use Rattle.oz_effects.specs.laws.Joined.{batches_are_one}
use Rattle.oz_fields.specs.declared.block.Block.{Block}
use Rattle.oz_requests.specs.declared.request.Request.TheVariants.{DeleteKey, RenameKey}
use Rattle.oz_requests.specs.Names.{name_fault}
use Rattle.oz_rows.specs.declared.key.RowKey.{RowKey}
use Rattle.oz_rows.specs.declared.key.RowKey.TheVariants as keys
use Rattle.oz_rows.specs.declared.operation.Change.{Change}
use Rattle.oz_rows.specs.declared.operation.Operation.TheVariants.{Put, Remove}
use Rattle.oz_rows.specs.declared.row.Row.{Row}
use Rattle.oz_rows.specs.declared.row.Row.TheVariants as rows
use Rattle.oz_rows.specs.declared.row.SnapshotState.TheVariants.{Live}
use Rattle.oz_rows.specs.Operations.{batch_bytes, operation_bytes}
use Rattle.oz_rows.specs.RowMaps.{Rows, is_same, put, gone, row_after, after_changes}
use Rattle.oz_rows.specs.Rows.{IsBlock, AreItems, KeyFits, RowFits}
use Rattle.oz_decision.specs.Drafts.{row_by_row, operation_for}
use Rattle.oz_decision.specs.Meets.{AreInGrammar, IsSafe}
use Rattle.oz_decision.specs.Versions.{deleted, version_at}
use Rattle.oz_decision.specs.laws.OneRow.{nothing_is_safe, put_is_safe, removal_is_safe, alone_is_short}
use Rattle.oz_decision.specs.laws.SessionRows.{deleted_fits}
use Rattle.oz_om_key.specs.om_change.Keys.{IsKey, MayRename}
use Rattle.oz_om_key.specs.om_change.Records.{moved}
use Rattle.oz_om_key.proofs.om_change_lemmas.KeyRows.{its_row, blocks_fit, key_fits, old_fits, new_fits}

abbrev pub bytes_of : List Change → List ℕ
bytes_of changes = batch_bytes (row_by_row changes)

pub bytes_join : (a c : List Change) → bytes_of (a ++ c) ≡ bytes_of a ++ bytes_of c
bytes_join [] c = refl
bytes_join (change ∷ a) c =
    ap (λ (l : List ℕ). operation_bytes (operation_for change.key change.row) ++ l) (bytes_join a c)
    ∙ sym (append_assoc (operation_bytes (operation_for change.key change.row)) (bytes_of a) (bytes_of c))

size_join : (x y : List ℕ) → length (x ++ y) ≡ length x + length y
size_join [] y = omega arith
size_join (n ∷ x) y = omega (arith, size_join x y)

-- a row of another key is as it was
pub untouched : (changes : List Change) (q : RowKey) → AllByRecursion (λ (change : Change). is_same change.key q ≡ false) changes → (row : Option Row) → row_after changes q row ≡ row
untouched [] q apart row = refl
untouched (change ∷ changes) q apart row = ap (λ (t : Bool). row_after changes q (cond t change.row row)) apart.0 ∙ untouched changes q apart.1 row

pub deleted_all : (v b k : List ℕ) (P : Change → Type 0) → ((local : ℕ) (row : Row) → P (put (keys.Deleted v b 0 k local) row)) → (blocks : List Block) → AllByRecursion P (deleted v b k blocks)
deleted_all v b k P holds [] = tt
deleted_all v b k P holds (first ∷ others) = (holds first.local (rows.Deleted (first ∷ others)), tt)

none_apart : {A : Type 0} {P : Type 0} (a : A) → None ≡ Some a → P
none_apart a e = absurd (false≢true (ap is_some e))

-- nothing stands on a key
on_no_key : (v b k : List ℕ) (other : RowKey) (row : Row) → base_of other row ≡ Some (keys.Key v b k) → ⊥
on_no_key v b k (keys.Bucket w c) row e = absurd (cc)
on_no_key v b k (keys.Key w c q) row e = absurd (cc)
on_no_key v b k (keys.Open w c q m) row e = absurd (cc)
on_no_key v b k (keys.Snapshot w c m) (rows.Snapshot name previous Live) e = absurd (cc)
on_no_key v b k other row e = none_apart (keys.Key v b k) e

-- batches that are safe over rows in the grammar, and short over any
pub record Follows (all : Rows) (changes : List Change) (most : ℕ) : Type 0 where
  pub safe : AreInGrammar all → IsSafe all (bytes_of changes) changes
  pub short : length (bytes_of changes) ≤ most

-- nothing may follow any rows
pub nothing_follows : (all : Rows) (most : ℕ) → Follows all [] most
nothing_follows all most = record { safe = λ fit. nothing_is_safe all fit; short = omega arith }

rows_join : (a c : List Change) (key : RowKey) (row : Option Row) → row_after (a ++ c) key row ≡ row_after c key (row_after a key row)
rows_join [] c key row = refl
rows_join (change ∷ a) c key row = rows_join a c key _

-- changes behind others are made over the rows that those lead to
pub after_both : (a c : List Change) (all : Rows) → after_changes (a ++ c) all ≡ after_changes c (after_changes a all)
after_both a c all i key = rows_join a c key (all key) i

pub joined : (all : Rows) (a c : List Change) (m n : ℕ) → m + n ≤ 67108864 → Follows all a m → Follows (after_changes a all) c n → Follows all (a ++ c) (m + n)
joined all a c m n few first second =
    let bytes = bytes_join a c in
    let size = ap length bytes ∙ size_join (bytes_of a) (bytes_of c) in
    let one = first.short in
    let two = second.short in
    record {
      safe = λ fit.
          let before = first.safe fit in
          let then = second.safe before.fit in
          record {
            batch = subst (λ (l : List ℕ). IsBatchOf all l (a ++ c)) (sym bytes) (batches_are_one all (bytes_of a) (bytes_of c) a c before.batch then.batch);
            size = omega (arith, size, one, two, few);
            fit = subst AreInGrammar (sym (after_both a c all)) then.fit;
          };
      short = omega (arith, size, one, two);
    }

gone_follows : (all : Rows) (v b k : List ℕ) → IsKey all v b k → KeyFits (keys.Key v b k) → Follows all (gone (keys.Key v b k) ∷ []) 6304
gone_follows all v b k is fits = record {
  safe = λ fit. removal_is_safe all fit (keys.Key v b k) fits (ap is_some (its_row all v b k is).is) (λ other row e. on_no_key v b k other row);
  short = alone_is_short (Remove (keys.Key v b k)) fits;
}

-- a key is deleted
module _ (all : Rows) (v b k : List ℕ) (named : name_fault (DeleteKey v b k) ≡ None) (is : IsKey all v b k) where
  deleted_follows : (now : Rows) (blocks : List Block) → AreItems IsBlock blocks → Follows now (deleted v b k blocks) 6304
  deleted_follows now [] fits = record { safe = λ fit. nothing_is_safe now fit; short = omega arith }
  deleted_follows now (first ∷ others) fits =
      let row_fits = deleted_fits v b k named first others fits in
      record {
        safe = λ fit. put_is_safe now fit (keys.Deleted v b 0 k first.local) (rows.Deleted (first ∷ others)) row_fits (λ base e. none_apart base e);
        short = alone_is_short (Put (keys.Deleted v b 0 k first.local) (rows.Deleted (first ∷ others))) row_fits;
      }

  pub deletion_follows : Follows all (gone (keys.Key v b k) ∷ deleted v b k (version_at (all (keys.Key v b k)))) 12608
  deletion_follows = joined all (gone (keys.Key v b k) ∷ []) (deleted v b k (version_at (all (keys.Key v b k)))) 6304 6304 (omega arith) (gone_follows all v b k is (key_fits v b k named))
      (deleted_follows (after_changes (gone (keys.Key v b k) ∷ []) all) (version_at (all (keys.Key v b k))) (blocks_fit all v b k is))

-- a key gets another name
module _ (all : Rows) (v b k to : List ℕ) (named : name_fault (RenameKey v b k to) ≡ None) (may : MayRename all v b k to) where
  abbrev then : Rows
  then = after_changes (gone (keys.Key v b k) ∷ []) all

  put_follows : (row : Row) → RowFits (keys.Key v b to) row → Follows then (put (keys.Key v b to) row ∷ []) 6304
  put_follows row fits = record {
    safe = λ fit. put_is_safe then fit (keys.Key v b to) row fits (λ base e. subst (λ q. IsSome (then q)) (same_Some (keys.Bucket v b) base e) may.is.bucket_there);
    short = alone_is_short (Put (keys.Key v b to) row) fits;
  }

  moved_follows : (o : Option Row) → all (keys.Key v b k) ≡ o → Follows then (moved (keys.Key v b to) o) 6304
  moved_follows None e = record { safe = λ fit. nothing_is_safe then fit; short = omega arith }
  moved_follows (Some row) e = put_follows row (new_fits v b k to named all may.is row e)

  pub moving_follows : Follows all (gone (keys.Key v b k) ∷ moved (keys.Key v b to) (all (keys.Key v b k))) 12608
  moving_follows = joined all (gone (keys.Key v b k) ∷ []) (moved (keys.Key v b to) (all (keys.Key v b k))) 6304 6304 (omega arith) (gone_follows all v b k may.is (old_fits v b k to named)) (moved_follows (all (keys.Key v b k)) refl)
