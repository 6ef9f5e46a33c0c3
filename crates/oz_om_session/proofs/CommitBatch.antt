-- The batch of a commit may follow any rows in the grammar.
use Rattle.std.proofs.Common.{◌≡◌, ◌≤◌, ◌+◌, ℕ, Bool, false, List, [], ◌∷◌, ◌++◌, length, Option, None, Some, IsSome, is_some, cond, refl, sym, ◌∙◌, ap, subst, arith, append_assoc}
use mathlib.Core.Bool.{false≢true}
use Rattle.std.proofs.lemmas.Option.{same_Some}
use Rattle.std.specs.List.{AllByRecursion}
use Rattle.oz_effects.specs.Batches.{IsBatchOf}
use Rattle.oz_effects.specs.Build.{base_of}
use Rattle.oz_effects.specs.laws.Joined.{batches_are_one}
use Rattle.oz_fields.specs.declared.block.Block.{Block}
use Rattle.oz_fields.specs.declared.block.Piece.{Piece}
use Rattle.oz_requests.specs.declared.request.Request.TheVariants.{CommitKey}
use Rattle.oz_requests.specs.Names.{name_fault}
use Rattle.oz_rows.specs.declared.key.RowKey.{RowKey}
use Rattle.oz_rows.specs.declared.key.RowKey.TheVariants as keys
use Rattle.oz_rows.specs.declared.operation.Change.{Change}
use Rattle.oz_rows.specs.declared.operation.Operation.TheVariants.{Put, Remove}
use Rattle.oz_rows.specs.declared.row.Row.{Row}
use Rattle.oz_rows.specs.declared.row.Row.TheVariants as rows
use Rattle.oz_rows.specs.declared.row.SnapshotState.TheVariants.{Live}
use Rattle.oz_rows.specs.Operations.{batch_bytes, operation_bytes}
use Rattle.oz_rows.specs.RowMaps.{Rows, is_same, put, gone, row_after, after_changes}
use Rattle.oz_rows.specs.Rows.{IsBlock, AreItems}
use Rattle.oz_decision.specs.Drafts.{row_by_row, operation_for}
use Rattle.oz_decision.specs.Meets.{AreInGrammar, IsSafe}
use Rattle.oz_decision.specs.laws.OneRow.{nothing_is_safe, put_is_safe, removal_is_safe, alone_is_short}
use Rattle.oz_decision.specs.Sessions.{blocks_at}
use Rattle.oz_decision.specs.Versions.{version_at, deleted}
use Rattle.oz_om_session.specs.Records.{unused, changes_of_left, changes_of_commit}
use Rattle.oz_om_session.specs.Sessions.{MayCommit}
use Rattle.oz_decision.specs.laws.SessionRows.{OpenRow, all_append, deleted_fits}
use Rattle.oz_om_session.proofs.Blocks.{version_fits, left_fit}
use Rattle.oz_om_session.proofs.CommitRows.{opened, session_fits, key_fits}

abbrev pub bytes_of : List Change → List ℕ
bytes_of changes = batch_bytes (row_by_row changes)

bytes_join : (a c : List Change) → bytes_of (a ++ c) ≡ bytes_of a ++ bytes_of c
bytes_join [] c = refl
bytes_join (change ∷ a) c =
    ap (λ (l : List ℕ). operation_bytes (operation_for change.key change.row) ++ l) (bytes_join a c)
    ∙ sym (append_assoc (operation_bytes (operation_for change.key change.row)) (bytes_of a) (bytes_of c))

pub rows_join : (a c : List Change) (q : RowKey) (row : Option Row) → row_after (a ++ c) q row ≡ row_after c q (row_after a q row)
rows_join [] c q row = refl
rows_join (change ∷ a) c q row = rows_join a c q _

size_join : (x y : List ℕ) → length (x ++ y) ≡ length x + length y
size_join [] y = omega arith
size_join (n ∷ x) y = omega (arith, size_join x y)

-- a row of another key is as it was
pub untouched : (changes : List Change) (q : RowKey) → AllByRecursion (λ (change : Change). is_same change.key q ≡ false) changes → (row : Option Row) → row_after changes q row ≡ row
untouched [] q apart row = refl
untouched (change ∷ changes) q apart row = ap (λ (t : Bool). row_after changes q (cond t change.row row)) apart.0 ∙ untouched changes q apart.1 row

-- batches that are short, and may follow each other
record Follows (all : Rows) (changes : List Change) (most : ℕ) : Type 0 where
  safe : IsSafe all (bytes_of changes) changes
  short : length (bytes_of changes) ≤ most

joined : (all : Rows) (a c : List Change) (m n : ℕ) → m + n ≤ 67108864 → Follows all a m → Follows (after_changes a all) c n → Follows all (a ++ c) (m + n)
joined all a c m n few first second =
    let bytes = bytes_join a c in
    let size = ap length bytes ∙ size_join (bytes_of a) (bytes_of c) in
    let one = first.short in
    let two = second.short in
    record {
      safe = record {
        batch = subst (λ (l : List ℕ). IsBatchOf all l (a ++ c)) (sym bytes) (batches_are_one all (bytes_of a) (bytes_of c) a c first.safe.batch second.safe.batch);
        size = omega (arith, size, one, two, few);
        fit = subst AreInGrammar (λ i q. sym (rows_join a c q (all q)) i) second.safe.fit;
      };
      short = omega (arith, size, one, two);
    }

module _ (v b k : List ℕ) where
  pub deleted_all : (P : Change → Type 0) → ((local : ℕ) (row : Row) → P (put (keys.Deleted v b 0 k local) row)) → (blocks : List Block) → AllByRecursion P (deleted v b k blocks)
  deleted_all P holds [] = tt
  deleted_all P holds (first ∷ others) = (holds first.local (rows.Deleted (first ∷ others)), tt)

  pub left_all : (P : Change → Type 0) → ((local : ℕ) (row : Row) → P (put (keys.Deleted v b 0 k local) row)) → (version session : Option Row) (pieces : List Piece) → AllByRecursion P (changes_of_left v b k version session pieces)
  left_all P holds version session pieces = all_append P (deleted v b k (version_at version)) (deleted v b k (unused (blocks_at session) pieces)) (deleted_all P holds (version_at version)) (deleted_all P holds (unused (blocks_at session) pieces))

none_apart : {A : Type 0} {P : Type 0} (a : A) → None ≡ Some a → P
none_apart a e = absurd (false≢true (ap is_some e))

-- nothing stands on a session
on_no_session : (v b k : List ℕ) (n : ℕ) (other : RowKey) (row : Row) → base_of other row ≡ Some (keys.Open v b k n) → ⊥
on_no_session v b k n (keys.Bucket w c) row e = absurd (cc)
on_no_session v b k n (keys.Key w c q) row e = absurd (cc)
on_no_session v b k n (keys.Open w c q m) row e = absurd (cc)
on_no_session v b k n (keys.Snapshot w c m) (rows.Snapshot name previous Live) e = absurd (cc)
on_no_session v b k n other row e = none_apart (keys.Open v b k n) e

module _ (all : Rows) (v b k : List ℕ) (n : ℕ) (pieces : List Piece) (named : name_fault (CommitKey v b k n pieces) ≡ None) (may : MayCommit all v b k n pieces) where
  abbrev session : RowKey
  session = keys.Open v b k n

  abbrev of_key : RowKey
  of_key = keys.Key v b k

  abbrev left : List Change
  left = changes_of_left v b k (all of_key) (all session) pieces

  abbrev pub changes : List Change
  changes = changes_of_commit all (CommitKey v b k n pieces)

  was_open : OpenRow n (all session)
  was_open = opened all v b k n pieces named may.is

  older_fit : AreItems IsBlock (version_at (all of_key))
  older_fit = version_fits (all session) (all of_key) pieces may.fit

  unused_fit : AreItems IsBlock (unused (blocks_at (all session)) pieces)
  unused_fit = left_fit (blocks_at (all session)) pieces was_open.blocks_fit

  deleted_follows : (now : Rows) → AreInGrammar now → (blocks : List Block) → AreItems IsBlock blocks → Follows now (deleted v b k blocks) 6304
  deleted_follows now fit [] fits = record { safe = nothing_is_safe now fit; short = omega arith }
  deleted_follows now fit (first ∷ others) fits =
      let row_fits = deleted_fits v b k named first others fits in
      record { safe = put_is_safe now fit (keys.Deleted v b 0 k first.local) (rows.Deleted (first ∷ others)) row_fits (λ base e. none_apart base e); short = alone_is_short (Put (keys.Deleted v b 0 k first.local) (rows.Deleted (first ∷ others))) row_fits }

  left_follows : AreInGrammar all → Follows all left 12608
  left_follows fit =
      let first = deleted_follows all fit (version_at (all of_key)) older_fit in
      joined all (deleted v b k (version_at (all of_key))) (deleted v b k (unused (blocks_at (all session)) pieces)) 6304 6304 (omega arith) first
      (deleted_follows (after_changes (deleted v b k (version_at (all of_key))) all) first.safe.fit (unused (blocks_at (all session)) pieces) unused_fit)

  abbrev between : Rows
  between = after_changes left all

  abbrev then : Rows
  then = after_changes (gone session ∷ []) between

  pub as_before : (q : RowKey) → ((local : ℕ) → is_same (keys.Deleted v b 0 k local) q ≡ false) → between q ≡ all q
  as_before q apart = untouched left q (left_all v b k (λ (change : Change). is_same change.key q ≡ false) (λ local row. apart local) (all of_key) (all session) pieces) (all q)

  gone_follows : AreInGrammar between → Follows between (gone session ∷ []) 6304
  gone_follows fit =
      let there : between session ≡ Some (rows.Open (blocks_at (all session))) = as_before session (λ local. refl) ∙ was_open.is in
      let fits = session_fits all v b k n pieces named may.is in
      record { safe = removal_is_safe between fit session fits (ap is_some there) (λ other row e. on_no_session v b k n other row); short = alone_is_short (Remove session) fits }

  key_follows : AreInGrammar then → Follows then (put of_key (rows.Key n pieces) ∷ []) 6304
  key_follows fit =
      let fits = key_fits all v b k n pieces named may.is may.fit in
      let bucket : IsSome (then (keys.Bucket v b)) = subst IsSome (sym (as_before (keys.Bucket v b) (λ local. refl))) may.is.bucket_there in
      record { safe = put_is_safe then fit of_key (rows.Key n pieces) fits (λ base e. subst (λ q. IsSome (then q)) (same_Some (keys.Bucket v b) base e) bucket); short = alone_is_short (Put of_key (rows.Key n pieces)) fits }

  follows : AreInGrammar all → Follows all changes 25216
  follows fit =
      let first = left_follows fit in
      let second = gone_follows first.safe.fit in
      let third = key_follows second.safe.fit in
      joined all left (gone session ∷ put of_key (rows.Key n pieces) ∷ []) 12608 12608 (omega arith) first
      (joined between (gone session ∷ []) (put of_key (rows.Key n pieces) ∷ []) 6304 6304 (omega arith) second third)

  pub is_safe : AreInGrammar all → IsSafe all (bytes_of changes) changes
  is_safe fit = (follows fit).safe

  -- whether or not the rows are in the grammar, the batch is short
  deleted_short : (blocks : List Block) → AreItems IsBlock blocks → length (bytes_of (deleted v b k blocks)) ≤ 6304
  deleted_short [] fits = omega arith
  deleted_short (first ∷ others) fits = alone_is_short (Put (keys.Deleted v b 0 k first.local) (rows.Deleted (first ∷ others))) (deleted_fits v b k named first others fits)

  pub is_short : length (bytes_of changes) ≤ 25216
  is_short =
      let one = deleted_short (version_at (all of_key)) older_fit in
      let two = deleted_short (unused (blocks_at (all session)) pieces) unused_fit in
      let three = alone_is_short (Remove session) (session_fits all v b k n pieces named may.is) in
      let four = alone_is_short (Put of_key (rows.Key n pieces)) (key_fits all v b k n pieces named may.is may.fit) in
      let parts = ap length (bytes_join left (gone session ∷ put of_key (rows.Key n pieces) ∷ [])) ∙ size_join (bytes_of left) (bytes_of (gone session ∷ put of_key (rows.Key n pieces) ∷ [])) in
      let first = ap length (bytes_join (deleted v b k (version_at (all of_key))) (deleted v b k (unused (blocks_at (all session)) pieces))) ∙ size_join (bytes_of (deleted v b k (version_at (all of_key)))) (bytes_of (deleted v b k (unused (blocks_at (all session)) pieces))) in
      let last = ap length (bytes_join (gone session ∷ []) (put of_key (rows.Key n pieces) ∷ [])) ∙ size_join (bytes_of (gone session ∷ [])) (bytes_of (put of_key (rows.Key n pieces) ∷ [])) in
      omega (arith, one, two, three, four, parts, first, last)
