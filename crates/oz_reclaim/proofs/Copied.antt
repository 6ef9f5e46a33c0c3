-- What the four operations by which a snapshot is made change among rows, and that they are a batch.
use Rattle.std.proofs.Common.{◌≡◌, ⊎_elim, ℕ, ◌≤◌, ◌==◌, ◌&&◌, Bool, true, false, List, [], ◌∷◌, ◌++◌, length, length-append, Option, None, Some, IsSome, is_some, cond, refl, sym, ◌∙◌, ap, subst, arith, append-nil}
use mathlib.Core.Bool.{false≢true}
use Rattle.std.proofs.lemmas.Option.{same_Some}
use Rattle.std.specs.List.{AllByRecursion, flat_map}
use Rattle.oz_decision.specs.Meets.{AreInGrammar, IsSafe}
use Rattle.oz_decision.specs.laws.OneRow.{put_is_safe}
use Rattle.oz_decision.specs.laws.SessionRows.{all_append}
use Rattle.oz_effects.specs.Batches.{IsBatchOf}
use Rattle.oz_effects.specs.Effects.{copied, moved, operation_changes}
use Rattle.oz_effects.specs.laws.Joined.{batches_are_one, wide_is_batch}
use Rattle.oz_names.specs.Names.{IsVolumeName, IsBucketName, IsSnapshotName, stripe_of}
use Rattle.oz_reclaim.proofs.Alike.{copies_alike, moves_alike}
use Rattle.oz_reclaim.proofs.Between.{bucket_itself, same_bucket}
use Rattle.oz_reclaim.proofs.Stripes.{stripe_is}
use Rattle.oz_reclaim.proofs.Touched.{apart, changed_so, key_itself, rows_join, touched_so, untouched}
use Rattle.oz_reclaim.specs.Creates.{operations_of_create}
use Rattle.oz_reclaim.specs.Makes.{copy_of}
use Rattle.oz_reclaim.specs.laws.Origins.{Gives, was_or_given}
use Rattle.oz_reclaim.proofs.Origins.{each_given}
use Rattle.oz_rows.specs.declared.entry.RowEntry.{RowEntry}
use Rattle.oz_rows.specs.declared.key.RowKey.{RowKey}
use Rattle.oz_rows.specs.declared.key.RowKey.TheVariants as keys
use Rattle.oz_rows.specs.declared.operation.Change.{Change}
use Rattle.oz_rows.specs.declared.operation.Operation.TheVariants.{CopyKeys, MoveDeleted, Put}
use Rattle.oz_rows.specs.declared.row.Row.{Row}
use Rattle.oz_rows.specs.declared.row.Row.TheVariants as rows
use Rattle.oz_rows.specs.declared.row.SnapshotState.TheVariants.{Live}
use Rattle.oz_rows.specs.Operations.{OperationFits, batch_bytes, operation_bytes}
use Rattle.oz_rows.specs.Rows.{IsOwner, RowFits, ValueFits}
use Rattle.oz_rows.specs.RowMaps.{Rows, KeysRise, after_changes, gone, is_bucket, is_same, put, row_after, row_of}
use Rattle.oz_rows.specs.laws.Sizes.{operation_size}
use Rattle.oz_sound.specs.stripes.laws.Lists.{each_found}

-- ---- changes that keep the rules of rows

abbrev Fits : Change → Type 0
Fits change = Gives RowFits change

gone_fits : (key : RowKey) → Fits (gone key)
gone_fits key row e = absurd (false≢true (ap is_some e))

put_fits : (key : RowKey) (row : Row) → RowFits key row → Fits (put key row)
put_fits key row fits other e = subst (RowFits key) (same_Some row other e) fits

all_fit : (changes : List Change) → AllByRecursion Fits changes → (all : Rows) → AreInGrammar all → AreInGrammar (after_changes changes all)
all_fit changes each all fit q row e = ⊎_elim (λ was. fit q row was) (λ given. given) (was_or_given RowFits changes each q (all q) row e)

-- ---- what is moved and copied

module _ (v b : List ℕ) (n : ℕ) where
  abbrev place : List ℕ → RowKey
  place k = keys.SnapshotKey v b n k

  abbrev copy : RowEntry → List Change
  copy entry = copied v b n entry.key entry.row

  -- rows that aren't the snapshot's stay
  copy_leaves : (q : RowKey) → ((k : List ℕ) → place k ≡ q → ⊥) → (key : RowKey) (r : Row) (row : Option Row) → row_after (copied v b n key r) q row ≡ row
  copy_leaves q other (keys.Key w c k) (rows.Key made pieces) row = by (is_bucket v b w c)
    where
      by : (t : Bool) → row_after (cond t (put (place k) (rows.SnapshotKey made pieces) ∷ []) []) q row ≡ row
      by true = ap (λ (t : Bool). cond t (Some (rows.SnapshotKey made pieces)) row) (apart (place k) q (other k))
      by false = refl
  copy_leaves q other key r row = refl

  pub copies_leave : (q : RowKey) → ((k : List ℕ) → place k ≡ q → ⊥) → (l : List RowEntry) (row : Option Row) → row_after (operation_changes l (CopyKeys v b n)) q row ≡ row
  copies_leave q other l row = untouched copy q (λ entry before. copy_leaves q other entry.key entry.row before) l row

  -- a key has its copy
  module _ (k : List ℕ) where
    abbrev source : RowKey
    source = keys.Key v b k

    abbrev effect : Row → Option Row → Option Row
    effect r before = row_after (copied v b n source r) (place k) before

    others : (key : RowKey) (r : Row) → is_same key source ≡ false → (row : Option Row) → row_after (copied v b n key r) (place k) row ≡ row
    others (keys.Key w c q) (rows.Key made pieces) not row = by (is_bucket v b w c) refl
      where
        by : (t : Bool) → is_bucket v b w c ≡ t → row_after (cond t (put (place q) (rows.SnapshotKey made pieces) ∷ []) []) (place k) row ≡ row
        by false e = refl
        by true e = ap (λ (t : Bool). cond t (Some (rows.SnapshotKey made pieces)) row) (apart (place q) (place k) (λ same.
            let name : q ≡ k = cc in
            let bucket = same_bucket v b w c e in
            false≢true (sym not ∙ (λ i. is_same (keys.Key (sym bucket.volume i) (sym bucket.bucket i) (name i)) source) ∙ key_itself source)))
    others key r not row = refl

    at_key : (r : Row) → ValueFits source r → (before : Option Row) → effect r before ≡ copy_of (Some r)
    at_key (rows.Key made pieces) fits before =
        ap (λ (t : Bool). row_after (cond t (put (place k) (rows.SnapshotKey made pieces) ∷ []) []) (place k) before) (bucket_itself v b)
        ∙ ap (λ (t : Bool). cond t (Some (rows.SnapshotKey made pieces)) before) (key_itself (place k))
    at_key r fits before = absurd fits

    copied_to : (o : Option Row) → ((r : Row) → o ≡ Some r → ValueFits source r) → changed_so effect o None ≡ copy_of o
    copied_to None fits = refl
    copied_to (Some r) fits = at_key r (fits r refl) None

    pub key_copied : (l : List RowEntry) → KeysRise l → AreInGrammar (row_of l) → row_after (operation_changes l (CopyKeys v b n)) (place k) None ≡ copy_of (row_of l source)
    key_copied l rise fit =
        touched_so copy (place k) source effect (λ entry not row. others entry.key entry.row not row) (λ entry same row. ap (λ key. row_after (copied v b n key entry.row) (place k) row) same) l rise None
        ∙ copied_to (row_of l source) (λ r there. (fit source r there).1)

  -- no other row than a deleted or a renamed one of the bucket is moved
  module _ (q : RowKey) (not_deleted : (o : ℕ) (k : List ℕ) (l : ℕ) → keys.Deleted v b o k l ≡ q → ⊥) (not_renamed : (o l : ℕ) → keys.Renamed v b o l ≡ q → ⊥) where
    passes : (old new : RowKey) → (old ≡ q → ⊥) → (new ≡ q → ⊥) → (r : Row) (row : Option Row) → row_after (gone old ∷ put new r ∷ []) q row ≡ row
    passes old new not_old not_new r row =
        ap (λ (t : Bool). cond t (Some r) (cond (is_same old q) None row)) (apart new q not_new) ∙ ap (λ (t : Bool). cond t None row) (apart old q not_old)

    move_leaves : (all : List RowEntry) (from to : ℕ) (key : RowKey) (r : Row) (row : Option Row) → row_after (moved all v b from to key r) q row ≡ row
    move_leaves all from to (keys.Deleted w c o k l) r row = by (is_bucket v b w c && o == from)
      where
        by : (t : Bool) → row_after (cond t (gone (keys.Deleted v b from k l) ∷ put (keys.Deleted v b to k l) r ∷ []) []) q row ≡ row
        by true = passes (keys.Deleted v b from k l) (keys.Deleted v b to k l) (not_deleted from k l) (not_deleted to k l) r row
        by false = refl
    move_leaves all from to (keys.Renamed w c o l) r row = by (is_bucket v b w c && o == from) (from == 0 && is_some (row_of all (keys.Renamed v b to l)))
      where
        by : (s t : Bool) → row_after (cond s (gone (keys.Renamed v b from l) ∷ cond t [] (put (keys.Renamed v b to l) r ∷ [])) []) q row ≡ row
        by true true = ap (λ (t : Bool). cond t None row) (apart (keys.Renamed v b from l) q (not_renamed from l))
        by true false = passes (keys.Renamed v b from l) (keys.Renamed v b to l) (not_renamed from l) (not_renamed to l) r row
        by false t = refl
    move_leaves all from to key r row = refl

    pub moves_leave : (l : List RowEntry) (from to : ℕ) (row : Option Row) → row_after (operation_changes l (MoveDeleted v b from to)) q row ≡ row
    moves_leave l from to row = by (from == to)
      where
        by : (t : Bool) → row_after (cond t [] (flat_map (λ (entry : RowEntry). moved l v b from to entry.key entry.row) l)) q row ≡ row
        by true = refl
        by false = untouched (λ (entry : RowEntry). moved l v b from to entry.key entry.row) q (λ entry before. move_leaves l from to entry.key entry.row before) l row

-- ---- the four operations

module _ (v b name : List ℕ) (n previous : ℕ) (volume : IsVolumeName v) (bucket : IsBucketName b) (snapshot : IsSnapshotName name) (least : 1 ≤ n) (few : n ≤ 281474976710656) (owner : IsOwner previous) where
  abbrev pub stripe : RowKey
  stripe = keys.Stripe (stripe_of v)

  abbrev pub here : RowKey
  here = keys.Snapshot v b n

  abbrev pub made_row : Row
  made_row = rows.Snapshot name previous Live

  abbrev pub puts : List Change
  puts = put stripe (rows.Stripe n) ∷ put here made_row ∷ []

  number_fits : IsOwner n
  number_fits = omega (arith, few)

  stripe_fits : RowFits stripe (rows.Stripe n)
  stripe_fits = (stripe_is v, few)

  here_fits : RowFits here made_row
  here_fits = ((volume, bucket, (least, number_fits)), (snapshot, owner))

  copy_fits : OperationFits (CopyKeys v b n)
  copy_fits = (volume, bucket, (least, number_fits))

  move_fits : OperationFits (MoveDeleted v b 0 n)
  move_fits = (volume, bucket, (omega arith), number_fits)

  each_copy : (key : RowKey) (row : Row) → RowFits key row → AllByRecursion Fits (copied v b n key row)
  each_copy (keys.Key w c k) (rows.Key made pieces) fits = by (is_bucket v b w c)
    where
      by : (t : Bool) → AllByRecursion Fits (cond t (put (keys.SnapshotKey v b n k) (rows.SnapshotKey made pieces) ∷ []) [])
      by true = (put_fits (keys.SnapshotKey v b n k) (rows.SnapshotKey made pieces) ((volume, bucket, (least, number_fits), fits.0.2), fits.1), tt)
      by false = tt
  each_copy key row fits = tt

  each_move : (all : List RowEntry) (key : RowKey) (row : Row) → RowFits key row → AllByRecursion Fits (moved all v b 0 n key row)
  each_move all (keys.Deleted w c o k l) row fits = by (is_bucket v b w c && o == 0)
    where
      value : (row : Row) → ValueFits (keys.Deleted w c o k l) row → ValueFits (keys.Deleted v b n k l) row
      value (rows.Deleted blocks) fits = fits
      value row fits = absurd fits

      by : (t : Bool) → AllByRecursion Fits (cond t (gone (keys.Deleted v b 0 k l) ∷ put (keys.Deleted v b n k l) row ∷ []) [])
      by true = (gone_fits (keys.Deleted v b 0 k l), (put_fits (keys.Deleted v b n k l) row ((volume, bucket, number_fits, fits.0.3, fits.0.4), value row fits.1), tt))
      by false = tt
  each_move all (keys.Renamed w c o l) row fits = by (is_bucket v b w c && o == 0) (is_some (row_of all (keys.Renamed v b n l)))
    where
      value : (row : Row) → ValueFits (keys.Renamed w c o l) row → ValueFits (keys.Renamed v b n l) row
      value (rows.Renamed key) fits = fits
      value row fits = absurd fits

      by : (s t : Bool) → AllByRecursion Fits (cond s (gone (keys.Renamed v b 0 l) ∷ cond t [] (put (keys.Renamed v b n l) row ∷ [])) [])
      by true true = (gone_fits (keys.Renamed v b 0 l), tt)
      by true false = (gone_fits (keys.Renamed v b 0 l), (put_fits (keys.Renamed v b n l) row ((volume, bucket, number_fits, fits.0.3), value row fits.1), tt))
      by false t = tt
  each_move all key row fits = tt

  module _ (entries : List RowEntry) (rise : KeysRise entries) where
    abbrev pub all : Rows
    all = row_of entries

    abbrev pub copies : List Change
    copies = operation_changes entries (CopyKeys v b n)

    abbrev pub moves : List Change
    moves = operation_changes entries (MoveDeleted v b 0 n)

    abbrev pub changes : List Change
    changes = flat_map (operation_changes entries) (operations_of_create v b name n previous)

    abbrev pub now : Rows
    now = after_changes changes all

    changes_are : changes ≡ puts ++ (copies ++ moves)
    changes_are = ap (λ (l : List Change). put stripe (rows.Stripe n) ∷ put here made_row ∷ (copies ++ l)) (append-nil moves)

    pub in_turn : (q : RowKey) → now q ≡ row_after moves q (row_after copies q (row_after puts q (all q)))
    in_turn q = ap (λ (c : List Change). row_after c q (all q)) changes_are ∙ rows_join copies moves q (row_after puts q (all q))

    -- a row that is neither copied nor moved
    pub aside : (q : RowKey) → ((k : List ℕ) → keys.SnapshotKey v b n k ≡ q → ⊥) → ((o : ℕ) (k : List ℕ) (l : ℕ) → keys.Deleted v b o k l ≡ q → ⊥) → ((o l : ℕ) → keys.Renamed v b o l ≡ q → ⊥) → now q ≡ row_after puts q (all q)
    aside q not_copied not_deleted not_renamed =
        in_turn q
        ∙ moves_leave v b n q not_deleted not_renamed entries 0 n (row_after copies q (row_after puts q (all q)))
        ∙ copies_leave v b n q not_copied entries (row_after puts q (all q))

    module _ (fit : AreInGrammar all) (there : IsSome (all (keys.Bucket v b))) where
      abbrev put_so : Rows
      put_so = after_changes puts all

      first : IsSafe all (batch_bytes (Put stripe (rows.Stripe n) ∷ [])) (put stripe (rows.Stripe n) ∷ [])
      first = put_is_safe all fit stripe (rows.Stripe n) stripe_fits (λ base e. absurd (false≢true (ap is_some e)))

      second : IsSafe (after_changes (put stripe (rows.Stripe n) ∷ []) all) (batch_bytes (Put here made_row ∷ [])) (put here made_row ∷ [])
      second = put_is_safe (after_changes (put stripe (rows.Stripe n) ∷ []) all) first.fit here made_row here_fits (λ base e. subst (λ q. IsSome (after_changes (put stripe (rows.Stripe n) ∷ []) all q)) (same_Some (keys.Bucket v b) base e) there)

      third : IsBatchOf put_so (operation_bytes (CopyKeys v b n)) copies
      third = wide_is_batch put_so (CopyKeys v b n) copies copy_fits tt (λ l are. copies_alike v b entries l rise are.in_order n (λ w c k. sym (are.rows_are (keys.Key w c k))))

      fourth : IsBatchOf (after_changes copies put_so) (operation_bytes (MoveDeleted v b 0 n)) moves
      fourth = wide_is_batch (after_changes copies put_so) (MoveDeleted v b 0 n) moves move_fits tt (λ l are. moves_alike v b entries l rise are.in_order 0 n
          (λ w c k o local. sym (are.rows_are (keys.Deleted w c o k local) ∙ copies_leave v b n (keys.Deleted w c o k local) (λ q e. absurd (cc)) entries (all (keys.Deleted w c o k local))))
          (λ w c o local. sym (are.rows_are (keys.Renamed w c o local) ∙ copies_leave v b n (keys.Renamed w c o local) (λ q e. absurd (cc)) entries (all (keys.Renamed w c o local)))))

      abbrev pub bytes : List ℕ
      bytes = batch_bytes (operations_of_create v b name n previous)

      abbrev alone : Rows
      alone = after_changes (put stripe (rows.Stripe n) ∷ []) all

      abbrev first_bytes : List ℕ
      first_bytes = batch_bytes (Put stripe (rows.Stripe n) ∷ [])

      abbrev second_bytes : List ℕ
      second_bytes = batch_bytes (Put here made_row ∷ [])

      abbrev third_bytes : List ℕ
      third_bytes = operation_bytes (CopyKeys v b n)

      abbrev fourth_bytes : List ℕ
      fourth_bytes = operation_bytes (MoveDeleted v b 0 n)

      bytes_are : first_bytes ++ (second_bytes ++ (third_bytes ++ fourth_bytes)) ≡ bytes
      bytes_are = λ i. append-nil (operation_bytes (Put stripe (rows.Stripe n))) i ++ (append-nil (operation_bytes (Put here made_row)) i ++ (third_bytes ++ sym (append-nil fourth_bytes) i))

      batch : IsBatchOf all bytes changes
      batch = subst (λ (c : List Change). IsBatchOf all bytes c) (sym changes_are) (subst (λ (l : List ℕ). IsBatchOf all l (puts ++ (copies ++ moves))) bytes_are
          (batches_are_one all first_bytes (second_bytes ++ (third_bytes ++ fourth_bytes)) (put stripe (rows.Stripe n) ∷ []) (put here made_row ∷ (copies ++ moves)) first.batch
          (batches_are_one alone second_bytes (third_bytes ++ fourth_bytes) (put here made_row ∷ []) (copies ++ moves) second.batch
          (batches_are_one put_so third_bytes fourth_bytes copies moves third fourth))))

      short : length bytes ≤ 67108864
      short =
          let one = operation_size (Put stripe (rows.Stripe n)) stripe_fits in
          let two = operation_size (Put here made_row) here_fits in
          let three = operation_size (CopyKeys v b n) copy_fits in
          let four = operation_size (MoveDeleted v b 0 n) move_fits in
          let first_parts = length-append (operation_bytes (Put stripe (rows.Stripe n))) (batch_bytes (Put here made_row ∷ CopyKeys v b n ∷ MoveDeleted v b 0 n ∷ [])) in
          let second_parts = length-append (operation_bytes (Put here made_row)) (batch_bytes (CopyKeys v b n ∷ MoveDeleted v b 0 n ∷ [])) in
          let third_parts = length-append (operation_bytes (CopyKeys v b n)) (batch_bytes (MoveDeleted v b 0 n ∷ [])) in
          let fourth_parts = ap length (append-nil (operation_bytes (MoveDeleted v b 0 n))) in
          omega (arith, one, two, three, four, first_parts, second_parts, third_parts, fourth_parts)

      fit_now : AreInGrammar now
      fit_now = subst (λ (c : List Change). AreInGrammar (after_changes c all)) (sym changes_are) (all_fit (puts ++ (copies ++ moves))
          (put_fits stripe (rows.Stripe n) stripe_fits, (put_fits here made_row here_fits, all_append Fits copies moves (each_given Fits all (copied v b n) (λ key row there. each_copy key row (fit key row there)) entries found) (of_moves (0 == n)))) all fit)
        where
          found : AllByRecursion (λ (x : RowEntry). all x.key ≡ Some x.row) entries
          found = each_found entries rise

          of_moves : (t : Bool) → AllByRecursion Fits (cond t [] (flat_map (λ (entry : RowEntry). moved entries v b 0 n entry.key entry.row) entries))
          of_moves true = tt
          of_moves false = each_given Fits all (moved entries v b 0 n) (λ key row there. each_move entries key row (fit key row there)) entries found

      pub is_safe : IsSafe all bytes changes
      is_safe = record { batch = batch; size = short; fit = fit_now }
