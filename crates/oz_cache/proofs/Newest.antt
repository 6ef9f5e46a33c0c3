-- What the cached rows say of the newest rows, before and after a flush.
use Rattle.std.proofs.Common.{◌≡◌, ℕ, ◌≤◌, Bool, true, false, ◌||◌, List, [], ◌∷◌, ◌++◌, nat_lt, nat_le, Option, Some, None, cond, refl, sym, ◌∙◌, ap, arith}
use Rattle.std.proofs.lemmas.Bool.Decides.{nat_tests}
use Rattle.oz_rows.specs.declared.key.RowKey.{RowKey}
use Rattle.oz_rows.specs.declared.row.Row.{Row}
use Rattle.oz_rows.specs.declared.operation.Change.{Change}
use Rattle.oz_rows.specs.RowMaps.{is_same, row_after}
use Rattle.oz_cache.specs.declared.batch.Batch.{Batch}
use Rattle.oz_cache.specs.declared.cached_rows.CachedRow.{CachedRow}
use Rattle.oz_cache.specs.Cache.{batched_changes, epoch_after, up_to, later, has_key, changed_at}
use Rattle.oz_cache.specs.Places.{Entries, Written, over_row, found, written, as_written, after_changes, after_batches, if_later, AreLastOf}
use Rattle.oz_cache.specs.Waiting.{EpochsRise}
use Rattle.oz_cache.proofs.Batches.{batched_changes-append, epoch_after-append, row_after-append, all_later, rest_later}

-- what was written hides what is below
abbrev over_written : Option Written → Option Row → Option Row
over_written None row = row
over_written (Some w) row = w.row

as_said : (o : Option CachedRow) (row : Option Row) → over_written (as_written o) row ≡ over_row o row
as_said None row = refl
as_said (Some cached) row = refl

one_change : (epoch : ℕ) (change : Change) (t : Bool) (o : Option Written) (row : Option Row) → cond t change.row (over_written o row) ≡ over_written (cond t (Some (written epoch change)) o) row
one_change epoch change true o row = refl
one_change epoch change false o row = refl

changed_rows : (epoch : ℕ) (changes : List Change) (key : RowKey) (o : Option Written) (row : Option Row) → row_after changes key (over_written o row) ≡ over_written (after_changes epoch changes key o) row
changed_rows epoch [] key o row = refl
changed_rows epoch (change ∷ changes) key o row =
    ap (row_after changes key) (one_change epoch change (is_same change.key key) o row)
    ∙ changed_rows epoch changes key (cond (is_same change.key key) (Some (written epoch change)) o) row

entered_rows : (batches : List Batch) (key : RowKey) (o : Option Written) (row : Option Row) → row_after (batched_changes batches) key (over_written o row) ≡ over_written (after_batches batches key o) row
entered_rows [] key o row = refl
entered_rows (batch ∷ batches) key o row =
    row_after-append batch.changes (batched_changes batches) key (over_written o row)
    ∙ ap (row_after (batched_changes batches) key) (changed_rows batch.epoch batch.changes key o row)
    ∙ entered_rows batches key (after_changes batch.epoch batch.changes key o) row

pub newest_row : (batches : List Batch) (rows : Entries) → AreLastOf batches rows → (key : RowKey) (row : Option Row) → row_after (batched_changes batches) key row ≡ over_row (found rows key) row
newest_row batches rows last key row = entered_rows batches key None row ∙ ap (λ o. over_written o row) (sym (last key)) ∙ as_said (found rows key) row

pub after_batches-append : (a b : List Batch) (key : RowKey) (o : Option Written) → after_batches (a ++ b) key o ≡ after_batches b key (after_batches a key o)
after_batches-append [] b key o = refl
after_batches-append (x ∷ a) b key o = after_batches-append a b key (after_changes x.epoch x.changes key o)

-- the batches up to an epoch stand before the later ones
parted : (epoch before : ℕ) (l : List Batch) → EpochsRise before l → l ≡ up_to epoch l ++ later epoch l
parted epoch before [] rise = refl
parted epoch before (x ∷ l) rise = by_test (nat_le x.epoch epoch) refl (parted epoch x.epoch l rise.1)
  where
    by_test : (t : Bool) → nat_le x.epoch epoch ≡ t → l ≡ up_to epoch l ++ later epoch l → x ∷ l ≡ up_to epoch (x ∷ l) ++ later epoch (x ∷ l)
    by_test true due rest =
        let not_later : nat_lt epoch x.epoch ≡ false = grind (arith, nat_tests, due) in
        ap (λ l. x ∷ l) rest ∙ sym (ap (λ (t : Bool). cond t (x ∷ up_to epoch l) (up_to epoch l) ++ later epoch (x ∷ l)) due ∙ ap (λ (t : Bool). x ∷ up_to epoch l ++ cond t (x ∷ later epoch l) (later epoch l)) not_later)
    by_test false due rest =
        let all = all_later epoch before (x ∷ l) rise due in
        sym (ap (λ front. front ++ later epoch (x ∷ l)) all.front ∙ all.rest)

-- to readers a flush changes nothing
pub newest_stays : (epoch before : ℕ) (l : List Batch) → EpochsRise before l → (key : RowKey) (row : Option Row) → row_after (batched_changes (later epoch l)) key (row_after (batched_changes (up_to epoch l)) key row) ≡ row_after (batched_changes l) key row
newest_stays epoch before l rise key row =
    sym (row_after-append (batched_changes (up_to epoch l)) (batched_changes (later epoch l)) key row)
    ∙ ap (λ changes. row_after changes key row) (sym (batched_changes-append (up_to epoch l) (later epoch l)) ∙ ap batched_changes (sym (parted epoch before l rise)))

pub last_stays : (epoch before : ℕ) (l : List Batch) → EpochsRise before l → epoch_after (epoch_after before (up_to epoch l)) (later epoch l) ≡ epoch_after before l
last_stays epoch before l rise = sym (epoch_after-append before (up_to epoch l) (later epoch l)) ∙ ap (epoch_after before) (sym (parted epoch before l rise))

-- what one more batch makes of the newest rows
pub newest_entered : (l : List Batch) (last : Batch) (key : RowKey) (row : Option Row) → row_after (batched_changes (l ++ last ∷ [])) key row ≡ row_after last.changes key (row_after (batched_changes l) key row)
newest_entered l last key row =
    ap (λ changes. row_after changes key row) (batched_changes-append l (last ∷ []))
    ∙ row_after-append (batched_changes l) (last.changes ++ []) key row
    ∙ row_after-append last.changes [] key (row_after (batched_changes l) key row)

module _ (epoch : ℕ) (key : RowKey) where
  -- rows of an epoch that was flushed go
  no_later : (wrote : ℕ) → nat_lt epoch wrote ≡ false → (changes : List Change) (o : Option Written) → if_later epoch o ≡ None → if_later epoch (after_changes wrote changes key o) ≡ None
  no_later wrote flushed [] o none = none
  no_later wrote flushed (change ∷ changes) o none = no_later wrote flushed changes (cond (is_same change.key key) (Some (written wrote change)) o) (by_test (is_same change.key key))
    where
      by_test : (t : Bool) → if_later epoch (cond t (Some (written wrote change)) o) ≡ None
      by_test true = ap (λ (s : Bool). cond s (Some (written wrote change)) None) flushed
      by_test false = none

  -- and those of a later one stay
  still_later : (wrote : ℕ) → nat_lt epoch wrote ≡ true → (changes : List Change) (o : Option Written) → if_later epoch (after_changes wrote changes key o) ≡ after_changes wrote changes key (if_later epoch o)
  still_later wrote stays [] o = refl
  still_later wrote stays (change ∷ changes) o = still_later wrote stays changes (cond (is_same change.key key) (Some (written wrote change)) o) ∙ ap (after_changes wrote changes key) (by_test (is_same change.key key))
    where
      by_test : (t : Bool) → if_later epoch (cond t (Some (written wrote change)) o) ≡ cond t (Some (written wrote change)) (if_later epoch o)
      by_test true = ap (λ (s : Bool). cond s (Some (written wrote change)) None) stays
      by_test false = refl

  all_stay : (before : ℕ) (l : List Batch) → EpochsRise before l → epoch ≤ before → (o : Option Written) → if_later epoch (after_batches l key o) ≡ after_batches l key (if_later epoch o)
  all_stay before [] rise le o = refl
  all_stay before (x ∷ l) rise le o =
      let stays : nat_lt epoch x.epoch ≡ true = grind (arith, nat_tests, rise.0) in
      all_stay x.epoch l rise.1 (omega (arith, rise.0)) (after_changes x.epoch x.changes key o)
      ∙ ap (after_batches l key) (still_later x.epoch stays x.changes o)

  pub kept_rows : (before : ℕ) (l : List Batch) → EpochsRise before l → (o : Option Written) → if_later epoch o ≡ None → if_later epoch (after_batches l key o) ≡ after_batches (later epoch l) key None
  kept_rows before [] rise o none = none
  kept_rows before (x ∷ l) rise o none = by_test (nat_lt epoch x.epoch) refl (kept_rows x.epoch l rise.1 (after_changes x.epoch x.changes key o))
    where
      by_test : (t : Bool) → nat_lt epoch x.epoch ≡ t → (if_later epoch (after_changes x.epoch x.changes key o) ≡ None → if_later epoch (after_batches l key (after_changes x.epoch x.changes key o)) ≡ after_batches (later epoch l) key None) → if_later epoch (after_batches (x ∷ l) key o) ≡ after_batches (cond t (x ∷ later epoch l) (later epoch l)) key None
      by_test false flushed rest = rest (no_later x.epoch flushed x.changes o none)
      by_test true stays rest =
          let le : epoch ≤ x.epoch = grind (arith, nat_tests, stays) in
          let others = rest_later epoch x.epoch l rise.1 le in
          all_stay x.epoch l rise.1 le (after_changes x.epoch x.changes key o)
          ∙ ap (after_batches l key) (still_later x.epoch stays x.changes o ∙ ap (after_changes x.epoch x.changes key) none)
          ∙ ap (λ l. after_batches (x ∷ l) key None) (sym others.rest)

abbrev pub epoch_in : Option Written → Option ℕ
epoch_in None = None
epoch_in (Some w) = Some w.epoch

module _ (key : RowKey) where
  changed_in : (epoch : ℕ) (changes : List Change) (o : Option Written) → epoch_in (after_changes epoch changes key o) ≡ cond (has_key key changes) (Some epoch) (epoch_in o)
  changed_in epoch [] o = refl
  changed_in epoch (change ∷ changes) o = changed_in epoch changes (cond (is_same change.key key) (Some (written epoch change)) o) ∙ by_tests (is_same change.key key) (has_key key changes)
    where
      by_tests : (s t : Bool) → cond t (Some epoch) (epoch_in (cond s (Some (written epoch change)) o)) ≡ cond (s || t) (Some epoch) (epoch_in o)
      by_tests true true = refl
      by_tests true false = refl
      by_tests false true = refl
      by_tests false false = refl

  -- the epoch of what the batches make of a key is that of the last one that changed it
  pub epochs_after : (batches : List Batch) (o : Option Written) → epoch_in (after_batches batches key o) ≡ changed_at key (epoch_in o) batches
  epochs_after [] o = refl
  epochs_after (batch ∷ batches) o =
      epochs_after batches (after_changes batch.epoch batch.changes key o)
      ∙ ap (λ before. changed_at key before batches) (changed_in batch.epoch batch.changes o)
