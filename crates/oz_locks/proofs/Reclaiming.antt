-- What a stripe keeps of rows that may go, as its rows go on.
use Rattle.std.proofs.Common.{◌≡◌, ◌⊎◌, inl, inr, ℕ, ◌<◌, ◌≤◌, nat_le, nat_lt, Bool, true, false, ◌||◌, List, [], ◌∷◌, ◌++◌, Option, None, map, filter, cond, refl, sym, ◌∙◌, ap, subst, append-nil, arith}
use mathlib.Core.Bool.{false≢true}
use Rattle.std.proofs.lemmas.Bool.Decides.{nat_tests}
use Rattle.std.proofs.lemmas.Grind.{flat_map-append}
use Rattle.std.proofs.lemmas.List.Elements.{filter-append}
use Rattle.std.proofs.lemmas.List.Folds.{list_any-append}
use Rattle.std.specs.List.{AllByRecursion, list_any}
use Rattle.oz_cache.specs.Cache.{CacheView, batch_of, batched_changes, has_key, newest, up_to as batches_up_to, later as later_batches}
use Rattle.oz_cache.specs.declared.batch.Batch.{Batch}
use Rattle.oz_reclaim.specs.Origins.{SnapshotKeysStay}
use Rattle.oz_reclaim.specs.Work.{IsChainWork, is_marked}
use Rattle.oz_reclaim.specs.declared.sweep.notes.Note.{Note}
use Rattle.oz_reclaim.specs.laws.Origins.{snapshot_keys_stay}
use Rattle.oz_reclaim.specs.sweep.Changes.{DifferByNotes}
use Rattle.oz_reclaim.specs.sweep.Notes.{dated, is_noted, later, names, note_of, notes_of, up_to}
use Rattle.oz_reclaim.specs.sweep.Swept.{IsSweptTo}
use Rattle.oz_reclaim.specs.sweep.View.{SweepView}
use Rattle.oz_rows.specs.declared.key.RowKey.{RowKey}
use Rattle.oz_rows.specs.declared.key.RowKey.TheVariants as keys
use Rattle.oz_rows.specs.declared.operation.Change.{Change}
use Rattle.oz_rows.specs.declared.row.Row.{Row}
use Rattle.oz_rows.specs.RowMaps.{Rows, is_same, row_after, row_after_one, row_of}
use Rattle.oz_rows.specs.laws.Same.{same_is_one}
use Rattle.oz_tables.specs.Tables.{TableView}
use Rattle.oz_locks.specs.Reclaims.{AreReady, KeepsUp, marks_one, noted_in, noted_of}
use Rattle.oz_locks.specs.declared.reclaim.Reclaim.{Reclaim}
use Rattle.oz_locks.proofs.Batches.{row_after-append}

pub or_left : (a b : Bool) → (a || b) ≡ false → a ≡ false
or_left false b e = refl
or_left true b e = e

or_right : (a b : Bool) → (a || b) ≡ false → b ≡ false
or_right false b e = e
or_right true b e = absurd (false≢true (sym e))

-- ---- changes and their notes

-- where no note is of a key that is noted, no change is
no_key : (index : ℕ) (changes : List Change) (key : RowKey) → is_noted key ≡ true → names (map (dated index) (notes_of changes)) key ≡ false → has_key key changes ≡ false
no_key index [] key noted e = refl
no_key index (c ∷ cs) key noted e = by (is_noted c.key) refl (is_same c.key key) refl (no_key index cs key noted) e
  where
    left : List Change
    left = filter (λ (change : Change). is_noted change.key) cs

    by : (t : Bool) → is_noted c.key ≡ t → (u : Bool) → is_same c.key key ≡ u → (names (map (dated index) (notes_of cs)) key ≡ false → has_key key cs ≡ false)
        → names (map (dated index) (map note_of (cond t (c ∷ left) left))) key ≡ false → has_key key (c ∷ cs) ≡ false
    by true n true s rest e = absurd (false≢true (sym (or_left (is_same c.key key) _ e) ∙ s))
    by true n false s rest e = ap (λ (t : Bool). t || has_key key cs) s ∙ rest (or_right (is_same c.key key) _ e)
    by false n true s rest e = absurd (false≢true (sym n ∙ ap is_noted (same_is_one c.key key s) ∙ noted))
    by false n false s rest e = ap (λ (t : Bool). t || has_key key cs) s ∙ rest e

-- a key that no change is of keeps its row
untouched : (changes : List Change) (key : RowKey) (row : Option Row) → has_key key changes ≡ false → row_after changes key row ≡ row
untouched [] key row e = refl
untouched (c ∷ cs) key row e =
    ap (λ (t : Bool). row_after cs key (cond t c.row row)) (or_left (is_same c.key key) _ e) ∙ untouched cs key row (or_right (is_same c.key key) _ e)

abbrev AreTidy : List Batch → Type 0
AreTidy batches = AllByRecursion (λ (batch : Batch). SnapshotKeysStay batch.changes) batches

abbrev is_of : RowKey → Note → Bool
is_of key note = is_same note.key key

row_stays : (batches : List Batch) (key : RowKey) → is_noted key ≡ true → names (noted_in batches) key ≡ false → (row : Option Row)
    → row_after (batched_changes batches) key row ≡ row
row_stays [] key noted e row = refl
row_stays (x ∷ l) key noted e row =
    let parts = sym (list_any-append (is_of key) (noted_of x) (noted_in l)) ∙ e in
    row_after-append x.changes (batched_changes l) key row
    ∙ row_stays l key noted (or_right (names (noted_of x) key) _ parts) (row_after x.changes key row)
    ∙ untouched x.changes key row (no_key x.epoch x.changes key noted (or_left (names (noted_of x) key) _ parts))

keys_stay : (batches : List Batch) (v b k : List ℕ) (n : ℕ) → AreTidy batches → names (noted_in batches) (keys.Snapshot v b n) ≡ false → (row : Option Row)
    → row_after (batched_changes batches) (keys.SnapshotKey v b n k) row ≡ row
keys_stay [] v b k n tidy e row = refl
keys_stay (x ∷ l) v b k n tidy e row =
    let own = keys.Snapshot v b n in
    let parts = sym (list_any-append (is_of own) (noted_of x) (noted_in l)) ∙ e in
    let unchanged = no_key x.epoch x.changes own refl (or_left (names (noted_of x) own) _ parts) in
    row_after-append x.changes (batched_changes l) (keys.SnapshotKey v b n k) row
    ∙ keys_stay l v b k n tidy.1 (or_right (names (noted_of x) own) _ parts) (row_after x.changes (keys.SnapshotKey v b n k) row)
    ∙ snapshot_keys_stay x.changes v b k n (λ changed. false≢true (sym unchanged ∙ changed)) tidy.0 (λ key. row)

-- rows that batches change differ by their notes
differ : (batches : List Batch) (notes : List Note) (before now : Rows) → AreTidy batches → ((key : RowKey) → names notes key ≡ false → names (noted_in batches) key ≡ false)
    → ((key : RowKey) → now key ≡ row_after (batched_changes batches) key (before key)) → DifferByNotes notes before now
differ batches notes before now tidy fewer rows = record {
  rows = λ key noted unnamed. rows key ∙ row_stays batches key noted (fewer key unnamed) (before key);
  keys = λ v b k n unnamed. rows (keys.SnapshotKey v b n k) ∙ keys_stay batches v b k n tidy (fewer (keys.Snapshot v b n) unnamed) (before (keys.SnapshotKey v b n k));
}

-- ---- notes are chosen by their indexes as batches are by theirs

abbrev by_index : (ℕ → Bool) → List Note → List Note
by_index f notes = filter (λ (note : Note). f note.index) notes

abbrev by_epoch : (ℕ → Bool) → List Batch → List Batch
by_epoch f batches = filter (λ (batch : Batch). f batch.epoch) batches

one_chosen : (f : ℕ → Bool) (epoch : ℕ) (notes : List Note) (t : Bool) → f epoch ≡ t → by_index f (map (dated epoch) notes) ≡ cond t (map (dated epoch) notes) []
one_chosen f epoch [] true e = refl
one_chosen f epoch [] false e = refl
one_chosen f epoch (x ∷ notes) true e =
    ap (λ (t : Bool). cond t (dated epoch x ∷ by_index f (map (dated epoch) notes)) (by_index f (map (dated epoch) notes))) e
    ∙ ap (λ (l : List Note). dated epoch x ∷ l) (one_chosen f epoch notes true e)
one_chosen f epoch (x ∷ notes) false e =
    ap (λ (t : Bool). cond t (dated epoch x ∷ by_index f (map (dated epoch) notes)) (by_index f (map (dated epoch) notes))) e
    ∙ one_chosen f epoch notes false e

all_chosen : (f : ℕ → Bool) (batches : List Batch) → by_index f (noted_in batches) ≡ noted_in (by_epoch f batches)
all_chosen f [] = refl
all_chosen f (x ∷ l) = filter-append (λ (note : Note). f note.index) (noted_of x) (noted_in l) ∙ by (f x.epoch) refl (all_chosen f l)
  where
    by : (t : Bool) → f x.epoch ≡ t → by_index f (noted_in l) ≡ noted_in (by_epoch f l) → by_index f (noted_of x) ++ by_index f (noted_in l) ≡ noted_in (cond t (x ∷ by_epoch f l) (by_epoch f l))
    by true e rest = ap (λ (m : List Note). m ++ by_index f (noted_in l)) (one_chosen f x.epoch (notes_of x.changes) true e) ∙ ap (λ (m : List Note). noted_of x ++ m) rest
    by false e rest = ap (λ (m : List Note). m ++ by_index f (noted_in l)) (one_chosen f x.epoch (notes_of x.changes) false e) ∙ rest

fewer_any : (P q r : Note → Bool) (l : List Note) → list_any P (filter q l) ≡ false → list_any P (filter q (filter r l)) ≡ false
fewer_any P q r [] e = refl
fewer_any P q r (x ∷ l) e = by (r x) (q x) refl e (fewer_any P q r l)
  where
    both : List Note
    both = filter q (filter r l)

    by : (t u : Bool) → q x ≡ u → list_any P (cond u (x ∷ filter q l) (filter q l)) ≡ false → (list_any P (filter q l) ≡ false → list_any P both ≡ false)
        → list_any P (filter q (cond t (x ∷ filter r l) (filter r l))) ≡ false
    by true true g e rest = ap (λ (w : Bool). list_any P (cond w (x ∷ both) both)) g ∙ (ap (λ (w : Bool). w || list_any P both) (or_left (P x) _ e) ∙ rest (or_right (P x) _ e))
    by true false g e rest = ap (λ (w : Bool). list_any P (cond w (x ∷ both) both)) g ∙ rest e
    by false true g e rest = rest (or_right (P x) _ e)
    by false false g e rest = rest e

later_too : (flushed index n : ℕ) → flushed ≤ index → nat_lt index n ≡ true → nat_lt flushed n ≡ true
later_too flushed index n le e = grind (arith, nat_tests, le, e)

later_twice : (flushed index : ℕ) → flushed ≤ index → (l : List Note) → later index (later flushed l) ≡ later index l
later_twice flushed index le [] = refl
later_twice flushed index le (x ∷ l) = by (nat_lt flushed x.index) refl (nat_lt index x.index) refl (later_twice flushed index le l)
  where
    both : List Note
    both = later index (later flushed l)

    by : (t : Bool) → nat_lt flushed x.index ≡ t → (u : Bool) → nat_lt index x.index ≡ u → both ≡ later index l
        → later index (cond t (x ∷ later flushed l) (later flushed l)) ≡ cond u (x ∷ later index l) (later index l)
    by true f true g rest = ap (λ (w : Bool). cond w (x ∷ both) both) g ∙ ap (λ (m : List Note). x ∷ m) rest
    by true f false g rest = ap (λ (w : Bool). cond w (x ∷ both) both) g ∙ rest
    by false f true g rest = absurd (false≢true (sym f ∙ later_too flushed index x.index le g))
    by false f false g rest = rest

is_later : (a b : ℕ) → a < b → nat_lt a b ≡ true
is_later a b lt = grind (arith, nat_tests, lt)

-- ---- marked snapshots

unmarked_by : (changes : List Change) (key : RowKey) (row : Option Row) → marks_one changes ≡ false → is_marked (row_after changes key row) ≡ true → is_marked row ≡ true
unmarked_by [] key row none is = is
unmarked_by (c ∷ cs) key row none is = by (is_same c.key key) refl (unmarked_by cs key (row_after_one c key row) (or_right (is_marked c.row) _ none) is)
  where
    by : (t : Bool) → is_same c.key key ≡ t → is_marked (cond (is_same c.key key) c.row row) ≡ true → is_marked row ≡ true
    by true e was = absurd (false≢true (sym (or_left (is_marked c.row) _ none) ∙ (sym (ap (λ (t : Bool). is_marked (cond t c.row row)) e) ∙ was)))
    by false e was = sym (ap (λ (t : Bool). is_marked (cond t c.row row)) e) ∙ was

none_alike : (all other : Rows) → ((key : RowKey) → other key ≡ all key) → IsChainWork all None → IsChainWork other None
none_alike all other same none v b n marked = none v b n (ap is_marked (sym (same (keys.Snapshot v b n))) ∙ marked)

-- ---- what is kept

module _ (Coherent : Type 0) (flushed : ℕ) where
  pub keeps_new : (cache : CacheView) (it : Reclaim) → cache.entered ≡ [] → it.sweep.noted ≡ [] → ((all : Rows) (upto : ℕ) → IsSweptTo it.sweep upto all) → it.may_be_marked ≡ true
      → KeepsUp Coherent flushed cache it
  keeps_new cache it entered noted swept marked = record {
    noted = ap (later flushed) noted ∙ sym (ap noted_in entered);
    tidy = λ coherent. subst AreTidy (sym entered) tt;
    swept = λ coherent. swept (row_of cache.durable.rows) flushed;
    unmarked = λ e. absurd (false≢true (sym e ∙ marked));
  }

  -- room was made
  pub keeps_prepared : (cache after : CacheView) (it now : Reclaim) (ready : List Note) → KeepsUp Coherent flushed cache it
      → after.durable.rows ≡ cache.durable.rows → after.entered ≡ cache.entered → now.sweep ≡ record it.sweep { ready = ready }
      → (now.may_be_marked ≡ false → it.may_be_marked ≡ false) → KeepsUp Coherent flushed after now
  keeps_prepared cache after it now ready keeps rows entered sweep flag = record {
    noted = ap (λ (w : SweepView). later flushed w.noted) sweep ∙ keeps.noted ∙ ap noted_in (sym entered);
    tidy = λ coherent. subst AreTidy (sym entered) (keeps.tidy coherent);
    swept = λ coherent. let is = keeps.swept coherent in
        let same : IsSweptTo (record it.sweep { ready = ready }) flushed (row_of cache.durable.rows) = record { filed = is.filed; there = is.there; sets = is.sets } in
        subst (λ (w : SweepView). IsSweptTo w flushed (row_of after.durable.rows)) (sym sweep)
        (subst (λ l. IsSweptTo (record it.sweep { ready = ready }) flushed (row_of l)) (sym rows) same);
    unmarked = λ e. none_alike (newest cache) (newest after)
        (λ key. ap (λ l. row_after (batched_changes l) key (row_of after.durable.rows key)) entered ∙ ap (λ l. row_after (batched_changes cache.entered) key (row_of l key)) rows)
        (keeps.unmarked (flag e));
  }

  tidy_more : (l : List Batch) (x : Batch) → AreTidy l → SnapshotKeysStay x.changes → AreTidy (l ++ x ∷ [])
  tidy_more [] x tidy last = (last, tt)
  tidy_more (y ∷ l) x tidy last = (tidy.0, tidy_more l x tidy.1 last)

  -- changes were entered
  pub keeps_entered : (cache after : CacheView) (it now : Reclaim) (index : ℕ) (changes : List Change) → KeepsUp Coherent flushed cache it → AreReady changes it
      → flushed < index → (Coherent → SnapshotKeysStay changes) → after.entered ≡ cache.entered ++ batch_of index changes ∷ [] → after.durable ≡ cache.durable
      → ((key : RowKey) → newest after key ≡ row_after changes key (newest cache key))
      → now.sweep ≡ record it.sweep { noted = it.sweep.noted ++ map (dated index) it.sweep.ready; ready = [] }
      → ((all : Rows) (upto : ℕ) → upto < index → IsSweptTo it.sweep upto all → IsSweptTo now.sweep upto all)
      → now.may_be_marked ≡ it.may_be_marked → KeepsUp Coherent flushed after now
  keeps_entered cache after it now index changes keeps ready above tidy entered durable rows sweep swept flag = record {
    noted = ap (λ (w : SweepView). later flushed w.noted) sweep ∙ (filter-append (λ (note : Note). nat_lt flushed note.index) it.sweep.noted more
        ∙ (ap (λ (l : List Note). l ++ later flushed more) keeps.noted ∙ (ap (λ (l : List Note). noted_in cache.entered ++ l) last ∙ sym all)));
    tidy = λ coherent. subst AreTidy (sym entered) (tidy_more cache.entered (batch_of index changes) (keeps.tidy coherent) (tidy coherent));
    swept = λ coherent. subst (λ (t : TableView). IsSweptTo now.sweep flushed (row_of t.rows)) (sym durable) (swept (row_of cache.durable.rows) flushed above (keeps.swept coherent));
    unmarked = λ e v b n marked. keeps.unmarked (sym flag ∙ e) v b n
        (unmarked_by changes (keys.Snapshot v b n) (newest cache (keys.Snapshot v b n)) (none (sym flag ∙ e)) (ap is_marked (sym (rows (keys.Snapshot v b n))) ∙ marked));
  }
    where
      more : List Note
      more = map (dated index) it.sweep.ready

      last : later flushed more ≡ map (dated index) (notes_of changes)
      last = one_chosen (nat_lt flushed) index it.sweep.ready true (is_later flushed index above) ∙ ap (map (dated index)) ready.notes

      all : noted_in after.entered ≡ noted_in cache.entered ++ map (dated index) (notes_of changes)
      all = ap noted_in entered ∙ (flat_map-append noted_of cache.entered (batch_of index changes ∷ []) ∙ ap (λ (l : List Note). noted_in cache.entered ++ l) (append-nil (map (dated index) (notes_of changes))))

      none : it.may_be_marked ≡ false → marks_one changes ≡ false
      none e = by (marks_one changes) refl
        where
          by : (t : Bool) → marks_one changes ≡ t → marks_one changes ≡ false
          by false m = m
          by true m = absurd (false≢true (sym e ∙ ready.marks m))

  tidy_rest : (f : ℕ → Bool) (l : List Batch) → AreTidy l → AreTidy (by_epoch f l)
  tidy_rest f [] tidy = tt
  tidy_rest f (x ∷ l) tidy = by (f x.epoch) (tidy_rest f l tidy.1)
    where
      by : (t : Bool) → AreTidy (by_epoch f l) → AreTidy (cond t (x ∷ by_epoch f l) (by_epoch f l))
      by true rest = (tidy.0, rest)
      by false rest = rest

  -- a sweep was brought on
  pub keeps_brought : (cache : CacheView) (it now : Reclaim) → KeepsUp Coherent flushed cache it
      → (now.sweep.noted ≡ later flushed it.sweep.noted) ⊎ (now.sweep.noted ≡ it.sweep.noted)
      → (IsSweptTo it.sweep flushed (row_of cache.durable.rows) → IsSweptTo now.sweep flushed (row_of cache.durable.rows))
      → now.may_be_marked ≡ it.may_be_marked → KeepsUp Coherent flushed cache now
  keeps_brought cache it now keeps noted still flag = record {
    noted = by noted;
    tidy = keeps.tidy;
    swept = λ coherent. still (keeps.swept coherent);
    unmarked = λ e. keeps.unmarked (sym flag ∙ e);
  }
    where
      by : (now.sweep.noted ≡ later flushed it.sweep.noted) ⊎ (now.sweep.noted ≡ it.sweep.noted) → later flushed now.sweep.noted ≡ noted_in cache.entered
      by (inl fewer) = ap (later flushed) fewer ∙ (later_twice flushed flushed (omega arith) it.sweep.noted ∙ keeps.noted)
      by (inr same) = ap (later flushed) same ∙ keeps.noted

  -- it was looked for marked snapshots
  pub keeps_looked : (cache : CacheView) (it now : Reclaim) → KeepsUp Coherent flushed cache it → now.sweep ≡ it.sweep
      → (now.may_be_marked ≡ false → IsChainWork (newest cache) None) → KeepsUp Coherent flushed cache now
  keeps_looked cache it now keeps sweep unmarked = record {
    noted = ap (λ (w : SweepView). later flushed w.noted) sweep ∙ keeps.noted;
    tidy = keeps.tidy;
    swept = λ coherent. subst (λ (w : SweepView). IsSweptTo w flushed (row_of cache.durable.rows)) (sym sweep) (keeps.swept coherent);
    unmarked = unmarked;
  }

  -- rows were brought down
  module _ (law : (sweep : SweepView) (upto more : ℕ) (before now : Rows) → upto ≤ more → DifferByNotes (up_to more sweep.noted) before now → IsSweptTo sweep upto before
      → IsSweptTo sweep more now) where
    pub keeps_down : (cache after : CacheView) (it : Reclaim) (index : ℕ) → KeepsUp Coherent flushed cache it → flushed ≤ index
        → ((key : RowKey) → row_of after.durable.rows key ≡ row_after (batched_changes (batches_up_to index cache.entered)) key (row_of cache.durable.rows key))
        → after.entered ≡ later_batches index cache.entered → ((key : RowKey) → newest after key ≡ newest cache key) → KeepsUp Coherent index after it
    keeps_down cache after it index keeps le rows entered same = record {
      noted = sym (later_twice flushed index le it.sweep.noted) ∙ (ap (later index) keeps.noted ∙ (all_chosen (nat_lt index) cache.entered ∙ ap noted_in (sym entered)));
      tidy = λ coherent. subst AreTidy (sym entered) (tidy_rest (nat_lt index) cache.entered (keeps.tidy coherent));
      swept = λ coherent. law it.sweep flushed index (row_of cache.durable.rows) (row_of after.durable.rows) le
          (differ went (up_to index it.sweep.noted) (row_of cache.durable.rows) (row_of after.durable.rows) (tidy_rest is_down cache.entered (keeps.tidy coherent)) fewer rows)
          (keeps.swept coherent);
      unmarked = λ e. none_alike (newest cache) (newest after) same (keeps.unmarked e);
    }
      where
        is_down : ℕ → Bool
        is_down n = nat_le n index

        went : List Batch
        went = batches_up_to index cache.entered

        fewer : (key : RowKey) → names (up_to index it.sweep.noted) key ≡ false → names (noted_in went) key ≡ false
        fewer key e =
            ap (λ (l : List Note). names l key) (sym (all_chosen is_down cache.entered)) ∙ (ap (λ (l : List Note). names (up_to index l) key) (sym keeps.noted)
            ∙ fewer_any (is_of key) (λ (note : Note). is_down note.index) (λ (note : Note). nat_lt flushed note.index) it.sweep.noted e)
