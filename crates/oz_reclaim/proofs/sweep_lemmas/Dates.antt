-- Since when the blocks of dead rows are out of reach: notes, marks and dates, one after another.
use Rattle.std.proofs.Common.{◌≡◌, inl, inr, ⊎_elim, ℕ, ◌+◌, ◌<◌, ◌≤◌, nat_lt, Bool, true, false, ◌||◌, ◌&&◌, List, [], ◌∷◌, ◌++◌, length, get_or, take, Option, None, Some, IsSome, IfSome, is_some, cond, Contains, refl, sym, ◌∙◌, ap, subst, arith}
use mathlib.Core.Bool.{false≢true}
use Rattle.std.proofs.lemmas.Bool.Decides.{nat_tests}
use Rattle.std.proofs.lemmas.List.{take_more}
use Rattle.std.proofs.lemmas.List.Elements.{Contains-append_left, Contains-push, Contains-push_cases}
use Rattle.oz_cache.specs.Cache.{has_key}
use Rattle.oz_effects.specs.changes.Steps.{holds}
use Rattle.oz_fields.specs.declared.block.Block.{Block}
use Rattle.oz_reclaim.specs.declared.sweep.births.Birth.{Birth}
use Rattle.oz_reclaim.specs.declared.sweep.dating.DateChange.{DateChange}
use Rattle.oz_reclaim.specs.declared.sweep.marks.LetGo.{LetGo}
use Rattle.oz_reclaim.specs.declared.sweep.notes.Note.{Note}
use Rattle.oz_reclaim.specs.sweep.Dates.{Dates, IsDate, IsLastMark, LetsGo, births, births_from, born_after, date_in, is_marked_at}
use Rattle.oz_reclaim.specs.sweep.Dead.{AreFiled, IsDead, IsDeadRow, first_of}
use Rattle.oz_reclaim.specs.sweep.Filing.{AddsLetGo, AreDates, AreLetGo, HasDate, IsDateChange, IsFirstOf, IsGreatest, IsLetGo, dates_after, later}
use Rattle.oz_reclaim.proofs.ShownBlocks.{or_cases}
use Rattle.oz_rows.specs.declared.key.RowKey.{RowKey}
use Rattle.oz_rows.specs.declared.key.RowKey.TheVariants as keys
use Rattle.oz_rows.specs.declared.operation.Change.{Change}
use Rattle.oz_rows.specs.declared.row.Row.{Row}
use Rattle.oz_rows.specs.RowMaps.{Rows, is_same, row_after}
use Rattle.oz_rows.specs.laws.Same.{same_is_one}

-- ---- notes

more_from : (dates : Dates) (local : ℕ) (before : Option Birth) (notes : List Note) (note : Note) → births_from dates local before (notes ++ note ∷ []) ≡ born_after dates local (births_from dates local before notes) note
more_from dates local before [] note = refl
more_from dates local before (x ∷ notes) note = more_from dates local (born_after dates local before x) notes note

pub births_more : (dates : Dates) (local : ℕ) (notes : List Note) (note : Note) → births dates (notes ++ note ∷ []) local ≡ born_after dates local (births dates notes local) note
births_more dates local notes note = more_from dates local None notes note

-- ---- marks

module _ (all : Rows) where
  pub no_marks : AreLetGo all [] []
  no_marks = record {
    each = λ entry there. absurd (omega (arith, there.1));
    every = λ note there. absurd (omega (arith, there.1));
  }

  pub let_go_more : (notes : List Note) (note : Note) (before now : List LetGo) → AreLetGo all notes before → AddsLetGo all note before now → AreLetGo all (notes ++ note ∷ []) now
  let_go_more notes note before now are adds = ⊎_elim one none adds
    where
      older : (entry : LetGo) → (other : Note) × Contains notes other × (is_marked_at all other.key ≡ true) × IsLetGo all other entry
          → (other : Note) × Contains (notes ++ note ∷ []) other × (is_marked_at all other.key ≡ true) × IsLetGo all other entry
      older entry (other, there, marked, is) = (other, Contains-append_left notes (note ∷ []) other there, marked, is)

      one : (is_marked_at all note.key ≡ true) × (entry : LetGo) × IsLetGo all note entry × (now ≡ before ++ entry ∷ []) → AreLetGo all (notes ++ note ∷ []) now
      one (marked, entry, is, eq) = subst (AreLetGo all (notes ++ note ∷ [])) (sym eq) (record {
        each = λ other there. ⊎_elim
            (λ old. older other (are.each other old))
            (λ same. (note, Contains-push notes note, marked, subst (IsLetGo all note) same is))
            (Contains-push_cases before entry other there);
        every = λ other there is_marked. ⊎_elim
            (λ old. let found = are.every other old is_marked in (found.0, Contains-append_left before (entry ∷ []) found.0 found.1, found.2))
            (λ same. (entry, Contains-push before entry, subst (λ (n : Note). IsLetGo all n entry) same is))
            (Contains-push_cases notes note other there);
      })

      none : (is_marked_at all note.key ≡ false) × (now ≡ before) → AreLetGo all (notes ++ note ∷ []) now
      none (unmarked, eq) = subst (AreLetGo all (notes ++ note ∷ [])) (sym eq) (record {
        each = λ other there. older other (are.each other there);
        every = λ other there is_marked. ⊎_elim
            (λ old. are.every other old is_marked)
            (λ same. absurd (false≢true (sym unmarked ∙ ap (λ (n : Note). is_marked_at all n.key) same ∙ is_marked)))
            (Contains-push_cases notes note other there);
      })

  -- the last of the entries that have a block is the last mark that lets it go
  pub last_mark : (notes : List Note) (entries : List LetGo) (block : Block) (index : ℕ) → AreLetGo all notes entries → IsGreatest entries block index → IsLastMark all notes block index
  last_mark notes entries block index are greatest = record {
    each = λ note there lets.
        let found = are.every note there lets.0 in
        let bound = greatest.each found.0 found.1 ((found.2.1 block).1 lets.1) in
        subst (λ (n : ℕ). n ≤ index) found.2.0 bound;
    is = ⊎_elim inl (λ it. inr (of_entry it.0 it.1 it.2 it.3)) greatest.is;
  }
    where
      of_entry : (entry : LetGo) → Contains entries entry → holds entry.blocks block ≡ true → entry.index ≡ index → (note : Note) × Contains notes note × LetsGo all note block × (note.index ≡ index)
      of_entry entry there has is =
          let from = are.each entry there in
          (from.0, from.1, (from.2, (from.3.1 block).0 has), sym from.3.0 ∙ is)

pub none_greatest : (block : Block) → IsGreatest [] block 0
none_greatest block = record { each = λ entry there. absurd (omega (arith, there.1)); is = inl refl }

less_or : (a b : ℕ) → nat_lt a b ≡ false → b ≤ a
less_or a b e = grind (arith, nat_tests, e)

is_less : (a b : ℕ) → nat_lt a b ≡ true → a < b
is_less a b e = grind (arith, nat_tests, e)

pub greatest_more : (entries : List LetGo) (i : ℕ) (entry : LetGo) (block : Block) (left : ℕ) → i < length entries → entry ≡ get_or entries i entry
    → IsGreatest (take i entries) block left → IsGreatest (take (i + 1) entries) block (later left entry block)
greatest_more entries i entry block left within is greatest =
    subst (λ (l : List LetGo). IsGreatest l block (later left entry block)) (sym (take_more entries i entry within ∙ ap (λ (x : LetGo). take i entries ++ x ∷ []) (sym is)))
    (by (holds entry.blocks block) refl (nat_lt left entry.index) refl)
  where
    still : (holds entry.blocks block ≡ true → entry.index ≤ left) → IsGreatest (take i entries ++ entry ∷ []) block left
    still bound = record {
      each = λ other there holds_it. ⊎_elim
          (λ old. greatest.each other old holds_it)
          (λ same. subst (λ (x : LetGo). x.index ≤ left) same (bound (subst (λ (x : LetGo). holds x.blocks block ≡ true) (sym same) holds_it)))
          (Contains-push_cases (take i entries) entry other there);
      is = ⊎_elim inl (λ it. inr (it.0, Contains-append_left (take i entries) (entry ∷ []) it.0 it.1, it.2, it.3)) greatest.is;
    }

    rises : holds entry.blocks block ≡ true → left < entry.index → IsGreatest (take i entries ++ entry ∷ []) block entry.index
    rises has lt = record {
      each = λ other there holds_it. ⊎_elim
          (λ old. let before = greatest.each other old holds_it in omega (arith, before, lt))
          (λ same. subst (λ (x : LetGo). x.index ≤ entry.index) same (omega arith))
          (Contains-push_cases (take i entries) entry other there);
      is = inr (entry, Contains-push (take i entries) entry, has, refl);
    }

    by : (t : Bool) → holds entry.blocks block ≡ t → (u : Bool) → nat_lt left entry.index ≡ u → IsGreatest (take i entries ++ entry ∷ []) block (cond (t && u) entry.index left)
    by true has true lt = rises has (is_less left entry.index lt)
    by true has false lt = still (λ holds_it. less_or left entry.index lt)
    by false has u lt = still (λ holds_it. absurd (false≢true (sym has ∙ holds_it)))

-- ---- dates

module _ (all : Rows) (notes : List Note) (dates : Dates) where
  pub dates_more : (changes : List Change) (others : List DateChange) (change : Change) (other : DateChange) → AreDates all notes dates changes others → IsDateChange all notes dates change other
      → AreDates all notes dates (changes ++ change ∷ []) (others ++ other ∷ [])
  dates_more [] [] change other are is = (is, tt)
  dates_more [] (y ∷ others) change other are is = absurd are
  dates_more (x ∷ changes) [] change other are is = absurd are
  dates_more (x ∷ changes) (y ∷ others) change other are is = (are.0, dates_more changes others change other are.1 is)

  -- where a date is beside each row before, it is so behind
  pub both_after : (changes : List Change) (others : List DateChange) (key : RowKey) (date : Option ℕ) (row : Option Row) → AreDates all notes dates changes others → is_some date ≡ is_some row
      → is_some (dates_after others key date) ≡ is_some (row_after changes key row)
  both_after [] [] key date row are both = both
  both_after [] (y ∷ others) key date row are both = absurd are
  both_after (x ∷ changes) [] key date row are both = absurd are
  both_after (x ∷ changes) (y ∷ others) key date row are both =
      both_after changes others key (cond (is_same y.key key) y.date date) (cond (is_same x.key key) x.row row) are.1
      (ap (λ (k : RowKey). is_some (cond (is_same k key) y.date date)) are.0.same ∙ by (is_same x.key key))
    where
      by : (t : Bool) → is_some (cond t y.date date) ≡ is_some (cond t x.row row)
      by true = are.0.both
      by false = both

  untouched : (changes : List Change) (others : List DateChange) (key : RowKey) (date : Option ℕ) → AreDates all notes dates changes others → has_key key changes ≡ false → dates_after others key date ≡ date
  untouched [] [] key date are none = refl
  untouched [] (y ∷ others) key date are none = absurd are
  untouched (x ∷ changes) [] key date are none = absurd are
  untouched (x ∷ changes) (y ∷ others) key date are none = by (is_same x.key key) refl none (untouched changes others key)
    where
      by : (t : Bool) → is_same x.key key ≡ t → (is_same x.key key || has_key key changes) ≡ false
          → ((date : Option ℕ) → AreDates all notes dates changes others → has_key key changes ≡ false → dates_after others key date ≡ date)
          → dates_after others key (cond (is_same y.key key) y.date date) ≡ date
      by true same none later = absurd (false≢true (sym none ∙ ap (λ (t : Bool). t || has_key key changes) same))
      by false same none later =
          ap (λ (k : RowKey). dates_after others key (cond (is_same k key) y.date date)) are.0.same
          ∙ ap (λ (t : Bool). dates_after others key (cond t y.date date)) same
          ∙ later date are.1 (sym (ap (λ (t : Bool). t || has_key key changes) same) ∙ none)

  no_row : (changes : List Change) (key : RowKey) (row : Option Row) → has_key key changes ≡ false → row_after changes key row ≡ row
  no_row [] key row e = refl
  no_row (change ∷ changes) key row e = by (is_same change.key key) refl e (no_row changes key)
    where
      by : (t : Bool) → is_same change.key key ≡ t → (is_same change.key key || has_key key changes) ≡ false → ((row : Option Row) → has_key key changes ≡ false → row_after changes key row ≡ row)
          → row_after changes key (cond (is_same change.key key) change.row row) ≡ row
      by true same e later = absurd (false≢true (sym e ∙ ap (λ (t : Bool). t || has_key key changes) same))
      by false same e later = ap (λ (t : Bool). row_after changes key (cond t change.row row)) same ∙ later row (sym (ap (λ (t : Bool). t || has_key key changes) same) ∙ e)

  -- a dead row has a first block
  first_there : (change : Change) → IsDeadRow all change.key change.row → IsFirstOf change
  first_there change right = by change.key change.row right
    where
      of_row : (key : RowKey) (row : Row) → IsDead all key row → IsSome (first_of row)
      of_row (keys.Deleted v b o k l) row dead = ap is_some dead.1
      of_row key row dead = absurd dead

      by : (key : RowKey) (row : Option Row) → IsDeadRow all key row → IfSome row (λ row. IsSome (first_of row))
      by key None right = tt
      by key (Some row) right = of_row key row right.1

  pub date_after : (changes : List Change) (others : List DateChange) (key : RowKey) (date : Option ℕ) (row : Option Row) → AreDates all notes dates changes others → AreFiled all changes → has_key key changes ≡ true
      → HasDate all notes dates key (row_after changes key row) (dates_after others key date)
  date_after [] others key date row are filed has = absurd (false≢true has)
  date_after (x ∷ changes) [] key date row are filed has = absurd are
  date_after (x ∷ changes) (y ∷ others) key date row are filed has = by (has_key key changes) refl has (date_after changes others key)
    where
      last : is_same x.key key ≡ true → has_key key changes ≡ false → HasDate all notes dates key (row_after changes key (cond (is_same x.key key) x.row row)) (dates_after others key (cond (is_same y.key key) y.date date))
      last same none =
          let here = subst (λ (k : RowKey). HasDate all notes dates k x.row y.date) (same_is_one x.key key same) (are.0.date (first_there x filed.0)) in
          let at_row : row_after changes key (cond (is_same x.key key) x.row row) ≡ x.row = no_row changes key _ none ∙ ap (λ (t : Bool). cond t x.row row) same in
          let at_date : dates_after others key (cond (is_same y.key key) y.date date) ≡ y.date =
          untouched changes others key _ are.1 none ∙ ap (λ (k : RowKey). cond (is_same k key) y.date date) are.0.same ∙ ap (λ (t : Bool). cond t y.date date) same in
          subst (λ (r : Option Row). HasDate all notes dates key r (dates_after others key (cond (is_same y.key key) y.date date))) (sym at_row)
          (subst (HasDate all notes dates key x.row) (sym at_date) here)

      by : (t : Bool) → has_key key changes ≡ t → (is_same x.key key || has_key key changes) ≡ true
          → ((date : Option ℕ) (row : Option Row) → AreDates all notes dates changes others → AreFiled all changes → has_key key changes ≡ true → HasDate all notes dates key (row_after changes key row) (dates_after others key date))
          → HasDate all notes dates key (row_after changes key (cond (is_same x.key key) x.row row)) (dates_after others key (cond (is_same y.key key) y.date date))
      by true has e later = later _ _ are.1 filed.1 has
      by false none e later = last (⊎_elim (λ same. same) (λ has. absurd (false≢true (sym none ∙ has))) (or_cases (is_same x.key key) _ e)) none

  -- each dead row has the date that it had, or the one that it gets
  pub dated_now : (changes : List Change) (others : List DateChange) → AreDates all notes dates changes others → AreFiled all changes → (key : RowKey) (before now : Option Row) (row : Row) (date : Option ℕ)
      → is_some (date_in dates key) ≡ is_some before → now ≡ row_after changes key before → date ≡ dates_after others key (date_in dates key) → now ≡ Some row
      → (since : ℕ) × (date ≡ Some since) × IsDate all notes dates key row since (date_in dates key)
  dated_now changes others are filed key before now row date both now_is date_is there = by (has_key key changes) refl
    where
      found : (o : Option ℕ) → date ≡ o → HasDate all notes dates key (Some row) o → (since : ℕ) × (date ≡ Some since) × IsDate all notes dates key row since (date_in dates key)
      found None e has = absurd has
      found (Some since) e has = (since, e, has)

      kept : (o : Option ℕ) → date_in dates key ≡ o → date ≡ date_in dates key → IsSome before → (since : ℕ) × (date ≡ Some since) × IsDate all notes dates key row since (date_in dates key)
      kept None e same old = absurd (false≢true (ap is_some (sym e) ∙ both ∙ old))
      kept (Some since) e same old = (since, same ∙ e, subst (IsDate all notes dates key row since) (sym e) refl)

      by : (t : Bool) → has_key key changes ≡ t → (since : ℕ) × (date ≡ Some since) × IsDate all notes dates key row since (date_in dates key)
      by true has =
          let here = date_after changes others key (date_in dates key) before are filed has in
          found date refl (subst (HasDate all notes dates key (Some row)) (sym date_is) (subst (λ (r : Option Row). HasDate all notes dates key r (dates_after others key (date_in dates key))) (sym now_is ∙ there) here))
      by false none =
          kept (date_in dates key) refl (date_is ∙ untouched changes others key (date_in dates key) are none)
          (ap is_some (sym (no_row changes key before none) ∙ sym now_is ∙ there))
