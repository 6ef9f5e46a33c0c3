-- What becomes of the links between cached rows and the list of their epochs where a row goes, comes, or is written again.
use Rattle.std.proofs.Common.{◌≡◌, ◌≢◌, ◌==◌, ◌≤◌, ◌<◌, ℕ, Bool, true, false, not, List, [], ◌∷◌, ◌++◌, filter, map, Option, Some, None, IsSome, IfSome, cond, refl, sym, ◌∙◌, ap, subst, arith, append-nil, eq-eqb, nat_le, nat_lt}
use mathlib.Core.Bool.{false≢true}
use Rattle.std.specs.List.{AllByRecursion}
use Rattle.std.proofs.lemmas.Bool.Decides.{nat_tests}
use Rattle.oz_epochs.specs.Epochs.{EpochEntry, entry, found as found_at, without, behind, first_by, IsAway, NoSlotTwice, EndsBy, EpochsRise}
use Rattle.oz_rows.specs.declared.key.RowKey.{RowKey}
use Rattle.oz_rows.specs.RowMaps.{is_same}
use Rattle.oz_rows.specs.laws.Same.{same_is_one}
use Rattle.oz_cache.specs.declared.cached_rows.CachedRow.{CachedRow}
use Rattle.oz_cache.specs.Cache.{epochs_under, one_or_none}
use Rattle.oz_cache.specs.Places.{written_by, as_written, if_later}
use Rattle.oz_cache.proofs.Newest.{epoch_in}
use Rattle.oz_cache.specs.Linked.{entries_under, entry_said, AreLinked, AllBy, without_place, place_of}

abbrev Entries : Type 0
Entries = List (EpochEntry RowKey)

slot_is : (a b : ℕ) → a ≡ b → (a == b) ≡ true
slot_is a b e = eq-eqb a b e

slot_not : (a b : ℕ) → a ≢ b → (a == b) ≡ false
slot_not a b ne = by_test (a == b) refl
  where
    by_test : (t : Bool) → (a == b) ≡ t → (a == b) ≡ false
    by_test false e = e
    by_test true e = absurd (ne (grind (arith, nat_tests, e)))

slot_other : (a b : ℕ) → (a == b) ≡ false → a ≢ b
slot_other a b e same = false≢true (sym e ∙ slot_is a b same)

abbrev head_of : List (ℕ × ℕ) → ℕ × ℕ
head_of [] = (0, 0)
head_of (x ∷ l) = x

abbrev tail_of : List (ℕ × ℕ) → List (ℕ × ℕ)
tail_of [] = []
tail_of (x ∷ l) = l

none_is_some : {X : Type 0} (x : X) → None ≡ Some x → ⊥
none_is_some x e = cc

nil_is_cons : {X : Type 0} (x : X) (l : List X) → [] ≡ x ∷ l → ⊥
nil_is_cons x l e = cc

same_some : {X : Type 0} (x y : X) → Some x ≡ Some y → x ≡ y
same_some x y e = cc

under_append : (key : RowKey) (es fs : Entries) → entries_under key (es ++ fs) ≡ entries_under key es ++ entries_under key fs
under_append key [] fs = refl
under_append key (e ∷ es) fs = by_test (is_same e.key key) (under_append key es fs)
  where
    by_test : (t : Bool) → entries_under key (es ++ fs) ≡ entries_under key es ++ entries_under key fs → cond t ((e.slot, e.epoch) ∷ entries_under key (es ++ fs)) (entries_under key (es ++ fs)) ≡ cond t ((e.slot, e.epoch) ∷ entries_under key es) (entries_under key es) ++ entries_under key fs
    by_test true rest = ap (λ l. (e.slot, e.epoch) ∷ l) rest
    by_test false rest = rest

-- the slot of an entry under a key is not away
not_away : (key : RowKey) (slot epoch : ℕ) (l : List (ℕ × ℕ)) (es : Entries) → entries_under key es ≡ (slot, epoch) ∷ l → IsAway slot es → ⊥
not_away key slot epoch l [] e away = nil_is_cons (slot, epoch) l e
not_away key slot epoch l (f ∷ es) e away = by_test (is_same f.key key) e (λ e. not_away key slot epoch l es e away.1)
  where
    by_test : (t : Bool) → cond t ((f.slot, f.epoch) ∷ entries_under key es) (entries_under key es) ≡ (slot, epoch) ∷ l → (entries_under key es ≡ (slot, epoch) ∷ l → ⊥) → ⊥
    by_test true e rest = away.0 (ap (λ l. (head_of l).0) e)
    by_test false e rest = rest e

there : (slot : ℕ) (es : Entries) → (IsAway slot es → ⊥) → IsSome (found_at slot es)
there slot [] never = absurd (never tt)
there slot (f ∷ es) never = by_test (f.slot == slot) refl (there slot es)
  where
    by_test : (t : Bool) → (f.slot == slot) ≡ t → ((IsAway slot es → ⊥) → IsSome (found_at slot es)) → IsSome (cond {A = Option (ℕ × RowKey)} t (Some (f.epoch, f.key)) (found_at slot es))
    by_test true e rest = refl
    by_test false e rest = rest (λ away. never (slot_other f.slot slot e, away))

without_away : (slot : ℕ) (es : Entries) → IsAway slot es → without slot es ≡ es
without_away slot [] away = refl
without_away slot (f ∷ es) away =
    ap (λ (t : Bool). cond (not t) (f ∷ without slot es) (without slot es)) (slot_not f.slot slot away.0)
    ∙ ap (λ es. f ∷ es) (without_away slot es away.1)

module _ (slot : ℕ) (f : EpochEntry RowKey) (es : Entries) (once : NoSlotTwice (f ∷ es)) where
  goes : f.slot ≡ slot → without slot (f ∷ es) ≡ es
  goes at =
      ap (λ (t : Bool). cond (not t) (f ∷ without slot es) (without slot es)) (slot_is f.slot slot at)
      ∙ without_away slot es (subst (λ s. IsAway s es) at once.0)

  stays : f.slot ≢ slot → without slot (f ∷ es) ≡ f ∷ without slot es
  stays apart = ap (λ (t : Bool). cond (not t) (f ∷ without slot es) (without slot es)) (slot_not f.slot slot apart)

-- where the one entry of a key is taken out, the key has none, and each other key those that it had
module _ (key : RowKey) (slot epoch : ℕ) where
  without_own : (es : Entries) → NoSlotTwice es → entries_under key es ≡ (slot, epoch) ∷ [] → entries_under key (without slot es) ≡ []
  without_own [] once e = refl
  without_own (f ∷ es) once e = by_test (is_same f.key key) refl e (without_own es once.1)
    where
      by_test : (t : Bool) → is_same f.key key ≡ t → cond t ((f.slot, f.epoch) ∷ entries_under key es) (entries_under key es) ≡ (slot, epoch) ∷ [] → (entries_under key es ≡ (slot, epoch) ∷ [] → entries_under key (without slot es) ≡ []) → entries_under key (without slot (f ∷ es)) ≡ []
      by_test true same e rest = ap (entries_under key) (goes slot f es once (ap (λ l. (head_of l).0) e)) ∙ ap tail_of e
      by_test false other e rest =
          let apart : f.slot ≢ slot = λ same. not_away key slot epoch [] es e (subst (λ s. IsAway s es) same once.0) in
          ap (entries_under key) (stays slot f es once apart)
          ∙ ap (λ (t : Bool). cond t ((f.slot, f.epoch) ∷ entries_under key (without slot es)) (entries_under key (without slot es))) other
          ∙ rest e

  without_other : (q : RowKey) → is_same key q ≡ false → (es : Entries) → NoSlotTwice es → entries_under key es ≡ (slot, epoch) ∷ [] → entries_under q (without slot es) ≡ entries_under q es
  without_other q ne [] once e = refl
  without_other q ne (f ∷ es) once e = by_test (is_same f.key key) refl e (without_other q ne es once.1)
    where
      by_test : (t : Bool) → is_same f.key key ≡ t → cond t ((f.slot, f.epoch) ∷ entries_under key es) (entries_under key es) ≡ (slot, epoch) ∷ [] → (entries_under key es ≡ (slot, epoch) ∷ [] → entries_under q (without slot es) ≡ entries_under q es) → entries_under q (without slot (f ∷ es)) ≡ entries_under q (f ∷ es)
      by_test true same e rest =
          ap (entries_under q) (goes slot f es once (ap (λ l. (head_of l).0) e))
          ∙ sym (ap (λ (t : Bool). cond t ((f.slot, f.epoch) ∷ entries_under q es) (entries_under q es)) (ap (λ k. is_same k q) (same_is_one f.key key same) ∙ ne))
      by_test false other e rest =
          let apart : f.slot ≢ slot = λ same. not_away key slot epoch [] es e (subst (λ s. IsAway s es) same once.0) in
          ap (entries_under q) (stays slot f es once apart)
          ∙ ap (λ l. cond (is_same f.key q) ((f.slot, f.epoch) ∷ l) l) (rest e)

module _ (key : RowKey) (es : Entries) (once : NoSlotTwice es) where
  own_gone : (o : Option CachedRow) → entries_under key es ≡ entry_said o → entries_under key (without_place (place_of o) es) ≡ []
  own_gone None e = e
  own_gone (Some row) e = without_own key row.place.slot row.epoch es once e

  others_stay : (q : RowKey) → is_same key q ≡ false → (o : Option CachedRow) → entries_under key es ≡ entry_said o → entries_under q (without_place (place_of o) es) ≡ entries_under q es
  others_stay q ne None e = refl
  others_stay q ne (Some row) e = without_other key row.place.slot row.epoch q ne es once e

  -- a cached row's place is in the list
  pub may_leave : (o : Option CachedRow) → entries_under key es ≡ entry_said o → IfSome (place_of o) (λ place. IsSome (found_at place.slot es))
  may_leave None e = tt
  may_leave (Some row) e = there row.place.slot es (not_away key row.place.slot row.epoch [] es e)

abbrev left : (RowKey → Option CachedRow) → Entries → RowKey → Entries
left rows es key = without_place (place_of (rows key)) es

-- A row comes: its key's old entry leaves its place, and the new one comes to the end.
pub relinked : (rows after : RowKey → Option CachedRow) (es : Entries) → NoSlotTwice es → AreLinked rows es → (key : RowKey) (row : CachedRow) → ((q : RowKey) → after q ≡ cond (is_same key q) (Some row) (rows q)) → AreLinked after (without_place (place_of (rows key)) es ++ entry row.place.slot row.epoch key ∷ [])
relinked rows after es once linked key row rows_are q =
    under_append q (left rows es key) (entry row.place.slot row.epoch key ∷ []) ∙ by_test (is_same key q) refl ∙ ap entry_said (sym (rows_are q))
  where
    by_test : (t : Bool) → is_same key q ≡ t → entries_under q (left rows es key) ++ cond t ((row.place.slot, row.epoch) ∷ []) [] ≡ entry_said (cond t (Some row) (rows q))
    by_test true same = ap (λ l. l ++ (row.place.slot, row.epoch) ∷ []) (subst (λ k. entries_under k (left rows es key) ≡ []) (same_is_one key q same) (own_gone key es once (rows key) (linked key)))
    by_test false other = append-nil (entries_under q (left rows es key)) ∙ others_stay key es once q other (rows key) (linked key) ∙ linked q

-- no entry has a later epoch
pub by_end : (epoch : ℕ) (es : Entries) (e : EpochEntry RowKey) → AllBy epoch es → e.epoch ≤ epoch → AllBy epoch (es ++ e ∷ [])
by_end epoch [] e all le = (le, tt)
by_end epoch (f ∷ es) e all le = (all.0, by_end epoch es e all.1 le)

by_filter : (epoch : ℕ) (p : EpochEntry RowKey → Bool) (es : Entries) → AllBy epoch es → AllBy epoch (filter p es)
by_filter epoch p [] all = tt
by_filter epoch p (e ∷ es) all = by_test (p e) (by_filter epoch p es all.1)
  where
    by_test : (t : Bool) → AllBy epoch (filter p es) → AllBy epoch (cond t (e ∷ filter p es) (filter p es))
    by_test true rest = (all.0, rest)
    by_test false rest = rest

pub by_without : (epoch : ℕ) (o : Option CachedRow) (es : Entries) → AllBy epoch es → AllBy epoch (without_place (place_of o) es)
by_without epoch None es all = all
by_without epoch (Some row) es all = by_filter epoch (λ e. not (e.slot == row.place.slot)) es all

pub by_more : (epoch limit : ℕ) → epoch ≤ limit → (es : Entries) → AllBy epoch es → AllBy limit es
by_more epoch limit le [] all = tt
by_more epoch limit le (e ∷ es) all = (omega (arith, all.0, le), by_more epoch limit le es all.1)

pub by_behind : (epoch : ℕ) (es : Entries) → AllBy epoch es → AllBy epoch (behind es)
by_behind epoch [] all = tt
by_behind epoch (e ∷ es) all = all.1

pub ends_by : (epoch : ℕ) (es : Entries) → AllBy epoch es → EndsBy epoch es
ends_by epoch [] all = tt
ends_by epoch (e ∷ []) all = all.0
ends_by epoch (e ∷ f ∷ es) all = ends_by epoch (f ∷ es) all.1

-- the entry at the front, where it is due
pub record Front (epoch : ℕ) (es : Entries) (key : RowKey) : Type 0 where
  pub it : EpochEntry RowKey
  pub is_front : es ≡ it ∷ behind es
  pub its_key : it.key ≡ key
  pub due : it.epoch ≤ epoch

pub front_of : (epoch : ℕ) (es : Entries) (popped : ℕ × RowKey) → first_by epoch es ≡ Some popped → Front epoch es popped.1
front_of epoch [] popped e = absurd (none_is_some popped e)
front_of epoch (f ∷ es) popped e = by_test (nat_le f.epoch epoch) refl e
  where
    by_test : (t : Bool) → nat_le f.epoch epoch ≡ t → cond t (Some (f.epoch, f.key)) None ≡ Some popped → Front epoch (f ∷ es) popped.1
    by_test true due e = record { it = f; is_front = refl; its_key = ap (λ (p : ℕ × RowKey). p.1) (same_some (f.epoch, f.key) popped e); due = grind (arith, nat_tests, due) }
    by_test false due e = absurd (none_is_some popped e)

-- The row at the front goes.
module _ (epoch : ℕ) (rows after : RowKey → Option CachedRow) (f : EpochEntry RowKey) (es : Entries) (linked : AreLinked rows (f ∷ es)) (rows_are : (q : RowKey) → after q ≡ cond (is_same f.key q) None (rows q)) where
  gone_linked : AreLinked after es
  gone_linked q = by_test (is_same f.key q) (linked q) ∙ ap entry_said (sym (rows_are q))
    where
      by_row : (o : Option CachedRow) → (f.slot, f.epoch) ∷ entries_under q es ≡ entry_said o → entries_under q es ≡ []
      by_row None e = absurd (nil_is_cons (f.slot, f.epoch) (entries_under q es) (sym e))
      by_row (Some row) e = ap tail_of e

      by_test : (t : Bool) → cond t ((f.slot, f.epoch) ∷ entries_under q es) (entries_under q es) ≡ entry_said (rows q) → entries_under q es ≡ entry_said (cond t None (rows q))
      by_test true e = by_row (rows q) e
      by_test false e = e

  gone_rows : f.epoch ≤ epoch → (q : RowKey) → if_later epoch (as_written (after q)) ≡ if_later epoch (as_written (rows q))
  gone_rows due q = ap (λ o. if_later epoch (as_written o)) (rows_are q) ∙ by_test (is_same f.key q) (linked q)
    where
      by_row : (o : Option CachedRow) → (f.slot, f.epoch) ∷ entries_under q es ≡ entry_said o → None ≡ if_later epoch (as_written o)
      by_row None e = refl
      by_row (Some row) e =
          let its : f.epoch ≡ row.epoch = ap (λ l. (head_of l).1) e in
          let earlier : nat_lt epoch row.epoch ≡ false = grind (arith, nat_tests, its, due) in
          sym (ap (λ (t : Bool). cond t (Some (written_by row)) None) earlier)

      by_test : (t : Bool) → cond t ((f.slot, f.epoch) ∷ entries_under q es) (entries_under q es) ≡ entry_said (rows q) → if_later epoch (as_written (cond t None (rows q))) ≡ if_later epoch (as_written (rows q))
      by_test true e = by_row (rows q) e
      by_test false e = refl

module _ (epoch : ℕ) (rows after : RowKey → Option CachedRow) (es : Entries) (linked : AreLinked rows es) (key : RowKey) (front : Front epoch es key) (rows_are : (q : RowKey) → after q ≡ cond (is_same key q) None (rows q)) where
  of_front : (q : RowKey) → after q ≡ cond (is_same front.it.key q) None (rows q)
  of_front q = rows_are q ∙ ap (λ k. cond (is_same k q) None (rows q)) (sym front.its_key)

  linked_front : AreLinked rows (front.it ∷ behind es)
  linked_front = subst (AreLinked rows) front.is_front linked

  pub popped_linked : AreLinked after (behind es)
  popped_linked = gone_linked epoch rows after front.it (behind es) linked_front of_front

  pub popped_rows : (q : RowKey) → if_later epoch (as_written (after q)) ≡ if_later epoch (as_written (rows q))
  popped_rows = gone_rows epoch rows after front.it (behind es) linked_front of_front front.due

-- Where the front is later, all are.
module _ (epoch : ℕ) where
  abbrev AllLater : Entries → Type 0
  AllLater es = AllByRecursion (λ e. epoch < e.epoch) es

  rise_later : (e : EpochEntry RowKey) (es : Entries) → epoch < e.epoch → EpochsRise (e ∷ es) → AllLater (e ∷ es)
  rise_later e [] lt rise = (lt, tt)
  rise_later e (f ∷ es) lt rise = (lt, rise_later f es (omega (arith, lt, rise.0)) rise.1)

  later_all : (es : Entries) → first_by epoch es ≡ None → EpochsRise es → AllLater es
  later_all [] e rise = tt
  later_all (f ∷ es) e rise = by_test (nat_le f.epoch epoch) refl e
    where
      by_test : (t : Bool) → nat_le f.epoch epoch ≡ t → cond {A = Option (ℕ × RowKey)} t (Some (f.epoch, f.key)) None ≡ None → AllLater (f ∷ es)
      by_test true due e = absurd (none_is_some (f.epoch, f.key) (sym e))
      by_test false due e = rise_later f es (grind (arith, nat_tests, due)) rise

  later_under : (q : RowKey) (slot n : ℕ) (l : List (ℕ × ℕ)) (es : Entries) → AllLater es → entries_under q es ≡ (slot, n) ∷ l → epoch < n
  later_under q slot n l [] all e = absurd (nil_is_cons (slot, n) l e)
  later_under q slot n l (f ∷ es) all e = by_test (is_same f.key q) e (later_under q slot n l es all.1)
    where
      by_test : (t : Bool) → cond t ((f.slot, f.epoch) ∷ entries_under q es) (entries_under q es) ≡ (slot, n) ∷ l → (entries_under q es ≡ (slot, n) ∷ l → epoch < n) → epoch < n
      by_test true e rest = let its : f.epoch ≡ n = ap (λ l. (head_of l).1) e in omega (arith, its, all.0)
      by_test false e rest = rest e

  pub later_rows : (rows : RowKey → Option CachedRow) (es : Entries) → AreLinked rows es → EpochsRise es → first_by epoch es ≡ None → (q : RowKey) → if_later epoch (as_written (rows q)) ≡ as_written (rows q)
  later_rows rows es linked rise e q = by_row (rows q) (linked q)
    where
      by_row : (o : Option CachedRow) → entries_under q es ≡ entry_said o → if_later epoch (as_written o) ≡ as_written o
      by_row None e = refl
      by_row (Some row) is =
          let lt : epoch < row.epoch = later_under q row.place.slot row.epoch [] es (later_all es e rise) is in
          let stays : nat_lt epoch row.epoch ≡ true = grind (arith, nat_tests, lt) in
          ap (λ (t : Bool). cond t (Some (written_by row)) None) stays

pub written_over : (t : Bool) (row : CachedRow) (o : Option CachedRow) → as_written (cond t (Some row) o) ≡ cond t (Some (written_by row)) (as_written o)
written_over true row o = refl
written_over false row o = refl

-- the epochs of a key's entries
epochs_are : (key : RowKey) (es : Entries) → epochs_under key es ≡ map (λ (it : ℕ × ℕ). it.1) (entries_under key es)
epochs_are key [] = refl
epochs_are key (e ∷ es) = by_test (is_same e.key key) (epochs_are key es)
  where
    by_test : (t : Bool) → epochs_under key es ≡ map (λ (it : ℕ × ℕ). it.1) (entries_under key es) → cond t (e.epoch ∷ epochs_under key es) (epochs_under key es) ≡ map (λ (it : ℕ × ℕ). it.1) (cond t ((e.slot, e.epoch) ∷ entries_under key es) (entries_under key es))
    by_test true rest = ap (λ l. e.epoch ∷ l) rest
    by_test false rest = rest

pub epochs_of_row : (key : RowKey) (es : Entries) (o : Option CachedRow) → entries_under key es ≡ entry_said o → epochs_under key es ≡ one_or_none (epoch_in (as_written o))
epochs_of_row key es o e = epochs_are key es ∙ ap (map (λ (it : ℕ × ℕ). it.1)) e ∙ by_row o
  where
    by_row : (o : Option CachedRow) → map (λ (it : ℕ × ℕ). it.1) (entry_said o) ≡ one_or_none (epoch_in (as_written o))
    by_row None = refl
    by_row (Some row) = refl
