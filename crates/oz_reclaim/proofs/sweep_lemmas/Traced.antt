-- A dead row is traced back to where it was made, and what notes say of it on the way.
use Rattle.std.proofs.Common.{◌≡◌, ◌⊎◌, inl, inr, ⊎_elim, ℕ, zero, suc, ◌+◌, ◌<◌, ◌≤◌, ◌&&◌, Bool, true, false, not, List, [], ◌∷◌, ◌++◌, Option, None, Some, IsSome, is_some, cond, Contains, refl, sym, ◌∙◌, ap, subst, arith, append-nil, append_assoc}
use mathlib.Core.Bool.{false≢true}
use Rattle.std.proofs.lemmas.Cmp.{nat_cmp_total, tied_itself}
use Rattle.std.proofs.lemmas.List.Elements.{Contains-append_right, Contains-push_cases}
use Rattle.std.proofs.lemmas.Option.{same_Some}
use Rattle.std.specs.FinMap.{nat_cmp-IsAntisymmetric}
use Rattle.std.proofs.lemmas.List.Folds.{Any-from_list_any}
use Rattle.std.specs.List.{Any, list_any}
use Rattle.std.specs.Ordering.{nat_cmp, is_eq}
use Rattle.oz_fields.specs.declared.block.Block.{Block}
use Rattle.oz_reclaim.specs.declared.sweep.births.Birth.{Birth}
use Rattle.oz_reclaim.specs.declared.sweep.notes.Note.{Note}
use Rattle.oz_reclaim.specs.laws.Reach.{among}
use Rattle.oz_reclaim.specs.sweep.Dates.{Dates, births, births_from, born, born_after, date_in, gone_or, is_local, is_moved, or_zero, since_or}
use Rattle.oz_reclaim.specs.sweep.Dead.{first_of}
use Rattle.oz_reclaim.specs.sweep.History.{GoOn, History, IsInUse, notes_at}
use Rattle.oz_reclaim.specs.sweep.Notes.{is_noted, names, up_to}
use Rattle.oz_reclaim.proofs.sweep_lemmas.History.{at_index, behind_in, births_split, first_in, is_equal, level_or_above, none_up_to, not_equal, up_to_at}
use Rattle.oz_rows.specs.declared.key.RowKey.{RowKey}
use Rattle.oz_rows.specs.declared.key.RowKey.TheVariants as keys
use Rattle.oz_rows.specs.declared.row.Row.{Row}
use Rattle.oz_rows.specs.declared.row.Row.TheVariants as rows
use Rattle.oz_rows.specs.Rows.{ValueFits, kind_of}
use Rattle.oz_rows.specs.RowMaps.{Rows, is_block, is_same}
use Rattle.oz_rows.specs.laws.Order.{equal_from_test}
use Rattle.oz_rows.specs.laws.Same.{same_is_one}
use Rattle.oz_sound.specs.Sound.{StandsIn, blocks_of}

-- ---- rows and local ids

-- a row has its first block
pub first_stands : (row : Row) (first : Block) → first_of row ≡ Some first → list_any (is_block first) (blocks_of row) ≡ true
first_stands (rows.Deleted []) first e = absurd (false≢true (ap is_some e))
first_stands (rows.Deleted (x ∷ others)) first e = among first (x ∷ others) (subst (Contains (x ∷ others)) (same_Some x first e) (first_in x others))
first_stands row first e = absurd (false≢true (ap is_some e))

pub same_local : (a b : ℕ) → is_eq (nat_cmp a b) ≡ true → a ≡ b
same_local a b e = nat_cmp-IsAntisymmetric a b (equal_from_test (nat_cmp a b) e)

-- a deleted row that keeps the grammar has a first block, with its local id
pub record First (local : ℕ) (row : Row) : Type 0 where
  pub block : Block
  pub is : first_of row ≡ Some block
  pub local_is : block.local ≡ local

pub first_fits : (v b k : List ℕ) (o local : ℕ) (row : Row) → ValueFits (keys.Deleted v b o k local) row → First local row
first_fits v b k o local (rows.Deleted []) fits = absurd fits.1
first_fits v b k o local (rows.Deleted (x ∷ others)) fits = record { block = x; is = refl; local_is = fits.1 }
first_fits v b k o local row fits = absurd fits

some_of : (o : Option Row) → IsSome o → (row : Row) × (o ≡ Some row)
some_of None e = absurd (false≢true e)
some_of (Some row) e = (row, refl)

local_kind : (local : ℕ) (key : RowKey) → is_local local key ≡ true → kind_of key ≡ 5
local_kind local (keys.Deleted v b o k l) e = refl
local_kind local key e = absurd (false≢true e)

noted_local : (local : ℕ) (key : RowKey) → is_local local key ≡ true → is_noted key ≡ true
noted_local local (keys.Deleted v b o k l) e = refl
noted_local local key e = absurd (false≢true e)

pub itself_local : (l : ℕ) → is_eq (nat_cmp l l) ≡ true
itself_local l = ap is_eq (tied_itself nat_cmp_total l)

not_is : (t : Bool) → not t ≡ true → t ≡ false
not_is false e = refl
not_is true e = absurd (false≢true e)

-- ---- what notes of one transaction say of one local id

-- a key that is named is that of a note
pub name_of : (notes : List Note) (key : RowKey) → names notes key ≡ true → (note : Note) × Contains notes note × (note.key ≡ key)
name_of notes key e =
    let found : Any (λ (note : Note). is_same note.key key ≡ true) notes = Any-from_list_any (λ (note : Note). is_same note.key key) notes e in
    (found.1, (found.0, found.2, found.3), same_is_one found.1.key key found.4)

module _ (before now : Rows) (index : ℕ) (notes : List Note) (dates : Dates) (l : ℕ) (s : Option Birth)
    (at : (note : Note) → Contains notes note → note.index ≡ index)
    (told : (note : Note) → Contains notes note → kind_of note.key ≡ 5 → (is_some (now note.key) ≡ note.is_put) × (is_some (before note.key) ≡ not note.is_put)) where
  -- nothing was taken away so far
  abbrev NoneGone : List Note → Type 0
  NoneGone front = (note : Note) → Contains front note → is_local l note.key ≡ true → note.is_put ≡ false → ⊥

  there_of : (front behind : List Note) (note : Note) → notes ≡ front ++ note ∷ behind → Contains notes note
  there_of front behind note parts = subst (λ (m : List Note). Contains m note) (sym parts) (Contains-append_right front (note ∷ behind) note (first_in note behind))

  module _ (key : RowKey) (alone : (other : RowKey) → is_local l other ≡ true → IsSome (before other) → other ≡ key)
      (order : (front behind : List Note) (note : Note) → notes ≡ front ++ note ∷ behind → note.is_put ≡ true → is_local l note.key ≡ true
      → (gone : Note) × Contains front gone × (gone.is_put ≡ false) × (is_local l gone.key ≡ true)) where
    -- the row is moved, or nothing is said of it
    abbrev Moves : List Note → Option Birth → Type 0
    Moves front state = ((state ≡ s) × NoneGone front) ⊎ ((birth : Birth) × (state ≡ Some birth) × (birth.since ≡ since_or dates key s) × (birth.gone ≡ index))

    one : (front behind : List Note) (note : Note) (state : Option Birth) → notes ≡ front ++ note ∷ behind → Moves front state → Moves (front ++ note ∷ []) (born_after dates l state note)
    one front behind note state parts moves = by (is_local l note.key) refl
      where
        here : Contains notes note
        here = there_of front behind note parts

        passed : is_local l note.key ≡ false → Moves front state → Moves (front ++ note ∷ []) state
        passed other (inl (same, none)) = inl (
          same,
          λ x there is put. ⊎_elim
              (λ old. none x old is put)
              (λ last. false≢true (sym other ∙ ap (λ (n : Note). is_local l n.key) last ∙ is))
              (Contains-push_cases front note x there),
        )
        passed other (inr moved) = inr moved

        -- it is taken away
        gone : is_local l note.key ≡ true → note.is_put ≡ false → Moves front state → Moves (front ++ note ∷ []) (Some (born dates note state))
        gone is put moves_so =
            let its_key = alone note.key is ((told note here (local_kind l note.key is)).1 ∙ ap not put) in
            let since : (born dates note state).since ≡ since_or dates key state = ap (λ (t : Bool). cond (t && not (is_moved note state)) note.index (since_or dates note.key state)) put ∙ ap (λ (k : RowKey). since_or dates k state) its_key in
            let at_index : (born dates note state).gone ≡ index = ap (λ (t : Bool). cond t (gone_or state) note.index) put ∙ at note here in
            inr (
              born dates note state,
              refl,
              since ∙ ⊎_elim
                  (λ first. ap (since_or dates key) first.0)
                  (λ moved. ap (since_or dates key) moved.1 ∙ moved.2)
                  moves_so,
              at_index,
            )

        -- it is put again
        put_again : is_local l note.key ≡ true → note.is_put ≡ true → Moves front state → Moves (front ++ note ∷ []) (Some (born dates note state))
        put_again is put (inl (same, none)) = let found = order front behind note parts put is in absurd (none found.0 found.1 found.3 found.2)
        put_again is put (inr (birth, state_is, since_is, gone_is)) =
            let moved : is_moved note state ≡ true = ap (is_moved note) state_is ∙ is_equal birth.gone note.index (gone_is ∙ sym (at note here)) in
            let since : (born dates note state).since ≡ since_or dates note.key state =
            ap (λ (t : Bool). cond (t && not (is_moved note state)) note.index (since_or dates note.key state)) put
            ∙ ap (λ (t : Bool). cond (not t) note.index (since_or dates note.key state)) moved in
            let last : (born dates note state).gone ≡ birth.gone = ap (λ (t : Bool). cond t (gone_or state) note.index) put ∙ ap gone_or state_is in
            inr (born dates note state, refl, since ∙ ap (since_or dates note.key) state_is ∙ since_is, last ∙ gone_is)

        by_put : (t : Bool) → note.is_put ≡ t → is_local l note.key ≡ true → Moves (front ++ note ∷ []) (Some (born dates note state))
        by_put false put is = gone is put moves
        by_put true put is = put_again is put moves

        by : (t : Bool) → is_local l note.key ≡ t → Moves (front ++ note ∷ []) (cond (is_local l note.key) (Some (born dates note state)) state)
        by false e = subst (λ (t : Bool). Moves (front ++ note ∷ []) (cond t (Some (born dates note state)) state)) (sym e) (passed e moves)
        by true e = subst (λ (t : Bool). Moves (front ++ note ∷ []) (cond t (Some (born dates note state)) state)) (sym e) (by_put note.is_put refl e)

    rest : (front behind : List Note) (state : Option Birth) → notes ≡ front ++ behind → Moves front state → Moves notes (births_from dates l state behind)
    rest front [] state parts moves = subst (λ (m : List Note). Moves m state) (sym (parts ∙ append-nil front)) moves
    rest front (note ∷ behind) state parts moves =
        rest (front ++ note ∷ []) behind (born_after dates l state note) (parts ∙ sym (append_assoc front (note ∷ []) behind)) (one front behind note state parts moves)

    pub moved_by : ((births_from dates l s notes ≡ s) × ((note : Note) → Contains notes note → is_local l note.key ≡ true → note.is_put ≡ false → ⊥))
        ⊎ ((birth : Birth) × (births_from dates l s notes ≡ Some birth) × (birth.since ≡ since_or dates key s))
    moved_by = ⊎_elim (λ first. inl first) (λ moved. inr (moved.0, moved.1, moved.2)) (rest [] notes s refl (inl (refl, λ note there. absurd (omega (arith, there.1)))))

  -- where no deleted row has the local id, one that comes is new
  module _ (absent : (other : RowKey) → is_local l other ≡ true → IsSome (before other) → ⊥) (early : (birth : Birth) → s ≡ Some birth → birth.gone < index) where
    abbrev NoneLocal : List Note → Type 0
    NoneLocal front = (note : Note) → Contains front note → is_local l note.key ≡ true → ⊥

    abbrev Comes : List Note → Option Birth → Type 0
    Comes front state = ((state ≡ s) × NoneLocal front) ⊎ ((birth : Birth) × (state ≡ Some birth) × (birth.since ≡ index) × (birth.gone < index))

    gone_early : (state : Option Birth) (front : List Note) → 0 < index → Comes front state → gone_or state < index
    gone_early state front some (inl (same, none)) = by s refl
      where
        by : (o : Option Birth) → s ≡ o → gone_or state < index
        by None e = subst (λ (o : Option Birth). gone_or o < index) (sym (same ∙ e)) some
        by (Some birth) e = subst (λ (o : Option Birth). gone_or o < index) (sym (same ∙ e)) (early birth e)
    gone_early state front some (inr (birth, state_is, since_is, lt)) = subst (λ (o : Option Birth). gone_or o < index) (sym state_is) lt

    unmoved : (note : Note) (state : Option Birth) (front : List Note) → note.index ≡ index → Comes front state → is_moved note state ≡ false
    unmoved note state front is comes = by state refl
      where
        of_birth : (birth : Birth) → state ≡ Some birth → Comes front state → birth.gone < index
        of_birth birth e (inl (same, none)) = early birth (sym same ∙ e)
        of_birth birth e (inr (other, state_is, since_is, lt)) = subst (λ (n : ℕ). n < index) (ap gone_or (sym state_is ∙ e)) lt

        by : (o : Option Birth) → state ≡ o → is_moved note state ≡ false
        by None e = ap (is_moved note) e
        by (Some birth) e = ap (is_moved note) e ∙ not_equal birth.gone note.index (subst (λ (n : ℕ). birth.gone < n) (sym is) (of_birth birth e comes))

    step : 0 < index → (front behind : List Note) (note : Note) (state : Option Birth) → notes ≡ front ++ note ∷ behind → Comes front state → Comes (front ++ note ∷ []) (born_after dates l state note)
    step some front behind note state parts comes = by (is_local l note.key) refl
      where
        here : Contains notes note
        here = there_of front behind note parts

        passed : is_local l note.key ≡ false → Comes front state → Comes (front ++ note ∷ []) state
        passed other (inl (same, none)) = inl (
          same,
          λ x there is. ⊎_elim
              (λ old. none x old is)
              (λ last. false≢true (sym other ∙ ap (λ (n : Note). is_local l n.key) last ∙ is))
              (Contains-push_cases front note x there),
        )
        passed other (inr came) = inr came

        by_put : (t : Bool) → note.is_put ≡ t → is_local l note.key ≡ true → Comes (front ++ note ∷ []) (Some (born dates note state))
        by_put false put is = absurd (absent note.key is ((told note here (local_kind l note.key is)).1 ∙ ap not put))
        by_put true put is =
            let since : (born dates note state).since ≡ note.index =
            ap (λ (t : Bool). cond (t && not (is_moved note state)) note.index (since_or dates note.key state)) put
            ∙ ap (λ (t : Bool). cond (not t) note.index (since_or dates note.key state)) (unmoved note state front (at note here) comes) in
            let last : (born dates note state).gone ≡ gone_or state = ap (λ (t : Bool). cond t (gone_or state) note.index) put in
            inr (born dates note state, refl, since ∙ at note here, subst (λ (n : ℕ). n < index) (sym last) (gone_early state front some comes))

        by : (t : Bool) → is_local l note.key ≡ t → Comes (front ++ note ∷ []) (cond (is_local l note.key) (Some (born dates note state)) state)
        by false e = subst (λ (t : Bool). Comes (front ++ note ∷ []) (cond t (Some (born dates note state)) state)) (sym e) (passed e comes)
        by true e = subst (λ (t : Bool). Comes (front ++ note ∷ []) (cond t (Some (born dates note state)) state)) (sym e) (by_put note.is_put refl e)

    on : 0 < index → (front behind : List Note) (state : Option Birth) → notes ≡ front ++ behind → Comes front state → Comes notes (births_from dates l state behind)
    on some front [] state parts comes = subst (λ (m : List Note). Comes m state) (sym (parts ∙ append-nil front)) comes
    on some front (note ∷ behind) state parts comes =
        on some (front ++ note ∷ []) behind (born_after dates l state note) (parts ∙ sym (append_assoc front (note ∷ []) behind)) (step some front behind note state parts comes)

    pub born_by : 0 < index → ((birth : Birth) × (births_from dates l s notes ≡ Some birth) × (birth.since ≡ index))
        ⊎ ((note : Note) → Contains notes note → is_local l note.key ≡ true → ⊥)
    born_by some = ⊎_elim (λ first. inr first.1) (λ came. inl (came.0, came.1, came.2)) (on some [] notes s refl (inl (refl, λ note there. absurd (omega (arith, there.1)))))

-- what was last taken away was so by a note
pub gone_within : (dates : Dates) (l most : ℕ) (notes : List Note) (before : Option Birth) → ((note : Note) → Contains notes note → note.index ≤ most) → gone_or before ≤ most → gone_or (births_from dates l before notes) ≤ most
gone_within dates l most [] before all le = le
gone_within dates l most (note ∷ notes) before all le =
    gone_within dates l most notes (born_after dates l before note) (λ other there. all other (behind_in other note notes there)) (by (is_local l note.key))
  where
    by_put : (t : Bool) → cond t (gone_or before) note.index ≤ most
    by_put true = le
    by_put false = all note (first_in note notes)

    by : (t : Bool) → gone_or (cond t (Some (born dates note before)) before) ≤ most
    by true = by_put note.is_put
    by false = le

-- ---- the trace of one row

module _ (at : History) (from upto : ℕ) (noted : List Note) (goes : GoOn at from upto noted) (v b k : List ℕ) (l : ℕ) (row : Row) (first : Block) (is_first : first_of row ≡ Some first) (local_is : first.local ≡ l) where
  -- the row is there at an index, under some owner
  abbrev pub Stays : ℕ → Type 0
  Stays i = (owner : ℕ) × (at i (keys.Deleted v b owner k l) ≡ Some row)

  abbrev pub StaysFrom : ℕ → Type 0
  StaysFrom i = (j : ℕ) → i ≤ j → j ≤ upto → Stays j

  -- it was made at an index
  pub record Made : Type 0 where
    pub index : ℕ
    pub low : from ≤ index
    pub high : suc index ≤ upto
    pub stays : StaysFrom (suc index)
    pub in_use : (block : Block) → list_any (is_block block) (blocks_of row) ≡ true → IsInUse (at index) block

  pub stands_at : (i : ℕ) → (it : Stays i) → StandsIn (at i) first (keys.Deleted v b it.0 k l)
  stands_at i it = record { row = row; there = it.1; has = first_stands row first is_first }

  pub is_local_id : (owner : ℕ) → is_local first.local (keys.Deleted v b owner k l) ≡ true
  is_local_id owner = subst (λ (n : ℕ). is_eq (nat_cmp l n) ≡ true) (sym local_is) (itself_local l)

  pub not_in_use : (i : ℕ) → from ≤ i → i ≤ upto → Stays i → IsInUse (at i) first → ⊥
  not_in_use i low high it used = goes.never_back i i (keys.Deleted v b it.0 k l) first low (omega arith) high (is_local_id it.0) (ap is_some it.1) used

  -- no other deleted row has its local id
  pub alone : (i : ℕ) → from ≤ i → i ≤ upto → (it : Stays i) → (other : RowKey) → is_local l other ≡ true → IsSome (at i other) → other ≡ keys.Deleted v b it.0 k l
  alone i low high it (keys.Deleted w c o m n) is there =
      let found = some_of (at i (keys.Deleted w c o m n)) there in
      let own = first_fits w c m o n found.0 (goes.fit i low high (keys.Deleted w c o m n) found.0 found.1).1 in
      let its : StandsIn (at i) own.block (keys.Deleted w c o m n) = record { row = found.0; there = found.1; has = first_stands found.0 own.block own.is } in
      let one = (goes.sound i low high).one_local own.block first (keys.Deleted w c o m n) (keys.Deleted v b it.0 k l) its (stands_at i it) (own.local_is ∙ same_local n l is ∙ sym local_is) in
      (goes.sound i low high).one_home first (keys.Deleted w c o m n) (keys.Deleted v b it.0 k l) tt tt (subst (λ (x : Block). StandsIn (at i) x (keys.Deleted w c o m n)) one its) (stands_at i it)
  alone i low high it other is there = absurd (false≢true is)

  pub trace : (n i : ℕ) → i + n ≡ upto → from ≤ i → Stays upto → StaysFrom i ⊎ Made
  trace zero i sum low it = inl (λ j le high. subst Stays (omega (arith, sum, le, high)) it)
  trace (suc n) i sum low it = ⊎_elim here inr (trace n (suc i) (omega (arith, sum)) (omega (arith, low)) it)
    where
      here : StaysFrom (suc i) → StaysFrom i ⊎ Made
      here stays = ⊎_elim
          (λ before. inl (λ j le high. ⊎_elim (λ same. subst Stays (sym same) before) (λ later. stays j later high) (level_or_above i j le)))
          (λ used. inr (record { index = i; low = low; high = omega (arith, sum); stays = stays; in_use = used }))
          ((goes.steps i low (omega (arith, sum))).came v b k (stays (suc i) (omega arith) (omega (arith, sum))).0 l row (stays (suc i) (omega arith) (omega (arith, sum))).1)

  module _ (dates : Dates) where
    abbrev said : ℕ → Option Birth
    said i = births dates (up_to i noted) l

    -- one step on, while the row stays
    on_from : (i : ℕ) (low : from ≤ i) (high : suc i ≤ upto) (it : Stays i)
        → ((said (suc i) ≡ said i) × ((note : Note) → Contains (notes_at (suc i) noted) note → is_local l note.key ≡ true → note.is_put ≡ false → ⊥))
        ⊎ ((birth : Birth) × (said (suc i) ≡ Some birth) × (birth.since ≡ since_or dates (keys.Deleted v b it.0 k l) (said i)))
    on_from i low high it =
        let one = goes.steps i low high in
        let key = keys.Deleted v b it.0 k l in
        let is_it : is_local l key ≡ true = itself_local l in
        let split = births_split dates l i (suc from) noted goes.rise in
        ⊎_elim
        (λ same. inl (split ∙ same.0, same.1))
        (λ moved. inr (moved.0, split ∙ moved.1, moved.2))
        (moved_by (at i) (at (suc i)) (suc i) (notes_at (suc i) noted) dates l (said i) (λ note there. (at_index (suc i) noted note there).1) one.told key (alone i low (omega (arith, high)) it)
        (λ front behind note parts put is. one.order front behind note parts put l is key is_it (ap is_some it.1)))

    -- a row of which nothing is said that takes it away stays under its owner
    still : (i : ℕ) (low : from ≤ i) (high : suc i ≤ upto) (it : Stays i) → ((note : Note) → Contains (notes_at (suc i) noted) note → is_local l note.key ≡ true → note.is_put ≡ false → ⊥)
        → at (suc i) (keys.Deleted v b it.0 k l) ≡ Some row
    still i low high it none = by (names (notes_at (suc i) noted) (keys.Deleted v b it.0 k l)) refl
      where
        by : (t : Bool) → names (notes_at (suc i) noted) (keys.Deleted v b it.0 k l) ≡ t → at (suc i) (keys.Deleted v b it.0 k l) ≡ Some row
        by false e = (goes.steps i low high).differ.rows (keys.Deleted v b it.0 k l) refl e ∙ it.1
        by true e =
            let found = name_of (notes_at (suc i) noted) (keys.Deleted v b it.0 k l) e in
            let is : is_local l found.0.key ≡ true = ap (is_local l) found.2 ∙ itself_local l in
            let there : is_some (at i found.0.key) ≡ true = ap (λ (q : RowKey). is_some (at i q)) found.2 ∙ ap is_some it.1 in
            absurd (none found.0 found.1 is (not_is found.0.is_put (sym ((goes.steps i low high).told found.0 found.1 (local_kind l found.0.key is)).1 ∙ there)))

    -- a row that comes is told
    unseen : (e : ℕ) (low : from ≤ e) (high : suc e ≤ upto) → Stays (suc e) → ((other : RowKey) → is_local l other ≡ true → IsSome (at e other) → ⊥)
        → ((note : Note) → Contains (notes_at (suc e) noted) note → is_local l note.key ≡ true → ⊥) → ⊥
    unseen e low high now none unsaid = by (names (notes_at (suc e) noted) (keys.Deleted v b now.0 k l)) refl
      where
        by : (t : Bool) → names (notes_at (suc e) noted) (keys.Deleted v b now.0 k l) ≡ t → ⊥
        by false f =
            none (keys.Deleted v b now.0 k l) (itself_local l) (ap is_some (sym ((goes.steps e low high).differ.rows (keys.Deleted v b now.0 k l) refl f) ∙ now.1))
        by true f =
            let found = name_of (notes_at (suc e) noted) (keys.Deleted v b now.0 k l) f in
            unsaid found.0 found.1 (ap (is_local l) found.2 ∙ itself_local l)

    -- right when the row was made
    first_birth : (made : Made) → (birth : Birth) × (said (suc made.index) ≡ Some birth) × (birth.since ≡ suc made.index)
    first_birth made =
        let one = goes.steps made.index made.low made.high in
        let split = births_split dates l made.index (suc from) noted goes.rise in
        let none : (other : RowKey) → is_local l other ≡ true → IsSome (at made.index other) → ⊥ = λ other is there.
        goes.never_back made.index made.index other first made.low (omega arith) (omega (arith, made.high)) (subst (λ (n : ℕ). is_local n other ≡ true) (sym local_is) is) there (made.in_use first (first_stands row first is_first)) in
        ⊎_elim
        (λ came. (came.0, split ∙ came.1, came.2))
        (λ unsaid. absurd (unseen made.index made.low made.high (made.stays (suc made.index) (omega arith) made.high) none unsaid))
        (born_by (at made.index) (at (suc made.index)) (suc made.index) (notes_at (suc made.index) noted) dates l (said made.index) (λ note there. (at_index (suc made.index) noted note there).1) one.told none
        (λ birth is. early made.index birth is) (omega arith))
      where
        early : (e : ℕ) (birth : Birth) → said e ≡ Some birth → birth.gone < suc e
        early e birth is =
            let bound = gone_within dates l e (up_to e noted) None (λ note there. (up_to_at e noted note there).1) (omega arith) in
            let here = subst (λ (o : Option Birth). gone_or o ≤ e) is bound in
            omega (arith, here)

    -- and ever since
    pub born_at : (made : Made) (n : ℕ) → suc made.index + n ≤ upto → (birth : Birth) × (said (suc made.index + n) ≡ Some birth) × (birth.since ≡ suc made.index)
    born_at made zero high = subst (λ (j : ℕ). (birth : Birth) × (said j ≡ Some birth) × (birth.since ≡ suc made.index)) (omega arith) (first_birth made)
    born_at made (suc n) high = subst (λ (j : ℕ). (birth : Birth) × (said j ≡ Some birth) × (birth.since ≡ suc made.index)) (omega arith) (more (suc made.index + n) (omega (arith, made.low)) (omega (arith, high)) (made.stays (suc made.index + n) (omega arith) (omega (arith, high))) (born_at made n (omega (arith, high))))
      where
        more : (i : ℕ) → from ≤ i → suc i ≤ upto → Stays i → (birth : Birth) × (said i ≡ Some birth) × (birth.since ≡ suc made.index) → (birth : Birth) × (said (suc i) ≡ Some birth) × (birth.since ≡ suc made.index)
        more i low high it (birth, is, since) = ⊎_elim
            (λ same. (birth, same.0 ∙ is, since))
            (λ moved. (moved.0, moved.1, moved.2 ∙ ap (since_or dates (keys.Deleted v b it.0 k l)) is ∙ since))
            (on_from i low high it)

    -- a row that was there all the time: nothing was said of it, or what was known before
    abbrev pub Known : Stays from → ℕ → Type 0
    Known it i = ((said i ≡ None) × (at i (keys.Deleted v b it.0 k l) ≡ Some row))
        ⊎ ((birth : Birth) × (said i ≡ Some birth) × (birth.since ≡ or_zero (date_in dates (keys.Deleted v b it.0 k l))))

    pub known_at : (it : Stays from) → StaysFrom from → (n : ℕ) → from + n ≤ upto → Known it (from + n)
    known_at it stays zero high = subst (Known it) (omega arith) (inl (ap (λ (m : List Note). births dates m l) (none_up_to from (suc from) noted goes.rise (omega arith)), it.1))
    known_at it stays (suc n) high = subst (Known it) (omega arith) (more (from + n) (omega arith) (omega (arith, high)) (known_at it stays n (omega (arith, high))))
      where
        more : (i : ℕ) → from ≤ i → suc i ≤ upto → Known it i → Known it (suc i)
        more i low high (inl (none, there)) = ⊎_elim
            (λ same. inl (same.0 ∙ none, still i low high (it.0, there) same.1))
            (λ moved. inr (moved.0, moved.1, moved.2 ∙ ap (since_or dates (keys.Deleted v b it.0 k l)) none))
            (on_from i low high (it.0, there))
        more i low high (inr (birth, is, since)) = ⊎_elim
            (λ same. inr (birth, same.0 ∙ is, since))
            (λ moved. inr (moved.0, moved.1, moved.2 ∙ ap (since_or dates (keys.Deleted v b (stays i low (omega (arith, high))).0 k l)) is ∙ since))
            (on_from i low high (stays i low (omega (arith, high))))
