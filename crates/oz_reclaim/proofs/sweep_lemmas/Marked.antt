-- When live snapshots had the first block of a deleted row for the last time.
use Rattle.std.proofs.Common.{◌≡◌, ◌⊎◌, inl, inr, ⊎_elim, ℕ, zero, suc, ◌+◌, ◌-◌, ◌<◌, ◌≤◌, Bool, true, false, List, [], Option, None, Some, Contains, refl, sym, ◌∙◌, ap, subst, arith}
use mathlib.Core.Bool.{false≢true}
use Rattle.oz_decision.specs.Walking.{is_live}
use Rattle.oz_fields.specs.declared.block.Block.{Block}
use Rattle.oz_reclaim.specs.Work.{is_marked}
use Rattle.oz_reclaim.specs.declared.sweep.notes.Note.{Note}
use Rattle.oz_reclaim.specs.sweep.Dates.{IsLastMark, LetsGo, SnapshotNames, is_marked_at}
use Rattle.oz_reclaim.specs.sweep.Dead.{first_of}
use Rattle.oz_reclaim.specs.sweep.History.{GoOn, History, notes_at}
use Rattle.oz_reclaim.specs.sweep.Kept.{IsKept}
use Rattle.oz_reclaim.specs.sweep.Notes.{names, up_to}
use Rattle.oz_reclaim.proofs.sweep_lemmas.History.{at_index, at_up_to, index_from, up_to_at}
use Rattle.oz_reclaim.proofs.sweep_lemmas.Traced.{Stays, StaysFrom, name_of, not_in_use, stands_at}
use Rattle.oz_rows.specs.declared.key.RowKey.{RowKey}
use Rattle.oz_rows.specs.declared.key.RowKey.TheVariants as keys
use Rattle.oz_rows.specs.declared.row.Row.{Row}
use Rattle.oz_rows.specs.declared.row.Row.TheVariants as rows
use Rattle.oz_rows.specs.declared.row.SnapshotState.TheVariants.{Live, Marked}
use Rattle.oz_sound.specs.Sound.{StandsIn}

-- no snapshot is live and marked
not_both : (row : Option Row) → is_live row ≡ true → is_marked row ≡ true → ⊥
not_both (Some (rows.Snapshot name previous Marked)) live marked = false≢true live
not_both (Some (rows.Snapshot name previous Live)) live marked = false≢true marked
not_both row live marked = false≢true live

abbrev pub pair_first : Option (List ℕ × List ℕ) → List ℕ
pair_first None = []
pair_first (Some (v, b)) = v

abbrev pub pair_second : Option (List ℕ × List ℕ) → List ℕ
pair_second None = []
pair_second (Some (v, b)) = b

pub rest_of : (a b : ℕ) → a ≤ b → (m : ℕ) × (a + m ≡ b)
rest_of a b le = (b - a, omega (arith, le))

module _ (at : History) (from upto : ℕ) (noted : List Note) (goes : GoOn at from upto noted) (v b k : List ℕ) (l : ℕ) (row : Row) (first : Block) (is_first : first_of row ≡ Some first) (local_is : first.local ≡ l) where
  abbrev pub Kept : ℕ → Type 0
  Kept i = IsKept (at i) v b first

  abbrev pub Here : ℕ → Type 0
  Here i = Stays at from upto noted goes v b k l row first is_first local_is i

  abbrev pub HereFrom : ℕ → Type 0
  HereFrom i = StaysFrom at from upto noted goes v b k l row first is_first local_is i

  -- what a live snapshot has of the row it had before
  pub kept_back : HereFrom from → (n : ℕ) → from + n ≤ upto → Kept (from + n) → Kept from
  kept_back stays zero high it = subst Kept (omega arith) it
  kept_back stays (suc n) high it = kept_back stays n (omega (arith, high)) (one (from + n) (omega arith) (omega (arith, high)) (subst Kept (omega arith) it))
    where
      one : (i : ℕ) → from ≤ i → suc i ≤ upto → Kept (suc i) → Kept i
      one i low high it =
          let step = goes.steps i low high in
          ⊎_elim
          (λ live. record {
            number = it.number;
            name = it.name;
            live = live;
            stands = record { row = it.stands.row; there = sym ((step.live v b it.number live).1 it.name) ∙ it.stands.there; has = it.stands.has };
          })
          (λ used. absurd (not_in_use at from upto noted goes v b k l row first is_first local_is i low (omega (arith, high)) (stays i low (omega (arith, high))) (used it.name first it.stands)))
          (step.made v b it.number it.live)

  module _ (unkept : Kept upto → ⊥) (left : ℕ) (last : IsLastMark (at upto) (up_to upto noted) first left) where
    -- behind the last mark none has it
    walk : (n : ℕ) (name : List ℕ) (m j : ℕ) → j + m ≡ upto → from ≤ j → is_live (at j (keys.Snapshot v b n)) ≡ true → StandsIn (at j) first (keys.SnapshotKey v b n name) → j < left
    walk n name zero j sum low live stands = absurd (unkept (subst Kept (omega (arith, sum)) (record { number = n; name = name; live = live; stands = stands })))
    walk n name (suc m) j sum low live stands = ⊎_elim
        (λ still. let later = walk n name m (suc j) (omega (arith, sum)) (omega (arith, low)) still behind in omega (arith, later))
        (λ marked. by_name marked (names (notes_at (suc j) noted) (keys.Snapshot v b n)) refl)
        next.0
      where
        high : suc j ≤ upto
        high = omega (arith, sum)

        next : ((is_live (at (suc j) (keys.Snapshot v b n)) ≡ true) ⊎ (is_marked (at (suc j) (keys.Snapshot v b n)) ≡ true)) × ((name : List ℕ) → at (suc j) (keys.SnapshotKey v b n name) ≡ at j (keys.SnapshotKey v b n name))
        next = (goes.steps j low high).live v b n live

        behind : StandsIn (at (suc j)) first (keys.SnapshotKey v b n name)
        behind = record { row = stands.row; there = next.1 name ∙ stands.there; has = stands.has }

        by_name : is_marked (at (suc j) (keys.Snapshot v b n)) ≡ true → (t : Bool) → names (notes_at (suc j) noted) (keys.Snapshot v b n) ≡ t → j < left
        by_name marked false e = absurd (not_both (at j (keys.Snapshot v b n)) live (ap is_marked (sym ((goes.steps j low high).differ.rows (keys.Snapshot v b n) refl e)) ∙ marked))
        by_name marked true e =
            let found = name_of (notes_at (suc j) noted) (keys.Snapshot v b n) e in
            let waits = goes.waits j upto v b n low (omega (arith, high)) (omega arith) live marked in
            let lets : LetsGo (at upto) found.0 first = (
              subst (λ (q : RowKey). is_marked_at (at upto) q ≡ true) (sym found.2) (ap is_marked waits.0 ∙ marked),
              subst (λ (q : RowKey). SnapshotNames (at upto) q first) (sym found.2) (name, record { row = stands.row; there = waits.1 name ∙ behind.there; has = stands.has }),
            ) in
            let bound = last.each found.0 (at_up_to (suc j) upto noted found.0 high found.1) lets in
            let its = (at_index (suc j) noted found.0 found.1).1 in
            omega (arith, bound, its)

    pub kept_before : (i : ℕ) → from ≤ i → i ≤ upto → Kept i → i < left
    kept_before i low high it = let rest = rest_of i upto high in walk it.number it.name rest.0 i rest.1 low it.live it.stands

    -- and right before it one had it
    pub record HadIt : Type 0 where
      pub before : ℕ
      pub is : left ≡ suc before
      pub low : from ≤ before
      pub high : suc before ≤ upto
      pub kept : Kept before

    module _ (there : Here upto) where
      of_key : (note : Note) (j : ℕ) → left ≡ suc j → note.index ≡ suc j → from ≤ j → suc j ≤ upto → Contains (notes_at (suc j) noted) note
          → (key : RowKey) → note.key ≡ key → is_marked_at (at upto) key ≡ true → SnapshotNames (at upto) key first → HadIt
      of_key note j left_is index_is low high here (keys.Snapshot w c n) key_is marked (name, stands) =
          record { before = j; is = left_is; low = low; high = high; kept = kept }
        where
          back : (m i : ℕ) → i + m ≡ upto → suc j ≤ i → (at i (keys.Snapshot w c n) ≡ at upto (keys.Snapshot w c n)) × (at i (keys.SnapshotKey w c n name) ≡ at upto (keys.SnapshotKey w c n name))
          back zero i sum le =
              let same : i ≡ upto = omega (arith, sum) in
              (ap (λ (q : ℕ). at q (keys.Snapshot w c n)) same, ap (λ (q : ℕ). at q (keys.SnapshotKey w c n name)) same)
          back (suc m) i sum le = by (names (notes_at (suc i) noted) (keys.Snapshot w c n)) refl (back m (suc i) (omega (arith, sum)) (omega (arith, le)))
            where
              by : (t : Bool) → names (notes_at (suc i) noted) (keys.Snapshot w c n) ≡ t
                  → (at (suc i) (keys.Snapshot w c n) ≡ at upto (keys.Snapshot w c n)) × (at (suc i) (keys.SnapshotKey w c n name) ≡ at upto (keys.SnapshotKey w c n name))
                  → (at i (keys.Snapshot w c n) ≡ at upto (keys.Snapshot w c n)) × (at i (keys.SnapshotKey w c n name) ≡ at upto (keys.SnapshotKey w c n name))
              by false e later =
                  let differ = (goes.steps i (omega (arith, low, le)) (omega (arith, sum))).differ in
                  (sym (differ.rows (keys.Snapshot w c n) refl e) ∙ later.0, sym (differ.keys w c name n e) ∙ later.1)
              by true e later =
                  let found = name_of (notes_at (suc i) noted) (keys.Snapshot w c n) e in
                  let lets : LetsGo (at upto) found.0 first = (subst (λ (q : RowKey). is_marked_at (at upto) q ≡ true) (sym found.2) marked, subst (λ (q : RowKey). SnapshotNames (at upto) q first) (sym found.2) (name, stands)) in
                  let bound = last.each found.0 (at_up_to (suc i) upto noted found.0 (omega (arith, sum)) found.1) lets in
                  let its = (at_index (suc i) noted found.0 found.1).1 in
                  absurd (omega (arith, bound, its, le, left_is))

          kept : Kept j
          kept =
              let rest = rest_of (suc j) upto high in
              let same = back rest.0 (suc j) rest.1 (omega arith) in
              let step = goes.steps j low high in
              let live_key = step.marks note here (subst (λ (q : RowKey). is_marked_at (at (suc j)) q ≡ true) (sym key_is) (ap is_marked same.0 ∙ marked)) in
              let live : is_live (at j (keys.Snapshot w c n)) ≡ true = subst (λ (q : RowKey). is_live (at j q) ≡ true) key_is live_key in
              let it : IsKept (at j) w c first = record {
                number = n;
                name = name;
                live = live;
                stands = record { row = stands.row; there = sym ((step.live w c n live).1 name) ∙ same.1 ∙ stands.there; has = stands.has };
              } in
              let one = (goes.sound upto (omega (arith, low, high)) (omega arith)).one_bucket first (keys.Deleted v b there.0 k l) (keys.SnapshotKey w c n name) (stands_at at from upto noted goes v b k l row first is_first local_is upto there) stands in
              subst (λ (x : List ℕ). IsKept (at j) x b first) (sym (ap pair_first one)) (subst (λ (y : List ℕ). IsKept (at j) w y first) (sym (ap pair_second one)) it)
      of_key note j left_is index_is low high here key key_is marked named = absurd (false≢true marked)

      of_note : (note : Note) → Contains (up_to upto noted) note → LetsGo (at upto) note first → note.index ≡ left → HadIt
      of_note note listed lets index_is =
          let found = up_to_at upto noted note listed in
          let least = index_from (suc from) noted note goes.rise (at_index note.index noted note found.0).0 in
          let j : ℕ = left - 1 in
          let left_is : left ≡ suc j = omega (arith, least, index_is) in
          let its : note.index ≡ suc j = index_is ∙ left_is in
          of_key note j left_is its (omega (arith, least, its)) (omega (arith, found.1, its)) (subst (λ (q : ℕ). Contains (notes_at q noted) note) its found.0) note.key refl lets.0 lets.1

      pub had_it : (left ≡ 0) ⊎ HadIt
      had_it = ⊎_elim inl (λ it. inr (of_note it.0 it.1 it.2 it.3)) last.is
