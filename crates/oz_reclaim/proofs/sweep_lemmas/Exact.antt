-- The dates of dead rows are exact.
use Rattle.std.proofs.Common.{◌≡◌, ◌⊎◌, inl, inr, ⊎_elim, ℕ, suc, ◌<◌, ◌≤◌, nat_le, max, Bool, true, false, List, Option, None, Some, is_some, refl, sym, ◌∙◌, ap, subst, arith}
use mathlib.Core.Bool.{false≢true}
use Rattle.std.proofs.lemmas.Option.{same_Some}
use Rattle.std.specs.List.{list_any}
use Rattle.oz_decision.specs.Walking.{is_live}
use Rattle.oz_fields.specs.declared.block.Block.{Block}
use Rattle.oz_reclaim.specs.Reach.{IsShown, is_shown}
use Rattle.oz_reclaim.specs.laws.Reach.{live_row}
use Rattle.oz_reclaim.specs.declared.sweep.births.Birth.{Birth}
use Rattle.oz_reclaim.specs.sweep.Dates.{AreDated, IsDate, IsLastMark, births, date_in, or_zero, since_in}
use Rattle.oz_reclaim.specs.sweep.Dead.{HasDead, IsDeadRow, first_of}
use Rattle.oz_reclaim.specs.sweep.History.{AreDatedSo, AreExact, GoOn, HasBegun, History, IsInUse, LeftAt, is_in_use}
use Rattle.oz_reclaim.specs.sweep.Kept.{IsKept}
use Rattle.oz_reclaim.specs.sweep.Notes.{up_to}
use Rattle.oz_reclaim.specs.sweep.Swept.{IsSwept}
use Rattle.oz_reclaim.specs.sweep.View.{SweepView, date_of, dead_of}
use Rattle.oz_reclaim.proofs.sweep_lemmas.History.{is_over, is_under}
use Rattle.oz_reclaim.proofs.sweep_lemmas.Marked.{HadIt, Here, HereFrom, had_it, kept_back, kept_before, pair_first, pair_second, rest_of}
use Rattle.oz_reclaim.proofs.sweep_lemmas.Traced.{Known, Made, alone, born_at, first_fits, first_stands, is_local_id, itself_local, known_at, trace}
use Rattle.oz_rows.specs.declared.key.RowKey.{RowKey}
use Rattle.oz_rows.specs.declared.key.RowKey.TheVariants as keys
use Rattle.oz_rows.specs.declared.row.Row.{Row}
use Rattle.oz_rows.specs.Rows.{kind_of}
use Rattle.oz_rows.specs.RowMaps.{Rows, is_block}
use Rattle.oz_sound.specs.Sound.{SnapshotHas, StandsIn, blocks_of}

used_shows : (all : Rows) (block : Block) → IsInUse all block → IsShown all block
used_shows all block it = record { key = it.key; shown = by it.key it.in_use; stands = it.stands }
  where
    by : (key : RowKey) → is_in_use key ≡ true → is_shown all key ≡ true
    by (keys.Key v b k) e = refl
    by (keys.Open v b k n) e = refl
    by key e = absurd (false≢true e)

module _ (at : History) (base from upto : ℕ) (old : SweepView) (low : base ≤ from) (high : from ≤ upto) (goes : GoOn at from upto old.noted) (begun : HasBegun at base from old)
    (dated : AreDated old.dead old.dates) (exact : AreExact at base old) where
  module _ (v b k : List ℕ) (owner l : ℕ) (row : Row) (first : Block) (is_first : first_of row ≡ Some first) (local_is : first.local ≡ l)
      (there : at upto (keys.Deleted v b owner k l) ≡ Some row) (unkept : IsKept (at upto) v b first → ⊥) (block : Block) (in_row : list_any (is_block block) (blocks_of row) ≡ true) where
    abbrev Stay : ℕ → Type 0
    Stay i = Here at from upto old.noted goes v b k l row first is_first local_is i

    abbrev StayFrom : ℕ → Type 0
    StayFrom i = HereFrom at from upto old.noted goes v b k l row first is_first local_is i

    abbrev Making : Type 0
    Making = Made at from upto old.noted goes v b k l row first is_first local_is

    abbrev now : Stay upto
    now = (owner, there)

    traced : StayFrom from ⊎ Making
    traced = let rest = rest_of from upto high in trace at from upto old.noted goes v b k l row first is_first local_is rest.0 from rest.1 (omega arith) now

    -- the row's blocks are in the same live snapshots
    stands_in : (i : ℕ) (it : Stay i) (x : Block) → list_any (is_block x) (blocks_of row) ≡ true → StandsIn (at i) x (keys.Deleted v b it.0 k l)
    stands_in i it x has = record { row = row; there = it.1; has = has }

    together : (i : ℕ) → from ≤ i → i ≤ upto → Stay i → (x y : Block) → list_any (is_block x) (blocks_of row) ≡ true → list_any (is_block y) (blocks_of row) ≡ true → IsKept (at i) v b x → IsKept (at i) v b y
    together i le most it x y has also kept =
        let snapshot : SnapshotHas (at i) v b kept.number x kept.name = record { live = live_row (at i (keys.Snapshot v b kept.number)) kept.live; stands = kept.stands } in
        let found = (goes.sound i le most).deleted_together v b k it.0 l x y (stands_in i it x has) (stands_in i it y also) kept.number kept.name snapshot in
        record { number = kept.number; name = found.0; live = ap is_live found.1.live.2; stands = found.1.stands }

    of_first : list_any (is_block first) (blocks_of row) ≡ true
    of_first = first_stands row first is_first

    -- where the row is there, a live snapshot alone shows its blocks
    shown_first : (i : ℕ) → from ≤ i → i ≤ upto → Stay i → IsShown (at i) block → IsKept (at i) v b first
    shown_first i le most it shown = by shown.key shown.shown shown.stands
      where
        by : (key : RowKey) → is_shown (at i) key ≡ true → StandsIn (at i) block key → IsKept (at i) v b first
        by (keys.Key w c m) is stands =
            let same = (goes.sound i le most).one_home block (keys.Deleted v b it.0 k l) (keys.Key w c m) tt tt (stands_in i it block in_row) stands in
            absurd (omega (arith, ap kind_of same))
        by (keys.Open w c m n) is stands =
            let same = (goes.sound i le most).one_home block (keys.Deleted v b it.0 k l) (keys.Open w c m n) tt tt (stands_in i it block in_row) stands in
            absurd (omega (arith, ap kind_of same))
        by (keys.SnapshotKey w c n name) is stands =
            let same = (goes.sound i le most).one_bucket block (keys.Deleted v b it.0 k l) (keys.SnapshotKey w c n name) (stands_in i it block in_row) stands in
            let kept : IsKept (at i) w c block = record { number = n; name = name; live = is; stands = stands } in
            together i le most it block first in_row of_first
            (subst (λ (x : List ℕ). IsKept (at i) x b block) (sym (ap pair_first same)) (subst (λ (y : List ℕ). IsKept (at i) w y block) (sym (ap pair_second same)) kept))
        by key is stands = absurd (false≢true is)

    kept_shown : (i : ℕ) → from ≤ i → i ≤ upto → Stay i → IsKept (at i) v b first → IsShown (at i) block
    kept_shown i le most it kept =
        let other = together i le most it first block of_first in_row kept in
        record { key = keys.SnapshotKey v b other.number other.name; shown = other.live; stands = other.stands }

    -- a key that has a date has a dead row
    has_row : (q : RowKey) (d : ℕ) → date_in old.dates q ≡ Some d → (other : Row) × (dead_of old q ≡ Some other)
    has_row q d e = by (dead_of old q) refl
      where
        by : (o : Option Row) → dead_of old q ≡ o → (other : Row) × (dead_of old q ≡ Some other)
        by None f = absurd (false≢true (sym (ap is_some f) ∙ sym (dated q) ∙ ap is_some e))
        by (Some other) f = (other, f)

    -- and it is dead where the sweep was brought to
    dead_there : (q : RowKey) (other : Row) → dead_of old q ≡ Some other → HasDead (at from) q other
    dead_there q other e = ⊎_elim
        (λ swept. subst (IsDeadRow (at from) q) e (swept q))
        (λ new. absurd (false≢true (ap is_some (sym (new.1 q) ∙ e))))
        begun

    same_row : (o : ℕ) (other : Row) → at from (keys.Deleted v b o k l) ≡ Some row → at from (keys.Deleted v b o k l) ≡ Some other → other ≡ row
    same_row o other e f = same_Some other row (sym f ∙ e)

    -- a date that was there before
    of_before : (o : ℕ) (d : ℕ) → at from (keys.Deleted v b o k l) ≡ Some row → date_in old.dates (keys.Deleted v b o k l) ≡ Some d → LeftAt at base block d
    of_before o d e date =
        let found = has_row (keys.Deleted v b o k l) d date in
        let dead = dead_there (keys.Deleted v b o k l) found.0 found.1 in
        let one = same_row o found.0 e dead.0 in
        exact (keys.Deleted v b o k l) row block d (subst (λ (r : Row). dead_of old (keys.Deleted v b o k l) ≡ Some r) one found.1) in_row date

    of_some : (since d : ℕ) → date_in old.dates (keys.Deleted v b owner k l) ≡ Some d → since ≡ d → LeftAt at base block since
    of_some since d date is = subst (LeftAt at base block) (sym is) (⊎_elim stays made traced)
      where
        found : (other : Row) × (dead_of old (keys.Deleted v b owner k l) ≡ Some other)
        found = has_row (keys.Deleted v b owner k l) d date

        dead : HasDead (at from) (keys.Deleted v b owner k l) found.0
        dead = dead_there (keys.Deleted v b owner k l) found.0 found.1

        stays : StayFrom from → LeftAt at base block d
        stays all =
            let it = all from (omega arith) high in
            let same = alone at from upto old.noted goes v b k l row first is_first local_is from (omega arith) high it (keys.Deleted v b owner k l) (itself_local l) (ap is_some dead.0) in
            of_before it.0 d it.1 (subst (λ (q : RowKey). date_in old.dates q ≡ Some d) same date)

        made : Making → LeftAt at base block d
        made it = absurd (goes.never_back from it.index (keys.Deleted v b owner k l) first (omega arith) it.low (omega (arith, it.high))
            (is_local_id at from upto old.noted goes v b k l row first is_first local_is owner) (ap is_some dead.0) (it.in_use first of_first))

    module _ (since left : ℕ) (last : IsLastMark (at upto) (up_to upto old.noted) first left) (none : date_in old.dates (keys.Deleted v b owner k l) ≡ None)
        (since_is : since ≡ max (since_in (births old.dates (up_to upto old.noted) l)) left) where
      before : (i : ℕ) → from ≤ i → i ≤ upto → IsKept (at i) v b first → i < left
      before = kept_before at from upto old.noted goes v b k l row first is_first local_is unkept left last

      abbrev Had : Type 0
      Had = HadIt at from upto old.noted goes v b k l row first is_first local_is unkept left last

      had : (left ≡ 0) ⊎ Had
      had = had_it at from upto old.noted goes v b k l row first is_first local_is unkept left last now

      not_shown : (i : ℕ) → from ≤ i → i ≤ upto → Stay i → left ≤ i → IsShown (at i) block → ⊥
      not_shown i le most it past shown =
          let lt = before i le most (shown_first i le most it shown) in
          absurd (omega (arith, lt, past))

      -- it left reach as a snapshot was marked
      by_mark : (it : Had) → Stay it.before → Stay (suc it.before) → since ≡ left → LeftAt at base block since
      by_mark it then here is =
          let so : since ≡ suc it.before = is ∙ it.is in
          inr (
            it.before,
            so,
            omega (arith, low, it.low),
            kept_shown it.before it.low (omega (arith, it.high)) then it.kept,
            λ shown. not_shown (suc it.before) (omega (arith, it.low)) it.high here (omega (arith, it.is)) (subst (λ (q : ℕ). IsShown (at q) block) so shown),
          )

      of_made : Making → LeftAt at base block since
      of_made it = by (nat_le left (suc it.index)) refl
        where
          birth : since_in (births old.dates (up_to upto old.noted) l) ≡ suc it.index
          birth =
              let rest = rest_of (suc it.index) upto it.high in
              let known = born_at at from upto old.noted goes v b k l row first is_first local_is old.dates it rest.0 (omega (arith, rest.1)) in
              let said = subst (λ (q : ℕ). births old.dates (up_to q old.noted) l ≡ Some known.0) rest.1 known.1 in
              ap since_in said ∙ known.2

          is : since ≡ max (suc it.index) left
          is = since_is ∙ ap (λ (m : ℕ). max m left) birth

          by : (t : Bool) → nat_le left (suc it.index) ≡ t → LeftAt at base block since
          by true e =
              let under = is_under left (suc it.index) e in
              let so : since ≡ suc it.index = omega (arith, is, under) in
              inr (
                it.index,
                so,
                omega (arith, low, it.low),
                used_shows (at it.index) block (it.in_use block in_row),
                λ shown. not_shown (suc it.index) (omega (arith, it.low)) it.high (it.stays (suc it.index) (omega arith) it.high) under (subst (λ (q : ℕ). IsShown (at q) block) so shown),
              )
          by false e =
              let over = is_over left (suc it.index) e in
              let so : since ≡ left = omega (arith, is, over) in
              ⊎_elim
              (λ zero_is. absurd (omega (arith, over, zero_is)))
              (λ mark. by_mark mark (it.stays mark.before (omega (arith, over, mark.is)) (omega (arith, mark.high))) (it.stays (suc mark.before) (omega (arith, over, mark.is)) mark.high) so)
              had

      of_stays : StayFrom from → LeftAt at base block since
      of_stays all = by (date_in old.dates (keys.Deleted v b it.0 k l)) refl
        where
          it : Stay from
          it = all from (omega arith) high

          known : Known at from upto old.noted goes v b k l row first is_first local_is old.dates it upto
          known = let rest = rest_of from upto high in
              subst (Known at from upto old.noted goes v b k l row first is_first local_is old.dates it) rest.1
              (known_at at from upto old.noted goes v b k l row first is_first local_is old.dates it all rest.0 (omega (arith, rest.1)))

          by : (o : Option ℕ) → date_in old.dates (keys.Deleted v b it.0 k l) ≡ o → LeftAt at base block since
          by (Some d) e = ⊎_elim unsaid said known
            where
              found : (other : Row) × (dead_of old (keys.Deleted v b it.0 k l) ≡ Some other)
              found = has_row (keys.Deleted v b it.0 k l) d e

              dead : HasDead (at from) (keys.Deleted v b it.0 k l) found.0
              dead = dead_there (keys.Deleted v b it.0 k l) found.0 found.1

              not_kept : IsKept (at from) v b first → ⊥
              not_kept kept =
                  let one = same_row it.0 found.0 it.1 dead.0 in
                  let same_block : dead.1.0 ≡ first = same_Some dead.1.0 first (sym dead.1.1 ∙ ap first_of one ∙ is_first) in
                  dead.1.2 (subst (IsKept (at from) v b) (sym same_block) kept)

              nothing : left ≡ 0
              nothing = ⊎_elim (λ zero_is. zero_is)
                  (λ mark. let rest = rest_of from mark.before mark.low in
                  absurd (not_kept (kept_back at from upto old.noted goes v b k l row first is_first local_is all rest.0 (omega (arith, rest.1, mark.high)) (subst (λ (q : ℕ). IsKept (at q) v b first) (sym rest.1) mark.kept))))
                  had

              unsaid : (births old.dates (up_to upto old.noted) l ≡ None) × (at upto (keys.Deleted v b it.0 k l) ≡ Some row) → LeftAt at base block since
              unsaid (silent, same) =
                  let one = alone at from upto old.noted goes v b k l row first is_first local_is upto high (omega arith) now (keys.Deleted v b it.0 k l) (itself_local l) (ap is_some same) in
                  absurd (false≢true (ap is_some (sym none ∙ ap (date_in old.dates) (sym one) ∙ e)))

              said : (birth : Birth) × (births old.dates (up_to upto old.noted) l ≡ Some birth) × (birth.since ≡ or_zero (date_in old.dates (keys.Deleted v b it.0 k l))) → LeftAt at base block since
              said (birth, is, its) =
                  let d_is : since_in (births old.dates (up_to upto old.noted) l) ≡ d = ap since_in is ∙ its ∙ ap or_zero e in
                  let so : since ≡ d = omega (arith, since_is, d_is, nothing) in
                  subst (LeftAt at base block) (sym so) (of_before it.0 d it.1 e)
          by None e = ⊎_elim zero_left (λ mark. by_mark mark (all mark.before mark.low (omega (arith, mark.high))) (all (suc mark.before) (omega (arith, mark.low)) mark.high) left_so) had
            where
              silent : since_in (births old.dates (up_to upto old.noted) l) ≡ 0
              silent = ⊎_elim (λ unsaid. ap since_in unsaid.0) (λ said. ap since_in said.1 ∙ said.2 ∙ ap or_zero e) known

              left_so : since ≡ left
              left_so = omega (arith, since_is, silent)

              not_kept : left ≡ 0 → IsKept (at from) v b first → ⊥
              not_kept zero_is kept = let lt = before from (omega arith) high kept in absurd (omega (arith, lt, zero_is))

              none_old : dead_of old (keys.Deleted v b it.0 k l) ≡ None
              none_old = by_dead (dead_of old (keys.Deleted v b it.0 k l)) refl
                where
                  by_dead : (o : Option Row) → dead_of old (keys.Deleted v b it.0 k l) ≡ o → o ≡ None
                  by_dead None f = refl
                  by_dead (Some other) f = absurd (false≢true (sym (ap is_some e) ∙ dated (keys.Deleted v b it.0 k l) ∙ ap is_some f))

              zero_left : left ≡ 0 → LeftAt at base block since
              zero_left zero_is = ⊎_elim
                  (λ swept. absurd (subst (IsDeadRow (at from) (keys.Deleted v b it.0 k l)) none_old (swept (keys.Deleted v b it.0 k l)) row (it.1, (first, is_first, not_kept zero_is))))
                  (λ new. inl (left_so ∙ zero_is, λ shown. not_shown from (omega arith) high it (omega (arith, zero_is)) (subst (λ (q : ℕ). IsShown (at q) block) (sym new.0) shown)))
                  begun

      pub of_none : LeftAt at base block since
      of_none = ⊎_elim of_stays of_made traced

  pub exact_now : (now : SweepView) → IsSwept now (at upto) → AreDatedSo at upto old now → AreExact at base now
  exact_now now swept so key row block since there in_row date = by key row (subst (IsDeadRow (at upto) key) there (swept key)) in_row
      (subst (λ (n : ℕ). IsDate (at upto) (up_to upto old.noted) old.dates key row n (date_of old key)) (same_Some found.0 since (sym found.1 ∙ date)) found.2)
    where
      found : (s : ℕ) × (date_of now key ≡ Some s) × IsDate (at upto) (up_to upto old.noted) old.dates key row s (date_of old key)
      found = so key row there

      by : (key : RowKey) (row : Row) → HasDead (at upto) key row → list_any (is_block block) (blocks_of row) ≡ true
          → IsDate (at upto) (up_to upto old.noted) old.dates key row since (date_of old key) → LeftAt at base block since
      by (keys.Deleted v b owner k l) row dead in_row is_date = of_date (date_in old.dates (keys.Deleted v b owner k l)) refl is_date
        where
          local_is : dead.1.0.local ≡ l
          local_is =
              let own = first_fits v b k owner l row (goes.fit upto high (omega arith) (keys.Deleted v b owner k l) row dead.0).1 in
              ap (λ (x : Block). x.local) (sym (same_Some own.block dead.1.0 (sym own.is ∙ dead.1.1))) ∙ own.local_is

          of_date : (o : Option ℕ) → date_in old.dates (keys.Deleted v b owner k l) ≡ o → IsDate (at upto) (up_to upto old.noted) old.dates (keys.Deleted v b owner k l) row since o → LeftAt at base block since
          of_date (Some d) e is = of_some v b k owner l row dead.1.0 dead.1.1 local_is dead.0 dead.1.2 block in_row since d e is
          of_date None e (x, x_is, left, last, since_is) =
              of_none v b k owner l row dead.1.0 dead.1.1 local_is dead.0 dead.1.2 block in_row since left
              (subst (λ (y : Block). IsLastMark (at upto) (up_to upto old.noted) y left) (same_Some x dead.1.0 (sym x_is ∙ dead.1.1)) last) e since_is
      by key row dead in_row is_date = absurd dead.1
