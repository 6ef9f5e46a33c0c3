-- Dead rows are those of which nothing is in reach.
use Rattle.std.proofs.Common.{◌≡◌, ◌↔◌, inl, inr, ℕ, zero, suc, Bool, true, false, ◌||◌, not, List, [], ◌∷◌, length, map, Option, None, Some, is_some, Contains, refl, sym, ◌∙◌, ap, subst, arith}
use mathlib.Core.Bool.{false≢true}
use Rattle.std.proofs.lemmas.List.Folds.{list_any-from_Any, Any-from_list_any}
use Rattle.std.proofs.lemmas.Option.{same_Some}
use Rattle.std.specs.List.{AllByRecursion, Any, list_any}
use Rattle.oz_decision.specs.Walking.{is_live}
use Rattle.oz_fields.specs.declared.block.Block.{Block}
use Rattle.oz_model.specs.Reach.{IsReached}
use Rattle.oz_namespace.specs.declared.namespace.Namespace.{Namespace}
use Rattle.oz_reclaim.specs.Found.{AreFirstFree, HasFree}
use Rattle.oz_reclaim.specs.Gathered.{AreAllOf, IsOfKind}
use Rattle.oz_reclaim.specs.Reach.{is_shown}
use Rattle.oz_reclaim.specs.Reclaimable.{IsAmongFirst, IsReclaimable}
use Rattle.oz_reclaim.specs.declared.sweep.homes.Homes.{Homes}
use Rattle.oz_reclaim.specs.laws.Reach.{among, contains, live_row, reached_is_shown, shown_is_reached}
use Rattle.oz_reclaim.specs.sweep.Dead.{HasDead, IsDead, IsDeadRow, first_of}
use Rattle.oz_reclaim.specs.sweep.Dates.{AreDated, Dates, date_in, or_zero}
use Rattle.oz_reclaim.specs.sweep.Found.{IsBacked, IsPartlyPinned, TellsPartly, is_partly, is_partly_at, is_partly_row, keyed}
use Rattle.oz_reclaim.specs.sweep.Homes.{AreHomes, Keys, has_block, home_of}
use Rattle.oz_reclaim.specs.sweep.Kept.{IsKept}
use Rattle.oz_reclaim.proofs.Between.{back, both, front}
use Rattle.oz_reclaim.proofs.FreeRows.{fails, is_one, none_passes}
use Rattle.oz_reclaim.proofs.ShownBlocks.{row_passes}
use Rattle.oz_reclaim.proofs.sweep_lemmas.Swept.{kind_of_dead}
use Rattle.oz_rows.specs.declared.entry.RowEntry.{RowEntry}
use Rattle.oz_rows.specs.declared.key.RowKey.{RowKey}
use Rattle.oz_rows.specs.declared.key.RowKey.TheVariants as keys
use Rattle.oz_rows.specs.declared.row.Row.{Row}
use Rattle.oz_rows.specs.declared.row.Row.TheVariants as rows
use Rattle.oz_rows.specs.Rows.{ValueFits, kind_of}
use Rattle.oz_rows.specs.RowMaps.{Rows, is_block, row_of}
use Rattle.oz_sound.specs.Sound.{SnapshotHas, StandsIn}
use Rattle.oz_sound.specs.StandsFor.{IsLive}

-- ---- lists

each_key : (P Q : RowKey → Type 0) → ((key : RowKey) → P key → Q key) → (l : List RowKey) → AllByRecursion P l → AllByRecursion Q l
each_key P Q from [] all = tt
each_key P Q from (x ∷ l) all = (from x all.0, each_key P Q from l all.1)

first_in : {A : Type 0} (x : A) (l : List A) → Contains (x ∷ l) x
first_in x l = (zero, omega arith, refl)

-- ---- sound rows

-- the first block of a deleted row is one of its blocks
of_first : (blocks : List Block) (first : Block) → first_of (rows.Deleted blocks) ≡ Some first → Contains blocks first
of_first [] first e = absurd (false≢true (ap is_some e))
of_first (x ∷ others) first e = subst (Contains (x ∷ others)) (same_Some x first e) (first_in x others)

-- the two names in a bucket
pair_first : Option (List ℕ × List ℕ) → List ℕ
pair_first None = []
pair_first (Some (v, b)) = v

pair_second : Option (List ℕ × List ℕ) → List ℕ
pair_second None = []
pair_second (Some (v, b)) = b

is_live_row : (all : Rows) (v b : List ℕ) (n : ℕ) → IsLive all v b n → is_live (all (keys.Snapshot v b n)) ≡ true
is_live_row all v b n (name, previous, e) = ap is_live e

module _ (all : Rows) (namespace : Namespace) (backed : IsBacked all namespace) where
  module _ (v b k : List ℕ) (owner local : ℕ) (blocks : List Block) (row : all (keys.Deleted v b owner k local) ≡ Some (rows.Deleted blocks))
      (first : Block) (is_first : first_of (rows.Deleted blocks) ≡ Some first) (not_kept : IsKept all v b first → ⊥) (block : Block) (has : Contains blocks block) where
    stands : (one : Block) → Contains blocks one → StandsIn all one (keys.Deleted v b owner k local)
    stands one there = record { row = rows.Deleted blocks; there = row; has = among one blocks there }

    in_snapshot : (n : ℕ) (name : List ℕ) → SnapshotHas all v b n block name → ⊥
    in_snapshot n name it =
        let together = backed.blocks.deleted_together v b k owner local block first (stands block has) (stands first (of_first blocks first is_first)) n name it in
        not_kept (record { number = n; name = together.0; live = is_live_row all v b n together.1.live; stands = together.1.stands })

    not_shown : (key : RowKey) → is_shown all key ≡ true → StandsIn all block key → ⊥
    unfolding pair_first pair_second
    not_shown (keys.Key w c m) shown it =
        let same = backed.blocks.one_home block (keys.Deleted v b owner k local) (keys.Key w c m) tt tt (stands block has) it in
        absurd (omega (arith, ap kind_of same))
    not_shown (keys.Open w c m n) shown it =
        let same = backed.blocks.one_home block (keys.Deleted v b owner k local) (keys.Open w c m n) tt tt (stands block has) it in
        absurd (omega (arith, ap kind_of same))
    not_shown (keys.SnapshotKey w c n name) shown it =
        let same = backed.blocks.one_bucket block (keys.Deleted v b owner k local) (keys.SnapshotKey w c n name) (stands block has) it in
        let there : SnapshotHas all w c n block name = record { live = live_row (all (keys.Snapshot w c n)) shown; stands = it } in
        let one = subst (λ (y : List ℕ). SnapshotHas all w y n block name) (sym (ap pair_second same)) there in
        in_snapshot n name (subst (λ (x : List ℕ). SnapshotHas all x b n block name) (sym (ap pair_first same)) one)
    not_shown key shown it = absurd (false≢true shown)

  -- nothing of a dead row is in reach
  pub dead_away : (key : RowKey) (blocks : List Block) → HasDead all key (rows.Deleted blocks) → (block : Block) → Contains blocks block → IsReached namespace block → ⊥
  dead_away (keys.Deleted v b owner k local) blocks dead block has reached =
      let it = reached_is_shown all namespace backed.stand block reached in
      not_shown v b k owner local blocks dead.0 dead.1.0 dead.1.1 dead.1.2 block has it.key it.shown it.stands
  dead_away key blocks dead block has reached = absurd dead.1

  -- and a deleted row of which nothing is in reach is dead
  pub dead_if : (key : RowKey) (blocks : List Block) → all key ≡ Some (rows.Deleted blocks) → ((block : Block) → Contains blocks block → IsReached namespace block → ⊥) → HasDead all key (rows.Deleted blocks)
  dead_if key blocks row away = by key blocks (backed.fit key (rows.Deleted blocks) row).1 row away
    where
      by : (key : RowKey) (blocks : List Block) → ValueFits key (rows.Deleted blocks) → all key ≡ Some (rows.Deleted blocks) → ((block : Block) → Contains blocks block → IsReached namespace block → ⊥) → HasDead all key (rows.Deleted blocks)
      by (keys.Deleted v b owner k local) [] fits row away = absurd fits.1
      by (keys.Deleted v b owner k local) (x ∷ others) fits row away = (
        row,
        (
          x,
          refl,
          λ kept.
              away x (first_in x others) (shown_is_reached all namespace backed.stand x backed.fit (record { key = keys.SnapshotKey v b kept.number kept.name; shown = kept.live; stands = kept.stands })),
        ),
      )
      by key blocks fits row away = absurd fits

  -- a dead row is a deleted one
  deleted_one : (key : RowKey) (row : Row) → HasDead all key row → (blocks : List Block) × (row ≡ rows.Deleted blocks)
  deleted_one key row dead = by key row (backed.fit key row dead.0).1 dead.1
    where
      by : (key : RowKey) (row : Row) → ValueFits key row → IsDead all key row → (blocks : List Block) × (row ≡ rows.Deleted blocks)
      by (keys.Deleted v b owner k local) (rows.Deleted blocks) fits dead = (blocks, refl)
      by (keys.Deleted v b owner k local) row fits dead = absurd fits
      by key row fits dead = absurd dead

  module _ (dead : List RowEntry) (swept : (key : RowKey) → IsDeadRow all key (row_of dead key))
      (pinned : List Block) (test : Block → Bool) (told : (block : Block) → test block ≡ list_any (is_block block) pinned) where
    has_dead : (key : RowKey) (row : Row) → row_of dead key ≡ Some row → HasDead all key row
    has_dead key row e = subst (IsDeadRow all key) e (swept key)

    one : (key : RowKey) → HasFree (row_of dead) test key → IsReclaimable all namespace pinned key
    one key (row, is, free) =
        let it = is_one test row free in
        let here = subst (HasDead all key) it.is (has_dead key row is) in
        record {
          blocks = it.blocks;
          row = here.0;
          unreached = dead_away key it.blocks here;
          unpinned = λ block has there. fails test it.blocks block it.none has (told block ∙ among block pinned there);
        }

    pub only : (most : ℕ) (keys : List RowKey) → AreFirstFree (row_of dead) test most keys → AllByRecursion (IsReclaimable all namespace pinned) keys
    only most keys first = each_key (HasFree (row_of dead) test) (IsReclaimable all namespace pinned) one keys first.each

    -- the row of a deleted one of which nothing is in reach
    is_there : (key : RowKey) (blocks : List Block) → HasDead all key (rows.Deleted blocks) → row_of dead key ≡ Some (rows.Deleted blocks)
    is_there key blocks here = by (row_of dead key) refl
      where
        by : (o : Option Row) → row_of dead key ≡ o → row_of dead key ≡ Some (rows.Deleted blocks)
        by None e = absurd (subst (IsDeadRow all key) e (swept key) (rows.Deleted blocks) here)
        by (Some row) e = e ∙ sym (has_dead key row e).0 ∙ here.0

    pub among_first : (most : ℕ) (keys : List RowKey) → AreFirstFree (row_of dead) test most keys → (key : RowKey) → IsReclaimable all namespace pinned key → IsAmongFirst most keys key
    among_first most keys first key is =
        let none = none_passes test is.blocks (λ block has passes. is.unpinned block has (contains block pinned (sym (told block) ∙ passes))) in
        let here = dead_if key is.blocks is.row is.unreached in
        first.every key (kind_of_dead all key (rows.Deleted is.blocks) here.1) (rows.Deleted is.blocks, is_there key is.blocks here, ap not none)

    -- ---- blocks that are pinned, and others

    not_it : (t : Bool) → not t ≡ true → t ≡ false
    not_it false e = refl
    not_it true e = absurd (false≢true e)

    is_not : (t : Bool) → t ≡ false → not t ≡ true
    is_not t e = ap not e

    in_list : (P : Block → Bool) (blocks : List Block) → list_any P blocks ≡ true → (block : Block) × Contains blocks block × (P block ≡ true)
    in_list P blocks e = let found : Any (λ (block : Block). P block ≡ true) blocks = Any-from_list_any P blocks e in (found.1, (found.0, found.2, found.3), found.4)

    partly_one : (key : RowKey) (row : Row) → row_of dead key ≡ Some row → is_partly test row ≡ true → IsPartlyPinned all namespace pinned
    partly_one key (rows.Deleted blocks) e partly =
        let here = has_dead key (rows.Deleted blocks) e in
        let pin = in_list test blocks (front (list_any test blocks) _ partly) in
        let other = in_list (λ block. not (test block)) blocks (back (list_any test blocks) _ partly) in
        record {
          key = key;
          blocks = blocks;
          row = here.0;
          unreached = dead_away key blocks here;
          one = pin.0;
          pinned_one = (pin.1, contains pin.0 pinned (sym (told pin.0) ∙ pin.2));
          other = other.0;
          free_one = (other.1, λ there. false≢true (sym (not_it (test other.0) other.2) ∙ told other.0 ∙ among other.0 pinned there));
        }
    partly_one key row e partly = absurd (false≢true partly)

    some_partly : (kind : ℕ) (l : List RowEntry) → AllByRecursion (IsOfKind (row_of dead) kind) l → list_any (λ (entry : RowEntry). is_partly test entry.row) l ≡ true → IsPartlyPinned all namespace pinned
    some_partly kind [] all_are e = absurd (false≢true e)
    some_partly kind (x ∷ l) all_are e = by (is_partly test x.row) refl e (some_partly kind l all_are.1)
      where
        by : (t : Bool) → is_partly test x.row ≡ t → (t || list_any (λ (entry : RowEntry). is_partly test entry.row) l) ≡ true
            → (list_any (λ (entry : RowEntry). is_partly test entry.row) l ≡ true → IsPartlyPinned all namespace pinned) → IsPartlyPinned all namespace pinned
        by true here e later = partly_one x.key x.row all_are.0.1 here
        by false here e later = later e

    free_test : (block : Block) → (Contains pinned block → ⊥) → not (test block) ≡ true
    free_test block free = is_not (test block) (by (test block) refl)
      where
        by : (t : Bool) → test block ≡ t → test block ≡ false
        by false e = e
        by true e = absurd (free (contains block pinned (sym (told block) ∙ e)))

    given_partly : (kind : ℕ) → kind ≡ 5 → (found : List RowEntry) → AreAllOf (row_of dead) kind found → IsPartlyPinned all namespace pinned
        → list_any (λ (entry : RowEntry). is_partly test entry.row) found ≡ true
    given_partly kind is_kind found are it =
        let here = dead_if it.key it.blocks it.row it.unreached in
        let pin = list_any-from_Any test it.blocks (it.pinned_one.0.0, it.one, it.pinned_one.0.1, it.pinned_one.0.2, told it.one ∙ among it.one pinned it.pinned_one.1) in
        let other = list_any-from_Any (λ block. not (test block)) it.blocks (it.free_one.0.0, it.other, it.free_one.0.1, it.free_one.0.2, free_test it.other it.free_one.1) in
        let there = are.every it.key (rows.Deleted it.blocks) (kind_of_dead all it.key (rows.Deleted it.blocks) here.1 ∙ sym is_kind) (is_there it.key it.blocks here) in
        row_passes (λ (key : RowKey) (row : Row). is_partly test row) found it.key (rows.Deleted it.blocks) there (both (list_any test it.blocks) _ pin other)

    nothing_pinned : pinned ≡ [] → IsPartlyPinned all namespace pinned → ⊥
    nothing_pinned none it = absurd (omega (arith, (subst (λ (l : List Block). Contains l it.one) none it.pinned_one.1).1))

    -- the row that a pinned block names
    at_home : (home : Option RowKey) → is_partly_at (row_of dead) test home ≡ true → IsPartlyPinned all namespace pinned
    at_home None e = absurd (false≢true e)
    at_home (Some key) e = by (row_of dead key) refl e
      where
        by : (o : Option Row) → row_of dead key ≡ o → is_partly_row test o ≡ true → IsPartlyPinned all namespace pinned
        by None there e = absurd (false≢true e)
        by (Some row) there e = partly_one key row there e

    given_home : (keys : Keys) → AreHomes dead keys → IsPartlyPinned all namespace pinned → list_any (λ (block : Block). is_partly_at (row_of dead) test (home_of keys block)) pinned ≡ true
    given_home keys are it =
        let here = dead_if it.key it.blocks it.row it.unreached in
        let there = is_there it.key it.blocks here in
        let pin = list_any-from_Any test it.blocks (it.pinned_one.0.0, it.one, it.pinned_one.0.1, it.pinned_one.0.2, told it.one ∙ among it.one pinned it.pinned_one.1) in
        let other = list_any-from_Any (λ block. not (test block)) it.blocks (it.free_one.0.0, it.other, it.free_one.0.1, it.free_one.0.2, free_test it.other it.free_one.1) in
        let home = are it.key it.one (ap (has_block it.one) there ∙ among it.one it.blocks it.pinned_one.0) in
        list_any-from_Any (λ (block : Block). is_partly_at (row_of dead) test (home_of keys block)) pinned (
          it.pinned_one.1.0,
          it.one,
          it.pinned_one.1.1,
          it.pinned_one.1.2,
          ap (is_partly_at (row_of dead) test) home ∙ ap (is_partly_row test) there ∙ both (list_any test it.blocks) _ pin other,
        )

    pub partly : (kind : ℕ) → kind ≡ 5 → (homes : Homes) → (homes.is_shared ≡ false → AreHomes dead homes.keys.entries) → (is : Bool) → TellsPartly (row_of dead) kind homes pinned test is → (is ≡ true) ↔ IsPartlyPinned all namespace pinned
    partly kind is_kind homes are is (inl (none, not_so)) = ((λ so. absurd (false≢true (sym not_so ∙ so))), (λ it. absurd (nothing_pinned none it)))
    partly kind is_kind homes are is (inr (inl (found, all_are, told_so))) = ((λ so. some_partly kind found all_are.each (sym told_so ∙ so)), (λ it. told_so ∙ given_partly kind is_kind found all_are it))
    partly kind is_kind homes are is (inr (inr (own, told_so))) = (
      (λ so. let at = in_list (λ (block : Block). is_partly_at (row_of dead) test (home_of homes.keys.entries block)) pinned (sym told_so ∙ so) in at_home (home_of homes.keys.entries at.0) at.2),
      (λ it. told_so ∙ given_home homes.keys.entries (are own) it),
    )

-- ---- keys with their dates

abbrev with_date : (RowKey → ℕ) → RowKey → RowKey × ℕ
with_date give key = (key, give key)

pub as_many : (give : RowKey → ℕ) (keys : List RowKey) (found : List (RowKey × ℕ)) → found ≡ map (with_date give) keys → length found ≡ length keys
as_many give keys found is = ap length is ∙ by keys
  where
    by : (keys : List RowKey) → length (map (with_date give) keys) ≡ length keys
    by [] = refl
    by (x ∷ keys) = ap suc (by keys)

again : (give : RowKey → ℕ) (keys : List RowKey) → map keyed (map (with_date give) keys) ≡ keys
again give [] = refl
again give (x ∷ keys) = ap (λ (l : List RowKey). x ∷ l) (again give keys)

pub the_keys : (give : RowKey → ℕ) (keys : List RowKey) (found : List (RowKey × ℕ)) → found ≡ map (with_date give) keys → map keyed found ≡ keys
the_keys give keys found is = ap (map keyed) is ∙ again give keys

pub all_dated : (give : RowKey → ℕ) (Holds : RowKey → Type 0) (keys : List RowKey) (found : List (RowKey × ℕ)) → found ≡ map (with_date give) keys → AllByRecursion Holds keys
    → AllByRecursion (λ (row : RowKey × ℕ). Holds row.0) found
all_dated give Holds keys found is all = subst (AllByRecursion (λ (row : RowKey × ℕ). Holds row.0)) (sym is) (by keys all)
  where
    by : (keys : List RowKey) → AllByRecursion Holds keys → AllByRecursion (λ (row : RowKey × ℕ). Holds row.0) (map (with_date give) keys)
    by [] all = tt
    by (x ∷ keys) all = (all.0, by keys all.1)

abbrev HasOne : Dates → RowKey → Type 0
HasOne dates key = is_some (date_in dates key) ≡ true

-- what is found has its date
pub have_dates : (dead : List RowEntry) (dates : Dates) → AreDated dead dates → (test : Block → Bool) (most : ℕ) (keys : List RowKey) → AreFirstFree (row_of dead) test most keys
    → (rows : List (RowKey × ℕ)) → rows ≡ map (with_date (λ (key : RowKey). or_zero (date_in dates key))) keys → AllByRecursion (λ (row : RowKey × ℕ). date_in dates row.0 ≡ Some row.1) rows
have_dates dead dates dated test most keys first rows is =
    subst (AllByRecursion (λ (row : RowKey × ℕ). date_in dates row.0 ≡ Some row.1)) (sym is) (given keys
    (each_key (HasFree (row_of dead) test) (HasOne dates) (λ key free. dated key ∙ ap is_some free.1) keys first.each))
  where
    one : (o : Option ℕ) → is_some o ≡ true → o ≡ Some (or_zero o)
    one None e = absurd (false≢true e)
    one (Some n) e = refl

    given : (keys : List RowKey) → AllByRecursion (HasOne dates) keys → AllByRecursion (λ (row : RowKey × ℕ). date_in dates row.0 ≡ Some row.1) (map (with_date (λ (key : RowKey). or_zero (date_in dates key))) keys)
    given [] all = tt
    given (x ∷ keys) all = (one (date_in dates x) all.0, given keys all.1)
