-- Blocks lose their keys, and get others.
use Rattle.std.proofs.Common.{◌≡◌, ℕ, Bool, true, false, ◌||◌, not, List, [], ◌∷◌, ◌++◌, map, flat_map, Option, None, Some, cond, Contains, refl, sym, ◌∙◌, ap, subst, arith}
use mathlib.Core.Bool.{false≢true}
use Rattle.std.proofs.lemmas.Bool.Decides.{nat_tests}
use Rattle.std.proofs.lemmas.List.Folds.{Any-from_list_any, list_any-from_Any}
use Rattle.std.proofs.lemmas.Option.{same_Some}
use Rattle.std.specs.List.{AllByRecursion, Any, list_any}
use Rattle.std.specs.Ordering.{is_eq}
use Rattle.oz_cache.specs.Cache.{has_key}
use Rattle.oz_decision.specs.laws.Versions.{one_block}
use Rattle.oz_fields.specs.declared.block.Block.{Block}
use Rattle.oz_reclaim.specs.declared.sweep.homes.Home.{Home}
use Rattle.oz_reclaim.specs.sweep.Homes.{AreHomes, Enters, Keys, blocks_at, has_block, home, home_of, homes_in, is_left, is_others}
use Rattle.oz_rows.specs.declared.entry.RowEntry.{RowEntry}
use Rattle.oz_rows.specs.declared.key.RowKey.{RowKey}
use Rattle.oz_rows.specs.declared.operation.Change.{Change}
use Rattle.oz_rows.specs.declared.row.Row.{Row}
use Rattle.oz_rows.specs.RowMaps.{is_block, is_same, row_after, row_of}
use Rattle.oz_rows.specs.laws.Order.{itself as same_key}
use Rattle.oz_rows.specs.laws.Same.{same_is_one}

-- ---- keys that come

pub or_none : (a b : Bool) → (a || b) ≡ false → (a ≡ false) × (b ≡ false)
or_none false b e = (refl, e)
or_none true b e = absurd (false≢true (sym e))

module _ (before now later : Keys) (one : Home) (changed : (block : Block) → home_of later block ≡ cond (is_block block one.block) (Some one.key) (home_of now block))
    (own : is_others (home_of now one.block) one.key ≡ false) where
  not_others : (o : Option RowKey) (key : RowKey) → is_others o one.key ≡ false → o ≡ Some key → one.key ≡ key
  not_others o key is e = sym (same_is_one key one.key (by (is_same key one.key) (sym (ap (λ (x : Option RowKey). is_others x one.key) e) ∙ is)))
    where
      by : (t : Bool) → not t ≡ false → t ≡ true
      by true e = refl
      by false e = absurd (false≢true (sym e))

  stays : (block : Block) (key : RowKey) → home_of now block ≡ Some key → home_of later block ≡ Some key
  stays block key e = changed block ∙ by (is_block block one.block) refl
    where
      by : (t : Bool) → is_block block one.block ≡ t → cond t (Some one.key) (home_of now block) ≡ Some key
      by false not = e
      by true same = ap Some (not_others (home_of now one.block) key own (ap (home_of now) (sym (one_block block one.block same)) ∙ e))

  each : (l : List Home) → AllByRecursion (λ (other : Home). home_of now other.block ≡ Some other.key) l → AllByRecursion (λ (other : Home). home_of later other.block ≡ Some other.key) l
  each [] all = tt
  each (x ∷ l) all = (stays x.block x.key all.0, each l all.1)

  snoc : (l : List Home) → AllByRecursion (λ (other : Home). home_of later other.block ≡ Some other.key) l → AllByRecursion (λ (other : Home). home_of later other.block ≡ Some other.key) (l ++ one ∷ [])
  snoc [] all = (changed one.block ∙ ap (λ (t : Bool). cond t (Some one.key) (home_of now one.block)) (itself one.block), tt)
    where
      itself : (block : Block) → is_block block block ≡ true
      itself block = grind (arith, nat_tests)
  snoc (x ∷ l) all = (all.0, snoc l all.1)

  pub one_more : (others : List Home) → Enters others before now → Enters (others ++ one ∷ []) before later
  one_more others enters = record {
    kept = λ block key e. stays block key (enters.kept block key e);
    entered = snoc others (each others enters.entered);
  }

-- ---- rows that go and come

module _ (dead : List RowEntry) (old left now : Keys) (changes : List Change) (are : AreHomes dead old)
    (leaves : (block : Block) → home_of left block ≡ cond (is_left dead changes block) None (home_of old block)) (enters : Enters (flat_map homes_in changes) left now) where
  abbrev Has : Home → Type 0
  Has one = home_of now one.block ≡ Some one.key

  split : (l m : List Home) → AllByRecursion Has (l ++ m) → AllByRecursion Has l × AllByRecursion Has m
  split [] m all = (tt, all)
  split (x ∷ l) m all = let rest = split l m all.1 in ((all.0, rest.0), rest.1)

  -- a block of a row that comes
  comes : (key : RowKey) (block : Block) (l : List Block) → AllByRecursion Has (map (home key) l) → list_any (is_block block) l ≡ true → home_of now block ≡ Some key
  comes key block [] all e = absurd (false≢true e)
  comes key block (x ∷ l) all e = by (is_block block x) refl e (comes key block l all.1)
    where
      by : (t : Bool) → is_block block x ≡ t → (t || list_any (is_block block) l) ≡ true → (list_any (is_block block) l ≡ true → home_of now block ≡ Some key) → home_of now block ≡ Some key
      by true same e later = ap (home_of now) (one_block block x same) ∙ all.0
      by false not e later = later e

  -- and of one that stays
  remains : (key : RowKey) (block : Block) → has_key key changes ≡ false → has_block block (row_of dead key) ≡ true → home_of now block ≡ Some key
  remains key block other has = enters.kept block key (leaves block ∙ ap (λ (t : Bool). cond t None (home_of old block)) (none (is_left dead changes block) refl) ∙ is)
    where
      is : home_of old block ≡ Some key
      is = are key block has

      none : (t : Bool) → is_left dead changes block ≡ t → t ≡ false
      none false e = refl
      none true e =
          let found : Any (λ (change : Change). has_block block (row_of dead change.key) ≡ true) changes = Any-from_list_any (λ (change : Change). has_block block (row_of dead change.key)) changes e in
          let same = same_Some key found.1.key (sym is ∙ are found.1.key block found.4) in
          let has_it = list_any-from_Any (λ (change : Change). is_same change.key key) changes (found.0, found.1, found.2, found.3, ap (λ (k : RowKey). is_same k key) (sym same) ∙ ap is_eq (same_key key)) in
          absurd (false≢true (sym other ∙ has_it))

  after : (l : List Change) (key : RowKey) (block : Block) (row : Option Row) → AllByRecursion Has (flat_map homes_in l) → (has_key key l ≡ false → has_block block row ≡ true → home_of now block ≡ Some key)
      → has_block block (row_after l key row) ≡ true → home_of now block ≡ Some key
  after [] key block row all stays has = stays refl has
  after (change ∷ l) key block row all stays has =
      let parts = split (homes_in change) (flat_map homes_in l) all in
      after l key block (cond (is_same change.key key) change.row row) parts.1 (λ other here. by parts.0 other (is_same change.key key) refl here) has
    where
      by : AllByRecursion Has (homes_in change) → has_key key l ≡ false → (t : Bool) → is_same change.key key ≡ t → has_block block (cond t change.row row) ≡ true → home_of now block ≡ Some key
      by come other true same here = comes change.key block (blocks_at change.row) come here ∙ ap Some (same_is_one change.key key same)
      by come other false not here = stays (ap (λ (t : Bool). t || has_key key l) not ∙ other) here

  pub homes_now : (after_them : List RowEntry) → ((key : RowKey) → row_of after_them key ≡ row_after changes key (row_of dead key)) → AreHomes after_them now
  homes_now after_them becomes key block has = after changes key block (row_of dead key) enters.entered (remains key block) (ap (has_block block) (sym (becomes key)) ∙ has)
