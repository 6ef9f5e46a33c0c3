-- The first deleted rows whose blocks aren't used: a walk from key to key finds them.
use Rattle.std.proofs.Common.{◌≡◌, ◌⊎◌, ◌↔◌, inl, inr, ⊎_elim, ℕ, zero, suc, ◌<◌, ◌≤◌, Bool, true, false, ◌||◌, not, List, [], ◌∷◌, ◌++◌, length, length-append, Option, None, Some, is_some, cond, Contains, refl, sym, ◌∙◌, ap, subst, arith, append-nil}
use mathlib.Core.Bool.{false≢true}
use Rattle.std.proofs.lemmas.Bool.{cases_lt}
use Rattle.std.proofs.lemmas.List.Folds.{list_any-from_Any, Any-from_list_any}
use Rattle.std.proofs.lemmas.Option.{same_Some}
use Rattle.std.specs.List.{AllByRecursion, Any, list_any}
use Rattle.std.specs.Ordering.{is_eq, is_gt}
use Rattle.std.specs.declared.cmp.Ordering.{Ordering}
use Rattle.std.specs.declared.cmp.Ordering.TheVariants.{Less, Equal, Greater}
use Rattle.oz_decision.specs.Meets.{AreInGrammar}
use Rattle.oz_fields.specs.declared.block.Block.{Block}
use Rattle.oz_namespace.specs.declared.namespace.Namespace.{Namespace}
use Rattle.oz_reclaim.specs.Found.{AreFirstFree, HasFree, free_key, is_free}
use Rattle.oz_reclaim.specs.Gathered.{IsLeast}
use Rattle.oz_reclaim.specs.Reach.{IsShown}
use Rattle.oz_reclaim.specs.Reclaimable.{IsAmongFirst, IsReclaimable}
use Rattle.oz_reclaim.specs.laws.Reach.{among, contains, reached_is_shown, shown_is_reached}
use Rattle.oz_reclaim.proofs.OneKind.{under}
use Rattle.oz_reclaim.proofs.ShownBlocks.{or_cases, or_first, or_second}
use Rattle.oz_rows.specs.Counts.{AllRise}
use Rattle.oz_rows.specs.declared.key.RowKey.{RowKey}
use Rattle.oz_rows.specs.declared.key.RowKey.TheVariants as keys
use Rattle.oz_rows.specs.declared.row.Row.{Row}
use Rattle.oz_rows.specs.declared.row.Row.TheVariants as rows
use Rattle.oz_rows.specs.Order.{key_order}
use Rattle.oz_rows.specs.Rows.{kind_of, ValueFits}
use Rattle.oz_rows.specs.RowMaps.{Rows, HasNoNext, IsBelow, IsNext, is_block}
use Rattle.oz_rows.specs.laws.Order.{above_below, itself}
use Rattle.oz_rows.specs.laws.Same.{same_is_one}
use Rattle.oz_sound.specs.StandsFor.{StandsFor}

-- ---- lists

first_of : {A : Type 0} (x : A) (l : List A) → Contains (x ∷ l) x
first_of x l = (zero, omega arith, refl)

behind : {A : Type 0} (x y : A) (l : List A) → Contains l x → Contains (y ∷ l) x
behind x y l (at, within, is) = (suc at, omega (arith, within), is)

-- a test that none passes fails at each
pub fails : (test : Block → Bool) (l : List Block) (block : Block) → list_any test l ≡ false → Contains l block → test block ≡ true → ⊥
fails test l block none there passes = false≢true (sym none ∙ list_any-from_Any test l (there.0, block, there.1, there.2, passes))

-- and it is passed by none where it fails at each
pub none_passes : (test : Block → Bool) (l : List Block) → ((block : Block) → Contains l block → test block ≡ true → ⊥) → list_any test l ≡ false
none_passes test l failing = by (list_any test l) refl
  where
    by : (t : Bool) → list_any test l ≡ t → t ≡ false
    by false e = refl
    by true e =
        let found : Any (λ (block : Block). test block ≡ true) l = Any-from_list_any test l e in
        absurd (failing found.1 (found.0, found.2, found.3) found.4)

not_true : (t : Bool) → not t ≡ true → t ≡ false
not_true false e = refl
not_true true e = absurd (false≢true e)

-- a row that is free is a deleted one
pub record IsFree (test : Block → Bool) (row : Row) : Type 0 where
  pub blocks : List Block
  pub is : row ≡ rows.Deleted blocks
  pub none : list_any test blocks ≡ false

pub is_one : (test : Block → Bool) (row : Row) → is_free test row ≡ true → IsFree test row
is_one test (rows.Deleted blocks) e = record { blocks = blocks; is = refl; none = not_true (list_any test blocks) e }
is_one test row e = absurd (false≢true e)

-- a deleted row has the key of one
deleted_kind : (key : RowKey) (blocks : List Block) → ValueFits key (rows.Deleted blocks) → kind_of key ≡ 5
deleted_kind (keys.Deleted v b o k l) blocks fits = refl
deleted_kind key blocks fits = absurd fits

-- ---- a walk from key to key

last_of : {A : Type 0} (l : List A) (x : A) → Contains (l ++ x ∷ []) x
last_of [] x = first_of x []
last_of (y ∷ l) x = behind x y (l ++ x ∷ []) (last_of l x)

still_there : {A : Type 0} (l : List A) (x y : A) → Contains l y → Contains (l ++ x ∷ []) y
still_there [] x y (at, within, is) = absurd (omega (arith, within))
still_there (z ∷ l) x y (zero, within, is) = (zero, omega arith, is)
still_there (z ∷ l) x y (suc at, within, is) = behind y z (l ++ x ∷ []) (still_there l x y (at, omega (arith, within), is))

all_snoc : {A : Type 0} (P : A → Type 0) (l : List A) (x : A) → AllByRecursion P l → P x → AllByRecursion P (l ++ x ∷ [])
all_snoc P [] x all one = (one, tt)
all_snoc P (y ∷ l) x all one = (all.0, all_snoc P l x all.1 one)

each_key : (P Q : RowKey → Type 0) → ((key : RowKey) → P key → Q key) → (l : List RowKey) → AllByRecursion P l → AllByRecursion Q l
each_key P Q from [] all = tt
each_key P Q from (x ∷ l) all = (from x all.0, each_key P Q from l all.1)

rise_snoc : (l : List RowKey) (x : RowKey) → AllRise l → AllByRecursion (λ key. IsBelow key x) l → AllRise (l ++ x ∷ [])
rise_snoc [] x rise below = (tt, tt)
rise_snoc (y ∷ l) x rise below = (all_snoc (λ other. IsBelow y other) l x rise.0 below.0, rise_snoc l x rise.1 below.1)

abbrev IsNotAbove : RowKey → RowKey → Type 0
IsNotAbove last key = is_gt (key_order key last) ≡ false

-- the free rows up to the last key
pub record Walk (all : Rows) (test : Block → Bool) (last : RowKey) (found : List RowKey) : Type 0 where
  pub kind : kind_of last ≡ 5
  pub rise : AllRise found
  pub each_is : AllByRecursion (HasFree all test) found
  pub passed : AllByRecursion (IsNotAbove last) found
  pub every : (key : RowKey) → kind_of key ≡ 5 → HasFree all test key → Contains found key ⊎ IsBelow last key

not_free : {P : Type 0} (test : Block → Bool) (one two : Row) → is_free test one ≡ false → one ≡ two → is_free test two ≡ true → P
not_free test one two not same free = absurd (false≢true (sym not ∙ ap (is_free test) same ∙ free))

pub begins : (all : Rows) (test : Block → Bool) (start : RowKey) → IsLeast start → kind_of start ≡ 5 → Walk all test start (free_key test start (all start))
begins all test start least kind = by (all start) refl
  where
    over : (key : RowKey) → kind_of key ≡ 5 → {P : Type 0} → (key_order start key ≡ Equal → P) → (IsBelow start key → P) → P
    over key its {P} same below = by_order (key_order start key) refl
      where
        by_order : (o : Ordering) → key_order start key ≡ o → P
        by_order Less e = below e
        by_order Equal e = same e
        by_order Greater e = absurd (least key (its ∙ sym kind) (above_below start key e))

    by_free : (row : Row) → all start ≡ Some row → (t : Bool) → is_free test row ≡ t → Walk all test start (cond t (start ∷ []) [])
    by_free row e true free = record {
      kind = kind;
      rise = (tt, tt);
      each_is = ((row, e, free), tt);
      passed = (ap is_gt (itself start), tt);
      every = λ key its has. over key its (λ same. inl (subst (Contains (start ∷ [])) (same_is_one start key (ap is_eq same)) (first_of start []))) inr;
    }
    by_free row e false not = record {
      kind = kind;
      rise = tt;
      each_is = tt;
      passed = tt;
      every = λ key its has. over key its (λ same. not_free test row has.0 not (same_Some row has.0 (sym e ∙ ap all (same_is_one start key (ap is_eq same)) ∙ has.1)) has.2) inr;
    }

    by : (o : Option Row) → all start ≡ o → Walk all test start (free_key test start o)
    by None e = record {
      kind = kind;
      rise = tt;
      each_is = tt;
      passed = tt;
      every = λ key its has. over key its (λ same. absurd (false≢true (ap is_some (sym e ∙ ap all (same_is_one start key (ap is_eq same)) ∙ has.1)))) inr;
    }
    by (Some row) e = by_free row e (is_free test row) refl

-- at most one key is added
pub few_at_first : (test : Block → Bool) (key : RowKey) (o : Option Row) (most : ℕ) → 1 ≤ most → length (free_key test key o) ≤ most
few_at_first test key None most some = omega arith
few_at_first test key (Some row) most some = by (is_free test row)
  where
    by : (t : Bool) → length (cond t (key ∷ []) []) ≤ most
    by true = omega (arith, some)
    by false = omega arith

pub few_more : (test : Block → Bool) (key : RowKey) (row : Row) (found : List RowKey) (most : ℕ) → length found ≤ most → (length found ≡ most → ⊥) → length (found ++ free_key test key (Some row)) ≤ most
few_more test key row found most few not_full = by (is_free test row)
  where
    by : (t : Bool) → length (found ++ cond t (key ∷ []) []) ≤ most
    by true =
        let more = length-append found (key ∷ []) in
        let under : length found < most = ⊎_elim (λ lt. lt) (λ ge. absurd (not_full (omega (arith, few, ge)))) (cases_lt (length found) most) in
        omega (arith, more, under)
    by false = let same = length-append found [] in omega (arith, same, few)

module _ (all : Rows) (test : Block → Bool) (last : RowKey) (found : List RowKey) (walk : Walk all test last found) where
  module _ (key : RowKey) (row : Row) (next : IsNext all last key row) where
    below : AllByRecursion (λ other. IsBelow other key) found
    below = each_key (IsNotAbove last) (λ other. IsBelow other key) (λ other not_above. under other last key not_above next.is_above.above) found walk.passed

    passed_now : AllByRecursion (IsNotAbove key) found
    passed_now = each_key (λ other. IsBelow other key) (IsNotAbove key) (λ other less. ap is_gt less) found below

    -- a key behind the last one is the next, or behind it
    beyond : (other : RowKey) → kind_of other ≡ 5 → HasFree all test other → IsBelow last other → {P : Type 0} → (key ≡ other → P) → (IsBelow key other → P) → P
    beyond other its has over {P} same behind = by_order (key_order key other) refl
      where
        by_order : (o : Ordering) → key_order key other ≡ o → P
        by_order Less e = behind e
        by_order Equal e = same (same_is_one key other (ap is_eq e))
        by_order Greater e = absurd (next.least other (record { has_row = ap is_some has.1; same_kind = its ∙ sym walk.kind; above = over }) (above_below key other e))

    by_free : (t : Bool) → is_free test row ≡ t → Walk all test key (found ++ cond t (key ∷ []) [])
    by_free true free = record {
      kind = next.is_above.same_kind ∙ walk.kind;
      rise = rise_snoc found key walk.rise below;
      each_is = all_snoc (HasFree all test) found key walk.each_is (row, next.its_row, free);
      passed = all_snoc (IsNotAbove key) found key passed_now (ap is_gt (itself key));
      every = λ other its has. ⊎_elim
          (λ there. inl (still_there found key other there))
          (λ over. beyond other its has over (λ same. inl (subst (Contains (found ++ key ∷ [])) same (last_of found key))) inr)
          (walk.every other its has);
    }
    by_free false not = subst (Walk all test key) (sym (append-nil found)) (record {
      kind = next.is_above.same_kind ∙ walk.kind;
      rise = walk.rise;
      each_is = walk.each_is;
      passed = passed_now;
      every = λ other its has. ⊎_elim
          inl
          (λ over. beyond other its has over (λ same. not_free test row has.0 not (same_Some row has.0 (sym next.its_row ∙ ap all same ∙ has.1)) has.2) inr)
          (walk.every other its has);
    })

    pub steps : Walk all test key (found ++ free_key test key (Some row))
    steps = by_free (is_free test row) refl

  module _ (most : ℕ) where
    pub ends : length found ≤ most → HasNoNext all last → AreFirstFree all test most found
    ends few none = record {
      rise = walk.rise;
      each = walk.each_is;
      few = few;
      every = λ key its has. ⊎_elim inl (λ over. absurd (none key (record { has_row = ap is_some has.1; same_kind = its ∙ sym walk.kind; above = over }))) (walk.every key its has);
    }

    pub full : length found ≡ most → AreFirstFree all test most found
    full is = record {
      rise = walk.rise;
      each = walk.each_is;
      few = omega (arith, is);
      every = λ key its has. ⊎_elim inl (λ over. inr (is, each_key (IsNotAbove last) (λ other. IsBelow other key) (λ other not_above. under other last key not_above over) found walk.passed)) (walk.every key its has);
    }

module _ (all : Rows) (pinned : List Block) (shown test : Block → Bool) (tells : (block : Block) → (shown block ≡ true) ↔ IsShown all block) (used : (block : Block) → test block ≡ shown block || list_any (is_block block) pinned)
    (most : ℕ) (found : List RowKey) (first : AreFirstFree all test most found) (namespace : Namespace) (fit : AreInGrammar all) (stands : StandsFor all namespace) where
  one : (key : RowKey) → HasFree all test key → IsReclaimable all namespace pinned key
  one key (row, there, free) =
      let it = is_one test row free in
      record {
        blocks = it.blocks;
        row = there ∙ ap Some it.is;
        unreached = λ block has reached. fails test it.blocks block it.none has (used block ∙ or_first (shown block) _ ((tells block).1 (reached_is_shown all namespace stands block reached)));
        unpinned = λ block has pin. fails test it.blocks block it.none has (used block ∙ or_second (shown block) _ (among block pinned pin));
      }

  pub only : AllByRecursion (IsReclaimable all namespace pinned) found
  only = each_key (HasFree all test) (IsReclaimable all namespace pinned) one found first.each

  pub among_first : (key : RowKey) → IsReclaimable all namespace pinned key → IsAmongFirst most found key
  among_first key is =
      let none = none_passes test is.blocks (λ block has passes. ⊎_elim
      (λ here. is.unreached block has (shown_is_reached all namespace stands block fit ((tells block).0 here)))
      (λ there. is.unpinned block has (contains block pinned there))
      (or_cases (shown block) _ (sym (used block) ∙ passes))) in
      first.every key (deleted_kind key is.blocks (fit key (rows.Deleted is.blocks) is.row).1) (rows.Deleted is.blocks, is.row, ap not none)
