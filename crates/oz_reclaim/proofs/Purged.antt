-- What the removal of deleted rows makes of rows.
use Rattle.std.proofs.Common.{◌≡◌, ◌≢◌, ◌⊎◌, inl, inr, ⊎_elim, ℕ, zero, suc, ◌<◌, ◌≤◌, ◌||◌, Bool, true, false, List, [], ◌∷◌, ◌++◌, length, map, Option, None, Some, IsSome, is_some, cond, Contains, refl, sym, ◌∙◌, ap, subst, arith}
use mathlib.Core.Bool.{false≢true}
use Rattle.std.specs.List.{AllByRecursion, flat_map, list_any}
use Rattle.oz_decision.specs.Drafts.{row_by_row}
use Rattle.oz_decision.specs.Meets.{AreInGrammar, IsInOneOf}
use Rattle.oz_decision.specs.Walking.{is_live}
use Rattle.oz_effects.specs.Batches.{IsBatchOf}
use Rattle.oz_effects.specs.Build.{base_of}
use Rattle.oz_effects.specs.laws.Joined.{batches_are_one}
use Rattle.oz_effects.specs.laws.Steps.{nothing_is_batch, removal_is_batch}
use Rattle.oz_fields.specs.declared.block.Block.{Block}
use Rattle.oz_reclaim.specs.Moves.{DeletedMove, IsSteady, RenamesStay}
use Rattle.oz_reclaim.specs.Reach.{IsShown}
use Rattle.oz_reclaim.specs.Service.{ArePurged, IsPurged, IsUnreached, key_named}
use Rattle.oz_reclaim.proofs.Removing.{member, found_same, origin_of}
use Rattle.oz_reclaim.proofs.Touched.{apart, key_itself}
use Rattle.oz_requests.specs.declared.request.PurgeRow.{PurgeRow}
use Rattle.oz_rows.specs.Counts.{AllDiffer}
use Rattle.oz_rows.specs.declared.key.RowKey.{RowKey}
use Rattle.oz_rows.specs.declared.key.RowKey.TheVariants as keys
use Rattle.oz_rows.specs.declared.operation.Change.{Change}
use Rattle.oz_rows.specs.declared.operation.Operation.TheVariants.{Remove}
use Rattle.oz_rows.specs.declared.row.Row.{Row}
use Rattle.oz_rows.specs.declared.row.Row.TheVariants as rows
use Rattle.oz_rows.specs.declared.row.SnapshotState.TheVariants.{Live}
use Rattle.oz_rows.specs.Operations.{batch_bytes, operation_bytes}
use Rattle.oz_rows.specs.Rows.{KeyFits, kind_of}
use Rattle.oz_rows.specs.RowMaps.{Rows, gone, is_block, is_same, row_after, after_changes}
use Rattle.oz_rows.specs.laws.Lengths.{no_longer}
use Rattle.oz_rows.specs.laws.Same.{same_is_one}
use Rattle.oz_rows.specs.laws.Sizes.{removal, purge_size}
use Rattle.oz_sound.specs.Sound.{SnapshotHas, StandsIn, blocks_of, IsSoundButRenames}

pub no_row : Option Row
no_row = None

abbrev pub bytes_of : List Change → List ℕ
bytes_of changes = batch_bytes (row_by_row changes)

after_gone : (found : List RowKey) (q : RowKey) (row : Option Row) → row_after (map gone found) q row ≡ cond (list_any (λ key. is_same key q) found) no_row row
unfolding no_row
after_gone [] q row = refl
after_gone (key ∷ found) q row = after_gone found q (cond (is_same key q) None row) ∙ by (is_same key q) (list_any (λ key. is_same key q) found)
  where
    by : (t u : Bool) → cond u no_row (cond t no_row row) ≡ cond (t || u) no_row row
    by true true = refl
    by true false = refl
    by false u = refl

none_apart : {A : Type 0} {P : Type 0} (a : A) → None ≡ Some a → P
none_apart a e = absurd (false≢true (ap is_some e))

-- nothing stands on a deleted row
not_based : (other : RowKey) (row : Row) (v b k : List ℕ) (o l : ℕ) → base_of other row ≡ Some (keys.Deleted v b o k l) → ⊥
not_based (keys.Bucket w c) row v b k o l e = absurd (cc)
not_based (keys.Key w c q) row v b k o l e = absurd (cc)
not_based (keys.Open w c q m) row v b k o l e = absurd (cc)
not_based (keys.Snapshot w c m) (rows.Snapshot name previous Live) v b k o l e = absurd (cc)
not_based other row v b k o l e = none_apart (keys.Deleted v b o k l) e

-- a deleted row that may be removed
pub record MayGo (all : Rows) (key : RowKey) : Type 0 where
  pub deleted : kind_of key ≡ 5
  pub fits : KeyFits key
  pub there : IsSome (all key)

needs_none : (all : Rows) (key : RowKey) → kind_of key ≡ 5 → (other : RowKey) (row : Row) → base_of other row ≡ Some key → ⊥
needs_none all (keys.Deleted v b o k l) kind other row e = not_based other row v b k o l e
needs_none all key kind other row e = absurd (omega (arith, kind))

still_there : (all : Rows) (key : RowKey) (found : List RowKey) → AllByRecursion (λ other. key ≢ other) found → AllByRecursion (MayGo all) found → AllByRecursion (MayGo (after_changes (gone key ∷ []) all)) found
still_there all key [] differ may = tt
still_there all key (x ∷ found) differ may =
    (record { deleted = may.0.deleted; fits = may.0.fits; there = subst IsSome (sym (ap (λ (t : Bool). cond t None (all x)) (apart key x differ.0))) may.0.there }, still_there all key found differ.1 may.1)

pub removal_batch : (all : Rows) (found : List RowKey) → AllDiffer found → AllByRecursion (MayGo all) found → IsBatchOf all (bytes_of (map gone found)) (map gone found)
removal_batch all [] differ may = nothing_is_batch all
removal_batch all (key ∷ found) differ may =
    batches_are_one all (operation_bytes (Remove key)) (bytes_of (map gone found)) (gone key ∷ []) (map gone found)
    (removal_is_batch all key may.0.fits may.0.there (λ other row there e. needs_none all key may.0.deleted other row e))
    (removal_batch (after_changes (gone key ∷ []) all) found differ.1 (still_there all key found differ.0 may.1))

as_removals : (found : List RowKey) → bytes_of (map gone found) ≡ flat_map removal found
as_removals [] = refl
as_removals (key ∷ found) = ap (λ (l : List ℕ). removal key ++ l) (as_removals found)

-- a key among others is found by its order
turned : (key : RowKey) (l : List RowKey) → Contains l key → list_any (is_same key) l ≡ true
turned key [] (at, within, is) = absurd (omega (arith, within))
turned key (x ∷ l) (zero, within, is) = ap (λ k. is_same key k || list_any (is_same key) l) is ∙ ap (λ (t : Bool). t || list_any (is_same key) l) (key_itself key)
turned key (x ∷ l) (suc at, within, is) = by (is_same key x) (turned key l (at, omega (arith, within), is))
  where
    by : (t : Bool) → list_any (is_same key) l ≡ true → t || list_any (is_same key) l ≡ true
    by true e = refl
    by false e = e

all_fit : (all : Rows) (found : List RowKey) → AllByRecursion (MayGo all) found → AllByRecursion KeyFits found
all_fit all [] may = tt
all_fit all (key ∷ found) may = (may.0.fits, all_fit all found may.1)

module _ (all : Rows) (volume : List ℕ) (named : List PurgeRow) (changes : List Change) (purged : ArePurged all volume named changes) where
  abbrev found : List RowKey
  found = purged.rows_gone

  abbrev pub now : Rows
  now = after_changes changes all

  one_may : (key : RowKey) → IsPurged all volume named key → MayGo all key
  one_may key is = record { deleted = kind; fits = is.fits; there = ap is_some is.row }
    where
      kind : kind_of key ≡ 5
      kind = let from = origin_of all (λ block. false) volume named key is.named_so in sym (ap kind_of from.2)

  all_may : (l : List RowKey) → AllByRecursion (IsPurged all volume named) l → AllByRecursion (MayGo all) l
  all_may [] each = tt
  all_may (key ∷ l) each = (one_may key each.0, all_may l each.1)

  kinds : (l : List RowKey) → AllByRecursion (MayGo all) l → AllByRecursion (λ key. kind_of key ≡ 5) l
  kinds [] may = tt
  kinds (key ∷ l) may = (may.0.deleted, kinds l may.1)

  pub all_deleted : AllByRecursion (λ key. kind_of key ≡ 5) found
  all_deleted = kinds found (all_may found purged.each)

  named_so : (l : List RowKey) → AllByRecursion (IsPurged all volume named) l → AllByRecursion (λ key. list_any (is_same key) (map (key_named volume) named) ≡ true) l
  named_so [] each = tt
  named_so (key ∷ l) each = (turned key (map (key_named volume) named) each.0.named_so, named_so l each.1)

  pub now_is : (q : RowKey) → now q ≡ cond (list_any (λ key. is_same key q) found) no_row (all q)
  now_is q = ap (λ (c : List Change). row_after c q (all q)) purged.are ∙ after_gone found q (all q)

  -- the row of a key is as it was, or it went
  pub either : (q : RowKey) → (now q ≡ all q) ⊎ ((now q ≡ None) × Contains found q)
  unfolding no_row
  either q = by (list_any (λ key. is_same key q) found) refl
    where
      by : (t : Bool) → list_any (λ key. is_same key q) found ≡ t → (now q ≡ all q) ⊎ ((now q ≡ None) × Contains found q)
      by false e = inl (now_is q ∙ ap (λ (t : Bool). cond t no_row (all q)) e)
      by true e = inr (now_is q ∙ ap (λ (t : Bool). cond t no_row (all q)) e, found_same q found e)

  pub other : (q : RowKey) → kind_of q ≢ 5 → now q ≡ all q
  other q kind = ⊎_elim (λ same. same) (λ went. absurd (kind (one_may q (member (IsPurged all volume named) found q purged.each went.1)).deleted)) (either q)

  snapshot_same : (w c : List ℕ) (n : ℕ) → now (keys.Snapshot w c n) ≡ all (keys.Snapshot w c n)
  snapshot_same w c n = other (keys.Snapshot w c n) (λ e. omega (arith, e))

  key_same : (w c k : List ℕ) (n : ℕ) → now (keys.SnapshotKey w c n k) ≡ all (keys.SnapshotKey w c n k)
  key_same w c k n = other (keys.SnapshotKey w c n k) (λ e. omega (arith, e))

  pub renamed_same : RenamesStay all now
  renamed_same w c o l = other (keys.Renamed w c o l) (λ e. omega (arith, e))

  steady_same : (key : RowKey) → IsSteady key → now key ≡ all key
  steady_same (keys.Volume w) steady = other (keys.Volume w) (λ e. omega (arith, e))
  steady_same (keys.Bucket w c) steady = other (keys.Bucket w c) (λ e. omega (arith, e))
  steady_same (keys.Key w c k) steady = other (keys.Key w c k) (λ e. omega (arith, e))
  steady_same (keys.Open w c k m) steady = other (keys.Open w c k m) (λ e. omega (arith, e))
  steady_same (keys.Stripe s) steady = other (keys.Stripe s) (λ e. omega (arith, e))
  steady_same key steady = absurd steady

  live_shows : (w c k : List ℕ) (n : ℕ) (block : Block) → SnapshotHas now w c n block k → IsShown all block
  live_shows w c k n block has = record {
    key = keys.SnapshotKey w c n k;
    shown = ap is_live (sym (snapshot_same w c n) ∙ has.live.2);
    stands = record { row = has.stands.row; there = sym (key_same w c k n) ∙ has.stands.there; has = has.stands.has };
  }

  gone_unreached : (q : RowKey) → Contains found q → IsUnreached all q
  gone_unreached q there = (member (IsPurged all volume named) found q purged.each there).unreached

  module _ (sound : IsSoundButRenames all) where
    pub moves : DeletedMove all now
    moves = record {
      steady = steady_same;
      snapshots = λ w c n there. subst IsSome (snapshot_same w c n) there;
      live = λ w c n live. snapshot_same w c n;
      live_keys = λ w c k n live. key_same w c k n;
      snapshot_keys = λ w c k n row there.
          let was = sym (key_same w c k n) ∙ there in
          (was, subst IsSome (sym (snapshot_same w c n)) (sound.numbers.snapshot_keys w c k n (ap is_some was)));
      owner_now = λ w c o. o;
      came = λ w c k o l row there. ⊎_elim
          (λ same. (o, refl, sym same ∙ there))
          (λ went. none_apart row (sym went.0 ∙ there))
          (either (keys.Deleted w c o k l));
      stays = λ w c k o l row there. ⊎_elim
          (λ same. inl (same ∙ there))
          (λ went. inr (λ block x y name n has held. gone_unreached (keys.Deleted w c o k l) went.1 block (record { row = row; there = there; has = has }) (live_shows x y name n block held)))
          (either (keys.Deleted w c o k l));
      deleted_owners = λ w c k o l there some. subst IsSome (sym (snapshot_same w c o)) (sound.numbers.deleted w c k o l (was_there (keys.Deleted w c o k l) there) some);
      renamed_owners = λ w c o l there some. subst IsSome (sym (snapshot_same w c o)) (sound.numbers.renamed w c o l (subst IsSome (renamed_same w c o l) there) some);
    }
      where
        was_there : (q : RowKey) → IsSome (now q) → IsSome (all q)
        was_there q there = ⊎_elim (λ same. subst IsSome same there) (λ went. absurd (false≢true (sym (ap is_some went.0) ∙ there))) (either q)

  -- what went was named
  in_one_of : (l : List PurgeRow) (q : RowKey) → Contains (map (key_named volume) l) q → (block : Block) → StandsIn all block q → IsInOneOf all volume l block
  in_one_of [] q (at, within, is) block stands = absurd (omega (arith, within))
  in_one_of (row ∷ l) q (zero, within, is) block stands = inl (subst (StandsIn all block) (sym is) stands)
  in_one_of (row ∷ l) q (suc at, within, is) block stands = inr (in_one_of l q (at, omega (arith, within), is) block stands)

  pub stay_or_go : (w c k : List ℕ) (o l : ℕ) (row : Row) (block : Block) → all (keys.Deleted w c o k l) ≡ Some row → list_any (is_block block) (blocks_of row) ≡ true → (now (keys.Deleted w c o k l) ≡ Some row) ⊎ IsInOneOf all volume named block
  stay_or_go w c k o l row block there has = ⊎_elim
      (λ same. inl (same ∙ there))
      (λ went. inr (in_one_of named (keys.Deleted w c o k l) (member (IsPurged all volume named) found (keys.Deleted w c o k l) purged.each went.1).named_so block (record { row = row; there = there; has = has })))
      (either (keys.Deleted w c o k l))

  pub fit_now : AreInGrammar all → AreInGrammar now
  fit_now fit q row there = ⊎_elim (λ same. fit q row (sym same ∙ there)) (λ went. none_apart row (sym went.0 ∙ there)) (either q)

  pub batch : IsBatchOf all (bytes_of changes) changes
  batch = subst (λ (c : List Change). IsBatchOf all (bytes_of c) c) (sym purged.are) (removal_batch all found purged.differ (all_may found purged.each))

  pub short : length named ≤ 1024 → length (bytes_of changes) < 2097152
  short few = subst (λ (c : List Change). length (bytes_of c) < 2097152) (sym purged.are) (subst (λ (l : List ℕ). length l < 2097152) (sym (as_removals found)) (purge_size found (all_fit all found (all_may found purged.each)) (let most = no_longer is_same same_is_one found (map (key_named volume) named) purged.differ (named_so found purged.each) in let same = as_many named in omega (arith, most, same, few))))
    where
      as_many : (l : List PurgeRow) → length (map (key_named volume) l) ≡ length l
      as_many [] = refl
      as_many (row ∷ l) = ap suc (as_many l)
