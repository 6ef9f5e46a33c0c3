-- Rows stay sound where what a marked snapshot owns goes to the next owner.
use Rattle.std.proofs.Common.{◌≡◌, ◌≢◌, ◌⊎◌, inl, inr, ⊎_elim, ℕ, ◌<◌, ◌≤◌, ◌==◌, ◌&&◌, ◌||◌, Bool, true, false, List, [], ◌∷◌, Option, None, Some, IsSome, is_some, cond, refl, sym, ◌∙◌, ap, subst, arith}
use mathlib.Core.Bool.{false≢true}
use Rattle.std.specs.List.{list_any}
use Rattle.oz_decision.specs.Meets.{AreInGrammar}
use Rattle.oz_decision.specs.laws.Versions.{block_itself}
use Rattle.oz_fields.specs.declared.block.Block.{Block}
use Rattle.oz_reclaim.specs.Moves.{DeletedMove, IsSteady}
use Rattle.oz_reclaim.specs.Work.{is_marked, IsMarked, IsNextOwner}
use Rattle.oz_reclaim.specs.laws.Moving.{has_before}
use Rattle.oz_reclaim.proofs.Between.{number_itself, bucket_itself, same_bucket, same_number}
use Rattle.oz_reclaim.proofs.Chained.{first_before, first_now, same_or_not}
use Rattle.oz_reclaim.proofs.Shifted.{now as rows_now, deleted_gone, deleted_comes, renamed_gone, renamed_comes, stays as aside_stays}
use Rattle.oz_reclaim.proofs.Touched.{changed}
use Rattle.oz_rows.specs.declared.entry.RowEntry.{RowEntry}
use Rattle.oz_rows.specs.declared.key.RowKey.{RowKey}
use Rattle.oz_rows.specs.declared.key.RowKey.TheVariants as keys
use Rattle.oz_rows.specs.declared.row.Row.{Row}
use Rattle.oz_rows.specs.declared.row.Row.TheVariants as rows
use Rattle.oz_rows.specs.Rows.{IsOwner, ValueFits, kind_of}
use Rattle.oz_rows.specs.RowMaps.{Rows, KeysRise, is_block, is_bucket, row_of}
use Rattle.oz_sound.specs.Sound.{IsNamedAnew, IsRename, IsSoundButRenames, RenamesAreSound, SnapshotHas, StandsIn, blocks_of}
use Rattle.oz_sound.specs.StandsFor.{IsLive}

-- what holds of one bucket, and of each other, holds of all
pub by_place : (v b : List ℕ) (P : List ℕ → List ℕ → Type 0) → ((w c : List ℕ) → is_bucket v b w c ≡ false → P w c) → P v b → (w c : List ℕ) → P w c
by_place v b P elsewhere here w c = by (is_bucket v b w c) refl
  where
    by : (t : Bool) → is_bucket v b w c ≡ t → P w c
    by false e = elsewhere w c e
    by true e = let same = same_bucket v b w c e in subst (λ (x : List ℕ × List ℕ). P x.0 x.1) (λ i. (same.volume i, same.bucket i)) here

some_or : (o : Option Row) → ((row : Row) × (o ≡ Some row)) ⊎ (o ≡ None)
some_or None = inr refl
some_or (Some row) = inl (row, refl)

none_some : {P : Type 0} {o : Option Row} → o ≡ None → IsSome o → P
none_some e some = absurd (false≢true (sym (ap is_some e) ∙ some))

-- the first block of a deleted row has the local id of its key
first_block : (v b k : List ℕ) (o l : ℕ) (row : Row) → ValueFits (keys.Deleted v b o k l) row → (block : Block) × (block.local ≡ l) × (list_any (is_block block) (blocks_of row) ≡ true)
first_block v b k o l (rows.Deleted (block ∷ others)) fits = (block, fits.1, ap (λ (t : Bool). t || list_any (is_block block) others) (block_itself block))
first_block v b k o l (rows.Deleted []) fits = absurd fits.1
first_block v b k o l row fits = absurd fits

module _ (all : Rows) (v b : List ℕ) (from to : ℕ) (fit : AreInGrammar all) (marked : IsMarked all v b from) (next : IsNextOwner all v b from to) where
  marked_there : (o : Option Row) → is_marked o ≡ true → IsSome o
  marked_there (Some row) e = refl
  marked_there None e = absurd (false≢true e)

  pub no_zero : from ≢ 0
  no_zero e = by (some_or (all (keys.Snapshot v b from)))
    where
      by : ((row : Row) × (all (keys.Snapshot v b from) ≡ Some row)) ⊎ (all (keys.Snapshot v b from) ≡ None) → ⊥
      by (inl (row, there)) = let least = (fit (keys.Snapshot v b from) row there).0.2.0 in omega (arith, least, e)
      by (inr none) = none_some none (marked_there (all (keys.Snapshot v b from)) marked)

  pub differ : from ≢ to
  differ e = ⊎_elim (λ last. no_zero (e ∙ last.0)) (λ later. let lt = later.0.0 in omega (arith, lt, e)) next

-- what a snapshot owns goes on whole
pub goes_whole : (from : ℕ) → from ≢ 0 → (t : Bool) → from == 0 && t ≡ false
goes_whole from some t = by (from == 0) refl
  where
    by : (s : Bool) → (from == 0) ≡ s → s && t ≡ false
    by false e = refl
    by true e = absurd (some (same_number from 0 e))

module _ (v b : List ℕ) (from to : ℕ) (entries : List RowEntry) (rise : KeysRise entries) (differ : from ≢ to) (none_stays : (l : ℕ) → from == 0 && is_some (row_of entries (keys.Renamed v b to l)) ≡ false) where
  abbrev all : Rows
  all = row_of entries

  abbrev pub now : Rows
  now = rows_now v b from to differ entries rise none_stays

  other_kind : (q : RowKey) → kind_of q ≢ 5 → kind_of q ≢ 8 → now q ≡ all q
  other_kind q not_deleted not_renamed = aside_stays v b from to differ entries rise none_stays q (record {
    deleted = λ o its k l e. not_deleted (sym (ap kind_of e));
    renamed = λ o its l e. not_renamed (sym (ap kind_of e));
  })

  other_bucket : (w c : List ℕ) → is_bucket v b w c ≡ false → ((v ≡ w) × (b ≡ c) → ⊥)
  other_bucket w c not (volume, bucket) = false≢true (sym not ∙ (λ i. is_bucket v b (sym volume i) (sym bucket i)) ∙ bucket_itself v b)

  deleted_elsewhere : (w c k : List ℕ) (o l : ℕ) → is_bucket v b w c ≡ false → now (keys.Deleted w c o k l) ≡ all (keys.Deleted w c o k l)
  deleted_elsewhere w c k o l not = aside_stays v b from to differ entries rise none_stays (keys.Deleted w c o k l) (record {
    deleted = λ p its q m e. let volume : v ≡ w = cc in let bucket : b ≡ c = cc in other_bucket w c not (volume, bucket);
    renamed = λ p its m e. absurd (cc);
  })

  renamed_elsewhere : (w c : List ℕ) (o l : ℕ) → is_bucket v b w c ≡ false → now (keys.Renamed w c o l) ≡ all (keys.Renamed w c o l)
  renamed_elsewhere w c o l not = aside_stays v b from to differ entries rise none_stays (keys.Renamed w c o l) (record {
    deleted = λ p its q m e. absurd (cc);
    renamed = λ p its m e. let volume : v ≡ w = cc in let bucket : b ≡ c = cc in other_bucket w c not (volume, bucket);
  })

  neither : (o p : ℕ) → o ≢ from → o ≢ to → (p ≡ from) ⊎ (p ≡ to) → p ≡ o → ⊥
  neither o p not_from not_to (inl is) e = not_from (sym e ∙ is)
  neither o p not_from not_to (inr is) e = not_to (sym e ∙ is)

  deleted_other : (k : List ℕ) (o l : ℕ) → o ≢ from → o ≢ to → now (keys.Deleted v b o k l) ≡ all (keys.Deleted v b o k l)
  deleted_other k o l not_from not_to = aside_stays v b from to differ entries rise none_stays (keys.Deleted v b o k l) (record {
    deleted = λ p its q m e. let owner : p ≡ o = cc in neither o p not_from not_to its owner;
    renamed = λ p its m e. absurd (cc);
  })

  renamed_other : (o l : ℕ) → o ≢ from → o ≢ to → now (keys.Renamed v b o l) ≡ all (keys.Renamed v b o l)
  renamed_other o l not_from not_to = aside_stays v b from to differ entries rise none_stays (keys.Renamed v b o l) (record {
    deleted = λ p its q m e. absurd (cc);
    renamed = λ p its m e. let owner : p ≡ o = cc in neither o p not_from not_to its owner;
  })

  snapshot_same : (w c : List ℕ) (n : ℕ) → now (keys.Snapshot w c n) ≡ all (keys.Snapshot w c n)
  snapshot_same w c n = other_kind (keys.Snapshot w c n) (λ e. omega (arith, e)) (λ e. omega (arith, e))

  key_same : (w c k : List ℕ) (n : ℕ) → now (keys.SnapshotKey w c n k) ≡ all (keys.SnapshotKey w c n k)
  key_same w c k n = other_kind (keys.SnapshotKey w c n k) (λ e. omega (arith, e)) (λ e. omega (arith, e))

  steady_same : (key : RowKey) → IsSteady key → now key ≡ all key
  steady_same (keys.Volume w) steady = other_kind (keys.Volume w) (λ e. omega (arith, e)) (λ e. omega (arith, e))
  steady_same (keys.Bucket w c) steady = other_kind (keys.Bucket w c) (λ e. omega (arith, e)) (λ e. omega (arith, e))
  steady_same (keys.Key w c k) steady = other_kind (keys.Key w c k) (λ e. omega (arith, e)) (λ e. omega (arith, e))
  steady_same (keys.Open w c k m) steady = other_kind (keys.Open w c k m) (λ e. omega (arith, e)) (λ e. omega (arith, e))
  steady_same (keys.Stripe s) steady = other_kind (keys.Stripe s) (λ e. omega (arith, e)) (λ e. omega (arith, e))
  steady_same key steady = absurd steady

  -- ---- owners

  abbrev pub owner_now : List ℕ → List ℕ → ℕ → ℕ
  owner_now w c o = cond (is_bucket v b w c && o == from) to o

  owner_elsewhere : (w c : List ℕ) (o : ℕ) → is_bucket v b w c ≡ false → owner_now w c o ≡ o
  owner_elsewhere w c o not = ap (λ (t : Bool). cond (t && o == from) to o) not

  pub owner_from : owner_now v b from ≡ to
  owner_from = ap (λ (t : Bool). cond (t && from == from) to from) (bucket_itself v b) ∙ ap (λ (t : Bool). cond t to from) (number_itself from)

  owner_other : (o : ℕ) → o ≢ from → owner_now v b o ≡ o
  owner_other o not = ap (λ (t : Bool). cond (t && o == from) to o) (bucket_itself v b) ∙ by (o == from) refl
    where
      by : (t : Bool) → (o == from) ≡ t → cond t to o ≡ o
      by false e = refl
      by true e = absurd (not (same_number o from e))

  -- ---- deleted rows

  abbrev Came : List ℕ → List ℕ → Type 0
  Came w c = (k : List ℕ) (o l : ℕ) (row : Row) → now (keys.Deleted w c o k l) ≡ Some row → (before : ℕ) × (owner_now w c before ≡ o) × (all (keys.Deleted w c before k l) ≡ Some row)

  came_here : Came v b
  came_here k o l row there = ⊎_elim
      (λ is. none_some (ap (λ p. now (keys.Deleted v b p k l)) is ∙ deleted_gone v b from to differ entries rise none_stays k l) (ap is_some there))
      (λ not_from. ⊎_elim
      (λ is. came_to is (some_or (all (keys.Deleted v b from k l))))
      (λ not_to. (o, owner_other o not_from, sym (deleted_other k o l not_from not_to) ∙ there))
      (same_or_not o to))
      (same_or_not o from)
    where
      at_to : o ≡ to → changed (λ r. Some r) (all (keys.Deleted v b from k l)) (all (keys.Deleted v b to k l)) ≡ Some row
      at_to is = sym (deleted_comes v b from to differ entries rise none_stays k l) ∙ ap (λ p. now (keys.Deleted v b p k l)) (sym is) ∙ there

      came_to : o ≡ to → ((r : Row) × (all (keys.Deleted v b from k l) ≡ Some r)) ⊎ (all (keys.Deleted v b from k l) ≡ None) → (before : ℕ) × (owner_now v b before ≡ o) × (all (keys.Deleted v b before k l) ≡ Some row)
      came_to is (inl (r, has)) = (from, owner_from ∙ sym is, has ∙ sym (ap (λ x. changed (λ r. Some r) x (all (keys.Deleted v b to k l))) has) ∙ at_to is)
      came_to is (inr none) = (to, owner_other to (λ e. differ (sym e)) ∙ sym is, sym (ap (λ x. changed (λ r. Some r) x (all (keys.Deleted v b to k l))) none) ∙ at_to is)

  pub came : (w c : List ℕ) → Came w c
  came = by_place v b Came (λ w c not k o l row there. (o, owner_elsewhere w c o not, sym (deleted_elsewhere w c k o l not) ∙ there)) came_here

  abbrev RenamedCame : List ℕ → List ℕ → Type 0
  RenamedCame w c = (o l : ℕ) (row : Row) → now (keys.Renamed w c o l) ≡ Some row → (before : ℕ) × (owner_now w c before ≡ o) × (all (keys.Renamed w c before l) ≡ Some row)

  renamed_here : RenamedCame v b
  renamed_here o l row there = ⊎_elim
      (λ is. none_some (ap (λ p. now (keys.Renamed v b p l)) is ∙ renamed_gone v b from to differ entries rise none_stays l) (ap is_some there))
      (λ not_from. ⊎_elim
      (λ is. came_to is (some_or (all (keys.Renamed v b from l))))
      (λ not_to. (o, owner_other o not_from, sym (renamed_other o l not_from not_to) ∙ there))
      (same_or_not o to))
      (same_or_not o from)
    where
      at_to : o ≡ to → changed (λ r. Some r) (all (keys.Renamed v b from l)) (all (keys.Renamed v b to l)) ≡ Some row
      at_to is = sym (renamed_comes v b from to differ entries rise none_stays l) ∙ ap (λ p. now (keys.Renamed v b p l)) (sym is) ∙ there

      came_to : o ≡ to → ((r : Row) × (all (keys.Renamed v b from l) ≡ Some r)) ⊎ (all (keys.Renamed v b from l) ≡ None) → (before : ℕ) × (owner_now v b before ≡ o) × (all (keys.Renamed v b before l) ≡ Some row)
      came_to is (inl (r, has)) = (from, owner_from ∙ sym is, has ∙ sym (ap (λ x. changed (λ r. Some r) x (all (keys.Renamed v b to l))) has) ∙ at_to is)
      came_to is (inr none) = (to, owner_other to (λ e. differ (sym e)) ∙ sym is, sym (ap (λ x. changed (λ r. Some r) x (all (keys.Renamed v b to l))) none) ∙ at_to is)

  pub renamed_came : (w c : List ℕ) → RenamedCame w c
  renamed_came = by_place v b RenamedCame (λ w c not o l row there. (o, owner_elsewhere w c o not, sym (renamed_elsewhere w c o l not) ∙ there)) renamed_here

  module _ (fit : AreInGrammar all) (to_fits : IsOwner to) where
    owner_fits : (w c : List ℕ) (before o : ℕ) → owner_now w c before ≡ o → IsOwner before → IsOwner o
    owner_fits w c before o is fits = subst IsOwner is (by (is_bucket v b w c && before == from))
      where
        by : (t : Bool) → IsOwner (cond t to before)
        by true = to_fits
        by false = fits

    pub fit_now : AreInGrammar now
    fit_now (keys.Deleted w c o k l) row there =
        let from_row = came w c k o l row there in
        let fits = fit (keys.Deleted w c from_row.0 k l) row from_row.2 in
        ((fits.0.0, fits.0.1, owner_fits w c from_row.0 o from_row.1 fits.0.2, fits.0.3, fits.0.4), as_deleted w c k from_row.0 o l row fits.1)
      where
        as_deleted : (w c k : List ℕ) (p o l : ℕ) (row : Row) → ValueFits (keys.Deleted w c p k l) row → ValueFits (keys.Deleted w c o k l) row
        as_deleted w c k p o l (rows.Deleted blocks) fits = fits
        as_deleted w c k p o l row fits = absurd fits
    fit_now (keys.Renamed w c o l) row there =
        let from_row = renamed_came w c o l row there in
        let fits = fit (keys.Renamed w c from_row.0 l) row from_row.2 in
        ((fits.0.0, fits.0.1, owner_fits w c from_row.0 o from_row.1 fits.0.2, fits.0.3), as_renamed w c from_row.0 o l row fits.1)
      where
        as_renamed : (w c : List ℕ) (p o l : ℕ) (row : Row) → ValueFits (keys.Renamed w c p l) row → ValueFits (keys.Renamed w c o l) row
        as_renamed w c p o l (rows.Renamed key) fits = fits
        as_renamed w c p o l row fits = absurd fits
    fit_now (keys.Volume w) row there = fit (keys.Volume w) row (sym (steady_same (keys.Volume w) tt) ∙ there)
    fit_now (keys.Bucket w c) row there = fit (keys.Bucket w c) row (sym (steady_same (keys.Bucket w c) tt) ∙ there)
    fit_now (keys.Key w c k) row there = fit (keys.Key w c k) row (sym (steady_same (keys.Key w c k) tt) ∙ there)
    fit_now (keys.Open w c k m) row there = fit (keys.Open w c k m) row (sym (steady_same (keys.Open w c k m) tt) ∙ there)
    fit_now (keys.Stripe s) row there = fit (keys.Stripe s) row (sym (steady_same (keys.Stripe s) tt) ∙ there)
    fit_now (keys.Snapshot w c n) row there = fit (keys.Snapshot w c n) row (sym (snapshot_same w c n) ∙ there)
    fit_now (keys.SnapshotKey w c n k) row there = fit (keys.SnapshotKey w c n k) row (sym (key_same w c k n) ∙ there)

  -- where no row comes upon another, each is still there
  module _ (alone : (k : List ℕ) (l : ℕ) (one two : Row) → all (keys.Deleted v b from k l) ≡ Some one → all (keys.Deleted v b to k l) ≡ Some two → ⊥) where
    abbrev Stays : List ℕ → List ℕ → Type 0
    Stays w c = (k : List ℕ) (o l : ℕ) (row : Row) → all (keys.Deleted w c o k l) ≡ Some row → now (keys.Deleted w c (owner_now w c o) k l) ≡ Some row

    stays_here : Stays v b
    stays_here k o l row there = ⊎_elim
        (λ is.
        let has : all (keys.Deleted v b from k l) ≡ Some row = ap (λ p. all (keys.Deleted v b p k l)) (sym is) ∙ there in
        ap (λ p. now (keys.Deleted v b p k l)) (ap (owner_now v b) is ∙ owner_from)
        ∙ deleted_comes v b from to differ entries rise none_stays k l
        ∙ ap (λ x. changed (λ r. Some r) x (all (keys.Deleted v b to k l))) has)
        (λ not_from. ap (λ p. now (keys.Deleted v b p k l)) (owner_other o not_from) ∙ ⊎_elim
        (λ is. at_to is (some_or (all (keys.Deleted v b from k l))))
        (λ not_to. deleted_other k o l not_from not_to ∙ there)
        (same_or_not o to))
        (same_or_not o from)
      where
        at_to : o ≡ to → ((r : Row) × (all (keys.Deleted v b from k l) ≡ Some r)) ⊎ (all (keys.Deleted v b from k l) ≡ None) → now (keys.Deleted v b o k l) ≡ Some row
        at_to is (inl (r, has)) = absurd (alone k l r row has (ap (λ p. all (keys.Deleted v b p k l)) (sym is) ∙ there))
        at_to is (inr none) =
            ap (λ p. now (keys.Deleted v b p k l)) is
            ∙ deleted_comes v b from to differ entries rise none_stays k l
            ∙ ap (λ x. changed (λ r. Some r) x (all (keys.Deleted v b to k l))) none
            ∙ ap (λ p. all (keys.Deleted v b p k l)) (sym is)
            ∙ there

    pub stays : (w c : List ℕ) → Stays w c
    stays = by_place v b Stays (λ w c not k o l row there. ap (λ p. now (keys.Deleted w c p k l)) (owner_elsewhere w c o not) ∙ deleted_elsewhere w c k o l not ∙ there) stays_here

  module _ (alone : (l : ℕ) (one two : Row) → all (keys.Renamed v b from l) ≡ Some one → all (keys.Renamed v b to l) ≡ Some two → ⊥) where
    abbrev RenamedStays : List ℕ → List ℕ → Type 0
    RenamedStays w c = (o l : ℕ) (row : Row) → all (keys.Renamed w c o l) ≡ Some row → now (keys.Renamed w c (owner_now w c o) l) ≡ Some row

    renamed_stays_here : RenamedStays v b
    renamed_stays_here o l row there = ⊎_elim
        (λ is.
        let has : all (keys.Renamed v b from l) ≡ Some row = ap (λ p. all (keys.Renamed v b p l)) (sym is) ∙ there in
        ap (λ p. now (keys.Renamed v b p l)) (ap (owner_now v b) is ∙ owner_from)
        ∙ renamed_comes v b from to differ entries rise none_stays l
        ∙ ap (λ x. changed (λ r. Some r) x (all (keys.Renamed v b to l))) has)
        (λ not_from. ap (λ p. now (keys.Renamed v b p l)) (owner_other o not_from) ∙ ⊎_elim
        (λ is. at_to is (some_or (all (keys.Renamed v b from l))))
        (λ not_to. renamed_other o l not_from not_to ∙ there)
        (same_or_not o to))
        (same_or_not o from)
      where
        at_to : o ≡ to → ((r : Row) × (all (keys.Renamed v b from l) ≡ Some r)) ⊎ (all (keys.Renamed v b from l) ≡ None) → now (keys.Renamed v b o l) ≡ Some row
        at_to is (inl (r, has)) = absurd (alone l r row has (ap (λ p. all (keys.Renamed v b p l)) (sym is) ∙ there))
        at_to is (inr none) =
            ap (λ p. now (keys.Renamed v b p l)) is
            ∙ renamed_comes v b from to differ entries rise none_stays l
            ∙ ap (λ x. changed (λ r. Some r) x (all (keys.Renamed v b to l))) none
            ∙ ap (λ p. all (keys.Renamed v b p l)) (sym is)
            ∙ there

    pub renamed_stays : (w c : List ℕ) → RenamedStays w c
    renamed_stays = by_place v b RenamedStays (λ w c not o l row there. ap (λ p. now (keys.Renamed w c p l)) (owner_elsewhere w c o not) ∙ renamed_elsewhere w c o l not ∙ there) renamed_stays_here

  -- the rows of a marked snapshot
  module _ (fit : AreInGrammar all) (marked : IsMarked all v b from) (next : IsNextOwner all v b from to) (sound : IsSoundButRenames all) where
    some_from : from ≢ 0
    some_from = no_zero all v b from to fit marked next

    next_there : to ≢ 0 → IsSome (all (keys.Snapshot v b to))
    next_there nonzero = ⊎_elim (λ last. absurd (nonzero last.0)) (λ later. later.0.1) next

    -- two deleted rows of one local id and key have one owner
    not_both : (k : List ℕ) (l : ℕ) (one two : Row) → all (keys.Deleted v b from k l) ≡ Some one → all (keys.Deleted v b to k l) ≡ Some two → ⊥
    not_both k l one two here there =
        let x = first_block v b k from l one (fit (keys.Deleted v b from k l) one here).1 in
        let y = first_block v b k to l two (fit (keys.Deleted v b to k l) two there).1 in
        let in_one : StandsIn all x.0 (keys.Deleted v b from k l) = record { row = one; there = here; has = x.2 } in
        let in_two : StandsIn all y.0 (keys.Deleted v b to k l) = record { row = two; there = there; has = y.2 } in
        let same = sound.blocks.one_local x.0 y.0 (keys.Deleted v b from k l) (keys.Deleted v b to k l) in_one in_two (x.1 ∙ sym y.1) in
        let key : keys.Deleted v b from k l ≡ keys.Deleted v b to k l = sound.blocks.one_home x.0 (keys.Deleted v b from k l) (keys.Deleted v b to k l) tt tt in_one (subst (λ (z : Block). StandsIn all z (keys.Deleted v b to k l)) (sym same) in_two) in
        let owner : from ≡ to = cc in
        differ owner

    pub still : (w c k : List ℕ) (o l : ℕ) (row : Row) → all (keys.Deleted w c o k l) ≡ Some row → (after : ℕ) × (now (keys.Deleted w c after k l) ≡ Some row)
    still w c k o l row there = (owner_now w c o, stays not_both w c k o l row there)

    abbrev DeletedOwned : List ℕ → List ℕ → Type 0
    DeletedOwned w c = (k : List ℕ) (o l : ℕ) → IsSome (now (keys.Deleted w c o k l)) → o ≢ 0 → IsSome (all (keys.Snapshot w c o))

    deleted_owned : (w c : List ℕ) → DeletedOwned w c
    deleted_owned = by_place v b DeletedOwned
        (λ w c not k o l there some. sound.numbers.deleted w c k o l (subst IsSome (deleted_elsewhere w c k o l not) there) some)
        (λ k o l there some. ⊎_elim
        (λ is. none_some (ap (λ p. now (keys.Deleted v b p k l)) is ∙ deleted_gone v b from to differ entries rise none_stays k l) there)
        (λ not_from. ⊎_elim
        (λ is. subst (λ p. IsSome (all (keys.Snapshot v b p))) (sym is) (next_there (λ zero. some (is ∙ zero))))
        (λ not_to. sound.numbers.deleted v b k o l (subst IsSome (deleted_other k o l not_from not_to) there) some)
        (same_or_not o to))
        (same_or_not o from))

    abbrev RenamedOwned : List ℕ → List ℕ → Type 0
    RenamedOwned w c = (o l : ℕ) → IsSome (now (keys.Renamed w c o l)) → o ≢ 0 → IsSome (all (keys.Snapshot w c o))

    renamed_owned : (w c : List ℕ) → RenamedOwned w c
    renamed_owned = by_place v b RenamedOwned
        (λ w c not o l there some. sound.numbers.renamed w c o l (subst IsSome (renamed_elsewhere w c o l not) there) some)
        (λ o l there some. ⊎_elim
        (λ is. none_some (ap (λ p. now (keys.Renamed v b p l)) is ∙ renamed_gone v b from to differ entries rise none_stays l) there)
        (λ not_from. ⊎_elim
        (λ is. subst (λ p. IsSome (all (keys.Snapshot v b p))) (sym is) (next_there (λ zero. some (is ∙ zero))))
        (λ not_to. sound.numbers.renamed v b o l (subst IsSome (renamed_other o l not_from not_to) there) some)
        (same_or_not o to))
        (same_or_not o from))

    pub moves : DeletedMove all now
    moves = record {
      steady = steady_same;
      snapshots = λ w c n there. subst IsSome (snapshot_same w c n) there;
      live = λ w c n live. snapshot_same w c n;
      live_keys = λ w c k n live. key_same w c k n;
      snapshot_keys = λ w c k n row there.
          let was = sym (key_same w c k n) ∙ there in
          (was, subst IsSome (sym (snapshot_same w c n)) (sound.numbers.snapshot_keys w c k n (ap is_some was)));
      owner_now = owner_now;
      came = λ w c k o l row there. came w c k o l row there;
      stays = λ w c k o l row there. inl (stays not_both w c k o l row there);
      deleted_owners = λ w c k o l there some. subst IsSome (sym (snapshot_same w c o)) (deleted_owned w c k o l there some);
      renamed_owners = λ w c o l there some. subst IsSome (sym (snapshot_same w c o)) (renamed_owned w c o l there some);
    }

    -- ---- renamed rows

    abbrev There : ℕ → Type 0
    There m = IsSome (all (keys.Snapshot v b m))

    next_row : ((to ≡ 0) × ((m : ℕ) → from < m → There m → ⊥)) ⊎ ((from < to) × ((m : ℕ) → from < m → There m → to ≤ m))
    next_row = ⊎_elim
        (λ last. inl (last.0, λ m lt there. last.1 m (lt, there)))
        (λ later. inr (later.0.0, λ m lt there. later.1 m (lt, there)))
        next

    module _ (l : ℕ) where
      abbrev before_at : ℕ → Option Row
      before_at o = all (keys.Renamed v b o l)

      abbrev now_at : ℕ → Option Row
      now_at o = now (keys.Renamed v b o l)

      moved_row : IsSome (before_at from) → now_at to ≡ before_at from
      moved_row has = by (some_or (before_at from))
        where
          by : ((r : Row) × (before_at from ≡ Some r)) ⊎ (before_at from ≡ None) → now_at to ≡ before_at from
          by (inl (r, is)) = renamed_comes v b from to differ entries rise none_stays l ∙ ap (λ x. changed (λ r. Some r) x (before_at to)) is ∙ sym is
          by (inr none) = none_some none has

      kept_row : before_at from ≡ None → now_at to ≡ before_at to
      kept_row none = renamed_comes v b from to differ entries rise none_stays l ∙ ap (λ x. changed (λ r. Some r) x (before_at to)) none

      rename_before : (n : ℕ) → There n → n ≢ from → (o : ℕ) (name : List ℕ) → IsRename now v b n l o name → (owner : ℕ) × IsRename all v b n l owner name
      rename_before n there other o name is =
          let found = first_before There before_at now_at from to some_from next_row (renamed_gone v b from to differ entries rise none_stays l) moved_row kept_row (λ p not_from not_to. renamed_other p l not_from not_to) (λ p some nonzero. sound.numbers.renamed v b p l some nonzero)
          n there other o name (record { row = is.row; behind = is.behind; first = is.first }) in
          (found.0, record { row = found.1.row; behind = found.1.behind; first = found.1.first })

      rename_now : (n : ℕ) → There n → n ≢ from → (o : ℕ) (name : List ℕ) → IsRename all v b n l o name → (owner : ℕ) × IsRename now v b n l owner name
      rename_now n there other o name is =
          let found = first_now There before_at now_at from to some_from next_row (renamed_gone v b from to differ entries rise none_stays l) moved_row kept_row (λ p not_from not_to. renamed_other p l not_from not_to) (λ p some nonzero. sound.numbers.renamed v b p l some nonzero)
          n there other o name (record { row = is.row; behind = is.behind; first = is.first }) in
          (found.0, record { row = found.1.row; behind = found.1.behind; first = found.1.first })

    not_marked : (n : ℕ) → IsLive all v b n → n ≢ from
    not_marked n live e = false≢true (sym (ap is_marked (sym (ap (λ m. all (keys.Snapshot v b m)) e) ∙ live.2)) ∙ marked)

    live_all : (w c : List ℕ) (n : ℕ) → IsLive now w c n → IsLive all w c n
    live_all w c n live = (live.0, live.1, sym (snapshot_same w c n) ∙ live.2)

    elsewhere_before : (w c : List ℕ) → is_bucket v b w c ≡ false → (n l o : ℕ) (name : List ℕ) → IsRename now w c n l o name → IsRename all w c n l o name
    elsewhere_before w c not n l o name is = record {
      row = sym (renamed_elsewhere w c o l not) ∙ is.row;
      behind = is.behind;
      first = λ other behind some apart. is.first other behind (subst IsSome (sym (renamed_elsewhere w c other l not)) some) apart;
    }

    elsewhere_now : (w c : List ℕ) → is_bucket v b w c ≡ false → (n l o : ℕ) (name : List ℕ) → IsRename all w c n l o name → IsRename now w c n l o name
    elsewhere_now w c not n l o name is = record {
      row = renamed_elsewhere w c o l not ∙ is.row;
      behind = is.behind;
      first = λ other behind some apart. is.first other behind (subst IsSome (renamed_elsewhere w c other l not) some) apart;
    }

    anew_before : (w c name : List ℕ) (n : ℕ) (block : Block) → IsNamedAnew now w c n block name → IsNamedAnew all w c n block name
    anew_before w c name n block (inl (later, another, above, has, apart)) = inl (later, another, above, has_before all now moves w c later block another has, apart)
    anew_before w c name n block (inr (another, stands, apart)) =
        inr (another, record { row = stands.row; there = sym (steady_same (keys.Key w c another) tt) ∙ stands.there; has = stands.has }, apart)

    module _ (renames : RenamesAreSound all) where
      abbrev Renamed : List ℕ → List ℕ → Type 0
      Renamed w c = (name another : List ℕ) (n owner : ℕ) (block : Block) → SnapshotHas now w c n block name → IsRename now w c n block.local owner another → another ≡ name

      renamed : (w c : List ℕ) → Renamed w c
      renamed = by_place v b Renamed
          (λ w c not name another n owner block has is. renames.renamed w c name another n owner block (has_before all now moves w c n block name has) (elsewhere_before w c not n block.local owner another is))
          (λ name another n owner block has is.
          let live = live_all v b n has.live in
          let found = rename_before block.local n (ap is_some live.2) (not_marked n live) owner another is in
          renames.renamed v b name another n found.0 block (has_before all now moves v b n block name has) found.1)

      abbrev Noted : List ℕ → List ℕ → Type 0
      Noted w c = (name : List ℕ) (n : ℕ) (block : Block) → SnapshotHas now w c n block name → IsNamedAnew now w c n block name → (owner : ℕ) × (another : List ℕ) × IsRename now w c n block.local owner another

      noted : (w c : List ℕ) → Noted w c
      noted = by_place v b Noted
          (λ w c not name n block has anew.
          let found = renames.noted w c name n block (has_before all now moves w c n block name has) (anew_before w c name n block anew) in
          (found.0, found.1, elsewhere_now w c not n block.local found.0 found.1 found.2))
          (λ name n block has anew.
          let live = live_all v b n has.live in
          let found = renames.noted v b name n block (has_before all now moves v b n block name has) (anew_before v b name n block anew) in
          let after = rename_now block.local n (ap is_some live.2) (not_marked n live) found.0 found.1 found.2 in
          (after.0, found.1, after.1))

      pub renames_move_on : RenamesAreSound now
      renames_move_on = record {
        renamed = λ w c name another n owner block has is. renamed w c name another n owner block has is;
        noted = λ w c name n block has anew. noted w c name n block has anew;
      }

    pub live_still : (w c : List ℕ) (n : ℕ) → IsLive all w c n → IsLive now w c n
    live_still w c n live = (live.0, live.1, snapshot_same w c n ∙ live.2)
    -- ---- the grammar
