-- Rows stay sound as a snapshot is made.
use Rattle.std.proofs.Common.{
  ◌≡◌,
  ◌≢◌,
  ◌⊎◌,
  inl,
  inr,
  ℕ,
  ◌<◌,
  ◌≤◌,
  Bool,
  true,
  false,
  List,
  [],
  Option,
  None,
  Some,
  IsSome,
  is_some,
  refl,
  sym,
  ◌∙◌,
  ap,
  subst,
  arith,
  ◌||◌,
  ◌==◌,
  ◌++◌,
  ◌∷◌,
}
use mathlib.Core.Bool.{false≢true}
use Rattle.std.proofs.lemmas.Option.{same_Some}
use Rattle.std.proofs.lemmas.Bool.Decides.{nat_tests}
use Rattle.std.specs.FinMap.{get}
use Rattle.std.specs.List.{AllByRecursion, list_any}
use Rattle.oz_fields.specs.declared.block.Piece.{Piece}
use Rattle.oz_namespace.specs.declared.namespace.Snapshot.{Snapshot}
use Rattle.oz_namespace.specs.Namespace.{ByName}
use Rattle.oz_decision.specs.Meets.{AreInGrammar}
use Rattle.oz_decision.specs.laws.Shown.{key_itself}
use Rattle.oz_fields.specs.declared.block.Block.{Block}
use Rattle.oz_names.specs.Names.{stripe_of}
use Rattle.oz_rows.specs.declared.key.RowKey.{RowKey}
use Rattle.oz_rows.specs.declared.key.RowKey.TheVariants as keys
use Rattle.oz_rows.specs.declared.row.Row.{Row}
use Rattle.oz_rows.specs.declared.row.Row.TheVariants as rows
use Rattle.oz_rows.specs.declared.row.SnapshotState.TheVariants.{Live}
use Rattle.oz_rows.specs.Rows.{ValueFits, kind_of}
use Rattle.oz_rows.specs.RowMaps.{Rows, is_block, is_same}
use Rattle.oz_rows.specs.laws.Same.{same_is_one}
use Rattle.oz_sound.specs.Kept.{HasHome, KeepsBlocks}
use Rattle.oz_sound.specs.Sound.{
  StandsIn,
  blocks_of,
  bucket_of_row,
  IsKeeper,
  IsHome,
  SnapshotHas,
  AreTogether,
  ComesBehind,
  IsRename,
  IsNamedAnew,
  IsUsing,
  AtMost,
  BlocksAreSound,
  NamesAreSound,
  RenamesAreSound,
  NumbersAreSound,
  CountsAreSound,
  IsSoundButRenames,
}
use Rattle.oz_sound.specs.StandsFor.{AreSnapshots, IsLive, NumbersRise, SnapshotsStand, drawn_in, is_among, pieces_in}
use Rattle.oz_sound.specs.frames.laws.Moving.{at_most}
use Rattle.oz_reclaim.specs.Makes.{IsOfBucket, SnapshotMade, copy_of}

number_itself : (m n : ℕ) → n ≡ m → (n == m) ≡ true
number_itself m n e = grind (arith, nat_tests, e)

some_row : (o : Option Row) → IsSome o → (row : Row) × (o ≡ Some row)
some_row None e = absurd (false≢true e)
some_row (Some row) e = (row, refl)

-- rows of these kinds name no blocks
no_blocks : {P : Type 0} (row : Row) (block : Block) → blocks_of row ≡ [] → list_any (is_block block) (blocks_of row) ≡ true → P
no_blocks row block none has = absurd (false≢true (sym (ap (list_any (is_block block)) none) ∙ has))

snapshot_bare : (v b : List ℕ) (n : ℕ) (row : Row) → ValueFits (keys.Snapshot v b n) row → blocks_of row ≡ []
snapshot_bare v b n (rows.Snapshot name previous state) fits = refl
snapshot_bare v b n row fits = absurd fits

renamed_bare : (v b : List ℕ) (o l : ℕ) (row : Row) → ValueFits (keys.Renamed v b o l) row → blocks_of row ≡ []
renamed_bare v b o l (rows.Renamed key) fits = refl
renamed_bare v b o l row fits = absurd fits

stripe_bare : (s : ℕ) (row : Row) → ValueFits (keys.Stripe s) row → blocks_of row ≡ []
stripe_bare s (rows.Stripe number) fits = refl
stripe_bare s row fits = absurd fits

-- a copy names the blocks of what it copies
copied_from : (o : Option Row) (row : Row) → copy_of o ≡ Some row → (kept : Row) × (o ≡ Some kept) × (blocks_of kept ≡ blocks_of row)
copied_from (Some (rows.Key made pieces)) row e = (rows.Key made pieces, refl, ap blocks_of (same_Some (rows.SnapshotKey made pieces) row e))
copied_from o row e = absurd (false≢true (ap is_some e))

copied_to : (v b k : List ℕ) (row : Row) → ValueFits (keys.Key v b k) row → (copy : Row) × (copy_of (Some row) ≡ Some copy) × (blocks_of copy ≡ blocks_of row)
copied_to v b k (rows.Key made pieces) fits = (rows.SnapshotKey made pieces, refl, refl)
copied_to v b k row fits = absurd fits

snapshot_name : Option Row → List ℕ
snapshot_name (Some (rows.Snapshot name previous state)) = name
snapshot_name row = []

module _ (all now : Rows) (v b name : List ℕ) (n : ℕ) (is : SnapshotMade all now v b name n) (fit_before : AreInGrammar all) (fit : AreInGrammar now)
    (sound : IsSoundButRenames all) where
  abbrev is_new : List ℕ → List ℕ → ℕ → Bool
  is_new w c m = is_same (keys.Snapshot v b n) (keys.Snapshot w c m)

  place : (w c : List ℕ) (m : ℕ) → is_new w c m ≡ true → (v ≡ w) × (b ≡ c) × (n ≡ m)
  place w c m e =
      let same = same_is_one (keys.Snapshot v b n) (keys.Snapshot w c m) e in
      let volume : v ≡ w = cc in
      let bucket : b ≡ c = cc in
      let number : n ≡ m = cc in
      (volume, bucket, number)

  -- what holds of the new number, and of each other, holds of all
  by_number : (P : List ℕ → List ℕ → ℕ → Type 0) → ((w c : List ℕ) (m : ℕ) → is_new w c m ≡ false → P w c m) → P v b n → (w c : List ℕ) (m : ℕ) → P w c m
  by_number P elsewhere here w c m = by (is_new w c m) refl
    where
      by : (t : Bool) → is_new w c m ≡ t → P w c m
      by false e = elsewhere w c m e
      by true e = let same = place w c m e in subst (λ (x : List ℕ × List ℕ × ℕ). P x.0 x.1 x.2) (λ i. (same.0 i, same.1 i, same.2 i)) here

  -- each snapshot that was there has a lower number
  under : (w c : List ℕ) (m x : ℕ) → IsSome (all (keys.Snapshot w c m)) → is_new w c x ≡ true → m < x
  under w c m x there e =
      let same = place w c x e in
      let most = sound.numbers.snapshots w c m there in
      let drawn : drawn_in (all (keys.Stripe (stripe_of w))) ≡ drawn_in (all (keys.Stripe (stripe_of v))) =
      ap (λ y. drawn_in (all (keys.Stripe (stripe_of y)))) (sym same.0) in
      let fresh = is.fresh in
      let number = same.2 in
      omega (arith, most, drawn, fresh, number)

  not_new : (w c : List ℕ) (m : ℕ) → IsSome (all (keys.Snapshot w c m)) → is_new w c m ≡ false
  not_new w c m there = by (is_new w c m) refl
    where
      by : (t : Bool) → is_new w c m ≡ t → t ≡ false
      by false e = refl
      by true e = absurd (let less = under w c m m there e in omega (arith, less))

  is_live : (w c : List ℕ) (m : ℕ) → IsLive all w c m → IsSome (all (keys.Snapshot w c m))
  is_live w c m live = ap is_some live.2

  live_still : (w c : List ℕ) (m : ℕ) → IsLive all w c m → IsLive now w c m
  live_still w c m live = (live.0, live.1, is.snapshots w c m (not_new w c m (is_live w c m live)) ∙ live.2)

  some_still : (w c : List ℕ) (m : ℕ) → IsSome (all (keys.Snapshot w c m)) → IsSome (now (keys.Snapshot w c m))
  some_still w c m there = subst IsSome (sym (is.snapshots w c m (not_new w c m there))) there

  -- ---- which snapshots have a block

  abbrev Had : List ℕ → List ℕ → ℕ → Block → List ℕ → Type 0
  Had w c m block k = SnapshotHas all w c m block k ⊎ ((is_new w c m ≡ true) × StandsIn all block (keys.Key w c k))

  itself : is_new v b n ≡ true
  itself = key_itself (keys.Snapshot v b n)

  had : (block : Block) (k : List ℕ) (w c : List ℕ) (m : ℕ) → SnapshotHas now w c m block k → Had w c m block k
  had block k = by_number (λ w c m. SnapshotHas now w c m block k → Had w c m block k)
      (λ w c m other has. inl (record {
        live = (has.live.0, has.live.1, sym (is.snapshots w c m other) ∙ has.live.2);
        stands = record { row = has.stands.row; there = sym (is.snapshot_keys w c k m other) ∙ has.stands.there; has = has.stands.has };
      }))
      (λ has.
      let from = copied_from (all (keys.Key v b k)) has.stands.row (sym (is.copies k) ∙ has.stands.there) in
      inr (itself, record { row = from.0; there = from.1; has = subst (λ (l : List Block). list_any (is_block block) l ≡ true) (sym from.2) has.stands.has }))

  has_still : (w c : List ℕ) (m : ℕ) (block : Block) (k : List ℕ) → SnapshotHas all w c m block k → SnapshotHas now w c m block k
  has_still w c m block k has = record {
    live = live_still w c m has.live;
    stands = record {
      row = has.stands.row;
      there = is.snapshot_keys w c k m (not_new w c m (is_live w c m has.live)) ∙ has.stands.there;
      has = has.stands.has;
    };
  }

  has_copy : (block : Block) (k : List ℕ) (w c : List ℕ) (m : ℕ) → is_new w c m ≡ true → StandsIn all block (keys.Key w c k) → SnapshotHas now w c m block k
  has_copy block k = by_number (λ w c m. is_new w c m ≡ true → StandsIn all block (keys.Key w c k) → SnapshotHas now w c m block k)
      (λ w c m other new stands. absurd (false≢true (sym other ∙ new)))
      (λ new stands.
      let to = copied_to v b k stands.row (fit_before (keys.Key v b k) stands.row stands.there).1 in
      record {
        live = (name, is.previous, is.made);
        stands = record {
          row = to.0;
          there = is.copies k ∙ ap copy_of stands.there ∙ to.1;
          has = subst (λ (l : List Block). list_any (is_block block) l ≡ true) (sym to.2) stands.has;
        };
      })

  -- ---- where blocks stood

  steady_before : (key : RowKey) (block : Block) → IsOfBucket key → StandsIn now block key → StandsIn all block key
  steady_before key block steady stands = record { row = stands.row; there = sym (is.steady key steady) ∙ stands.there; has = stands.has }

  steady_after : (key : RowKey) (block : Block) → IsOfBucket key → StandsIn all block key → StandsIn now block key
  steady_after key block steady stands = record { row = stands.row; there = is.steady key steady ∙ stands.there; has = stands.has }

  pub record Origin (block : Block) (key : RowKey) : Type 0 where
    pub old : RowKey
    pub stood : StandsIn all block old
    pub same_bucket : bucket_of_row old ≡ bucket_of_row key

  still : (key : RowKey) (block : Block) → IsOfBucket key → StandsIn now block key → Origin block key
  still key block steady stands = record { old = key; stood = steady_before key block steady stands; same_bucket = refl }

  deleted_before : (w c k : List ℕ) (o l : ℕ) (block : Block) → StandsIn now block (keys.Deleted w c o k l) → (before : ℕ) × (is.owner_now w c before ≡ o)
      × StandsIn all block (keys.Deleted w c before k l)
  deleted_before w c k o l block stands =
      let from = is.came w c k o l stands.row stands.there in
      (from.0, from.1, record { row = stands.row; there = from.2; has = stands.has })

  key_origin : (block : Block) (k : List ℕ) (w c : List ℕ) (m : ℕ) → StandsIn now block (keys.SnapshotKey w c m k) → Origin block (keys.SnapshotKey w c m k)
  key_origin block k = by_number (λ w c m. StandsIn now block (keys.SnapshotKey w c m k) → Origin block (keys.SnapshotKey w c m k))
      (λ w c m other stands. record {
        old = keys.SnapshotKey w c m k;
        stood = record { row = stands.row; there = sym (is.snapshot_keys w c k m other) ∙ stands.there; has = stands.has };
        same_bucket = refl;
      })
      (λ stands.
      let from = copied_from (all (keys.Key v b k)) stands.row (sym (is.copies k) ∙ stands.there) in
      record {
        old = keys.Key v b k;
        stood = record {
          row = from.0;
          there = from.1;
          has = subst (λ (l : List Block). list_any (is_block block) l ≡ true) (sym from.2) stands.has;
        };
        same_bucket = refl;
      })

  origin : (block : Block) (key : RowKey) → StandsIn now block key → Origin block key
  origin block (keys.Volume w) stands = still (keys.Volume w) block tt stands
  origin block (keys.Bucket w c) stands = still (keys.Bucket w c) block tt stands
  origin block (keys.Key w c k) stands = still (keys.Key w c k) block tt stands
  origin block (keys.Open w c k m) stands = still (keys.Open w c k m) block tt stands
  origin block (keys.Deleted w c o k l) stands = let from =
      deleted_before w c k o l block stands in record { old = keys.Deleted w c from.0 k l; stood = from.2; same_bucket = refl }
  origin block (keys.SnapshotKey w c m k) stands = key_origin block k w c m stands
  origin block (keys.Snapshot w c m) stands =
      no_blocks stands.row block (snapshot_bare w c m stands.row (fit (keys.Snapshot w c m) stands.row stands.there).1) stands.has
  origin block (keys.Renamed w c o l) stands =
      no_blocks stands.row block (renamed_bare w c o l stands.row (fit (keys.Renamed w c o l) stands.row stands.there).1) stands.has
  origin block (keys.Stripe s) stands = no_blocks stands.row block (stripe_bare s stands.row (fit (keys.Stripe s) stands.row stands.there).1) stands.has

  pub key_now : RowKey → RowKey
  key_now (keys.Deleted w c o k l) = keys.Deleted w c (is.owner_now w c o) k l
  key_now key = key

  pub record OldHome (block : Block) (key : RowKey) : Type 0 where
    pub old : RowKey
    pub home : IsHome old
    pub stood : StandsIn all block old
    pub same : key_now old ≡ key

  old_home : (block : Block) (key : RowKey) → IsHome key → StandsIn now block key → OldHome block key
  unfolding key_now
  old_home block (keys.Key w c k) home stands = record { old = keys.Key w c k; home = tt; stood = steady_before (keys.Key w c k) block tt stands; same = refl }
  old_home block (keys.Open w c k m) home stands =
      record { old = keys.Open w c k m; home = tt; stood = steady_before (keys.Open w c k m) block tt stands; same = refl }
  old_home block (keys.Deleted w c o k l) home stands =
      let from = deleted_before w c k o l block stands in
      record { old = keys.Deleted w c from.0 k l; home = tt; stood = from.2; same = ap (λ owner. keys.Deleted w c owner k l) from.1 }
  old_home block key home stands = absurd home

  one_home : (block : Block) (key other : RowKey) → IsHome key → IsHome other → StandsIn all block key → StandsIn all block other → key ≡ other
  one_home = sound.blocks.one_home

  kept_now : (block : Block) (key : RowKey) → IsKeeper key → StandsIn all block key → (new : RowKey) × IsKeeper new × StandsIn now block new
  kept_now block (keys.Key w c k) keeper stands = (keys.Key w c k, tt, steady_after (keys.Key w c k) block tt stands)
  kept_now block (keys.Deleted w c o k l) keeper stands =
      (keys.Deleted w c (is.owner_now w c o) k l, tt, record { row = stands.row; there = is.stays w c k o l stands.row stands.there; has = stands.has })
  kept_now block key keeper stands = absurd keeper

  together_now : (w c : List ℕ) (block other : Block) → AreTogether all w c block other
      → ((k : List ℕ) → StandsIn all block (keys.Key w c k) → StandsIn all other (keys.Key w c k)) → AreTogether now w c block other
  together_now w c block other are both m k has = elim (had block k w c m has) [
    | inl old ↦ (let found = are m k old in (found.0, has_still w c m other found.0 found.1))
    | inr new ↦ (k, has_copy other k w c m new.0 (both k new.1))
  ]

  pub blocks_now : BlocksAreSound now
  blocks_now = record {
    one_bucket = λ block key other here there.
        let one = origin block key here in
        let two = origin block other there in
        sym one.same_bucket ∙ sound.blocks.one_bucket block one.old two.old one.stood two.stood ∙ two.same_bucket;
    one_home = λ block key other home home_too here there.
        let one = old_home block key home here in
        let two = old_home block other home_too there in
        sym one.same ∙ ap key_now (one_home block one.old two.old one.home two.home one.stood two.stood) ∙ two.same;
    one_local = λ block twin key other here there same.
        sound.blocks.one_local block twin (origin block key here).old (origin twin other there).old (origin block key here).stood
        (origin twin other there).stood same;
    kept = λ w c k m block has. elim (had block k w c m has) [
      | inl old ↦ (let keeper = sound.blocks.kept w c k m block old in kept_now block keeper.0 keeper.1 keeper.2)
      | inr new ↦ kept_now block (keys.Key w c k) tt new.1
    ];
    deleted_together = λ w c k o l block other here there.
        let from = is.came w c k o l here.row here.there in
        let mine : StandsIn all block (keys.Deleted w c from.0 k l) = record { row = here.row; there = from.2; has = here.has } in
        let its : StandsIn all other (keys.Deleted w c from.0 k l) =
        record {
          row = here.row;
          there = from.2;
          has = subst (λ (row : Row). list_any (is_block other) (blocks_of row) ≡ true)
              (same_Some there.row here.row (sym there.there ∙ here.there)) there.has;
        } in
        together_now w c block other (sound.blocks.deleted_together w c k from.0 l block other mine its)
        (λ q stands. absurd (let kinds = ap kind_of (one_home block (keys.Key w c q) (keys.Deleted w c from.0 k l) tt tt stands mine) in omega (arith, kinds)));
    key_together = λ w c k block other here there.
        let mine = steady_before (keys.Key w c k) block tt here in
        let its = steady_before (keys.Key w c k) other tt there in
        together_now w c block other (sound.blocks.key_together w c k block other mine its)
        (λ q stands. subst (StandsIn all other) (one_home block (keys.Key w c k) (keys.Key w c q) tt tt mine stands) its);
  }

  -- no block leaves its home or gets one
  pub blocks_stay : (MayGo : Block → Type 0) → KeepsBlocks all now None MayGo
  blocks_stay MayGo = record {
    none_lost = λ block had. inl (home_now block had.key had.home had.here);
    none_made = λ block has. let was = old_home block has.key has.home has.here in inl (record { key = was.old; home = was.home; here = was.stood });
  }
    where
      home_now : (block : Block) (key : RowKey) → IsHome key → StandsIn all block key → HasHome now block
      home_now block (keys.Key w c k) home stands = record { key = keys.Key w c k; home = tt; here = steady_after (keys.Key w c k) block tt stands }
      home_now block (keys.Open w c k m) home stands = record { key = keys.Open w c k m; home = tt; here = steady_after (keys.Open w c k m) block tt stands }
      home_now block (keys.Deleted w c o k l) home stands =
          record {
            key = keys.Deleted w c (is.owner_now w c o) k l;
            home = tt;
            here = record { row = stands.row; there = is.stays w c k o l stands.row stands.there; has = stands.has };
          }
      home_now block key home stands = absurd home

  -- ---- names

  one_key : (w c k q : List ℕ) (block : Block) → StandsIn all block (keys.Key w c k) → StandsIn all block (keys.Key w c q) → k ≡ q
  one_key w c k q block here there =
      let same = one_home block (keys.Key w c k) (keys.Key w c q) tt tt here there in
      cc

  -- one that is live now was so before, or is the new one
  live_before : (w c : List ℕ) (m : ℕ) → IsLive now w c m → is_new w c m ≡ false → IsLive all w c m
  live_before w c m live other = (live.0, live.1, sym (is.snapshots w c m other) ∙ live.2)

  other_number : (m p : ℕ) (x : List ℕ) → now (keys.Snapshot v b n) ≡ Some (rows.Snapshot x p Live) → (q : ℕ)
      → all (keys.Snapshot v b m) ≡ Some (rows.Snapshot x q Live) → ⊥
  unfolding snapshot_name
  other_number m p x row q there =
      let same : x ≡ name = ap snapshot_name (sym row ∙ is.made) in
      is.name_is_free m q (there ∙ ap (λ (y : List ℕ). Some (rows.Snapshot y q Live)) same)

  names_now : NamesAreSound now
  names_now = record {
    one_snapshot = λ w c x m p r q row other. one_snapshot x w c m p r q row other;
    one_name = λ w c k q m block one two. elim (had block k w c m one) [
      | inl old ↦ elim (had block q w c m two) [
        | inl old_too ↦ sound.names.one_name w c k q m block old old_too
        | inr new ↦ absurd (false≢true (sym (not_new w c m (is_live w c m old.live)) ∙ new.0))
      ]
      | inr new ↦ elim (had block q w c m two) [
        | inl old ↦ absurd (false≢true (sym (not_new w c m (is_live w c m old.live)) ∙ new.0))
        | inr new_too ↦ one_key w c k q block new.1 new_too.1
      ]
    ];
    open_name = λ w c k q session m block stands has. elim (had block q w c m has) [
      | inl old ↦ sound.names.open_name w c k q session m block (steady_before (keys.Open w c k session) block tt stands) old
      | inr new ↦ absurd (let kinds = ap kind_of
          (one_home block (keys.Key w c q) (keys.Open w c k session) tt tt new.1 (steady_before (keys.Open w c k session) block tt stands)) in omega
          (arith, kinds))
    ];
  }
    where
      one_snapshot : (x : List ℕ) (w c : List ℕ) (m p r q : ℕ) → now (keys.Snapshot w c m) ≡ Some (rows.Snapshot x p Live)
          → now (keys.Snapshot w c r) ≡ Some (rows.Snapshot x q Live) → m ≡ r
      one_snapshot x w c m p r q row other = by (is_new w c m) (is_new w c r) refl refl
        where
          at : (y : ℕ) (z : ℕ) → is_new w c y ≡ true → now (keys.Snapshot w c y) ≡ Some (rows.Snapshot x z Live)
              → now (keys.Snapshot v b n) ≡ Some (rows.Snapshot x z Live)
          at y z e there = let same = place w c y e in (λ i. now (keys.Snapshot (same.0 i) (same.1 i) (same.2 i))) ∙ there

          there : (y : ℕ) (z : ℕ) (u : ℕ) → is_new w c u ≡ true → is_new w c y ≡ false → now (keys.Snapshot w c y) ≡ Some (rows.Snapshot x z Live)
              → all (keys.Snapshot v b y) ≡ Some (rows.Snapshot x z Live)
          there y z u e f row = let same = place w c u e in (λ i. all (keys.Snapshot (same.0 i) (same.1 i) y)) ∙ sym (is.snapshots w c y f) ∙ row

          by : (t u : Bool) → is_new w c m ≡ t → is_new w c r ≡ u → m ≡ r
          by true true e f = sym (place w c m e).2 ∙ (place w c r f).2
          by true false e f = absurd (other_number r p x (at m p e row) q (there r q m e f other))
          by false true e f = absurd (other_number m q x (at r q f other) p (there m p r f e row))
          by false false e f = sound.names.one_snapshot w c x m p r q (sym (is.snapshots w c m e) ∙ row) (sym (is.snapshots w c r f) ∙ other)

  -- ---- numbers and counts

  owned : (w c : List ℕ) (before o : ℕ) → is.owner_now w c before ≡ o → o ≢ 0 → (before ≢ 0 → IsSome (all (keys.Snapshot w c before)))
      → IsSome (now (keys.Snapshot w c o))
  owned w c before o same apart there = elim (is.owner w c before) [
    | inl stays ↦ subst (λ x. IsSome (now (keys.Snapshot w c x))) (sym stays ∙ same) (some_still w c before (there (λ zero. apart (sym same ∙ stays ∙ zero))))
    | inr new ↦ subst (λ x. IsSome (now (keys.Snapshot w c x))) same (new_there w c (is.owner_now w c before) new.1)
  ]
    where
      new_there : (w c : List ℕ) (m : ℕ) → is_new w c m ≡ true → IsSome (now (keys.Snapshot w c m))
      new_there w c m e = let same = place w c m e in subst IsSome (λ i. now (keys.Snapshot (same.0 i) (same.1 i) (same.2 i))) (ap is_some is.made)

  numbers_now : NumbersAreSound now
  numbers_now = record {
    sessions = λ w c k m there.
        let most = sound.numbers.sessions w c k m (subst IsSome (is.steady (keys.Open w c k m) tt) there) in
        let more = is.drawn (stripe_of w) in
        omega (arith, most, more);
    snapshots = by_number (λ w c m. IsSome (now (keys.Snapshot w c m)) → m ≤ drawn_in (now (keys.Stripe (stripe_of w))))
        (λ w c m other there.
        let most = sound.numbers.snapshots w c m (subst IsSome (is.snapshots w c m other) there) in
        let more = is.drawn (stripe_of w) in
        omega (arith, most, more))
        (λ there. is.drawn_now);
    deleted = λ w c k o l there apart.
        let row = some_row (now (keys.Deleted w c o k l)) there in
        let from = is.came w c k o l row.0 row.1 in
        owned w c from.0 o from.1 apart (λ some. sound.numbers.deleted w c k from.0 l (ap is_some from.2) some);
    renamed = λ w c o l there apart.
        let row = some_row (now (keys.Renamed w c o l)) there in
        let from = is.renamed_came w c o l row.0 row.1 in
        owned w c from.0 o from.1 apart (λ some. sound.numbers.renamed w c from.0 l (ap is_some from.2) some);
    snapshot_keys = λ w c k m there. by_number (λ w c m. IsSome (now (keys.SnapshotKey w c m k)) → IsSome (now (keys.Snapshot w c m)))
        (λ w c m other there. some_still w c m (sound.numbers.snapshot_keys w c k m (subst IsSome (is.snapshot_keys w c k m other) there)))
        (λ there. ap is_some is.made) w c m there;
  }

  using_before : (w c : List ℕ) (one : List ℕ × Option ℕ) → IsUsing now w c one → IsUsing all w c one
  using_before w c (k, None) there = subst IsSome (is.steady (keys.Key w c k) tt) there
  using_before w c (k, Some m) there = subst IsSome (is.steady (keys.Open w c k m) tt) there

  counts_now : CountsAreSound now
  counts_now = record {
    buckets = λ w. at_most _ _ _ (λ c there. subst IsSome (is.steady (keys.Bucket w c) tt) there) (sound.counts.buckets w);
    keys_and_sessions = λ w c. at_most _ _ _ (using_before w c) (sound.counts.keys_and_sessions w c);
    snapshots = is.few;
    snapshot_keys = by_number (λ w c m. IsLive now w c m → AtMost 4096 (λ k. IsSome (now (keys.SnapshotKey w c m k))))
        (λ w c m other live. at_most _ _ _ (λ k there. subst IsSome (is.snapshot_keys w c k m other) there)
        (sound.counts.snapshot_keys w c m (live_before w c m live other)))
        (λ live. is.few_keys);
  }

  pub sound_now : IsSoundButRenames now
  sound_now = record { blocks = blocks_now; names = names_now; numbers = numbers_now; counts = counts_now }

  -- ---- renamed rows

  -- where an owner stays, and where it is the new snapshot
  abbrev Owner : List ℕ → List ℕ → ℕ → Type 0
  Owner w c o = (is.owner_now w c o ≡ o) ⊎ ((o ≡ 0) × (is_new w c (is.owner_now w c o) ≡ true))

  has_owner : (w c : List ℕ) (o l : ℕ) (row : Row) → all (keys.Renamed w c o l) ≡ Some row → o ≢ 0 → IsSome (all (keys.Snapshot w c o))
  has_owner w c o l row there apart = sound.numbers.renamed w c o l (ap is_some there) apart

  -- what comes behind a snapshot that was there comes behind it still
  behind_now : (w c : List ℕ) (m o : ℕ) → IsSome (all (keys.Snapshot w c m)) → ComesBehind m o → ComesBehind m (is.owner_now w c o)
  behind_now w c m o there behind = elim (is.owner w c o) [
    | inl stays ↦ subst (ComesBehind m) (sym stays) behind
    | inr new ↦ inr (under w c m (is.owner_now w c o) there new.1)
  ]

  behind_before : (w c : List ℕ) (m before o : ℕ) → is.owner_now w c before ≡ o → ComesBehind m o → ComesBehind m before
  behind_before w c m before o same behind = elim (is.owner w c before) [
    | inl stays ↦ subst (ComesBehind m) (sym same ∙ stays) behind
    | inr new ↦ inl new.0
  ]

  -- two owners of renamed rows don't come together
  owners_apart : (w c : List ℕ) (o x l : ℕ) (row other : Row) → all (keys.Renamed w c o l) ≡ Some row → all (keys.Renamed w c x l) ≡ Some other
      → is.owner_now w c o ≡ is.owner_now w c x → o ≡ x
  owners_apart w c o x l row other here there same = elim (is.owner w c o) [
    | inl stays ↦ elim (is.owner w c x) [
      | inl stays_too ↦ sym stays ∙ same ∙ stays_too
      | inr new ↦ absurd (met w c o l row here (sym stays ∙ same) new.1)
    ]
    | inr new ↦ elim (is.owner w c x) [
      | inl stays ↦ absurd (met w c x l other there (sym stays ∙ sym same) new.1)
      | inr new_too ↦ new.0 ∙ sym new_too.0
    ]
  ]
    where
      met : (w c : List ℕ) (o l : ℕ) (row : Row) → all (keys.Renamed w c o l) ≡ Some row → {m : ℕ} → o ≡ m → is_new w c m ≡ true → ⊥
      met w c o l row here {m} same new =
          let number = (place w c m new).2 in
          let fresh = is.fresh in
          let some : o ≢ 0 = λ zero. omega (arith, zero, same, number, fresh) in
          let less = under w c o m (has_owner w c o l row here some) new in
          omega (arith, less, same)

  -- an owner is above a snapshot's number, or another one
  first_before : (w c : List ℕ) (m l owner before : ℕ) (another : List ℕ) → IsSome (all (keys.Snapshot w c m)) → is.owner_now w c before ≡ owner
      → all (keys.Renamed w c before l) ≡ Some (rows.Renamed another) → IsRename now w c m l owner another → IsRename all w c m l before another
  first_before w c m l owner before another there same row rename = record {
    row = row;
    behind = behind_before w c m before owner same rename.behind;
    first = λ other behind some apart.
        let found = some_row (all (keys.Renamed w c other l)) some in
        let moved = is.owner_now w c other in
        let first = rename.first moved (behind_now w c m other there behind) (ap is_some (is.renamed_stays w c other l found.0 found.1))
        (λ e. apart (owners_apart w c other before l found.0 (rows.Renamed another) found.1 row (e ∙ sym same))) in
        elim (is.owner w c before) [
          | inl stays ↦ (let it : before ≡ owner = sym stays
              ∙ same in ((λ zero. first.0 (sym it ∙ zero)), behind_before w c before other moved refl (subst (λ x. ComesBehind x moved) (sym it) first.1)))
          | inr new ↦ absurd (above w c owner other l found.0 found.1 (subst (λ x. is_new w c x ≡ true) same new.1) (λ zero. apart (zero ∙ sym new.0)) first.1)
        ];
  }
    where
      -- nothing comes behind the new snapshot
      above : (w c : List ℕ) (o other l : ℕ) (row : Row) → all (keys.Renamed w c other l) ≡ Some row → is_new w c o ≡ true → other ≢ 0
          → ComesBehind o (is.owner_now w c other) → ⊥
      above w c o other l row here new some behind =
          let less = under w c other o (has_owner w c other l row here some) new in
          elim (is.owner w c other) [
            | inl stays ↦ elim behind [
              | inl zero ↦ some (sym stays ∙ zero)
              | inr more ↦ omega (arith, less, more, stays)
            ]
            | inr moved ↦ some moved.0
          ]

  first_now : (w c : List ℕ) (m l owner : ℕ) (another : List ℕ) → IsSome (all (keys.Snapshot w c m)) → IsRename all w c m l owner another
      → IsRename now w c m l (is.owner_now w c owner) another
  first_now w c m l owner another there rename = record {
    row = is.renamed_stays w c owner l (rows.Renamed another) rename.row;
    behind = behind_now w c m owner there rename.behind;
    first = λ other behind some apart.
        let found = some_row (now (keys.Renamed w c other l)) some in
        let from = is.renamed_came w c other l found.0 found.1 in
        let first = rename.first from.0 (behind_before w c m from.0 other from.1 behind) (ap is_some from.2)
        (λ e. apart (sym from.1 ∙ ap (is.owner_now w c) e)) in
        let owner_there = has_owner w c owner l (rows.Renamed another) rename.row first.0 in
        elim (is.owner w c owner) [
          | inl stays ↦ (
            (λ zero. first.0 (sym stays ∙ zero)),
            subst (λ x. ComesBehind x other) (sym stays) (subst (ComesBehind owner) from.1 (behind_now w c owner from.0 owner_there first.1)),
          )
          | inr new ↦ absurd (first.0 new.0)
        ];
  }

  -- no rename is behind the new snapshot
  none_behind : (w c : List ℕ) (m l owner : ℕ) (another : List ℕ) → is_new w c m ≡ true → IsRename now w c m l owner another → ⊥
  none_behind w c m l owner another new rename =
      let from = is.renamed_came w c owner l (rows.Renamed another) rename.row in
      let number = (place w c m new).2 in
      let fresh = is.fresh in
      elim (is.owner w c from.0) [
        | inl stays ↦ elim rename.behind [
          | inl zero ↦ (let before : from.0 ≡ 0 = sym stays ∙ from.1 ∙ zero in
              let over : is.owner_now w c 0 ≡ n = (let same = place w c m new in (λ i. is.owner_now (sym same.0 i) (sym same.1 i) 0) ∙ is.takes_over) in
              let is_zero : n ≡ 0 = sym over ∙ ap (is.owner_now w c) (sym before) ∙ from.1 ∙ zero in
              omega (arith, is_zero, fresh))
          | inr more ↦ (let before : from.0 ≡ owner = sym stays ∙ from.1 in
              let some : from.0 ≢ 0 = λ zero. omega (arith, zero, before, more) in
              let less = under w c from.0 m (has_owner w c from.0 l (rows.Renamed another) from.2 some) new in
              omega (arith, less, more, before))
        ]
        | inr moved ↦ (let same = (place w c (is.owner_now w c from.0) moved.1).2 in
            let it = from.1 in
            elim rename.behind [
              | inl zero ↦ omega (arith, zero, it, same, fresh)
              | inr more ↦ omega (arith, more, it, same, number)
            ])
      ]

  anew_before : (w c k : List ℕ) (m : ℕ) (block : Block) → IsNamedAnew now w c m block k → IsNamedAnew all w c m block k
  anew_before w c k m block (inl (later, another, above, has, apart)) = elim (had block another w c later has) [
    | inl old ↦ inl (later, another, above, old, apart)
    | inr new ↦ inr (another, new.1, apart)
  ]
  anew_before w c k m block (inr (another, stands, apart)) = inr (another, steady_before (keys.Key w c another) block tt stands, apart)

  -- a block of a new snapshot has no other name
  not_anew : (w c k : List ℕ) (m : ℕ) (block : Block) → is_new w c m ≡ true → StandsIn all block (keys.Key w c k) → IsNamedAnew now w c m block k → ⊥
  not_anew w c k m block new stands (inl (later, another, above, has, apart)) = elim (had block another w c later has) [
    | inl old ↦ (let less = under w c later m (is_live w c later old.live) new in omega (arith, less, above))
    | inr too ↦ (let one = (place w c m new).2 in let two = (place w c later too.0).2 in omega (arith, one, two, above))
  ]
  not_anew w c k m block new stands (inr (another, here, apart)) =
      apart (one_key w c another k block (steady_before (keys.Key w c another) block tt here) stands)

  pub renames_now : RenamesAreSound all → RenamesAreSound now
  renames_now renames = record {
    renamed = λ w c k another m owner block has rename. elim (had block k w c m has) [
      | inl old ↦ (let from = is.renamed_came w c owner block.local (rows.Renamed another) rename.row in
          renames.renamed w c k another m from.0 block old (first_before w c m block.local owner from.0 another (is_live w c m old.live) from.1 from.2 rename))
      | inr new ↦ absurd (none_behind w c m block.local owner another new.0 rename)
    ];
    noted = λ w c k m block has anew. elim (had block k w c m has) [
      | inl old ↦ (let found = renames.noted w c k m block old (anew_before w c k m block anew) in
          (is.owner_now w c found.0, found.1, first_now w c m block.local found.0 found.1 (is_live w c m old.live) found.2))
      | inr new ↦ absurd (not_anew w c k m block new.0 new.1 anew)
    ];
  }

  -- ---- the bucket's snapshots, where one more is made

  copied_pieces : (k : List ℕ) (o : Option Row) → all (keys.Key v b k) ≡ o → pieces_in o ≡ pieces_in (copy_of o)
  copied_pieces k None e = refl
  copied_pieces k (Some row) e = by row (fit_before (keys.Key v b k) row e).1
    where
      by : (row : Row) → ValueFits (keys.Key v b k) row → pieces_in (Some row) ≡ pieces_in (copy_of (Some row))
      by (rows.Key made pieces) fits = refl
      by row fits = absurd fits

  all_under : (numbers : List ℕ) (l : List Snapshot) → AreSnapshots all v b numbers l → AllByRecursion (λ m. m < n) numbers
  all_under [] [] are = tt
  all_under [] (s ∷ l) are = tt
  all_under (m ∷ numbers) [] are = absurd are
  all_under (m ∷ numbers) (s ∷ l) are = (under v b m n (ap is_some are.0.row) itself, all_under numbers l are.1)

  above_with : (x : ℕ) (numbers : List ℕ) → AllByRecursion (λ other. x < other) numbers → x < n → AllByRecursion (λ other. x < other) (numbers ++ n ∷ [])
  above_with x [] over less = (less, tt)
  above_with x (m ∷ numbers) over less = (over.0, above_with x numbers over.1 less)

  rise_with : (numbers : List ℕ) → NumbersRise numbers → AllByRecursion (λ m. m < n) numbers → NumbersRise (numbers ++ n ∷ [])
  rise_with [] rise less = (tt, tt)
  rise_with (m ∷ numbers) rise less = (above_with m numbers rise.0 less.0, rise_with numbers rise.1 less.1)

  among_front : (m : ℕ) (numbers : List ℕ) → is_among m numbers ≡ true → is_among m (numbers ++ n ∷ []) ≡ true
  among_front m [] among = absurd (false≢true among)
  among_front m (x ∷ numbers) among = by (x == m) among (among_front m numbers)
    where
      by : (t : Bool) → t || is_among m numbers ≡ true → (is_among m numbers ≡ true → is_among m (numbers ++ n ∷ []) ≡ true)
          → t || is_among m (numbers ++ n ∷ []) ≡ true
      by true among later = refl
      by false among later = later among

  among_last : (m : ℕ) (numbers : List ℕ) → n ≡ m → is_among m (numbers ++ n ∷ []) ≡ true
  among_last m [] same = ap (λ (t : Bool). t || false) (number_itself m n same)
  among_last m (x ∷ numbers) same = by (x == m) (among_last m numbers same)
    where
      by : (t : Bool) → is_among m (numbers ++ n ∷ []) ≡ true → t || is_among m (numbers ++ n ∷ []) ≡ true
      by true later = refl
      by false later = later

  module _ (copied : ByName (List Piece)) (agree : (k : List ℕ) → get copied k ≡ pieces_in (all (keys.Key v b k))) where
    abbrev with_copy : Snapshot
    with_copy = record { name = name; keys = copied }

    each_with : (numbers : List ℕ) (l : List Snapshot) → AreSnapshots all v b numbers l → AreSnapshots now v b (numbers ++ n ∷ []) (l ++ with_copy ∷ [])
    each_with [] [] are = (
      record {
        previous = is.previous;
        row = is.made;
        pieces = λ k. agree k ∙ copied_pieces k (all (keys.Key v b k)) refl ∙ ap pieces_in (sym (is.copies k));
      },
      tt,
    )
    each_with [] (s ∷ l) are = absurd are
    each_with (m ∷ numbers) [] are = absurd are
    each_with (m ∷ numbers) (s ∷ l) are =
        let other = not_new v b m (ap is_some are.0.row) in (
          record {
            previous = are.0.previous;
            row = is.snapshots v b m other ∙ are.0.row;
            pieces = λ k. are.0.pieces k ∙ ap pieces_in (sym (is.snapshot_keys v b k m other));
          },
          each_with numbers l are.1,
        )

    pub snapshots_now : (l : List Snapshot) → SnapshotsStand all v b l → SnapshotsStand now v b (l ++ with_copy ∷ [])
    snapshots_now l stand = record {
      numbers = stand.numbers ++ n ∷ [];
      rise = rise_with stand.numbers stand.rise (all_under stand.numbers l stand.each);
      every = λ m live. by_new m live (is_new v b m) refl;
      each = each_with stand.numbers l stand.each;
    }
      where
        by_new : (m : ℕ) → IsLive now v b m → (t : Bool) → is_new v b m ≡ t → is_among m (stand.numbers ++ n ∷ []) ≡ true
        by_new m live true e = among_last m stand.numbers (place v b m e).2
        by_new m live false e = among_front m stand.numbers (stand.every m (live_before v b m live e))
