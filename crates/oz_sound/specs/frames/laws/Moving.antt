-- Rows stay sound as blocks move among keys, open keys and deleted rows.
use Rattle.std.proofs.Common.{◌≡◌, ◌≢◌, ℕ, List, [], ◌∷◌, Option, Some, IsSome, refl, sym, ◌∙◌, ap, subst, arith, inl, inr, ◌⊎◌}
use Rattle.std.specs.List.{AllByRecursion}
use Rattle.std.proofs.lemmas.Option.{same_Some}
use Rattle.oz_fields.specs.declared.block.Block.{Block}
use Rattle.oz_names.specs.Names.{stripe_of}
use Rattle.oz_rows.specs.declared.key.RowKey.{RowKey}
use Rattle.oz_rows.specs.declared.key.RowKey.TheVariants as keys
use Rattle.oz_rows.specs.Rows.{kind_of}
use Rattle.oz_rows.specs.RowMaps.{Rows}
use Rattle.oz_sound.specs.Kept.{KeepsBlocks}
use Rattle.oz_sound.specs.Sound.{
  StandsIn,
  bucket_of_row,
  IsKeeper,
  IsHome,
  SnapshotHas,
  AreTogether,
  IsRename,
  IsNamedAnew,
  AtMost,
  BlocksAreSound,
  NamesAreSound,
  RenamesAreSound,
  NumbersAreSound,
  CountsAreSound,
  IsSoundButRenames,
}
use Rattle.oz_sound.specs.StandsFor.{IsLive}
use Rattle.oz_sound.specs.frames.Moves.{StoodTogether, IsGranted, BlocksMove, NamesStay}

by_home : {P : Type 0} (key : RowKey) → (IsHome key → P) → ((IsHome key → ⊥) → P) → P
by_home (keys.Key v b k) home other = home tt
by_home (keys.Open v b k n) home other = home tt
by_home (keys.Deleted v b o k l) home other = home tt
by_home (keys.Volume v) home other = other (λ h. h)
by_home (keys.Bucket v b) home other = other (λ h. h)
by_home (keys.Snapshot v b n) home other = other (λ h. h)
by_home (keys.SnapshotKey v b n k) home other = other (λ h. h)
by_home (keys.Renamed v b o l) home other = other (λ h. h)
by_home (keys.Stripe s) home other = other (λ h. h)

keeper_home : (key : RowKey) → IsKeeper key → IsHome key
keeper_home (keys.Key v b k) keeper = tt
keeper_home (keys.Deleted v b o k l) keeper = tt
keeper_home key keeper = absurd keeper

-- a key is that of a stripe, or of another kind
by_stripe : (P : RowKey → Type 0) (key : RowKey) → ((s : ℕ) → P (keys.Stripe s)) → (kind_of key ≢ 9 → P key) → P key
by_stripe P (keys.Stripe s) stripe other = stripe s
by_stripe P (keys.Key v b k) stripe other = other (λ e. omega (arith, e))
by_stripe P (keys.Open v b k n) stripe other = other (λ e. omega (arith, e))
by_stripe P (keys.Deleted v b o k l) stripe other = other (λ e. omega (arith, e))
by_stripe P (keys.Volume v) stripe other = other (λ e. omega (arith, e))
by_stripe P (keys.Bucket v b) stripe other = other (λ e. omega (arith, e))
by_stripe P (keys.Snapshot v b n) stripe other = other (λ e. omega (arith, e))
by_stripe P (keys.SnapshotKey v b n k) stripe other = other (λ e. omega (arith, e))
by_stripe P (keys.Renamed v b o l) stripe other = other (λ e. omega (arith, e))

pub all_before : {A : Type 0} (P Q : A → Type 0) → ((a : A) → P a → Q a) → (l : List A) → AllByRecursion P l → AllByRecursion Q l
all_before P Q f [] all = tt
all_before P Q f (a ∷ l) all = (f a all.0, all_before P Q f l all.1)

pub at_most : {A : Type 0} (P Q : A → Type 0) (n : ℕ) → ((a : A) → P a → Q a) → AtMost n Q → AtMost n P
at_most P Q n f most items differ all = most items differ (all_before P Q f items all)

module _ (all now : Rows) (granted : Option Block) (moved : BlocksMove all now granted) where
  snapshot_row : (v b : List ℕ) (n : ℕ) → now (keys.Snapshot v b n) ≡ all (keys.Snapshot v b n)
  snapshot_row v b n = moved.others (keys.Snapshot v b n) (λ h. h) (λ e. omega (arith, e))

  snapshot_key_row : (v b : List ℕ) (n : ℕ) (k : List ℕ) → now (keys.SnapshotKey v b n k) ≡ all (keys.SnapshotKey v b n k)
  snapshot_key_row v b n k = moved.others (keys.SnapshotKey v b n k) (λ h. h) (λ e. omega (arith, e))

  renamed_row : (v b : List ℕ) (o l : ℕ) → now (keys.Renamed v b o l) ≡ all (keys.Renamed v b o l)
  renamed_row v b o l = moved.others (keys.Renamed v b o l) (λ h. h) (λ e. omega (arith, e))

  bucket_row : (v b : List ℕ) → now (keys.Bucket v b) ≡ all (keys.Bucket v b)
  bucket_row v b = moved.others (keys.Bucket v b) (λ h. h) (λ e. omega (arith, e))

  live_before : (v b : List ℕ) (n : ℕ) → IsLive now v b n → IsLive all v b n
  live_before v b n (name, previous, row) = (name, previous, sym (snapshot_row v b n) ∙ row)

  live_after : (v b : List ℕ) (n : ℕ) → IsLive all v b n → IsLive now v b n
  live_after v b n (name, previous, row) = (name, previous, snapshot_row v b n ∙ row)

  has_before : (v b : List ℕ) (n : ℕ) (block : Block) (name : List ℕ) → SnapshotHas now v b n block name → SnapshotHas all v b n block name
  has_before v b n block name has = record {
    live = live_before v b n has.live;
    stands = record { row = has.stands.row; there = sym (snapshot_key_row v b n name) ∙ has.stands.there; has = has.stands.has };
  }

  has_after : (v b : List ℕ) (n : ℕ) (block : Block) (name : List ℕ) → SnapshotHas all v b n block name → SnapshotHas now v b n block name
  has_after v b n block name has = record {
    live = live_after v b n has.live;
    stands = record { row = has.stands.row; there = snapshot_key_row v b n name ∙ has.stands.there; has = has.stands.has };
  }

  -- where a block stood, whatever row has it now
  pub record Origin (block : Block) (key : RowKey) : Type 0 where
    pub old : RowKey
    pub stood : StandsIn all block old
    pub same_bucket : bucket_of_row old ≡ bucket_of_row key

  origin : (block : Block) (key : RowKey) → StandsIn now block key → Origin block key ⊎ (IsHome key × IsGranted all granted block)
  origin block key stands = by_home key
      (λ home. elim (moved.came block key home stands) [
        | inl it ↦ inl (record { old = it.key; stood = it.here; same_bucket = it.same_bucket })
        | inr new ↦ inr (home, new)
      ])
      (λ other. by_stripe (λ k. StandsIn now block k → (IsHome k → ⊥) → Origin block k ⊎ (IsHome k × IsGranted all granted block)) key
      (λ s stands other. absurd (moved.bare s block stands))
      (λ kind stands other. inl (record {
        old = key;
        stood = record { row = stands.row; there = sym (moved.others key other kind) ∙ stands.there; has = stands.has };
        same_bucket = refl;
      }))
      stands other)

  -- a granted block stood nowhere
  nowhere : {P : Type 0} (block : Block) (key : RowKey) → IsGranted all granted block → StandsIn all block key → P
  nowhere block key new stands = absurd (new.fresh block key stands refl)

  some_before : (key : RowKey) → now key ≡ all key → IsSome (now key) → IsSome (all key)
  some_before key same some = subst IsSome same some

  rename_before : (v b : List ℕ) (n local owner : ℕ) (name : List ℕ) → IsRename now v b n local owner name → IsRename all v b n local owner name
  rename_before v b n local owner name is = record {
    row = sym (renamed_row v b owner local) ∙ is.row;
    behind = is.behind;
    first = λ other behind some apart. is.first other behind (subst IsSome (sym (renamed_row v b other local)) some) apart;
  }

  rename_after : (v b : List ℕ) (n local owner : ℕ) (name : List ℕ) → IsRename all v b n local owner name → IsRename now v b n local owner name
  rename_after v b n local owner name is = record {
    row = renamed_row v b owner local ∙ is.row;
    behind = is.behind;
    first = λ other behind some apart. is.first other behind (subst IsSome (renamed_row v b other local) some) apart;
  }

  module _ (sound : IsSoundButRenames all) where
    -- a block of an open key is in no live snapshot
    not_open : {P : Type 0} (v b k : List ℕ) (n : ℕ) (w c name : List ℕ) (m : ℕ) (block : Block) → StandsIn all block (keys.Open v b k n)
        → SnapshotHas all w c m block name → P
    not_open v b k n w c name m block opened has =
        let kept = sound.blocks.kept w c name m block has in
        let same = sound.blocks.one_home block kept.0 (keys.Open v b k n) (keeper_home kept.0 kept.1) tt kept.2 opened in
        absurd (subst IsKeeper same kept.1)

    together_before : (v b : List ℕ) (block other : Block) → StoodTogether all block other (Some (v, b)) → AreTogether all v b block other
    together_before v b block other stood = by_key stood.key stood.home stood.here stood.there stood.same_bucket
      where
        by_key : (key : RowKey) → IsHome key → StandsIn all block key → StandsIn all other key → bucket_of_row key ≡ Some (v, b)
            → AreTogether all v b block other
        by_key (keys.Key w c k) home here there place =
            subst (λ (p : List ℕ × List ℕ). AreTogether all p.0 p.1 block other) (same_Some (w, c) (v, b) place)
            (sound.blocks.key_together w c k block other here there)
        by_key (keys.Deleted w c o k l) home here there place =
            subst (λ (p : List ℕ × List ℕ). AreTogether all p.0 p.1 block other) (same_Some (w, c) (v, b) place)
            (sound.blocks.deleted_together w c k o l block other here there)
        by_key (keys.Open w c k n) home here there place = λ number name has. not_open w c k n v b name number block here has
        by_key key home here there place = absurd home

    together : (v b : List ℕ) (block other : Block) → AreTogether all v b block other → AreTogether now v b block other
    together v b block other are n name has = let found = are n name (has_before v b n block name has) in (found.0, has_after v b n other found.0 found.1)

    blocks_moved : BlocksAreSound now
    blocks_moved = record {
      one_bucket = λ block key other here there. elim (origin block key here) [
        | inl one ↦ elim (origin block other there) [
          | inl two ↦ sym one.same_bucket ∙ sound.blocks.one_bucket block one.old two.old one.stood two.stood ∙ two.same_bucket
          | inr new ↦ nowhere block one.old new.1 one.stood
        ]
        | inr new ↦ elim (origin block other there) [
          | inl two ↦ nowhere block two.old new.1 two.stood
          | inr again ↦ ap bucket_of_row (moved.one_home block key other new.0 again.0 here there)
        ]
      ];
      one_home = moved.one_home;
      one_local = λ block twin key other here there e. elim (origin block key here) [
        | inl one ↦ elim (origin twin other there) [
          | inl two ↦ sound.blocks.one_local block twin one.old two.old one.stood two.stood e
          | inr new ↦ absurd (new.1.fresh block one.old one.stood e)
        ]
        | inr new ↦ elim (origin twin other there) [
          | inl two ↦ absurd (new.1.fresh twin two.old two.stood (sym e))
          | inr again ↦ same_Some block twin (sym new.1.this_one ∙ again.1.this_one)
        ]
      ];
      kept = λ v b name n block has. let found =
          sound.blocks.kept v b name n block (has_before v b n block name has) in moved.stays block found.0 found.1 found.2;
      deleted_together = λ v b key owner local block other here there. together v b block other
          (together_before v b block other (moved.together block other (keys.Deleted v b owner key local) tt here there));
      key_together = λ v b key block other here there. together v b block other
          (together_before v b block other (moved.together block other (keys.Key v b key) tt here there));
    }

    names_moved : NamesAreSound now
    names_moved = record {
      one_snapshot = λ v b name n previous m before here there. sound.names.one_snapshot v b name n previous m before (sym (snapshot_row v b n) ∙ here)
          (sym (snapshot_row v b m) ∙ there);
      one_name = λ v b name another n block here there. sound.names.one_name v b name another n block (has_before v b n block name here)
          (has_before v b n block another there);
      open_name = λ v b key name session n block here there.
          let had = has_before v b n block name there in
          elim (moved.open_key v b key session block here) [
            | inl old ↦ sound.names.open_name v b key name old.0 n block old.1 had
            | inr new ↦ nowhere block (keys.SnapshotKey v b n name) new had.stands
          ];
    }

    named_before : NamesStay all now → (v b : List ℕ) (n : ℕ) (block : Block) (name : List ℕ) → SnapshotHas all v b n block name
        → IsNamedAnew now v b n block name → IsNamedAnew all v b n block name
    named_before stay v b n block name had (inl (later, another, rises, has, apart)) =
        inl (later, another, rises, has_before v b later block another has, apart)
    named_before stay v b n block name had (inr (another, stands, apart)) = elim (stay v b another block stands) [
      | inl same ↦ inr (another, same, apart)
      | inr opened ↦ not_open v b opened.0 opened.1 v b name n block opened.2 had
    ]

    pub renames_moved : NamesStay all now → RenamesAreSound all → RenamesAreSound now
    renames_moved stay renames = record {
      renamed = λ v b name another n owner block has is. renames.renamed v b name another n owner block (has_before v b n block name has)
          (rename_before v b n block.local owner another is);
      noted = λ v b name n block has anew.
          let had = has_before v b n block name has in
          let found = renames.noted v b name n block had (named_before stay v b n block name had anew) in
          (found.0, found.1, rename_after v b n block.local found.0 found.1 found.2);
    }

    numbers_moved : NumbersAreSound now
    numbers_moved = record {
      sessions = moved.sessions;
      snapshots = λ v b n some.
          let before = sound.numbers.snapshots v b n (subst IsSome (snapshot_row v b n) some) in
          let drawn = moved.drawn (stripe_of v) in
          omega (arith, before, drawn);
      deleted = λ v b key owner local some apart. subst IsSome (sym (snapshot_row v b owner))
          (sound.numbers.deleted v b key owner local (moved.owners v b key owner local some apart) apart);
      renamed = λ v b owner local some apart. subst IsSome (sym (snapshot_row v b owner))
          (sound.numbers.renamed v b owner local (subst IsSome (renamed_row v b owner local) some) apart);
      snapshot_keys = λ v b key n some. subst IsSome (sym (snapshot_row v b n))
          (sound.numbers.snapshot_keys v b key n (subst IsSome (snapshot_key_row v b n key) some));
    }

    counts_moved : CountsAreSound now
    counts_moved = record {
      buckets = λ v. at_most _ _ 1024 (λ b some. subst IsSome (bucket_row v b) some) (sound.counts.buckets v);
      keys_and_sessions = moved.few;
      snapshots = λ v b. at_most _ _ 32 (live_before v b) (sound.counts.snapshots v b);
      snapshot_keys = λ v b n live. at_most _ _ 4096 (λ key some. subst IsSome (snapshot_key_row v b n key) some)
          (sound.counts.snapshot_keys v b n (live_before v b n live));
    }

pub sound_moved : (all now : Rows) (granted : Option Block) → BlocksMove all now granted → IsSoundButRenames all → IsSoundButRenames now
sound_moved all now granted moved sound = record {
  blocks = blocks_moved all now granted moved sound;
  names = names_moved all now granted moved sound;
  numbers = numbers_moved all now granted moved sound;
  counts = counts_moved all now granted moved sound;
}

pub blocks_kept : (all now : Rows) (granted : Option Block) → BlocksMove all now granted → KeepsBlocks all now granted (λ block. ⊥)
blocks_kept all now granted moved = record {
  none_lost = λ block had. inl (moved.none_lost block had);
  none_made = λ block has. elim (moved.came block has.key has.home has.here) [
    | inl it ↦ inl (record { key = it.key; home = it.home; here = it.here })
    | inr new ↦ inr new.this_one
  ];
}
