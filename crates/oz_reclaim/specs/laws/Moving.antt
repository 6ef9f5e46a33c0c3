-- Rows stay sound as deleted rows move and go, and as marked snapshots are worked off.
use Rattle.std.proofs.Common.{◌≡◌, ◌⊎◌, inl, inr, ℕ, true, List, Option, None, Some, IsSome, is_some, refl, sym, ◌∙◌, ap, subst, ◌≤◌, [], ◌∷◌, map}
use mathlib.Core.Bool.{false≢true}
use Rattle.std.proofs.lemmas.Option.{same_Some}
use Rattle.std.specs.List.{list_any}
use Rattle.oz_decision.specs.Meets.{AreInGrammar}
use Rattle.oz_fields.specs.declared.block.Block.{Block}
use Rattle.oz_names.specs.Names.{stripe_of}
use Rattle.oz_namespace.specs.declared.namespace.Namespace.{Namespace}
use Rattle.oz_namespace.specs.declared.namespace.Snapshot.{Snapshot}
use Rattle.oz_namespace.specs.Namespace.{sixteen}
use Rattle.oz_rows.specs.declared.key.RowKey.{RowKey}
use Rattle.oz_rows.specs.declared.key.RowKey.TheVariants as keys
use Rattle.oz_rows.specs.declared.row.Row.{Row}
use Rattle.oz_rows.specs.declared.row.Row.TheVariants as rows
use Rattle.oz_rows.specs.RowMaps.{Rows, is_block}
use Rattle.oz_rows.specs.Rows.{ValueFits}
use Rattle.oz_sound.specs.Kept.{HasHome, KeepsBlocks}
use Rattle.oz_sound.specs.Sound.{
  StandsIn,
  blocks_of,
  bucket_of_row,
  IsKeeper,
  IsHome,
  SnapshotHas,
  AreTogether,
  IsRename,
  IsNamedAnew,
  IsUsing,
  BlocksAreSound,
  NamesAreSound,
  RenamesAreSound,
  NumbersAreSound,
  CountsAreSound,
  IsSoundButRenames,
}
use Rattle.oz_sound.specs.StandsFor.{IsLive, drawn_in, pieces_in, StandsFor, IsSnapshot, AreSnapshots}
use Rattle.oz_sound.specs.frames.laws.Moving.{at_most}
use Rattle.oz_reclaim.specs.Moves.{DeletedMove, IsSteady, RenamesStay}

some_row : (o : Option Row) → IsSome o → (row : Row) × (o ≡ Some row)
some_row None e = absurd (false≢true e)
some_row (Some row) e = (row, refl)

-- rows of these kinds name no blocks
no_blocks : {P : Type 0} (row : Row) (block : Block) → blocks_of row ≡ [] → list_any (is_block block) (blocks_of row) ≡ true → P
no_blocks row block none has = absurd (false≢true (sym (ap (list_any (is_block block)) none) ∙ has))

snapshot_bare : (v b : List ℕ) (n : ℕ) (row : Row) → ValueFits (keys.Snapshot v b n) row → blocks_of row ≡ []
snapshot_bare v b n (rows.Snapshot name previous state) fits = refl
snapshot_bare v b n row fits = absurd fits

renamed_bare : (v b : List ℕ) (o l : ℕ) (row : Row) → ValueFits (keys.Renamed v b o l) row → blocks_of row ≡ []
renamed_bare v b o l (rows.Renamed key) fits = refl
renamed_bare v b o l row fits = absurd fits

module _ (all now : Rows) (moved : DeletedMove all now) where
  live_before : (v b : List ℕ) (n : ℕ) → IsLive now v b n → IsLive all v b n
  live_before v b n live = (live.0, live.1, sym (moved.live v b n live) ∙ live.2)

  pub has_before : (v b : List ℕ) (n : ℕ) (block : Block) (name : List ℕ) → SnapshotHas now v b n block name → SnapshotHas all v b n block name
  has_before v b n block name has = record {
    live = live_before v b n has.live;
    stands = record { row = has.stands.row; there = sym (moved.live_keys v b name n has.live) ∙ has.stands.there; has = has.stands.has };
  }

  has_after : (v b : List ℕ) (n : ℕ) (block : Block) (name : List ℕ) → IsLive now v b n → SnapshotHas all v b n block name → SnapshotHas now v b n block name
  has_after v b n block name live has = record {
    live = live;
    stands = record { row = has.stands.row; there = moved.live_keys v b name n live ∙ has.stands.there; has = has.stands.has };
  }

  steady_before : (key : RowKey) (block : Block) → IsSteady key → StandsIn now block key → StandsIn all block key
  steady_before key block steady stands = record { row = stands.row; there = sym (moved.steady key steady) ∙ stands.there; has = stands.has }

  steady_after : (key : RowKey) (block : Block) → IsSteady key → StandsIn all block key → StandsIn now block key
  steady_after key block steady stands = record { row = stands.row; there = moved.steady key steady ∙ stands.there; has = stands.has }

  -- where a block stood, whatever row has it now
  pub record Origin (block : Block) (key : RowKey) : Type 0 where
    pub old : RowKey
    pub stood : StandsIn all block old
    pub same_bucket : bucket_of_row old ≡ bucket_of_row key

  still : (key : RowKey) (block : Block) → IsSteady key → StandsIn now block key → Origin block key
  still key block steady stands = record { old = key; stood = steady_before key block steady stands; same_bucket = refl }

  deleted_before : (v b k : List ℕ) (o l : ℕ) (block : Block) → StandsIn now block (keys.Deleted v b o k l) → (before : ℕ)
      × (moved.owner_now v b before ≡ o) × StandsIn all block (keys.Deleted v b before k l)
  deleted_before v b k o l block stands =
      let from = moved.came v b k o l stands.row stands.there in
      (from.0, from.1, record { row = stands.row; there = from.2; has = stands.has })

  module _ (fit : AreInGrammar now) where
    origin : (block : Block) (key : RowKey) → StandsIn now block key → Origin block key
    origin block (keys.Volume v) stands = still (keys.Volume v) block tt stands
    origin block (keys.Bucket v b) stands = still (keys.Bucket v b) block tt stands
    origin block (keys.Key v b k) stands = still (keys.Key v b k) block tt stands
    origin block (keys.Open v b k n) stands = still (keys.Open v b k n) block tt stands
    origin block (keys.Stripe s) stands = still (keys.Stripe s) block tt stands
    origin block (keys.Deleted v b o k l) stands = let from =
        deleted_before v b k o l block stands in record { old = keys.Deleted v b from.0 k l; stood = from.2; same_bucket = refl }
    origin block (keys.SnapshotKey v b n k) stands =
        record {
          old = keys.SnapshotKey v b n k;
          stood = record { row = stands.row; there = (moved.snapshot_keys v b k n stands.row stands.there).0; has = stands.has };
          same_bucket = refl;
        }
    origin block (keys.Snapshot v b n) stands =
        no_blocks stands.row block (snapshot_bare v b n stands.row (fit (keys.Snapshot v b n) stands.row stands.there).1) stands.has
    origin block (keys.Renamed v b o l) stands =
        no_blocks stands.row block (renamed_bare v b o l stands.row (fit (keys.Renamed v b o l) stands.row stands.there).1) stands.has

    -- the key of a home after the move
    pub key_now : RowKey → RowKey
    key_now (keys.Deleted v b o k l) = keys.Deleted v b (moved.owner_now v b o) k l
    key_now key = key

    pub record OldHome (block : Block) (key : RowKey) : Type 0 where
      pub old : RowKey
      pub home : IsHome old
      pub stood : StandsIn all block old
      pub same : key_now old ≡ key

    old_home : (block : Block) (key : RowKey) → IsHome key → StandsIn now block key → OldHome block key
    unfolding key_now
    old_home block (keys.Key v b k) home stands =
        record { old = keys.Key v b k; home = tt; stood = steady_before (keys.Key v b k) block tt stands; same = refl }
    old_home block (keys.Open v b k n) home stands =
        record { old = keys.Open v b k n; home = tt; stood = steady_before (keys.Open v b k n) block tt stands; same = refl }
    old_home block (keys.Deleted v b o k l) home stands =
        let from = deleted_before v b k o l block stands in
        record { old = keys.Deleted v b from.0 k l; home = tt; stood = from.2; same = ap (λ owner. keys.Deleted v b owner k l) from.1 }
    old_home block key home stands = absurd home

    module _ (sound : IsSoundButRenames all) where
      kept_now : (v b name : List ℕ) (n : ℕ) (block : Block) → SnapshotHas now v b n block name → (key : RowKey) → IsKeeper key → StandsIn all block key
          → (new : RowKey) × IsKeeper new × StandsIn now block new
      kept_now v b name n block has (keys.Key w c k) keeper stands = (keys.Key w c k, tt, steady_after (keys.Key w c k) block tt stands)
      kept_now v b name n block has (keys.Deleted w c o k l) keeper stands = elim (moved.stays w c k o l stands.row stands.there) [
        | inl there ↦ (keys.Deleted w c (moved.owner_now w c o) k l, tt, record { row = stands.row; there = there; has = stands.has })
        | inr none ↦ absurd (none block v b name n stands.has has)
      ]
      kept_now v b name n block has key keeper stands = absurd keeper

      together_now : (v b : List ℕ) (block other : Block) → AreTogether all v b block other → AreTogether now v b block other
      together_now v b block other are n name has =
          let found = are n name (has_before v b n block name has) in
          (found.0, has_after v b n other found.0 has.live found.1)

      pub blocks_now : BlocksAreSound now
      blocks_now = record {
        one_bucket = λ block key other here there.
            let one = origin block key here in
            let two = origin block other there in
            sym one.same_bucket ∙ sound.blocks.one_bucket block one.old two.old one.stood two.stood ∙ two.same_bucket;
        one_home = λ block key other home home_too here there.
            let one = old_home block key home here in
            let two = old_home block other home_too there in
            sym one.same ∙ ap key_now (sound.blocks.one_home block one.old two.old one.home two.home one.stood two.stood) ∙ two.same;
        one_local = λ block twin key other here there same.
            sound.blocks.one_local block twin (origin block key here).old (origin twin other there).old (origin block key here).stood
            (origin twin other there).stood same;
        kept = λ v b name n block has.
            let keeper = sound.blocks.kept v b name n block (has_before v b n block name has) in
            kept_now v b name n block has keeper.0 keeper.1 keeper.2;
        deleted_together = λ v b k o l block other here there.
            let from = moved.came v b k o l here.row here.there in
            let its : StandsIn all other (keys.Deleted v b from.0 k l) =
            record {
              row = here.row;
              there = from.2;
              has = subst (λ (row : Row). list_any (is_block other) (blocks_of row) ≡ true)
                  (same_Some there.row here.row (sym there.there ∙ here.there)) there.has;
            } in
            together_now v b block other
            (sound.blocks.deleted_together v b k from.0 l block other (record { row = here.row; there = from.2; has = here.has }) its);
        key_together = λ v b k block other here there.
            together_now v b block other
            (sound.blocks.key_together v b k block other (steady_before (keys.Key v b k) block tt here)
            (steady_before (keys.Key v b k) other tt there));
      }

      names_now : NamesAreSound now
      names_now = record {
        one_snapshot = λ v b name n previous m before row other.
            sound.names.one_snapshot v b name n previous m before
            (sym (moved.live v b n (name, previous, row)) ∙ row) (sym (moved.live v b m (name, before, other)) ∙ other);
        one_name = λ v b name another n block one two.
            sound.names.one_name v b name another n block (has_before v b n block name one) (has_before v b n block another two);
        open_name = λ v b k name session n block stands has.
            sound.names.open_name v b k name session n block (steady_before (keys.Open v b k session) block tt stands) (has_before v b n block name has);
      }

      drawn : (v : List ℕ) → drawn_in (now (keys.Stripe (stripe_of v))) ≡ drawn_in (all (keys.Stripe (stripe_of v)))
      drawn v = ap drawn_in (moved.steady (keys.Stripe (stripe_of v)) tt)

      numbers_now : NumbersAreSound now
      numbers_now = record {
        sessions = λ v b k n there. subst (λ m. n ≤ m) (sym (drawn v))
            (sound.numbers.sessions v b k n (subst IsSome (moved.steady (keys.Open v b k n) tt) there));
        snapshots = λ v b n there. subst (λ m. n ≤ m) (sym (drawn v)) (sound.numbers.snapshots v b n (moved.snapshots v b n there));
        deleted = moved.deleted_owners;
        renamed = moved.renamed_owners;
        snapshot_keys = λ v b k n there. let row = some_row (now (keys.SnapshotKey v b n k)) there in (moved.snapshot_keys v b k n row.0 row.1).1;
      }

      using_before : (v b : List ℕ) (one : List ℕ × Option ℕ) → IsUsing now v b one → IsUsing all v b one
      using_before v b (key, None) there = subst IsSome (moved.steady (keys.Key v b key) tt) there
      using_before v b (key, Some n) there = subst IsSome (moved.steady (keys.Open v b key n) tt) there

      counts_now : CountsAreSound now
      counts_now = record {
        buckets = λ v. at_most _ _ _ (λ b there. subst IsSome (moved.steady (keys.Bucket v b) tt) there) (sound.counts.buckets v);
        keys_and_sessions = λ v b. at_most _ _ _ (using_before v b) (sound.counts.keys_and_sessions v b);
        snapshots = λ v b. at_most _ _ _ (live_before v b) (sound.counts.snapshots v b);
        snapshot_keys = λ v b n live. at_most _ _ _ (λ k there. subst IsSome (moved.live_keys v b k n live) there)
            (sound.counts.snapshot_keys v b n (live_before v b n live));
      }

      pub sound_now : IsSoundButRenames now
      sound_now = record { blocks = blocks_now; names = names_now; numbers = numbers_now; counts = counts_now }

  -- ---- renamed rows

  named_anew_before : (v b name : List ℕ) (n : ℕ) (block : Block) → IsNamedAnew now v b n block name → IsNamedAnew all v b n block name
  named_anew_before v b name n block (inl (later, another, above, has, apart)) = inl (later, another, above, has_before v b later block another has, apart)
  named_anew_before v b name n block (inr (another, stands, apart)) = inr (another, steady_before (keys.Key v b another) block tt stands, apart)

  module _ (same : RenamesStay all now) where
    rename_before : (v b : List ℕ) (n local owner : ℕ) (name : List ℕ) → IsRename now v b n local owner name → IsRename all v b n local owner name
    rename_before v b n local owner name is = record {
      row = sym (same v b owner local) ∙ is.row;
      behind = is.behind;
      first = λ other behind some apart. is.first other behind (subst IsSome (sym (same v b other local)) some) apart;
    }

    rename_after : (v b : List ℕ) (n local owner : ℕ) (name : List ℕ) → IsRename all v b n local owner name → IsRename now v b n local owner name
    rename_after v b n local owner name is = record {
      row = same v b owner local ∙ is.row;
      behind = is.behind;
      first = λ other behind some apart. is.first other behind (subst IsSome (same v b other local) some) apart;
    }

    pub renames_stay : RenamesAreSound all → RenamesAreSound now
    renames_stay sound = record {
      renamed = λ v b name another n owner block has is.
          sound.renamed v b name another n owner block (has_before v b n block name has) (rename_before v b n block.local owner another is);
      noted = λ v b name n block has anew.
          let found = sound.noted v b name n block (has_before v b n block name has) (named_anew_before v b name n block anew) in
          (found.0, found.1, rename_after v b n block.local found.0 found.1 found.2);
    }

  -- ---- the namespace, where live snapshots stay

  module _ (stay : (v b : List ℕ) (n : ℕ) → IsLive all v b n → IsLive now v b n) where
    snapshot_on : (v b : List ℕ) (n : ℕ) (snapshot : Snapshot) → IsSnapshot all v b n snapshot → IsSnapshot now v b n snapshot
    snapshot_on v b n snapshot is =
        let live = stay v b n (snapshot.name, is.previous, is.row) in
        record {
          previous = is.previous;
          row = moved.live v b n live ∙ is.row;
          pieces = λ k. is.pieces k ∙ ap pieces_in (sym (moved.live_keys v b k n live));
        }

    snapshots_on : (v b numbers : List ℕ) (snapshots : List Snapshot) → AreSnapshots all v b numbers snapshots → AreSnapshots now v b numbers snapshots
    snapshots_on v b [] [] are = tt
    snapshots_on v b (n ∷ numbers) (s ∷ snapshots) are = (snapshot_on v b n s are.0, snapshots_on v b numbers snapshots are.1)
    snapshots_on v b [] (s ∷ snapshots) are = are
    snapshots_on v b (n ∷ numbers) [] are = are

    stripes_on : (l : List ℕ) → map (λ stripe. drawn_in (all (keys.Stripe stripe))) l ≡ map (λ stripe. drawn_in (now (keys.Stripe stripe))) l
    stripes_on [] = refl
    stripes_on (s ∷ l) =
        ap (λ n. n ∷ map (λ stripe. drawn_in (all (keys.Stripe stripe))) l) (ap drawn_in (sym (moved.steady (keys.Stripe s) tt)))
        ∙ ap (λ (m : List ℕ). drawn_in (now (keys.Stripe s)) ∷ m) (stripes_on l)

    pub stands_on : (namespace : Namespace) → StandsFor all namespace → StandsFor now namespace
    stands_on namespace stands = record {
      volumes = λ v. stands.volumes v ∙ ap is_some (sym (moved.steady (keys.Volume v) tt));
      buckets = λ v b. stands.buckets v b ∙ ap is_some (sym (moved.steady (keys.Bucket v b) tt));
      pieces = λ v b k. stands.pieces v b k ∙ ap pieces_in (sym (moved.steady (keys.Key v b k) tt));
      sessions = λ v b n session.
          let row = moved.steady (keys.Open v b session.key n) tt in
          let both = stands.sessions v b n session in
          (λ e. row ∙ both.0 e, λ e. both.1 (sym row ∙ e));
      snapshots = λ v b.
          let of_bucket = stands.snapshots v b in
          record {
            numbers = of_bucket.numbers;
            rise = of_bucket.rise;
            every = λ n live. of_bucket.every n (live_before v b n live);
            each = snapshots_on v b of_bucket.numbers _ of_bucket.each;
          };
      stripes = stands.stripes ∙ stripes_on sixteen;
    }

  -- ---- blocks stay in homes

  pub keeps : (granted : Option Block) (MayGo : Block → Type 0)
      → ((v b k : List ℕ) (o l : ℕ) (row : Row) (block : Block) → all (keys.Deleted v b o k l) ≡ Some row → list_any (is_block block) (blocks_of row) ≡ true
      → ((after : ℕ) × (now (keys.Deleted v b after k l) ≡ Some row)) ⊎ MayGo block)
      → KeepsBlocks all now granted MayGo
  keeps granted MayGo stay = record {
    none_lost = λ block had. lost block had.key had.home had.here;
    none_made = λ block has. inl (made block has.key has.home has.here);
  }
    where
      lost : (block : Block) (key : RowKey) → IsHome key → StandsIn all block key → HasHome now block ⊎ MayGo block
      lost block (keys.Key v b k) home here = inl (record { key = keys.Key v b k; home = tt; here = steady_after (keys.Key v b k) block tt here })
      lost block (keys.Open v b k n) home here = inl (record { key = keys.Open v b k n; home = tt; here = steady_after (keys.Open v b k n) block tt here })
      lost block (keys.Deleted v b o k l) home here = elim (stay v b k o l here.row block here.there here.has) [
        | inl there ↦ inl (record { key = keys.Deleted v b there.0 k l; home = tt; here = record { row = here.row; there = there.1; has = here.has } })
        | inr may ↦ inr may
      ]
      lost block key home here = absurd home

      made : (block : Block) (key : RowKey) → IsHome key → StandsIn now block key → HasHome all block
      made block (keys.Key v b k) home here = record { key = keys.Key v b k; home = tt; here = steady_before (keys.Key v b k) block tt here }
      made block (keys.Open v b k n) home here = record { key = keys.Open v b k n; home = tt; here = steady_before (keys.Open v b k n) block tt here }
      made block (keys.Deleted v b o k l) home here = let from =
          deleted_before v b k o l block here in record { key = keys.Deleted v b from.0 k l; home = tt; here = from.2 }
      made block key home here = absurd home
