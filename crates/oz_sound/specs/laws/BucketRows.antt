-- Rows go on standing for a namespace, and go on being sound, as volumes and buckets come and go.
use Rattle.std.proofs.Common.{◌≡◌, ◌<◌, ◌≤◌, ℕ, true, List, [], ◌∷◌, map, Option, None, Some, IsSome, is_some, refl}
use Rattle.std.proofs.Common.{sym, ◌∙◌, ap, subst, arith, inl, inr}
use mathlib.Core.Bool.{false≢true}
use Rattle.std.proofs.lemmas.Bool.{cases_lt}
use Rattle.std.specs.List.{AllByRecursion, list_any}
use Rattle.std.specs.FinMap.{get}
use Rattle.std.specs.Option.{option_and_then}
use Rattle.oz_fields.specs.declared.block.Block.{Block}
use Rattle.oz_fields.specs.declared.block.Piece.{Piece}
use Rattle.oz_namespace.specs.declared.namespace.Bucket.{Bucket}
use Rattle.oz_namespace.specs.declared.namespace.Namespace.{Namespace}
use Rattle.oz_namespace.specs.declared.namespace.Session.{Session}
use Rattle.oz_namespace.specs.declared.namespace.Snapshot.{Snapshot}
use Rattle.oz_namespace.specs.Namespace.{sixteen, has_volume, has_bucket, bucket_of, snapshots_in}
use Rattle.oz_names.specs.Names.{stripe_of}
use Rattle.oz_names.specs.declared.limits.TheConstants.{MOST_BUCKETS, MOST_KEYS, MOST_SNAPSHOTS}
use Rattle.oz_rows.specs.declared.key.RowKey.{RowKey}
use Rattle.oz_rows.specs.declared.key.RowKey.TheVariants as keys
use Rattle.oz_rows.specs.declared.row.Row.{Row}
use Rattle.oz_rows.specs.Rows.{kind_of}
use Rattle.oz_rows.specs.RowMaps.{Rows, is_block}
use Rattle.oz_sound.specs.Sound.{blocks_of, StandsIn, SnapshotHas, AreTogether, IsRename, IsNamedAnew, IsUsing, AtMost}
use Rattle.oz_sound.specs.Sound.{BlocksAreSound, NamesAreSound, RenamesAreSound, NumbersAreSound, CountsAreSound}
use Rattle.oz_sound.specs.Sound.{IsSoundButRenames, IsSound}
use Rattle.oz_sound.specs.StandsFor.{StandsFor, SnapshotsStand, AreSnapshots, IsSnapshot, IsLive, pieces_in, drawn_in}

-- the pieces, the session and the snapshots that a bucket has, None and nothing where there is no bucket
abbrev pub pieces_seen : Option Bucket → List ℕ → Option (List Piece)
pieces_seen bucket key = option_and_then (λ (b : Bucket). get b.keys key) bucket

abbrev pub session_seen : Option Bucket → ℕ → Option Session
session_seen bucket number = option_and_then (λ (b : Bucket). get b.sessions number) bucket

-- two buckets, or none, in which the same is seen
pub record SeenAlike (before after : Option Bucket) : Type 0 where
  pub pieces : (key : List ℕ) → pieces_seen after key ≡ pieces_seen before key
  pub sessions : (number : ℕ) → session_seen after number ≡ session_seen before number
  pub snapshots : snapshots_in after ≡ snapshots_in before

pub seen_again : (before after : Option Bucket) → after ≡ before → SeenAlike before after
seen_again before after e = record {
  pieces = λ key. ap (λ (b : Option Bucket). pieces_seen b key) e;
  sessions = λ number. ap (λ (b : Option Bucket). session_seen b number) e;
  snapshots = ap snapshots_in e;
}

-- rows that are the same but for those of volumes and buckets
module _ (all now : Rows) (agree : (key : RowKey) → 2 < kind_of key → now key ≡ all key) where
  snapshot_again : (volume bucket : List ℕ) (number : ℕ) (snapshot : Snapshot) → IsSnapshot all volume bucket number snapshot
      → IsSnapshot now volume bucket number snapshot
  snapshot_again volume bucket number snapshot is = record {
    previous = is.previous;
    row = agree (keys.Snapshot volume bucket number) (omega arith) ∙ is.row;
    pieces = λ key. is.pieces key ∙ ap pieces_in (sym (agree (keys.SnapshotKey volume bucket number key) (omega arith)));
  }

  snapshots_again : (volume bucket numbers : List ℕ) (snapshots : List Snapshot) → AreSnapshots all volume bucket numbers snapshots
      → AreSnapshots now volume bucket numbers snapshots
  snapshots_again volume bucket [] [] are = tt
  snapshots_again volume bucket (n ∷ numbers) (s ∷ snapshots) are =
      (snapshot_again volume bucket n s are.0, snapshots_again volume bucket numbers snapshots are.1)
  snapshots_again volume bucket [] (s ∷ snapshots) are = are
  snapshots_again volume bucket (n ∷ numbers) [] are = are

  live_before : (volume bucket : List ℕ) (number : ℕ) → IsLive now volume bucket number → IsLive all volume bucket number
  live_before volume bucket number (name, previous, row) = (name, previous, sym (agree (keys.Snapshot volume bucket number) (omega arith)) ∙ row)

  live_after : (volume bucket : List ℕ) (number : ℕ) → IsLive all volume bucket number → IsLive now volume bucket number
  live_after volume bucket number (name, previous, row) = (name, previous, agree (keys.Snapshot volume bucket number) (omega arith) ∙ row)

  stand_again : (volume bucket : List ℕ) (snapshots : List Snapshot) → SnapshotsStand all volume bucket snapshots → SnapshotsStand now volume bucket snapshots
  stand_again volume bucket snapshots stand = record {
    numbers = stand.numbers;
    rise = stand.rise;
    every = λ number live. stand.every number (live_before volume bucket number live);
    each = snapshots_again volume bucket stand.numbers snapshots stand.each;
  }

  stripes_again : (l : List ℕ) → map (λ stripe. drawn_in (all (keys.Stripe stripe))) l ≡ map (λ stripe. drawn_in (now (keys.Stripe stripe))) l
  stripes_again [] = refl
  stripes_again (s ∷ l) = ap (λ n. n ∷ map (λ stripe. drawn_in (all (keys.Stripe stripe))) l) (ap drawn_in (sym (agree (keys.Stripe s) (omega arith))))
      ∙ ap (λ l. drawn_in (now (keys.Stripe s)) ∷ l) (stripes_again l)

  -- a namespace in whose buckets the same is seen, with the volumes and buckets that the rows have
  module _ (before after : Namespace) (numbers : after.stripes ≡ before.stripes)
      (seen : (v b : List ℕ) → SeenAlike (bucket_of before v b) (bucket_of after v b)) where
    pub stand_on : ((v : List ℕ) → has_volume after v ≡ is_some (now (keys.Volume v)))
        → ((v b : List ℕ) → has_bucket after v b ≡ is_some (now (keys.Bucket v b))) → StandsFor all before → StandsFor now after
    stand_on volumes buckets stands = record {
      volumes = volumes;
      buckets = buckets;
      pieces = λ v b k. (seen v b).pieces k ∙ stands.pieces v b k ∙ ap pieces_in (sym (agree (keys.Key v b k) (omega arith)));
      sessions = λ v b n s.
          let row = agree (keys.Open v b s.key n) (omega arith) in
          let iff = stands.sessions v b n s in
          (λ e. row ∙ iff.0 (sym ((seen v b).sessions n) ∙ e), λ e. (seen v b).sessions n ∙ iff.1 (sym row ∙ e));
      snapshots = λ v b. stand_again v b _ (subst (SnapshotsStand all v b) (sym (seen v b).snapshots) (stands.snapshots v b));
      stripes = numbers ∙ stands.stripes ∙ stripes_again sixteen;
    }

  -- where rows of volumes and buckets have no blocks, blocks stand where they stood
  module _ (bare : (key : RowKey) (row : Row) → kind_of key ≤ 2 → all key ≡ Some row → blocks_of row ≡ [])
      (bare_now : (key : RowKey) (row : Row) → kind_of key ≤ 2 → now key ≡ Some row → blocks_of row ≡ []) where
    no_block : {P : Type 0} (block : Block) (row : Row) → blocks_of row ≡ [] → list_any (is_block block) (blocks_of row) ≡ true → P
    no_block block row e has = absurd (false≢true (sym (ap (list_any (is_block block)) e) ∙ has))

    -- cases on whether the kind is that of a volume or a bucket
    by_kind : {P : Type 0} (key : RowKey) → (kind_of key ≤ 2 → P) → (2 < kind_of key → P) → P
    by_kind key low high = elim (cases_lt 2 (kind_of key)) [ inl over ↦ high over | inr under ↦ low under ]

    block_after : (block : Block) (key : RowKey) → StandsIn all block key → StandsIn now block key
    block_after block key is = by_kind key
        (λ low. no_block block is.row (bare key is.row low is.there) is.has)
        (λ high. record { row = is.row; there = agree key high ∙ is.there; has = is.has })

    block_before : (block : Block) (key : RowKey) → StandsIn now block key → StandsIn all block key
    block_before block key is = by_kind key
        (λ low. no_block block is.row (bare_now key is.row low is.there) is.has)
        (λ high. record { row = is.row; there = sym (agree key high) ∙ is.there; has = is.has })

    has_before : (v b : List ℕ) (n : ℕ) (block : Block) (name : List ℕ) → SnapshotHas now v b n block name → SnapshotHas all v b n block name
    has_before v b n block name has = record { live = live_before v b n has.live; stands = block_before block _ has.stands }

    has_after : (v b : List ℕ) (n : ℕ) (block : Block) (name : List ℕ) → SnapshotHas all v b n block name → SnapshotHas now v b n block name
    has_after v b n block name has = record { live = live_after v b n has.live; stands = block_after block _ has.stands }

    together : (v b : List ℕ) (block other : Block) → AreTogether all v b block other → AreTogether now v b block other
    together v b block other are n name has = let found = are n name (has_before v b n block name has) in (found.0, has_after v b n other found.0 found.1)

    some_before : (key : RowKey) → 2 < kind_of key → IsSome (now key) → IsSome (all key)
    some_before key high some = subst IsSome (agree key high) some

    some_after : (key : RowKey) → 2 < kind_of key → IsSome (all key) → IsSome (now key)
    some_after key high some = subst IsSome (sym (agree key high)) some

    rename_before : (v b : List ℕ) (n local owner : ℕ) (name : List ℕ) → IsRename now v b n local owner name → IsRename all v b n local owner name
    rename_before v b n local owner name is = record {
      row = sym (agree (keys.Renamed v b owner local) (omega arith)) ∙ is.row;
      behind = is.behind;
      first = λ other behind some apart. is.first other behind (some_after (keys.Renamed v b other local) (omega arith) some) apart;
    }

    rename_after : (v b : List ℕ) (n local owner : ℕ) (name : List ℕ) → IsRename all v b n local owner name → IsRename now v b n local owner name
    rename_after v b n local owner name is = record {
      row = agree (keys.Renamed v b owner local) (omega arith) ∙ is.row;
      behind = is.behind;
      first = λ other behind some apart. is.first other behind (some_before (keys.Renamed v b other local) (omega arith) some) apart;
    }

    named_before : (v b : List ℕ) (n : ℕ) (block : Block) (name : List ℕ) → IsNamedAnew now v b n block name → IsNamedAnew all v b n block name
    named_before v b n block name (inl (later, another, rises, has, apart)) = inl (later, another, rises, has_before v b later block another has, apart)
    named_before v b n block name (inr (another, stands, apart)) = inr (another, block_before block _ stands, apart)

    blocks_again : BlocksAreSound all → BlocksAreSound now
    blocks_again sound = record {
      one_bucket = λ block key other here there. sound.one_bucket block key other (block_before block key here) (block_before block other there);
      one_home = λ block key other home another here there. sound.one_home block key other home another (block_before block key here)
          (block_before block other there);
      one_local = λ block twin key other here there e. sound.one_local block twin key other (block_before block key here) (block_before twin other there) e;
      kept = λ v b name n block has. let found =
          sound.kept v b name n block (has_before v b n block name has) in (found.0, found.1, block_after block found.0 found.2);
      deleted_together = λ v b key owner local block other here there. together v b block other
          (sound.deleted_together v b key owner local block other (block_before block _ here) (block_before other _ there));
      key_together = λ v b key block other here there. together v b block other
          (sound.key_together v b key block other (block_before block _ here) (block_before other _ there));
    }

    names_again : NamesAreSound all → NamesAreSound now
    names_again sound = record {
      one_snapshot = λ v b name n p m q here there. sound.one_snapshot v b name n p m q (sym (agree (keys.Snapshot v b n) (omega arith)) ∙ here)
          (sym (agree (keys.Snapshot v b m) (omega arith)) ∙ there);
      one_name = λ v b name another n block here there. sound.one_name v b name another n block (has_before v b n block name here)
          (has_before v b n block another there);
      open_name = λ v b key name session n block here there. sound.open_name v b key name session n block (block_before block _ here)
          (has_before v b n block name there);
    }

    pub renames_again : RenamesAreSound all → RenamesAreSound now
    renames_again sound = record {
      renamed = λ v b name another n owner block has is. sound.renamed v b name another n owner block (has_before v b n block name has)
          (rename_before v b n block.local owner another is);
      noted = λ v b name n block has anew.
          let found = sound.noted v b name n block (has_before v b n block name has) (named_before v b n block name anew) in
          (found.0, found.1, rename_after v b n block.local found.0 found.1 found.2);
    }

    drawn_again : (v : List ℕ) → drawn_in (all (keys.Stripe (stripe_of v))) ≡ drawn_in (now (keys.Stripe (stripe_of v)))
    drawn_again v = ap drawn_in (sym (agree (keys.Stripe (stripe_of v)) (omega arith)))

    numbers_again : NumbersAreSound all → NumbersAreSound now
    numbers_again sound = record {
      sessions = λ v b key n some. subst (λ m. n ≤ m) (drawn_again v) (sound.sessions v b key n (some_before _ (omega arith) some));
      snapshots = λ v b n some. subst (λ m. n ≤ m) (drawn_again v) (sound.snapshots v b n (some_before _ (omega arith) some));
      deleted = λ v b key owner local some apart. some_after _ (omega arith) (sound.deleted v b key owner local (some_before _ (omega arith) some) apart);
      renamed = λ v b owner local some apart. some_after _ (omega arith) (sound.renamed v b owner local (some_before _ (omega arith) some) apart);
      snapshot_keys = λ v b key n some. some_after _ (omega arith) (sound.snapshot_keys v b key n (some_before _ (omega arith) some));
    }

    using_before : (v b : List ℕ) (one : List ℕ × Option ℕ) → IsUsing now v b one → IsUsing all v b one
    using_before v b (key, None) some = some_before (keys.Key v b key) (omega arith) some
    using_before v b (key, Some n) some = some_before (keys.Open v b key n) (omega arith) some

    all_before : {A : Type 0} (P Q : A → Type 0) → ((a : A) → P a → Q a) → (l : List A) → AllByRecursion P l → AllByRecursion Q l
    all_before P Q f [] all = tt
    all_before P Q f (a ∷ l) all = (f a all.0, all_before P Q f l all.1)

    at_most : {A : Type 0} (P Q : A → Type 0) (n : ℕ) → ((a : A) → P a → Q a) → AtMost n Q → AtMost n P
    at_most P Q n f most items differ all = most items differ (all_before P Q f items all)

    counts_again : ((v : List ℕ) → AtMost MOST_BUCKETS (λ b. IsSome (now (keys.Bucket v b)))) → CountsAreSound all → CountsAreSound now
    counts_again buckets sound = record {
      buckets = buckets;
      keys_and_sessions = λ v b. at_most _ _ MOST_KEYS (using_before v b) (sound.keys_and_sessions v b);
      snapshots = λ v b. at_most _ _ MOST_SNAPSHOTS (live_before v b) (sound.snapshots v b);
      snapshot_keys = λ v b n live. at_most _ _ MOST_KEYS (λ key some. some_before (keys.SnapshotKey v b n key) (omega arith) some)
          (sound.snapshot_keys v b n (live_before v b n live));
    }

    pub but_renames_again : ((v : List ℕ) → AtMost MOST_BUCKETS (λ b. IsSome (now (keys.Bucket v b)))) → IsSoundButRenames all → IsSoundButRenames now
    but_renames_again buckets sound = record {
      blocks = blocks_again sound.blocks;
      names = names_again sound.names;
      numbers = numbers_again sound.numbers;
      counts = counts_again buckets sound.counts;
    }

    pub sound_again : ((v : List ℕ) → AtMost MOST_BUCKETS (λ b. IsSome (now (keys.Bucket v b)))) → IsSound all → IsSound now
    sound_again buckets sound = record {
      blocks = blocks_again sound.blocks;
      names = names_again sound.names;
      renames = renames_again sound.renames;
      numbers = numbers_again sound.numbers;
      counts = counts_again buckets sound.counts;
    }
