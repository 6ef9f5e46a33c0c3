-- The rows of one stripe are sound where all rows are.
use Rattle.std.proofs.Common.{◌≡◌, inl, inr, ◌==◌, ℕ, ◌≤◌, Bool, true, false, List, [], ◌∷◌, Option, None, Some, IsSome, cond, refl, sym, ◌∙◌, ap, subst}
use mathlib.Core.Bool.{false≢true}
use Rattle.std.specs.List.{AllByRecursion}
use Rattle.oz_fields.specs.declared.block.Block.{Block}
use Rattle.oz_names.specs.Names.{stripe_of}
use Rattle.oz_rows.specs.declared.key.RowKey.{RowKey}
use Rattle.oz_rows.specs.declared.key.RowKey.TheVariants as keys
use Rattle.oz_rows.specs.declared.row.Row.{Row}
use Rattle.oz_rows.specs.RowMaps.{Rows}
use Rattle.oz_sound.specs.Sound.{AreTogether, AtMost, BlocksAreSound, CountsAreSound, IsKeeper, IsNamedAnew, IsRename, IsSound, IsSoundButRenames, IsUsing, NamesAreSound, NumbersAreSound, RenamesAreSound, SnapshotHas, StandsIn, bucket_of_row}
use Rattle.oz_sound.specs.StandsFor.{IsLive, drawn_in}
use Rattle.oz_sound.specs.stripes.Stripes.{is_own, only}

first_volume : Option (List ℕ × List ℕ) → List ℕ
first_volume None = []
first_volume (Some place) = place.0

at_most : {A : Type 0} (count : ℕ) (P Q : A → Type 0) → ((a : A) → Q a → P a) → AtMost count P → AtMost count Q
at_most {A} count P Q from most items differ hold = most items differ (each items hold)
  where
    each : (l : List A) → AllByRecursion Q l → AllByRecursion P l
    each [] all = tt
    each (x ∷ l) all = (from x all.0, each l all.1)

module _ (stripe : ℕ) (all : Rows) (sound : IsSoundButRenames all) where
  own_rows : Rows
  own_rows = only stripe all

  kept : (key : RowKey) → is_own stripe key ≡ true → own_rows key ≡ all key
  unfolding own_rows
  kept key e = ap (λ (t : Bool). cond t (all key) None) e

  is_its_own : (key : RowKey) → IsSome (own_rows key) → is_own stripe key ≡ true
  unfolding own_rows
  is_its_own key has = by (is_own stripe key) refl has
    where
      by : (t : Bool) → is_own stripe key ≡ t → IsSome (cond t (all key) None) → is_own stripe key ≡ true
      by true e some = e
      by false e some = absurd (false≢true some)

  own_of : (key : RowKey) (row : Row) → own_rows key ≡ Some row → is_own stripe key ≡ true
  own_of key row is = is_its_own key (subst IsSome (sym is) refl)

  from : (key : RowKey) (row : Row) → own_rows key ≡ Some row → all key ≡ Some row
  from key row is = sym (kept key (own_of key row is)) ∙ is

  some_from : (key : RowKey) → IsSome (own_rows key) → IsSome (all key)
  some_from key has = subst IsSome (kept key (is_its_own key has)) has

  some_to : (key : RowKey) → is_own stripe key ≡ true → IsSome (all key) → IsSome (own_rows key)
  some_to key own has = subst IsSome (sym (kept key own)) has

  stands_from : (block : Block) (key : RowKey) → StandsIn own_rows block key → StandsIn all block key
  stands_from block key it = record { row = it.row; there = from key it.row it.there; has = it.has }

  stands_to : (block : Block) (key : RowKey) → is_own stripe key ≡ true → StandsIn all block key → StandsIn own_rows block key
  stands_to block key own it = record { row = it.row; there = kept key own ∙ it.there; has = it.has }

  module _ (volume bucket : List ℕ) where
    live_from : (number : ℕ) → IsLive own_rows volume bucket number → IsLive all volume bucket number
    live_from number live = (live.0, live.1, from (keys.Snapshot volume bucket number) _ live.2)

    live_own : (number : ℕ) → IsLive own_rows volume bucket number → (stripe_of volume == stripe) ≡ true
    live_own number live = own_of (keys.Snapshot volume bucket number) _ live.2

    has_from : (number : ℕ) (block : Block) (name : List ℕ) → SnapshotHas own_rows volume bucket number block name → SnapshotHas all volume bucket number block name
    has_from number block name it = record { live = live_from number it.live; stands = stands_from block (keys.SnapshotKey volume bucket number name) it.stands }

    has_to : (stripe_of volume == stripe) ≡ true → (number : ℕ) (block : Block) (name : List ℕ) → SnapshotHas all volume bucket number block name → SnapshotHas own_rows volume bucket number block name
    has_to own number block name it = record {
      live = (it.live.0, it.live.1, kept (keys.Snapshot volume bucket number) own ∙ it.live.2);
      stands = stands_to block (keys.SnapshotKey volume bucket number name) own it.stands;
    }

    together : (block other : Block) → AreTogether all volume bucket block other → AreTogether own_rows volume bucket block other
    together block other are number name it =
        let found = are number name (has_from number block name it) in
        (found.0, has_to (live_own number it.live) number other found.0 found.1)

    rename_from : (stripe_of volume == stripe) ≡ true → (number local owner : ℕ) (name : List ℕ) → IsRename own_rows volume bucket number local owner name → IsRename all volume bucket number local owner name
    rename_from own number local owner name it = record {
      row = from (keys.Renamed volume bucket owner local) _ it.row;
      behind = it.behind;
      first = λ other behind has differs. it.first other behind (some_to (keys.Renamed volume bucket other local) own has) differs;
    }

    rename_to : (stripe_of volume == stripe) ≡ true → (number local owner : ℕ) (name : List ℕ) → IsRename all volume bucket number local owner name → IsRename own_rows volume bucket number local owner name
    rename_to own number local owner name it = record {
      row = kept (keys.Renamed volume bucket owner local) own ∙ it.row;
      behind = it.behind;
      first = λ other behind has differs. it.first other behind (some_from (keys.Renamed volume bucket other local) has) differs;
    }

    anew_from : (number : ℕ) (block : Block) (name : List ℕ) → IsNamedAnew own_rows volume bucket number block name → IsNamedAnew all volume bucket number block name
    anew_from number block name (inl (later, another, above, has, differs)) = inl (later, another, above, has_from later block another has, differs)
    anew_from number block name (inr (another, stands, differs)) = inr (another, stands_from block (keys.Key volume bucket another) stands, differs)

  -- a row that keeps a block is of the bucket's stripe
  keeper_own : (volume bucket : List ℕ) → (stripe_of volume == stripe) ≡ true → (key : RowKey) → IsKeeper key → bucket_of_row key ≡ Some (volume, bucket) → is_own stripe key ≡ true
  unfolding first_volume
  keeper_own volume bucket own (keys.Key v b k) keeper is = ap (λ (place : Option (List ℕ × List ℕ)). stripe_of (first_volume place) == stripe) is ∙ own
  keeper_own volume bucket own (keys.Deleted v b o k l) keeper is = ap (λ (place : Option (List ℕ × List ℕ)). stripe_of (first_volume place) == stripe) is ∙ own
  keeper_own volume bucket own key keeper is = absurd keeper

  kept_block : (volume bucket name : List ℕ) (number : ℕ) (block : Block) → SnapshotHas own_rows volume bucket number block name → (key : RowKey) × IsKeeper key × StandsIn own_rows block key
  kept_block volume bucket name number block it =
      let has = has_from volume bucket number block name it in
      let (key, keeper, stands) = sound.blocks.kept volume bucket name number block has in
      let place = sound.blocks.one_bucket block key (keys.SnapshotKey volume bucket number name) stands has.stands in
      (key, keeper, stands_to block key (keeper_own volume bucket (live_own volume bucket number it.live) key keeper place) stands)

  blocks : BlocksAreSound own_rows
  blocks = record {
    one_bucket = λ block key other one two. sound.blocks.one_bucket block key other (stands_from block key one) (stands_from block other two);
    one_home = λ block key other home second one two. sound.blocks.one_home block key other home second (stands_from block key one) (stands_from block other two);
    one_local = λ block twin key other one two. sound.blocks.one_local block twin key other (stands_from block key one) (stands_from twin other two);
    kept = kept_block;
    deleted_together = λ volume bucket key owner local block other one two. together volume bucket block other
        (sound.blocks.deleted_together volume bucket key owner local block other (stands_from block (keys.Deleted volume bucket owner key local) one) (stands_from other (keys.Deleted volume bucket owner key local) two));
    key_together = λ volume bucket key block other one two. together volume bucket block other
        (sound.blocks.key_together volume bucket key block other (stands_from block (keys.Key volume bucket key) one) (stands_from other (keys.Key volume bucket key) two));
  }

  names : NamesAreSound own_rows
  names = record {
    one_snapshot = λ volume bucket name number previous other before one two. sound.names.one_snapshot volume bucket name number previous other before
        (from (keys.Snapshot volume bucket number) _ one) (from (keys.Snapshot volume bucket other) _ two);
    one_name = λ volume bucket name another number block one two. sound.names.one_name volume bucket name another number block
        (has_from volume bucket number block name one) (has_from volume bucket number block another two);
    open_name = λ volume bucket key name session number block stands has. sound.names.open_name volume bucket key name session number block
        (stands_from block (keys.Open volume bucket key session) stands) (has_from volume bucket number block name has);
  }

  noted : RenamesAreSound all → (volume bucket name : List ℕ) (number : ℕ) (block : Block) → SnapshotHas own_rows volume bucket number block name → IsNamedAnew own_rows volume bucket number block name
      → (owner : ℕ) × (another : List ℕ) × IsRename own_rows volume bucket number block.local owner another
  noted renames volume bucket name number block has anew =
      let own = live_own volume bucket number has.live in
      let (owner, another, rename) = renames.noted volume bucket name number block (has_from volume bucket number block name has) (anew_from volume bucket number block name anew) in
      (owner, another, rename_to volume bucket own number block.local owner another rename)

  its_renames : RenamesAreSound all → RenamesAreSound own_rows
  its_renames renames = record {
    renamed = λ volume bucket name another number owner block has rename. renames.renamed volume bucket name another number owner block
        (has_from volume bucket number block name has) (rename_from volume bucket (live_own volume bucket number has.live) number block.local owner another rename);
    noted = noted renames;
  }

  drawn_same : (volume : List ℕ) → (stripe_of volume == stripe) ≡ true → drawn_in (all (keys.Stripe (stripe_of volume))) ≡ drawn_in (own_rows (keys.Stripe (stripe_of volume)))
  drawn_same volume own = sym (ap drawn_in (kept (keys.Stripe (stripe_of volume)) own))

  numbers : NumbersAreSound own_rows
  numbers = record {
    sessions = λ volume bucket key number has. subst (λ (drawn : ℕ). number ≤ drawn) (drawn_same volume (is_its_own (keys.Open volume bucket key number) has))
        (sound.numbers.sessions volume bucket key number (some_from (keys.Open volume bucket key number) has));
    snapshots = λ volume bucket number has. subst (λ (drawn : ℕ). number ≤ drawn) (drawn_same volume (is_its_own (keys.Snapshot volume bucket number) has))
        (sound.numbers.snapshots volume bucket number (some_from (keys.Snapshot volume bucket number) has));
    deleted = λ volume bucket key owner local has some. some_to (keys.Snapshot volume bucket owner) (is_its_own (keys.Deleted volume bucket owner key local) has)
        (sound.numbers.deleted volume bucket key owner local (some_from (keys.Deleted volume bucket owner key local) has) some);
    renamed = λ volume bucket owner local has some. some_to (keys.Snapshot volume bucket owner) (is_its_own (keys.Renamed volume bucket owner local) has)
        (sound.numbers.renamed volume bucket owner local (some_from (keys.Renamed volume bucket owner local) has) some);
    snapshot_keys = λ volume bucket key number has. some_to (keys.Snapshot volume bucket number) (is_its_own (keys.SnapshotKey volume bucket number key) has)
        (sound.numbers.snapshot_keys volume bucket key number (some_from (keys.SnapshotKey volume bucket number key) has));
  }

  using : (volume bucket : List ℕ) (use_of : List ℕ × Option ℕ) → IsUsing own_rows volume bucket use_of → IsUsing all volume bucket use_of
  using volume bucket (key, None) has = some_from (keys.Key volume bucket key) has
  using volume bucket (key, Some number) has = some_from (keys.Open volume bucket key number) has

  counts : CountsAreSound own_rows
  counts = record {
    buckets = λ volume. at_most _ (λ (bucket : List ℕ). IsSome (all (keys.Bucket volume bucket))) _ (λ bucket has. some_from (keys.Bucket volume bucket) has) (sound.counts.buckets volume);
    keys_and_sessions = λ volume bucket. at_most _ (IsUsing all volume bucket) _ (using volume bucket) (sound.counts.keys_and_sessions volume bucket);
    snapshots = λ volume bucket. at_most _ (IsLive all volume bucket) _ (live_from volume bucket) (sound.counts.snapshots volume bucket);
    snapshot_keys = λ volume bucket number live. at_most _ (λ (key : List ℕ). IsSome (all (keys.SnapshotKey volume bucket number key))) _ (λ key has. some_from (keys.SnapshotKey volume bucket number key) has)
        (sound.counts.snapshot_keys volume bucket number (live_from volume bucket number live));
  }

  pub own_rows_are_sound_but_renames : IsSoundButRenames (only stripe all)
  unfolding own_rows
  own_rows_are_sound_but_renames = record { blocks = blocks; names = names; numbers = numbers; counts = counts }

  own_renames : RenamesAreSound all → RenamesAreSound (only stripe all)
  unfolding own_rows
  own_renames renames = its_renames renames

but_renames : (all : Rows) → IsSound all → IsSoundButRenames all
but_renames all sound = record { blocks = sound.blocks; names = sound.names; numbers = sound.numbers; counts = sound.counts }

pub own_rows_are_sound : (stripe : ℕ) (all : Rows) → IsSound all → IsSound (only stripe all)
own_rows_are_sound stripe all sound =
    let most = own_rows_are_sound_but_renames stripe all (but_renames all sound) in
    record {
      blocks = most.blocks;
      names = most.names;
      renames = own_renames stripe all (but_renames all sound) sound.renames;
      numbers = most.numbers;
      counts = most.counts;
    }
