-- Rows are sound where those of each stripe are, and no two stripes name blocks of one local id.
use Rattle.std.proofs.Common.{◌≡◌, ⊎_elim, inl, inr, ℕ, ◌<◌, ◌≤◌, Bool, true, false, List, [], ◌∷◌, Option, None, Some, IsSome, cond, refl, sym, ◌∙◌, ap, subst}
use mathlib.Core.Bool.{false≢true}
use Rattle.std.proofs.lemmas.Bool.{eq-eqb, eqb-true}
use Rattle.std.specs.List.{AllByRecursion}
use Rattle.oz_fields.specs.declared.block.Block.{Block}
use Rattle.oz_names.specs.Names.{stripe_of}
use Rattle.oz_names.specs.declared.limits.TheConstants.{STRIPES}
use Rattle.oz_rows.specs.declared.key.RowKey.{RowKey}
use Rattle.oz_rows.specs.declared.key.RowKey.TheVariants as keys
use Rattle.oz_rows.specs.declared.row.Row.{Row}
use Rattle.oz_rows.specs.declared.row.Row.TheVariants as rows
use Rattle.oz_rows.specs.RowMaps.{Rows}
use Rattle.oz_sound.specs.Sound.{
  AreTogether,
  AtMost,
  BlocksAreSound,
  CountsAreSound,
  IsKeeper,
  IsNamedAnew,
  IsRename,
  IsSound,
  IsUsing,
  NamesAreSound,
  NumbersAreSound,
  RenamesAreSound,
  SnapshotHas,
  StandsIn,
}
use Rattle.oz_sound.specs.StandsFor.{IsLive, drawn_in}
use Rattle.oz_sound.specs.stripes.Stripes.{is_own, only, stripe_of_key}
use Rattle.oz_store.specs.striped.laws.Shares.{one_of_sixteen}

at_most : {A : Type 0} (count : ℕ) (P Q : A → Type 0) → ((a : A) → Q a → P a) → AtMost count P → AtMost count Q
at_most {A} count P Q from most items differ hold = most items differ (each items hold)
  where
    each : (l : List A) → AllByRecursion Q l → AllByRecursion P l
    each [] all = tt
    each (x ∷ l) all = (from x all.0, each l all.1)

-- ---- the rows of one stripe among all

module _ (all : Rows) (stripe : ℕ) where
  pub own_row : (key : RowKey) → stripe_of_key key ≡ stripe → only stripe all key ≡ all key
  own_row key its = ap (λ (t : Bool). cond t (all key) None) (eq-eqb (stripe_of_key key) stripe its)

  pub its_own : (key : RowKey) → IsSome (only stripe all key) → stripe_of_key key ≡ stripe
  its_own key has = by (is_own stripe key) refl has
    where
      by : (t : Bool) → is_own stripe key ≡ t → IsSome (cond t (all key) None) → stripe_of_key key ≡ stripe
      by true e some = eqb-true (stripe_of_key key) stripe e
      by false e some = absurd (false≢true some)

  own_of : (key : RowKey) (row : Row) → only stripe all key ≡ Some row → stripe_of_key key ≡ stripe
  own_of key row is = its_own key (subst IsSome (sym is) refl)

  pub from_own : (key : RowKey) (row : Row) → only stripe all key ≡ Some row → all key ≡ Some row
  from_own key row is = sym (own_row key (own_of key row is)) ∙ is

  some_of : (key : RowKey) → stripe_of_key key ≡ stripe → IsSome (all key) → IsSome (only stripe all key)
  some_of key its has = subst IsSome (sym (own_row key its)) has

  some_from : (key : RowKey) → IsSome (only stripe all key) → IsSome (all key)
  some_from key has = subst IsSome (own_row key (its_own key has)) has

  pub stands_of : (block : Block) (key : RowKey) → stripe_of_key key ≡ stripe → StandsIn all block key → StandsIn (only stripe all) block key
  stands_of block key its it = record { row = it.row; there = own_row key its ∙ it.there; has = it.has }

  pub stands_from : (block : Block) (key : RowKey) → StandsIn (only stripe all) block key → StandsIn all block key
  stands_from block key it = record { row = it.row; there = from_own key it.row it.there; has = it.has }

-- ---- all rows

module _ (all : Rows) (few : (key : RowKey) → IsSome (all key) → stripe_of_key key < STRIPES)
    (parts : (stripe : ℕ) → stripe < STRIPES → IsSound (only stripe all))
    (apart : (block twin : Block) (key other : RowKey) → StandsIn all block key → StandsIn all twin other → block.local ≡ twin.local
    → stripe_of_key key ≡ stripe_of_key other) where
  -- the part of a row that names a block
  part_there : (block : Block) (key : RowKey) → StandsIn all block key → IsSound (only (stripe_of_key key) all)
  part_there block key it = parts (stripe_of_key key) (few key (subst IsSome (sym it.there) refl))

  -- two rows that name one block are of one part
  alike : (block : Block) (key other : RowKey) → StandsIn all block key → StandsIn all block other → StandsIn (only (stripe_of_key key) all) block other
  alike block key other one two = stands_of all (stripe_of_key key) block other (sym (apart block block key other one two refl)) two

  here : (block : Block) (key : RowKey) → StandsIn all block key → StandsIn (only (stripe_of_key key) all) block key
  here block key it = stands_of all (stripe_of_key key) block key refl it

  module _ (volume : List ℕ) where
    abbrev own : Rows
    own = only (stripe_of volume) all

    sound : IsSound own
    sound = parts (stripe_of volume) (one_of_sixteen volume)

    module _ (bucket : List ℕ) where
      live_of : (number : ℕ) → IsLive all volume bucket number → IsLive own volume bucket number
      live_of number live = (live.0, live.1, own_row all (stripe_of volume) (keys.Snapshot volume bucket number) refl ∙ live.2)

      has_of : (number : ℕ) (block : Block) (name : List ℕ) → SnapshotHas all volume bucket number block name → SnapshotHas own volume bucket number block name
      has_of number block name it = record {
        live = live_of number it.live;
        stands = stands_of all (stripe_of volume) block (keys.SnapshotKey volume bucket number name) refl it.stands;
      }

      has_from : (number : ℕ) (block : Block) (name : List ℕ) → SnapshotHas own volume bucket number block name
          → SnapshotHas all volume bucket number block name
      has_from number block name it = record {
        live = (it.live.0, it.live.1, sym (own_row all (stripe_of volume) (keys.Snapshot volume bucket number) refl) ∙ it.live.2);
        stands = stands_from all (stripe_of volume) block (keys.SnapshotKey volume bucket number name) it.stands;
      }

      together_from : (block other : Block) → AreTogether own volume bucket block other → AreTogether all volume bucket block other
      together_from block other are number name it =
          let found = are number name (has_of number block name it) in
          (found.0, has_from number other found.0 found.1)

      kept_block : (name : List ℕ) (number : ℕ) (block : Block) → SnapshotHas all volume bucket number block name → (key : RowKey) × IsKeeper key
          × StandsIn all block key
      kept_block name number block it =
          let (key, keeper, stands) = sound.blocks.kept volume bucket name number block (has_of number block name it) in
          (key, keeper, stands_from all (stripe_of volume) block key stands)

      in_own : (block : Block) (key : RowKey) → stripe_of_key key ≡ stripe_of volume → StandsIn all block key → StandsIn own block key
      in_own block key its it = stands_of all (stripe_of volume) block key its it

      some_own : (key : RowKey) → stripe_of_key key ≡ stripe_of volume → IsSome (all key) → IsSome (own key)
      some_own key its has = some_of all (stripe_of volume) key its has

      from_some : (key : RowKey) → IsSome (own key) → IsSome (all key)
      from_some key has = some_from all (stripe_of volume) key has

      row_own : (key : RowKey) (row : Row) → stripe_of_key key ≡ stripe_of volume → all key ≡ Some row → own key ≡ Some row
      row_own key row its is = own_row all (stripe_of volume) key its ∙ is

      rename_of : (number local owner : ℕ) (name : List ℕ) → IsRename all volume bucket number local owner name
          → IsRename own volume bucket number local owner name
      rename_of number local owner name it = record {
        row = row_own (keys.Renamed volume bucket owner local) (rows.Renamed name) refl it.row;
        behind = it.behind;
        first = λ other behind some apart. it.first other behind (from_some (keys.Renamed volume bucket other local) some) apart;
      }

      rename_from : (number local owner : ℕ) (name : List ℕ) → IsRename own volume bucket number local owner name
          → IsRename all volume bucket number local owner name
      rename_from number local owner name it = record {
        row = from_own all (stripe_of volume) (keys.Renamed volume bucket owner local) (rows.Renamed name) it.row;
        behind = it.behind;
        first = λ other behind some apart. it.first other behind (some_own (keys.Renamed volume bucket other local) refl some) apart;
      }

      anew_of : (number : ℕ) (block : Block) (name : List ℕ) → IsNamedAnew all volume bucket number block name
          → IsNamedAnew own volume bucket number block name
      anew_of number block name it = ⊎_elim
          (λ later. inl (later.0, later.1, later.2, has_of later.0 block later.1 later.3, later.4))
          (λ key. inr (key.0, in_own block (keys.Key volume bucket key.0) refl key.1, key.2)) it

      noted_of : (name : List ℕ) (number : ℕ) (block : Block) → SnapshotHas all volume bucket number block name
          → IsNamedAnew all volume bucket number block name
          → (owner : ℕ) × (another : List ℕ) × IsRename all volume bucket number block.local owner another
      noted_of name number block has anew =
          let found = sound.renames.noted volume bucket name number block (has_of number block name has) (anew_of number block name anew) in
          (found.0, found.1, rename_from number block.local found.0 found.1 found.2)

      using : (use_of : List ℕ × Option ℕ) → IsUsing all volume bucket use_of → IsUsing own volume bucket use_of
      using (key, None) has = some_own (keys.Key volume bucket key) refl has
      using (key, Some number) has = some_own (keys.Open volume bucket key number) refl has

    drawn_own : drawn_in (own (keys.Stripe (stripe_of volume))) ≡ drawn_in (all (keys.Stripe (stripe_of volume)))
    drawn_own = ap drawn_in (own_row all (stripe_of volume) (keys.Stripe (stripe_of volume)) refl)

  blocks : BlocksAreSound all
  blocks = record {
    one_bucket = λ block key other one two. (part_there block key one).blocks.one_bucket block key other (here block key one) (alike block key other one two);
    one_home = λ block key other home second one two. (part_there block key one).blocks.one_home block key other home second (here block key one)
        (alike block key other one two);
    one_local = λ block twin key other one two same. (part_there block key one).blocks.one_local block twin key other (here block key one)
        (stands_of all (stripe_of_key key) twin other (sym (apart block twin key other one two same)) two) same;
    kept = λ volume bucket name number block it. kept_block volume bucket name number block it;
    deleted_together = λ volume bucket key owner local block other one two. together_from volume bucket block other
        ((sound volume).blocks.deleted_together volume bucket key owner local block other
        (in_own volume bucket block (keys.Deleted volume bucket owner key local) refl one)
        (in_own volume bucket other (keys.Deleted volume bucket owner key local) refl two));
    key_together = λ volume bucket key block other one two. together_from volume bucket block other
        ((sound volume).blocks.key_together volume bucket key block other
        (in_own volume bucket block (keys.Key volume bucket key) refl one) (in_own volume bucket other (keys.Key volume bucket key) refl two));
  }

  names : NamesAreSound all
  names = record {
    one_snapshot = λ volume bucket name number previous other before one two. (sound volume).names.one_snapshot volume bucket name number previous other before
        (row_own volume bucket (keys.Snapshot volume bucket number) _ refl one) (row_own volume bucket (keys.Snapshot volume bucket other) _ refl two);
    one_name = λ volume bucket name another number block one two. (sound volume).names.one_name volume bucket name another number block
        (has_of volume bucket number block name one) (has_of volume bucket number block another two);
    open_name = λ volume bucket key name session number block stands has. (sound volume).names.open_name volume bucket key name session number block
        (in_own volume bucket block (keys.Open volume bucket key session) refl stands) (has_of volume bucket number block name has);
  }

  renames : RenamesAreSound all
  renames = record {
    renamed = λ volume bucket name another number owner block has rename. (sound volume).renames.renamed volume bucket name another number owner block
        (has_of volume bucket number block name has) (rename_of volume bucket number block.local owner another rename);
    noted = λ volume bucket name number block has anew. noted_of volume bucket name number block has anew;
  }

  numbers : NumbersAreSound all
  numbers = record {
    sessions = λ volume bucket key number has. subst (λ (drawn : ℕ). number ≤ drawn) (drawn_own volume)
        ((sound volume).numbers.sessions volume bucket key number (some_own volume bucket (keys.Open volume bucket key number) refl has));
    snapshots = λ volume bucket number has. subst (λ (drawn : ℕ). number ≤ drawn) (drawn_own volume)
        ((sound volume).numbers.snapshots volume bucket number (some_own volume bucket (keys.Snapshot volume bucket number) refl has));
    deleted = λ volume bucket key owner local has some. from_some volume bucket (keys.Snapshot volume bucket owner)
        ((sound volume).numbers.deleted volume bucket key owner local (some_own volume bucket (keys.Deleted volume bucket owner key local) refl has) some);
    renamed = λ volume bucket owner local has some. from_some volume bucket (keys.Snapshot volume bucket owner)
        ((sound volume).numbers.renamed volume bucket owner local (some_own volume bucket (keys.Renamed volume bucket owner local) refl has) some);
    snapshot_keys = λ volume bucket key number has. from_some volume bucket (keys.Snapshot volume bucket number)
        ((sound volume).numbers.snapshot_keys volume bucket key number (some_own volume bucket (keys.SnapshotKey volume bucket number key) refl has));
  }

  counts : CountsAreSound all
  counts = record {
    buckets = λ volume. at_most _ (λ (bucket : List ℕ). IsSome (own volume (keys.Bucket volume bucket))) _
        (λ bucket has. some_own volume bucket (keys.Bucket volume bucket) refl has) ((sound volume).counts.buckets volume);
    keys_and_sessions = λ volume bucket. at_most _ (IsUsing (own volume) volume bucket) _ (using volume bucket)
        ((sound volume).counts.keys_and_sessions volume bucket);
    snapshots = λ volume bucket. at_most _ (IsLive (own volume) volume bucket) _ (live_of volume bucket) ((sound volume).counts.snapshots volume bucket);
    snapshot_keys = λ volume bucket number live. at_most _ (λ (key : List ℕ). IsSome (own volume (keys.SnapshotKey volume bucket number key))) _
        (λ key has. some_own volume bucket (keys.SnapshotKey volume bucket number key) refl has)
        ((sound volume).counts.snapshot_keys volume bucket number (live_of volume bucket number live));
  }

  pub parts_are_sound : IsSound all
  parts_are_sound = record { blocks = blocks; names = names; renames = renames; numbers = numbers; counts = counts }
