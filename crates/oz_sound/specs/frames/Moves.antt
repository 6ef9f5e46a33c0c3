-- Blocks that move among the rows of keys, open keys and deleted keys.
use Rattle.std.specs.Prelude.{◌≡◌, ◌≢◌, ◌⊎◌, ℕ, ◌≤◌, List, Option, Some, IsSome}
use Rattle.oz_fields.specs.declared.block.Block.{Block}
use Rattle.oz_names.specs.Names.{stripe_of}
use Rattle.oz_names.specs.declared.limits.TheConstants.{MOST_KEYS}
use Rattle.oz_rows.specs.declared.key.RowKey.{RowKey}
use Rattle.oz_rows.specs.declared.key.RowKey.TheVariants as keys
use Rattle.oz_rows.specs.Rows.{kind_of}
use Rattle.oz_rows.specs.RowMaps.{Rows}
use Rattle.oz_sound.specs.Kept.{HasHome}
use Rattle.oz_sound.specs.Sound.{StandsIn, bucket_of_row, IsKeeper, IsHome, IsUsing, AtMost}
use Rattle.oz_sound.specs.StandsFor.{drawn_in}

-- the block stood in a home of this bucket
pub record StoodIn (all : Rows) (block : Block) (bucket : Option (List ℕ × List ℕ)) : Type 0 where
  pub key : RowKey
  pub home : IsHome key
  pub here : StandsIn all block key
  pub same_bucket : bucket_of_row key ≡ bucket

-- both stood in one home of this bucket
pub record StoodTogether (all : Rows) (block other : Block) (bucket : Option (List ℕ × List ℕ)) : Type 0 where
  pub key : RowKey
  pub home : IsHome key
  pub here : StandsIn all block key
  pub there : StandsIn all other key
  pub same_bucket : bucket_of_row key ≡ bucket

-- the block is granted now, and no block had its local id before
pub record IsGranted (all : Rows) (granted : Option Block) (block : Block) : Type 0 where
  pub this_one : granted ≡ Some block
  pub fresh : (twin : Block) (key : RowKey) → StandsIn all twin key → twin.local ≡ block.local → ⊥

-- Homes changed, and numbers of stripes, but no other rows. Each block of a home stood in one of that bucket before or is
-- granted now, and each stands in one again. How many there are, and which numbers they have, stays within the rules.
pub record BlocksMove (all now : Rows) (granted : Option Block) : Type 0 where
  -- A row of another kind is as it was, and a stripe's has no block.
  pub others : (key : RowKey) → (IsHome key → ⊥) → kind_of key ≢ 9 → now key ≡ all key
  pub bare : (stripe : ℕ) (block : Block) → StandsIn now block (keys.Stripe stripe) → ⊥
  -- Where blocks came from, and where they went.
  pub came : (block : Block) (key : RowKey)
      → IsHome key → StandsIn now block key → StoodIn all block (bucket_of_row key) ⊎ IsGranted all granted block
  pub none_lost : (block : Block) → HasHome all block → HasHome now block
  pub stays : (block : Block) (key : RowKey)
      → IsKeeper key → StandsIn all block key → (new : RowKey) × IsKeeper new × StandsIn now block new
  -- No block stands in two homes, and those of one keeper stood in one home.
  pub one_home : (block : Block) (key other : RowKey)
      → IsHome key → IsHome other → StandsIn now block key → StandsIn now block other → key ≡ other
  pub together : (block other : Block) (key : RowKey)
      → IsKeeper key → StandsIn now block key → StandsIn now other key → StoodTogether all block other (bucket_of_row key)
  -- A session's block was one of a session on that key.
  pub open_key : (volume bucket key : List ℕ) (session : ℕ) (block : Block)
      → StandsIn now block (keys.Open volume bucket key session)
      → ((number : ℕ) × StandsIn all block (keys.Open volume bucket key number)) ⊎ IsGranted all granted block
  -- Numbers were drawn, owners are there, and so many keys and sessions may be.
  pub drawn : (stripe : ℕ) → drawn_in (all (keys.Stripe stripe)) ≤ drawn_in (now (keys.Stripe stripe))
  pub sessions : (volume bucket key : List ℕ) (number : ℕ)
      → IsSome (now (keys.Open volume bucket key number)) → number ≤ drawn_in (now (keys.Stripe (stripe_of volume)))
  pub owners : (volume bucket key : List ℕ) (owner local : ℕ)
      → IsSome (now (keys.Deleted volume bucket owner key local)) → owner ≢ 0
      → IsSome (all (keys.Deleted volume bucket owner key local))
  pub few : (volume bucket : List ℕ) → AtMost MOST_KEYS (IsUsing now volume bucket)

-- A block of a key was one of that key, or of a session: none has another name than before.
abbrev pub NamesStay : Rows → Rows → Type 0
NamesStay all now =
    (volume bucket key : List ℕ) (block : Block) → StandsIn now block (keys.Key volume bucket key)
    → StandsIn all block (keys.Key volume bucket key)
    ⊎ ((name : List ℕ) × (number : ℕ) × StandsIn all block (keys.Open volume bucket name number))
