-- The blocks that a stripe may still grant.
use Rattle.std.specs.Prelude.{◌≡◌, ℕ, Bool, not, ◌+◌, ◌≤◌, ◌==◌, List, [], ◌∷◌, ◌++◌, filter, map, if◌then◌else◌}
use Rattle.std.specs.Prelude.{Option, None, Some, All, Contains}
use Rattle.std.specs.List.{flat_map, list_any, range_with_len}
use Rattle.oz_core.specs.declared.event.Event.{Event}
use Rattle.oz_core.specs.declared.event.EventKind.{EventKind}
use Rattle.oz_core.specs.declared.event.EventKind.TheVariants.{Grant}
use Rattle.oz_core.specs.Grants.{IsExcluded}
use Rattle.oz_core.specs.Manager.{granted_block}
use Rattle.oz_core.specs.Nodes.{is_block}
use Rattle.oz_core.specs.Scm.{IsOfGrant}
use Rattle.oz_core.specs.Stories.{all_told}
use Rattle.oz_fields.specs.declared.block.Block.{Block}
use Rattle.oz_fields.specs.declared.block.TheConstants.{GREATEST_BLOCK_NUMBER}
use Rattle.oz_requests.specs.declared.request.Exclude.{Exclude}
use Rattle.oz_locks.specs.declared.pool.FreeBlock.{FreeBlock}

-- the blocks of a Grant, in order
abbrev pub blocks_of_grant : ℕ → ℕ → ℕ → ℕ → List FreeBlock
blocks_of_grant container pipeline first count =
    map (λ local. record { block = record { container = container; local = local }; pipeline = pipeline })
    (range_with_len first count)

-- those of all Grants to a stripe, in the order of the Grants
abbrev pub blocks_in : ℕ → EventKind → List FreeBlock
blocks_in stripe (Grant other container pipeline first count) =
    if other == stripe then blocks_of_grant container pipeline first count else []
blocks_in stripe _ = []

abbrev pub blocks_granted : ℕ → List Event → List FreeBlock
blocks_granted stripe story = flat_map (λ (event : Event). blocks_in stripe event.kind) story

-- the blocks that a stripe's own Decides granted
abbrev pub used_by : List Event → List Block
used_by mine = all_told granted_block mine

abbrev pub is_among : List Block → Block → Bool
is_among blocks block = list_any (λ other. is_block other block) blocks

-- All that is left of the Grants to a stripe in these events: what none of the stripe's own Decides granted.
abbrev pub pool_of : ℕ → List Event → List Event → List FreeBlock
pool_of stripe known mine =
    filter (λ (free : FreeBlock). not (is_among (used_by mine) free.block)) (blocks_granted stripe known)

-- what is left of a pool where this block was granted
abbrev pub without : Option Block → List FreeBlock → List FreeBlock
without None pool = pool
without (Some block) pool = filter (λ (free : FreeBlock). not (is_block block free.block)) pool

-- The stripe's own Decides granted blocks of the Grants in these events alone.
abbrev pub AreOfGrants : ℕ → List Event → List Event → Type 0
AreOfGrants stripe known mine =
    (block : Block) → Contains (used_by mine) block
    → (pipeline : ℕ) × Contains (blocks_granted stripe known) (record { block = block; pipeline = pipeline })

-- no block that the stripe was granted in later events is one that it was granted before
abbrev pub AreFresh : ℕ → List Event → List Event → Type 0
AreFresh stripe known more =
    (free other : FreeBlock) → Contains (blocks_granted stripe known) free → Contains (blocks_granted stripe more) other
    → free.block ≡ other.block → ⊥

-- the local ids of a Grant keep to their limit
abbrev pub GrantFits : EventKind → Type 0
GrantFits (Grant stripe container pipeline first count) = first + count ≤ GREATEST_BLOCK_NUMBER
GrantFits _ = Unit {0}

-- A block may be granted: it is of a Grant to the stripe, on its pipeline, and none of the stripe's own Decides granted it.
pub record IsFree (stripe : ℕ) (known mine : List Event) (free : FreeBlock) : Type 0 where
  pub granted : IsOfGrant known stripe free.block free.pipeline
  pub unused : Contains (used_by mine) free.block → ⊥

-- the first block of a pool that an ask doesn't exclude
pub record IsFirstAllowed (exclude : Exclude) (pool : List FreeBlock) (free : FreeBlock) : Type 0 where
  pub before : List FreeBlock
  pub behind : List FreeBlock
  pub parts : pool ≡ before ++ free ∷ behind
  pub excluded : All (λ (other : FreeBlock). IsExcluded exclude other.block other.pipeline) before
  pub allowed : IsExcluded exclude free.block free.pipeline → ⊥
