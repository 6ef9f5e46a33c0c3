-- Which homes blocks have, and which of them are in reach.
use Rattle.std.proofs.Common.{◌≡◌, ⊎_elim, ℕ, List, Option, Some, refl}
use Rattle.oz_decision.specs.Meets.{AreInGrammar}
use Rattle.oz_fields.specs.declared.block.Block.{Block}
use Rattle.oz_model.specs.Reach.{IsReached}
use Rattle.oz_namespace.specs.declared.namespace.Namespace.{Namespace}
use Rattle.oz_reclaim.specs.Origins.{AreWhole, DeletedRowsComeFrom, HasSource, IsSource, SourcesComeFrom}
use Rattle.oz_reclaim.specs.Reach.{IsShown}
use Rattle.oz_reclaim.specs.laws.Reach.{shown_is_reached}
use Rattle.oz_rows.specs.declared.key.RowKey.{RowKey}
use Rattle.oz_rows.specs.declared.key.RowKey.TheVariants as keys
use Rattle.oz_rows.specs.RowMaps.{Rows}
use Rattle.oz_sound.specs.Kept.{HasHome}
use Rattle.oz_sound.specs.Sound.{BlocksAreSound, IsHome, IsKeeper, SnapshotHas, StandsIn}
use Rattle.oz_sound.specs.StandsFor.{StandsFor}

-- a block of a deleted row has no other home
pub deleted_is_alone : (all : Rows) → BlocksAreSound all → (v b k : List ℕ) (o l : ℕ) (block : Block) → StandsIn all block (keys.Deleted v b o k l)
    → (home : RowKey) → IsHome home → StandsIn all block home → home ≡ keys.Deleted v b o k l
deleted_is_alone all blocks v b k o l block stands home is there = blocks.one_home block home (keys.Deleted v b o k l) is tt there stands

-- so it has no source
pub deleted_has_no_source : (all : Rows) → BlocksAreSound all → (v b k : List ℕ) (o l : ℕ) (block : Block) → StandsIn all block (keys.Deleted v b o k l)
    → HasSource all block → ⊥
deleted_has_no_source all blocks v b k o l block stands (source, is, there) =
    by source is (deleted_is_alone all blocks v b k o l block stands source (home source is) there)
  where
    home : (source : RowKey) → IsSource source → IsHome source
    home (keys.Key w c q) is = tt
    home (keys.Open w c q n) is = tt
    home source is = absurd is

    by : (source : RowKey) → IsSource source → source ≡ keys.Deleted v b o k l → ⊥
    by (keys.Key w c q) is e = absurd (cc)
    by (keys.Open w c q n) is e = absurd (cc)
    by source is e = absurd is

-- a block of a live snapshot has a home
pub held_has_home : (all : Rows) → BlocksAreSound all → (v b name : List ℕ) (n : ℕ) (block : Block) → SnapshotHas all v b n block name → HasHome all block
held_has_home all blocks v b name n block has = let kept =
    blocks.kept v b name n block has in record { key = kept.0; home = keeps kept.0 kept.1; here = kept.2 }
  where
    keeps : (key : RowKey) → IsKeeper key → IsHome key
    keeps (keys.Key w c q) is = tt
    keeps (keys.Deleted w c o q l) is = tt
    keeps key is = absurd is

-- a block of a key or of an open key is in reach
pub source_is_reached : (all : Rows) → AreInGrammar all → (namespace : Namespace) → StandsFor all namespace → (block : Block) → HasSource all block
    → IsReached namespace block
source_is_reached all fit namespace stands block (source, is, there) = shown_is_reached all namespace stands block fit (by source is there)
  where
    by : (source : RowKey) → IsSource source → StandsIn all block source → IsShown all block
    by (keys.Key w c q) is there = record { key = keys.Key w c q; shown = refl; stands = there }
    by (keys.Open w c q n) is there = record { key = keys.Open w c q n; shown = refl; stands = there }
    by source is there = absurd is

-- ---- what passes on

-- a block without a source has none later, but where it is granted
pub unsourced_still : (all now : Rows) (granted : Option Block) → SourcesComeFrom all now granted → (block : Block) → (HasSource all block → ⊥)
    → (granted ≡ Some block → ⊥) → HasSource now block → ⊥
unsourced_still all now granted come block none not has = ⊎_elim none not (come block has)

-- where none of some blocks has a source, deleted rows go on having all of them or none
pub whole_still : (all now : Rows) → DeletedRowsComeFrom all now → (IsOne : Block → Type 0) → ((block : Block) → IsOne block → HasSource all block → ⊥)
    → AreWhole all IsOne → AreWhole now IsOne
whole_still all now come IsOne unsourced whole v b k o l row there block other has is has_other = ⊎_elim
    (λ was. whole v b k was.0 l row was.1 block other has is has_other)
    (λ sources. absurd (unsourced block is (sources block has)))
    (come v b k o l row there)
