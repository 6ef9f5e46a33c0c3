-- What a journal keeps while no call on it has failed.
use Rattle.std.specs.Prelude.{◌≡◌, ℕ, List, length}
use Rattle.oz_world.specs.Disk.{Images, IsStable}
use Rattle.oz_journal.specs.Grammar.{records, AreRecords}

-- the closed gate behind the last record stands at this place, and a stop now leaves these bytes
pub record IsAtRest (bytes : List ℕ) (gate : ℕ) (image : Images) (now : ℕ) : Type 0 where
  pub bodies : List (List ℕ)
  pub grammar : AreRecords bytes bodies
  pub place : gate ≡ length (records bodies)
  pub stable : IsStable image now bytes
