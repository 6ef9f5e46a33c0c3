-- The bytes that a transfer gives to its line.
use Rattle.std.specs.Prelude.{◌≡◌, ℕ, ◌+◌, ◌≤◌, List, [], length, Option, IfSome}
use Rattle.oz_cluster.specs.declared.files.stops.TheConstants.{LONGEST_FILE}
use Rattle.oz_cluster.specs.declared.files.words.Way.{Way}
use Rattle.oz_cluster.specs.declared.files.words.Way.TheVariants.{Put, Get}
use Rattle.oz_cluster.specs.Streams.{IsReadUpTo}

-- one byte more than a put takes
abbrev pub file_limit : ℕ
file_limit = LONGEST_FILE + 1

-- By what the source had left before and has after. Those of a put are all that it had, read to the end; a get has none,
-- and leaves the source.
abbrev pub IsGiven : Way → Option (List ℕ) → Option (List ℕ) → List ℕ → Type 0
IsGiven Put before after given =
    IfSome before (λ text. given ≡ text) × (length given ≤ LONGEST_FILE) × IsReadUpTo file_limit before after
IsGiven Get before after given = (given ≡ []) × (after ≡ before)
