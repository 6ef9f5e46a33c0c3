-- The words of the command line.
use Rattle.std.specs.Prelude.{◌≡◌, ◌⊎◌, ℕ, ◌+◌, ◌-◌, ◌<◌, ◌≤◌, List, [], ◌∷◌, ◌++◌, Option, None, IsSome, unwrap_or}
use Rattle.std.specs.Prelude.{length, take, codes}
use Rattle.oz_command.specs.Numbers.{number_in}
use Rattle.oz_nodes.specs.declared.nodes.TheConstants.{FEWEST_NODES, MOST_NODES}
use Rattle.oz_command.specs.declared.command_line.words.TheConstants.{DEFAULT_NODES, DEFAULT_WORKERS, MOST_WORKERS}
use Rattle.oz_command.specs.declared.command_line.words.Words.{Words}
use Rattle.oz_command.specs.declared.command_line.words.Words.TheVariants.{Run}

-- this word is a number of least to most, and is what is said
abbrev pub Says : ℕ → ℕ → List ℕ → Option ℕ → Type 0
Says least most number said = IsSome said × (said ≡ number_in least most number)

-- options, each a name and a number: what they say of the datanodes and of the workers, each at most once
abbrev pub AreOptions : List (List ℕ) → Option ℕ → Option ℕ → Type 0
AreOptions [] nodes workers = (nodes ≡ None) × (workers ≡ None)
AreOptions (name ∷ []) nodes workers = ⊥
AreOptions (name ∷ number ∷ rest) nodes workers =
    ((name ≡ codes "--nodes") × Says FEWEST_NODES MOST_NODES number nodes × AreOptions rest None workers) ⊎
    ((name ≡ codes "--workers") × Says 1 MOST_WORKERS number workers × AreOptions rest nodes None)

-- `run`, a folder and options that say this
abbrev pub IsRunSaying : List (List ℕ) → Option ℕ → Option ℕ → Type 0
IsRunSaying [] nodes workers = ⊥
IsRunSaying (verb ∷ []) nodes workers = ⊥
IsRunSaying (verb ∷ dir ∷ options) nodes workers = (verb ≡ codes "run") × (0 < length dir) × AreOptions options nodes workers

-- a run over so many datanodes by so many workers, which are the defaults where the words don't say them
pub record IsRunWith (words : List (List ℕ)) (nodes workers : ℕ) : Type 0 where
  pub said_nodes : Option ℕ
  pub said_workers : Option ℕ
  pub said : IsRunSaying words said_nodes said_workers
  pub nodes_are : nodes ≡ unwrap_or said_nodes DEFAULT_NODES
  pub workers_are : workers ≡ unwrap_or said_workers DEFAULT_WORKERS

-- a run over some datanodes by some workers
abbrev pub IsRun : List (List ℕ) → Type 0
IsRun words = (nodes : ℕ) × (workers : ℕ) × IsRunWith words nodes workers

-- with other words behind them, these are in the grammar
abbrev pub BeginsRun : List (List ℕ) → Type 0
BeginsRun words = (rest : List (List ℕ)) × IsRun (words ++ rest)

-- The words before this place, from 1, begin a run. With the word there they don't, or there is none and they are no
-- run.
pub record IsFirstFault (words : List (List ℕ)) (place : ℕ) : Type 0 where
  pub counted : 1 ≤ place
  pub prefix : BeginsRun (take (place - 1) words)
  pub fault : ((place ≤ length words) × ¬ BeginsRun (take place words)) ⊎ ((place ≡ length words + 1) × ¬ IsRun words)

-- what these words ask for: the folder is the second of them
abbrev pub IsRead : List (List ℕ) → Words → Type 0
IsRead words (Run dir nodes workers) = (dir ≡ 1) × IsRunWith words nodes workers

-- as many datanodes and workers as a run may have
abbrev pub IsWithinLimits : Words → Type 0
IsWithinLimits (Run dir nodes workers) =
    (FEWEST_NODES ≤ nodes) × (nodes ≤ MOST_NODES) × (1 ≤ workers) × (workers ≤ MOST_WORKERS)
