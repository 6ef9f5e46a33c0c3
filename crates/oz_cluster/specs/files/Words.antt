-- The words of a transfer.
use Rattle.std.specs.Prelude.{◌≡◌, ◌⊎◌, ℕ, ◌+◌, ◌-◌, ◌≤◌, List, [], ◌∷◌, ◌++◌, Some, length, take, codes}
use Rattle.oz_cluster.specs.declared.files.words.Way.{Way}
use Rattle.oz_cluster.specs.declared.files.words.Way.TheVariants.{Put, Get}
use Rattle.oz_command.specs.Paths.{key_in}
use Rattle.oz_command.specs.declared.paths.KeyPath.{KeyPath}
use Rattle.oz_command.specs.command_line.Words.{IsRunWith}

abbrev pub verb_of : Way → List ℕ
verb_of Put = codes "put"
verb_of Get = codes "get"

-- The verb, a folder, the path of a key, and options: the folder and the options are those of a run over so many datanodes
-- by so many workers.
abbrev pub IsTransferWith : List (List ℕ) → Way → KeyPath → ℕ → ℕ → Type 0
IsTransferWith [] way path nodes workers = ⊥
IsTransferWith (verb ∷ []) way path nodes workers = ⊥
IsTransferWith (verb ∷ dir ∷ []) way path nodes workers = ⊥
IsTransferWith (verb ∷ dir ∷ key ∷ options) way path nodes workers =
    (verb ≡ verb_of way) × (key_in key ≡ Some path) × IsRunWith (codes "run" ∷ dir ∷ options) nodes workers

-- a transfer this way of some key, over some datanodes by some workers
abbrev pub IsTransferOf : Way → List (List ℕ) → Type 0
IsTransferOf way words = (path : KeyPath) × (nodes : ℕ) × (workers : ℕ) × IsTransferWith words way path nodes workers

abbrev pub IsTransfer : List (List ℕ) → Type 0
IsTransfer words = (way : Way) × IsTransferOf way words

-- with other words behind them, these are in the grammar
abbrev pub BeginsTransfer : List (List ℕ) → Type 0
BeginsTransfer words = (rest : List (List ℕ)) × IsTransfer (words ++ rest)

-- The words before this place, from 1, begin a transfer. With the word there they don't, or there is none and they are no
-- transfer.
pub record IsFirstFault (words : List (List ℕ)) (place : ℕ) : Type 0 where
  pub counted : 1 ≤ place
  pub prefix : BeginsTransfer (take (place - 1) words)
  pub fault : ((place ≤ length words) × ¬ BeginsTransfer (take place words))
      ⊎ ((place ≡ length words + 1) × ¬ IsTransfer words)

-- the second of the words, which is the folder, and the third, which names the key
abbrev pub dir_word : List (List ℕ) → List ℕ
dir_word [] = []
dir_word (verb ∷ []) = []
dir_word (verb ∷ dir ∷ rest) = dir

abbrev pub key_word : List (List ℕ) → List ℕ
key_word [] = []
key_word (verb ∷ []) = []
key_word (verb ∷ dir ∷ []) = []
key_word (verb ∷ dir ∷ key ∷ options) = key
