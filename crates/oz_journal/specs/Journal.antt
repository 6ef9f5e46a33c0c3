-- What is seen of a journal, and what it adds.
use Rattle.std.specs.Prelude.{◌⊎◌, ℕ, ◌-◌, Bool, List, [], ◌∷◌, ◌++◌, length, take, drop}
use Rattle.oz_journal.specs.Grammar.{IsJournal}

-- its disk, and whether a call on it has failed
pub record State (D : Type 0) : Type 0 where
  pub disk : D
  pub stopped : Bool

-- the body in a frame: four bytes stand before it, and one behind
abbrev pub body_of : List ℕ → List ℕ
body_of framed = take (length framed - 5) (drop 4 framed)

-- bytes that stand for these bodies, or for these and one more
abbrev pub IsBeforeOrAfter : List (List ℕ) → List ℕ → List ℕ → Type 0
IsBeforeOrAfter bodies body left = IsJournal left bodies ⊎ IsJournal left (bodies ++ body ∷ [])
