-- What reading a text takes.
use Rattle.std.specs.Prelude.{◌≡◌, ℕ, ◌+◌, ◌≤◌, List, drop, Option}
use Rattle.std.specs.Option.{option_map}
use Rattle.oz_script.specs.declared.draft.drafting.TheConstants.{MOST_BYTES}

-- one byte more than a script may have
abbrev pub script_limit : ℕ
script_limit = MOST_BYTES + 1

-- at most so many bytes were taken from the beginning of what was left
pub record TakesUpTo (most : ℕ) (before after : Option (List ℕ)) : Type 0 where
  pub count : ℕ
  pub within : count ≤ most
  pub rest : after ≡ option_map (drop count) before

-- what was left was read to its end, or so many bytes of it
abbrev pub IsReadUpTo : ℕ → Option (List ℕ) → Option (List ℕ) → Type 0
IsReadUpTo limit before after = after ≡ option_map (drop limit) before

-- the same of a script
abbrev pub IsReadThrough : Option (List ℕ) → Option (List ℕ) → Type 0
IsReadThrough before after = IsReadUpTo script_limit before after
