-- How the log keeps its transactions: in a map by their numbers, and in an index the numbers container by container.
-- Only private calls speak of it.
use Rattle.std.specs.Prelude.{◌≡◌, ℕ, ◌≤◌, ◌==◌, List, [], ◌∷◌, ◌++◌, if◌then◌else◌, filter, not, Option, Contains}
use Rattle.std.specs.Prelude.{IsSomeAnd}
use Rattle.std.specs.Global.{Vec}
use Rattle.std.specs.List.{AllByRecursion}
use Rattle.std.specs.Option.{option_map_or, option_and_then}
use Rattle.std.specs.Ordering.{nat_cmp}
use Rattle.std.specs.BTreeMap.{BTreeMap, get, IsOrdered}
use Rattle.oz_dellog.specs.declared.txn.Txn.{Txn}
use Rattle.oz_dellog.specs.declared.logged.Logged.{Logged}
use Rattle.oz_dellog.specs.Logged.{pending_txn}

-- the numbers that the index has for a container
abbrev pub listed : BTreeMap ℕ (Vec ℕ) → ℕ → List ℕ
listed index container = option_map_or (λ numbers. numbers.items) (get nat_cmp index container) []

-- a number is put behind those of a container
abbrev pub Lists : BTreeMap ℕ (Vec ℕ) → BTreeMap ℕ (Vec ℕ) → ℕ → ℕ → Type 0
Lists old new container number =
    (c : ℕ) → listed new c ≡ (if c == container then listed old c ++ number ∷ [] else listed old c)

abbrev pub without : ℕ → List ℕ → List ℕ
without number numbers = filter (λ n. not (n == number)) numbers

-- a number is taken away from those of a container
abbrev pub Unlists : BTreeMap ℕ (Vec ℕ) → BTreeMap ℕ (Vec ℕ) → ℕ → ℕ → Type 0
Unlists old new container number =
    (c : ℕ) → listed new c ≡ (if c == container then without number (listed old c) else listed old c)

-- the numbers of the transactions of a container
abbrev pub numbers_in : List (ℕ × Logged) → ℕ → List ℕ
numbers_in [] container = []
numbers_in (entry ∷ entries) container =
    if container == entry.1.container then entry.0 ∷ numbers_in entries container else numbers_in entries container

-- no number is above the last, and the index has the numbers of each container
pub record IsIndexed (last : ℕ) (unretired : BTreeMap ℕ Logged) (index : BTreeMap ℕ (Vec ℕ)) : Type 0 where
  pub ordered : IsOrdered nat_cmp unretired
  pub below : AllByRecursion (λ entry. entry.0 ≤ last) unretired.entries
  pub listed_well : (container : ℕ) → listed index container ≡ numbers_in unretired.entries container

-- what a datanode is told of the transaction with a number, if it is there
abbrev pub pending_at : BTreeMap ℕ Logged → ℕ → ℕ → Option Txn
pending_at unretired dn number = option_and_then (λ logged. pending_txn number logged dn) (get nat_cmp unretired number)

-- the transaction with a number is there and has the local id
abbrev pub Names : BTreeMap ℕ Logged → ℕ → ℕ → Type 0
Names unretired number local = IsSomeAnd (get nat_cmp unretired number) (λ logged. Contains logged.locals local)
