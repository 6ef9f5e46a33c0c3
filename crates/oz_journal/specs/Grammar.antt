-- The bytes of a journal.
use Rattle.std.specs.Prelude.{◌≡◌, ◌≢◌, ◌⊎◌, ℕ, ◌+◌, ◌^◌, ◌<◌, ◌≤◌, List, [], ◌∷◌, ◌++◌, length, drop, Option, Some}
use Rattle.std.specs.Prelude.{None}
use Rattle.std.specs.List.{AllByRecursion}
use Rattle.oz_fields.specs.Number.{u32_bytes, u32_at}

-- a body behind its length in four bytes
abbrev pub sized : List ℕ → List ℕ
sized body = u32_bytes (length body) ++ body

-- the records of these bodies, each of them an open gate and the body with its length
unfoldable pub records : List (List ℕ) → List ℕ
records [] = []
records (body ∷ bodies) = 1 ∷ sized body ++ records bodies

-- the length of each fits four bytes
abbrev pub HaveSizes : List (List ℕ) → Type 0
HaveSizes bodies = AllByRecursion (λ body. length body < 2 ^ 32) bodies

-- records of these bodies, a gate that isn't open, and then whatever there is
pub record AreRecords (bytes : List ℕ) (bodies : List (List ℕ)) : Type 0 where
  pub sizes : HaveSizes bodies
  pub gate : ℕ
  pub rest : List ℕ
  pub closed : gate ≢ 1
  pub parts : bytes ≡ records bodies ++ gate ∷ rest

-- The bytes stand for these bodies. At most one byte stands for none, whatever it is.
abbrev pub IsJournal : List ℕ → List (List ℕ) → Type 0
IsJournal bytes bodies = ((length bytes ≤ 1) × (bodies ≡ [])) ⊎ ((2 ≤ length bytes) × AreRecords bytes bodies)

-- a disk that tells bytes which stand for these bodies
abbrev pub TellsBodies : Option (List ℕ) → List (List ℕ) → Type 0
TellsBodies None bodies = ⊥
TellsBodies (Some bytes) bodies = IsJournal bytes bodies

-- what follows an open gate, where its length passes the end or the body behind that does
abbrev pub IsCutOff : List ℕ → Type 0
IsCutOff behind =
    (length behind < 4) ⊎ ((size : ℕ) × (rest : List ℕ) × (u32_at behind ≡ Some (size, rest)) × (length rest < size))

-- records with no gate behind them: the place is the end
pub record LacksItsGate (bytes : List ℕ) (offset : ℕ) : Type 0 where
  pub bodies : List (List ℕ)
  pub sizes : HaveSizes bodies
  pub parts : bytes ≡ records bodies
  pub place : offset ≡ length bytes

-- records, and an open gate behind them whose record passes the end: the place is that gate's
pub record IsCutOffAt (bytes : List ℕ) (offset : ℕ) : Type 0 where
  pub bodies : List (List ℕ)
  pub behind : List ℕ
  pub sizes : HaveSizes bodies
  pub cut : IsCutOff behind
  pub parts : bytes ≡ records bodies ++ 1 ∷ behind
  pub place : offset ≡ length (records bodies)

-- the bytes are no journal, and this is the place where they aren't
abbrev pub IsDamagedAt : List ℕ → ℕ → Type 0
IsDamagedAt bytes offset = (2 ≤ length bytes) × (LacksItsGate bytes offset ⊎ IsCutOffAt bytes offset)

-- the places of the bodies whose records begin at a place
unfoldable pub places : ℕ → List (List ℕ) → List ℕ
places at [] = []
places at (body ∷ bodies) = (at + 5) ∷ places (at + 5 + length body) bodies

-- a journal of these bodies with one more behind them, over what stood there
abbrev pub with_body : List (List ℕ) → List ℕ → List ℕ → List ℕ
with_body bodies body bytes =
    records (bodies ++ body ∷ []) ++ 0 ∷ drop (length (records (bodies ++ body ∷ [])) + 1) bytes
