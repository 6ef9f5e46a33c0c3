-- The grants that the bodies of a journal say, and that no id stands in two of them.
use Rattle.std.specs.Prelude.{ℕ, ◌+◌, ◌≤◌, List, [], ◌∷◌, Option, None, Result, Ok, Err}
use Rattle.oz_scm.specs.declared.grants.entry.Entry.{Entry}
use Rattle.oz_scm.specs.declared.grants.entry.Entry.TheVariants.{Nodes, Granted, Stepped, Logged, Acked, Retired}
use Rattle.oz_scm.specs.declared.grants.entry.Grant.{Grant}
use Rattle.oz_scm.specs.grants.Build.{body_at}
use Rattle.oz_scm.specs.grants.Made.{Made, after_entry}

abbrev pub said_by : Result Entry ℕ → (Entry → List Grant) → List Grant
said_by (Err at) next = []
said_by (Ok (Nodes count)) next = next (Nodes count)
said_by (Ok (Granted stripe grant)) next = grant ∷ next (Granted stripe grant)
said_by (Ok (Stepped container event)) next = next (Stepped container event)
said_by (Ok (Logged txn)) next = next (Logged txn)
said_by (Ok (Acked number dn)) next = next (Acked number dn)
said_by (Ok (Retired number)) next = next (Retired number)

unfoldable pub said_from : Option Made → List (List ℕ) → List Grant
said_from found [] = []
said_from found (bytes ∷ bodies) = said_by (body_at found bytes) (λ entry. said_from (after_entry entry found) bodies)

-- the grants that the bodies of a journal say, in their order
abbrev pub grants_in : List (List ℕ) → List Grant
grants_in bodies = said_from None bodies

-- the ids of grants, which stand between these two: each grant begins no lower than the one before it ends
abbrev pub AreFresh : ℕ → List Grant → ℕ → Type 0
AreFresh from [] to = from ≤ to
AreFresh from (grant ∷ grants) to = (from ≤ grant.first) × AreFresh (grant.first + grant.count) grants to
