-- What loading promises of the log of deleted blocks.
use Rattle.std.specs.Prelude.{◌≡◌, ℕ, ◌≤◌, true, Some, List, length}
use Rattle.std.specs.FinMap.{get}
use Rattle.oz_dellog.specs.Logged.{is_acknowledged_by, nobody}
use Rattle.oz_dellog.specs.declared.logged.Logged.{Logged}
use Rattle.oz_dellog.specs.declared.txn.TheConstants.{MOST_LOCALS}
use Rattle.oz_scm.specs.declared.grants.container.Container.{Container}
use Rattle.oz_scm.specs.grants.Made.{Made, container_at, is_member}

-- as many ids as a transaction may have
pub record IsLocalCount (locals : List ℕ) : Type 0 where
  pub some : 1 ≤ length locals
  pub few : length locals ≤ MOST_LOCALS

-- each transaction that isn't retired has so many
abbrev pub AreCounted : Made → Type 0
AreCounted made = (number : ℕ) (logged : Logged) → get made.unretired number ≡ Some logged → IsLocalCount logged.locals

-- A transaction's container was made, and who acknowledged it is a member of that.
pub record IsOfMembers (made : Made) (logged : Logged) : Type 0 where
  pub container : Container
  pub there : container_at made.containers logged.container ≡ Some container
  pub members : (dn : ℕ) → is_acknowledged_by logged dn ≡ true → is_member made.nodes (Some container) dn ≡ true

-- The numbers are at most the last, each transaction is of members, and has a flag for each number that a datanode may have.
-- That numbers are apart, and that nobody acknowledges one twice, a map from numbers with such flags says by itself.
pub record IsOrdered (made : Made) : Type 0 where
  pub last : (number : ℕ) (logged : Logged) → get made.unretired number ≡ Some logged → number ≤ made.last_txn
  pub members : (number : ℕ) (logged : Logged) → get made.unretired number ≡ Some logged → IsOfMembers made logged
  pub flags : (number : ℕ) (logged : Logged) → get made.unretired number ≡ Some logged
      → length logged.acknowledged ≡ length nobody
