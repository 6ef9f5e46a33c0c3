-- What keeps a deleted block away from a datanode, and which transactions are old.
use Rattle.std.specs.Prelude.{◌≡◌, ◌≢◌, ℕ, ◌≤◌, true, false, List, ◌++◌, All, Contains}
use Rattle.oz_dellog.specs.declared.txn.Txn.{Txn}
use Rattle.oz_fields.specs.declared.block.Block.{Block}
use Rattle.oz_requests.specs.declared.request.AskId.{AskId}
use Rattle.oz_core.specs.declared.event.Event.{Event}
use Rattle.oz_core.specs.declared.event.EventKind.TheVariants.{Delete, Put}
use Rattle.oz_core.specs.declared.opening.Opening.{Opening}
use Rattle.oz_core.specs.declared.opening.Unretired.{Unretired}
use Rattle.oz_core.specs.Asks.{is_told}
use Rattle.oz_core.specs.Scm.{logs, names_block}
use Rattle.oz_core.specs.Seats.{datanode_seat}

-- no transaction of the opening's log has a number above the last
abbrev pub NumbersAreOld : Opening → Type 0
NumbersAreOld opening =
    (unretired : Unretired) → Contains opening.unretired unretired → unretired.txn.number ≤ opening.last_txn

-- Behind a Delete by the datanode it puts no block that the transaction names.
pub record StaysAway (opening : Opening) (dn : ℕ) (story : List Event) : Type 0 where
  pub none : (before behind : List Event) (seat number first count : ℕ) (locals : List ℕ) (block : Block) (id : AskId)
      (txn : Txn) → story ≡ before ++ behind
      → Contains before (record { seat = seat; kind = Delete dn number locals })
      → Contains (logs opening before) txn → txn.number ≡ number → names_block block txn ≡ true
      → Contains behind (record { seat = datanode_seat dn; kind = Put dn block id first count }) → ⊥

-- At a place of the story, behind which the datanode's seat gave no event, the line wasn't told.
pub record IsUntoldSince (dn client line : ℕ) (story : List Event) : Type 0 where
  pub place : List Event
  pub since : List Event
  pub parts : story ≡ place ++ since
  pub none : All (λ (event : Event). event.seat ≢ datanode_seat dn) since
  pub untold : is_told client line place ≡ false
