-- A transaction of the log, and who acknowledged it.
use Rattle.std.specs.Prelude.{ℕ, List, Bool, false, true, Option, None, Some, if◌then◌else◌, replicate, slice_set}
use Rattle.std.specs.Prelude.{count_by}
use Rattle.std.specs.List.{slice_index_or}
use Rattle.oz_dellog.specs.declared.txn.Txn.{Txn}
use Rattle.oz_dellog.specs.declared.logged.Logged.{Logged}

-- the flags of all datanodes where none of them acknowledged
unfoldable pub nobody : List Bool
nobody = replicate 256 false

-- a transaction that was just logged
abbrev pub new_logged : ℕ → List ℕ → Logged
new_logged container locals = record { container = container; locals = locals; acknowledged = nobody }

abbrev pub is_acknowledged_by : Logged → ℕ → Bool
is_acknowledged_by logged dn = slice_index_or logged.acknowledged dn false

-- how many datanodes acknowledged it
abbrev pub acknowledgement_count : Logged → ℕ
acknowledgement_count logged = count_by (λ flag. flag) logged.acknowledged

-- the datanode acknowledged it
abbrev pub with_acknowledgement : Logged → ℕ → Logged
with_acknowledgement logged dn = record {
  container = logged.container;
  locals = logged.locals;
  acknowledged = slice_set logged.acknowledged dn true;
}

-- what stands under a number, as a datanode is told it
abbrev pub txn_of : ℕ → Logged → Txn
txn_of number logged = record { number = number; container = logged.container; locals = logged.locals }

-- the same, nothing where the datanode acknowledged it
abbrev pub pending_txn : ℕ → Logged → ℕ → Option Txn
pending_txn number logged dn = if is_acknowledged_by logged dn then None else Some (txn_of number logged)
