-- The log of deleted blocks, as a finite map from the numbers of transactions.
use Rattle.std.specs.Prelude.{◌≡◌, ℕ, ◌+◌, ◌==◌, nat_le, List, Bool, false, not, ◌&&◌, Some, Contains, map, filter}
use Rattle.std.specs.Option.{option_map_or}
use Rattle.std.specs.Ordering.{nat_cmp}
use Rattle.std.specs.FinMap.{FinMap, get, insert, remove, entries}
use Rattle.oz_fields.specs.declared.block.Block.{Block}
use Rattle.oz_dellog.specs.declared.txn.Txn.{Txn}
use Rattle.oz_dellog.specs.declared.logged.Logged.{Logged}
use Rattle.oz_dellog.specs.Logged.{new_logged, is_acknowledged_by, acknowledgement_count, with_acknowledgement, txn_of}

-- the number of the last transaction that was logged, 0 for none, and those that aren't retired
pub record Log : Type 0 where
  pub last : ℕ
  pub unretired : FinMap nat_cmp Logged

-- the next number has a transaction
abbrev pub with_txn : Log → ℕ → List ℕ → Log
with_txn log container locals = record {
  last = log.last + 1;
  unretired = insert log.unretired (log.last + 1) (new_logged container locals);
}

-- a transaction of a container that a datanode hasn't acknowledged
abbrev pub is_pending : ℕ → ℕ → ℕ × Logged → Bool
is_pending container dn entry = (container == entry.1.container) && not (is_acknowledged_by entry.1 dn)

-- what a datanode is told of a container: all such transactions, in the order of their numbers
abbrev pub pending : Log → ℕ → ℕ → List Txn
pending log container dn =
    map (λ entry. txn_of entry.0 entry.1) (filter (is_pending container dn) (entries log.unretired))

-- a transaction is there that the datanode hasn't acknowledged
abbrev pub awaits : Log → ℕ → ℕ → Bool
awaits log number dn = option_map_or (λ logged. not (is_acknowledged_by logged dn)) (get log.unretired number) false

-- the datanode acknowledged the transaction
abbrev pub acknowledged : Log → ℕ → ℕ → Log
acknowledged log number dn =
    option_map_or (λ logged. record { last = log.last; unretired = insert log.unretired number (with_acknowledgement logged dn) })
    (get log.unretired number) log

-- a transaction is there that three datanodes acknowledged
abbrev pub is_done : Log → ℕ → Bool
is_done log number = option_map_or (λ logged. nat_le 3 (acknowledgement_count logged)) (get log.unretired number) false

-- the number has no transaction any more
abbrev pub without_txn : Log → ℕ → Log
without_txn log number = record { last = log.last; unretired = remove log.unretired number }

-- a transaction names the block
pub record IsLogged (log : Log) (block : Block) : Type 0 where
  pub number : ℕ
  pub logged : Logged
  pub there : get log.unretired number ≡ Some logged
  pub container : logged.container ≡ block.container
  pub local : Contains logged.locals block.local
