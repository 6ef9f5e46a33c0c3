-- The entries of the storage container manager's journal in bytes. A body is one entry.
use Rattle.std.specs.Prelude.{ℕ, List, ◌++◌, length}
use Rattle.std.specs.List.{flat_map}
use Rattle.oz_container.specs.declared.state.Event.{Event}
use Rattle.oz_container.specs.declared.state.Event.TheVariants as events
use Rattle.oz_dellog.specs.declared.txn.Txn.{Txn}
use Rattle.oz_fields.specs.Number.{u8_bytes, u16_bytes, u32_bytes, u64_bytes}
use Rattle.oz_scm.specs.declared.grants.entry.Entry.{Entry}
use Rattle.oz_scm.specs.declared.grants.entry.Entry.TheVariants.{Nodes, Granted, Stepped, Logged, Acked, Retired}
use Rattle.oz_scm.specs.declared.grants.entry.Grant.{Grant}

abbrev pub grant_bytes : Grant → List ℕ
grant_bytes grant =
    u64_bytes grant.container ++ u8_bytes grant.pipeline ++ u64_bytes grant.first ++ u32_bytes grant.count

-- how many ids there are, and each of them
abbrev pub locals_bytes : List ℕ → List ℕ
locals_bytes locals = u16_bytes (length locals) ++ flat_map u64_bytes locals

abbrev pub txn_bytes : Txn → List ℕ
txn_bytes txn = u64_bytes txn.number ++ u64_bytes txn.container ++ locals_bytes txn.locals

abbrev pub event_number : Event → ℕ
event_number events.Finalize = 1
event_number events.QuasiClose = 2
event_number events.Close = 3
event_number events.ForceClose = 4
event_number events.Delete = 5
event_number events.Cleanup = 6

abbrev pub entry_bytes : Entry → List ℕ
entry_bytes (Nodes count) = u8_bytes 1 ++ u8_bytes count
entry_bytes (Granted stripe grant) = u8_bytes 2 ++ u8_bytes stripe ++ grant_bytes grant
entry_bytes (Stepped container event) = u8_bytes 3 ++ u64_bytes container ++ u8_bytes (event_number event)
entry_bytes (Logged txn) = u8_bytes 4 ++ txn_bytes txn
entry_bytes (Acked number dn) = u8_bytes 5 ++ u64_bytes number ++ u8_bytes dn
entry_bytes (Retired number) = u8_bytes 6 ++ u64_bytes number
