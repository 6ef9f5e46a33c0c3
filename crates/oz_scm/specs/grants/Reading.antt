-- Reading an entry from left to right, over what those before it made. What is read has a value and the bytes behind it.
-- What isn't says how many bytes are left from the first field on that passes their end or breaks its rule.
use Rattle.std.specs.Prelude.{ℕ, zero, suc, Bool, true, ◌==◌, ◌&&◌, nat_le, List, [], ◌∷◌, ◌++◌, length, Option, None, Some, Result, Ok, Err}
use Rattle.std.specs.Prelude.{if◌then◌else◌}
use Rattle.std.specs.Option.{is_some}
use Rattle.oz_container.specs.declared.state.Event.{Event}
use Rattle.oz_container.specs.declared.state.Event.TheVariants as events
use Rattle.oz_dellog.specs.Log.{is_done}
use Rattle.oz_dellog.specs.declared.txn.Txn.{Txn}
use Rattle.oz_fields.specs.Number.{u8_at, u16_at, u32_at, u64_at}
use Rattle.oz_scm.specs.declared.grants.entry.Entry.{Entry}
use Rattle.oz_scm.specs.declared.grants.entry.Entry.TheVariants.{Nodes, Granted, Stepped, Logged, Acked, Retired}
use Rattle.oz_scm.specs.declared.grants.entry.Grant.{Grant}
use Rattle.oz_scm.specs.declared.grants.container.Container.{Container}
use Rattle.oz_scm.specs.grants.Made.{is_made, stepped, is_next_txn, is_local_count, is_unretired, may_ack, log_of}
use Rattle.oz_scm.specs.grants.Made.{Made, container_at, is_node_count, is_stripe, is_old_or_next, is_on, is_next_id, is_whole}

abbrev pub goes_on : {A B : Type 0} → Result (A × List ℕ) ℕ → (A → List ℕ → Result (B × List ℕ) ℕ)
    → Result (B × List ℕ) ℕ
goes_on (Ok found) next = next found.0 found.1
goes_on (Err left) next = Err left

-- one after the other
infixl 10 ◌>>=◌
abbrev pub ◌>>=◌ : {A B : Type 0} → (List ℕ → Result (A × List ℕ) ℕ) → (A → List ℕ → Result (B × List ℕ) ℕ) → List ℕ
    → Result (B × List ℕ) ℕ
(read >>= next) bytes = goes_on (read bytes) next

-- nothing more is read
abbrev pub done : {A : Type 0} → A → List ℕ → Result (A × List ℕ) ℕ
done value bytes = Ok (value, bytes)

abbrev pub kept : (ℕ → Bool) → ℕ → Option (ℕ × List ℕ) → Result (ℕ × List ℕ) ℕ
kept rule left None = Err left
kept rule left (Some found) = if rule found.0 then Ok found else Err left

-- a number that is there and keeps its rule
abbrev pub field : (List ℕ → Option (ℕ × List ℕ)) → (ℕ → Bool) → List ℕ → Result (ℕ × List ℕ) ℕ
field read rule bytes = kept rule (length bytes) (read bytes)

-- how many datanodes there are, in the first body and only there
unfoldable pub nodes_at : Option Made → ℕ → List ℕ → Result (Entry × List ℕ) ℕ
nodes_at (Some made) left = λ bytes. Err left
nodes_at None left = do
  count ← field u8_at is_node_count
  done (Nodes count)

unfoldable pub ids_at : Made → List ℕ → Result (Grant × List ℕ) ℕ
ids_at made = do
  container ← field u64_at (is_old_or_next made.containers)
  pipeline ← field u8_at (is_on made.nodes (container_at made.containers container))
  first ← field u64_at (is_next_id made.next_id)
  count ← field u32_at is_whole
  done (record { container = container; pipeline = pipeline; first = first; count = count })

-- a grant, in no first body
unfoldable pub granted_at : Option Made → ℕ → List ℕ → Result (Entry × List ℕ) ℕ
granted_at None left = λ bytes. Err left
granted_at (Some made) left = do
  stripe ← field u8_at is_stripe
  grant ← ids_at made
  done (Granted stripe grant)

-- the event of a number from 1 to 6
abbrev pub event_of : ℕ → Event
event_of number =
    if number == 1 then events.Finalize
    else (if number == 2 then events.QuasiClose
    else (if number == 3 then events.Close
    else (if number == 4 then events.ForceClose
    else (if number == 5 then events.Delete else events.Cleanup))))

-- the number of an event that the container's state allows
abbrev pub is_event_for : Option Container → ℕ → Bool
is_event_for container number =
    (nat_le 1 number && nat_le number 6) && is_some (stepped container (event_of number))

unfoldable pub event_at : Option Container → List ℕ → Result (Event × List ℕ) ℕ
event_at container = do
  number ← field u8_at (is_event_for container)
  done (event_of number)

-- a step of a container that was made, in no first body
unfoldable pub stepped_at : Option Made → ℕ → List ℕ → Result (Entry × List ℕ) ℕ
stepped_at None left = λ bytes. Err left
stepped_at (Some made) left = do
  container ← field u64_at (is_made made.containers)
  event ← event_at (container_at made.containers container)
  done (Stepped container event)

-- so many ids behind those that were read before
unfoldable pub numbers_at : List ℕ → ℕ → List ℕ → Result (List ℕ × List ℕ) ℕ
numbers_at front zero = done front
numbers_at front (suc count) = do
  next ← field u64_at (λ number. true)
  numbers_at (front ++ next ∷ []) count

-- from 1 to as many as a transaction may have
unfoldable pub locals_at : List ℕ → Result (List ℕ × List ℕ) ℕ
locals_at = do
  count ← field u16_at is_local_count
  numbers_at [] count

unfoldable pub txn_at : Made → List ℕ → Result (Txn × List ℕ) ℕ
txn_at made = do
  number ← field u64_at (is_next_txn made.last_txn)
  container ← field u64_at (is_made made.containers)
  locals ← locals_at
  done (record { number = number; container = container; locals = locals })

-- a deletion that is logged, an acknowledgement, and a transaction that is retired, in no first body
unfoldable pub logged_at : Option Made → ℕ → List ℕ → Result (Entry × List ℕ) ℕ
logged_at None left = λ bytes. Err left
logged_at (Some made) left = do
  txn ← txn_at made
  done (Logged txn)

unfoldable pub acked_at : Option Made → ℕ → List ℕ → Result (Entry × List ℕ) ℕ
acked_at None left = λ bytes. Err left
acked_at (Some made) left = do
  number ← field u64_at (is_unretired made)
  dn ← field u8_at (may_ack made number)
  done (Acked number dn)

unfoldable pub retired_at : Option Made → ℕ → List ℕ → Result (Entry × List ℕ) ℕ
retired_at None left = λ bytes. Err left
retired_at (Some made) left = do
  number ← field u64_at (is_done (log_of made))
  done (Retired number)

abbrev pub entry_of_tag_at : Option Made → ℕ → ℕ → List ℕ → Result (Entry × List ℕ) ℕ
entry_of_tag_at found left tag =
    if tag == 1 then nodes_at found left
    else (if tag == 2 then granted_at found left
    else (if tag == 3 then stepped_at found left
    else (if tag == 4 then logged_at found left
    else (if tag == 5 then acked_at found left
    else (if tag == 6 then retired_at found left else (λ bytes. Err left))))))

unfoldable pub entry_at : Option Made → List ℕ → Result (Entry × List ℕ) ℕ
entry_at found [] = Err 0
entry_at found (tag ∷ bytes) = entry_of_tag_at found (suc (length bytes)) tag bytes
