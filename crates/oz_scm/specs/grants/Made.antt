-- What the entries of the storage container manager make, and which of them may follow.
use Rattle.std.specs.Prelude.{◌≡◌, ℕ, zero, suc, ◌+◌, ◌-◌, ◌==◌, nat_lt, nat_le, Bool, true, false, not, ◌&&◌, List, [], ◌∷◌, ◌++◌}
use Rattle.std.specs.Prelude.{length, take, drop, slice_get, Option, None, Some}
use Rattle.std.specs.FinMap.{FinMap, empty, get}
use Rattle.std.specs.List.{list_any}
use Rattle.std.specs.Option.{is_some, option_map, option_map_or}
use Rattle.std.specs.Ordering.{nat_cmp}
use Rattle.oz_container.specs.Steps.{next}
use Rattle.oz_container.specs.declared.state.Event.{Event}
use Rattle.oz_container.specs.declared.state.State.{State}
use Rattle.oz_container.specs.declared.state.State.TheVariants.{Open}
use Rattle.oz_dellog.specs.Log.{Log, with_txn, acknowledged, without_txn, is_done}
use Rattle.oz_dellog.specs.Logged.{is_acknowledged_by}
use Rattle.oz_dellog.specs.declared.logged.Logged.{Logged as LoggedTxn}
use Rattle.oz_dellog.specs.declared.txn.Txn.{Txn}
use Rattle.oz_dellog.specs.declared.txn.TheConstants.{MOST_LOCALS}
use Rattle.oz_fields.specs.declared.block.TheConstants.{GREATEST_BLOCK_NUMBER}
use Rattle.oz_names.specs.declared.limits.TheConstants.{STRIPES}
use Rattle.oz_nodes.specs.declared.nodes.TheConstants.{FEWEST_NODES, MOST_NODES}
use Rattle.oz_nodes.specs.Pipelines.{members_of, pipelines_of}
use Rattle.oz_scm.specs.declared.grants.container.Container.{Container}
use Rattle.oz_scm.specs.declared.grants.entry.Entry.{Entry}
use Rattle.oz_scm.specs.declared.grants.entry.Entry.TheVariants.{Nodes, Granted, Stepped, Logged, Acked, Retired}
use Rattle.oz_scm.specs.declared.grants.entry.Grant.{Grant}
use Rattle.oz_scm.specs.declared.grants.limits.TheConstants.{FIRST_ID, GRANTED_IDS}

-- How many datanodes there are, the containers in the order of their numbers, the first of which is 1, the id of the
-- next block that is granted, the number of the last transaction that was logged, 0 for none, and those that aren't
-- retired.
pub record Made : Type 0 where
  pub nodes : ℕ
  pub containers : List Container
  pub next_id : ℕ
  pub last_txn : ℕ
  pub unretired : FinMap nat_cmp LoggedTxn

-- what there is before any grant
abbrev pub begun : ℕ → Made
begun nodes = record { nodes = nodes; containers = []; next_id = FIRST_ID; last_txn = 0; unretired = empty }

-- the container of a number
abbrev pub container_at : List Container → ℕ → Option Container
container_at containers zero = None
container_at containers (suc place) = slice_get containers place

-- the state that it is in
abbrev pub state_at : List Container → ℕ → Option State
state_at containers number = option_map (λ (container : Container). container.state) (container_at containers number)

-- the number of a container that is made next
abbrev pub next_number : List Container → ℕ
next_number containers = length containers + 1

-- the container of this number, which is there or is the next, becomes this one
abbrev pub with_container : ℕ → Container → List Container → List Container
with_container number container containers = take (number - 1) containers ++ container ∷ drop number containers

-- a container after a grant, which makes it where it isn't there
abbrev pub granted_in : Option Container → ℕ → ℕ → Container
granted_in None pipeline count = record { pipeline = pipeline; state = Open; granted = count }
granted_in (Some container) pipeline count = record container { granted = container.granted + count }

abbrev pub after_grant : Grant → Made → Made
after_grant grant made = record made {
  containers = with_container grant.container
      (granted_in (container_at made.containers grant.container) grant.pipeline grant.count) made.containers;
  next_id = grant.first + grant.count;
}

-- a container after an event; None where it wasn't made, and where its state doesn't allow the event
abbrev pub stepped : Option Container → Event → Option Container
stepped None event = None
stepped (Some container) event =
    option_map (λ (state : State). record container { state = state }) (next container.state event)

-- one container becomes another, if it does
abbrev pub with_stepped : ℕ → Option Container → List Container → List Container
with_stepped number None containers = containers
with_stepped number (Some container) containers = with_container number container containers

abbrev pub after_step : ℕ → Event → Made → Made
after_step number event made = record made {
  containers = with_stepped number (stepped (container_at made.containers number) event) made.containers;
}

-- the log of deleted blocks
abbrev pub log_of : Made → Log
log_of made = record { last = made.last_txn; unretired = made.unretired }

abbrev pub with_log : Log → Made → Made
with_log log made = record made { last_txn = log.last; unretired = log.unretired }

-- after a transaction was logged, after a datanode acknowledged one, and after one was retired
abbrev pub after_log : Txn → Made → Made
after_log txn made = with_log (with_txn (log_of made) txn.container txn.locals) made

abbrev pub after_ack : ℕ → ℕ → Made → Made
after_ack number dn made = with_log (acknowledged (log_of made) number dn) made

abbrev pub after_retirement : ℕ → Made → Made
after_retirement number made = with_log (without_txn (log_of made) number) made

-- The rules of single fields: there are so many datanodes; there is such a stripe; the container is there or is the next;
-- it is on this pipeline, or is to be; the ids begin at the next one, and there are so many; the container is there.
abbrev pub is_node_count : ℕ → Bool
is_node_count count = nat_le FEWEST_NODES count && nat_le count MOST_NODES

abbrev pub is_stripe : ℕ → Bool
is_stripe stripe = nat_lt stripe STRIPES

abbrev pub is_old_or_next : List Container → ℕ → Bool
is_old_or_next containers number = nat_le 1 number && nat_le number (next_number containers)

abbrev pub is_on : ℕ → Option Container → ℕ → Bool
is_on nodes None pipeline = nat_lt pipeline (pipelines_of nodes)
is_on nodes (Some container) pipeline = pipeline == container.pipeline

abbrev pub is_next_id : ℕ → ℕ → Bool
is_next_id next first = first == next && nat_le (first + GRANTED_IDS) GREATEST_BLOCK_NUMBER

abbrev pub is_whole : ℕ → Bool
is_whole count = count == GRANTED_IDS

abbrev pub is_made : List Container → ℕ → Bool
is_made containers number = nat_le 1 number && nat_le number (length containers)

-- The rules of fields of the log: the number is one above the last; there are so many ids; the transaction is there; the
-- datanode has the container's replicas, and hasn't acknowledged the transaction.
abbrev pub is_next_txn : ℕ → ℕ → Bool
is_next_txn last number = number == last + 1

abbrev pub is_local_count : ℕ → Bool
is_local_count count = nat_le 1 count && nat_le count MOST_LOCALS

abbrev pub is_unretired : Made → ℕ → Bool
is_unretired made number = is_some (get made.unretired number)

abbrev pub is_member : ℕ → Option Container → ℕ → Bool
is_member nodes None dn = false
is_member nodes (Some container) dn = list_any (λ member. member == dn) (members_of nodes container.pipeline)

abbrev pub is_owed_by : Made → ℕ → LoggedTxn → Bool
is_owed_by made dn logged =
    is_member made.nodes (container_at made.containers logged.container) dn && not (is_acknowledged_by logged dn)

abbrev pub may_ack : Made → ℕ → ℕ → Bool
may_ack made number dn = option_map_or (is_owed_by made dn) (get made.unretired number) false

-- ids that may be granted next
pub record MayGrant (made : Made) (grant : Grant) : Type 0 where
  pub container_is : is_old_or_next made.containers grant.container ≡ true
  pub pipeline_is : is_on made.nodes (container_at made.containers grant.container) grant.pipeline ≡ true
  pub first_is : is_next_id made.next_id grant.first ≡ true
  pub count_is : is_whole grant.count ≡ true

-- an event that a container's state allows
abbrev pub MayStep : Made → ℕ → Event → Type 0
MayStep made number event = is_some (stepped (container_at made.containers number) event) ≡ true

-- a transaction that may be logged next
pub record MayLog (made : Made) (txn : Txn) : Type 0 where
  pub number_is : is_next_txn made.last_txn txn.number ≡ true
  pub container_is : is_made made.containers txn.container ≡ true
  pub count_is : is_local_count (length txn.locals) ≡ true

abbrev pub may_log : Made → Txn → Bool
may_log made txn =
    is_next_txn made.last_txn txn.number && is_made made.containers txn.container
    && is_local_count (length txn.locals)

-- an acknowledgement that a member of the container owes
abbrev pub MayAck : Made → ℕ → ℕ → Type 0
MayAck made number dn = may_ack made number dn ≡ true

-- a transaction that three datanodes acknowledged
abbrev pub MayRetire : Made → ℕ → Type 0
MayRetire made number = is_done (log_of made) number ≡ true

-- what was made, if anything was, and one entry more
abbrev pub MayFollow : Option Made → Entry → Type 0
MayFollow None (Nodes count) = is_node_count count ≡ true
MayFollow None (Granted stripe grant) = ⊥
MayFollow None (Stepped container event) = ⊥
MayFollow None (Logged txn) = ⊥
MayFollow None (Acked number dn) = ⊥
MayFollow None (Retired number) = ⊥
MayFollow (Some made) (Nodes count) = ⊥
MayFollow (Some made) (Granted stripe grant) = (is_stripe stripe ≡ true) × MayGrant made grant
MayFollow (Some made) (Stepped container event) = MayStep made container event
MayFollow (Some made) (Logged txn) = MayLog made txn
MayFollow (Some made) (Acked number dn) = MayAck made number dn
MayFollow (Some made) (Retired number) = MayRetire made number

abbrev pub after_entry : Entry → Option Made → Option Made
after_entry (Nodes count) None = Some (begun count)
after_entry (Nodes count) (Some made) = Some made
after_entry (Granted stripe grant) None = None
after_entry (Granted stripe grant) (Some made) = Some (after_grant grant made)
after_entry (Stepped container event) None = None
after_entry (Stepped container event) (Some made) = Some (after_step container event made)
after_entry (Logged txn) None = None
after_entry (Logged txn) (Some made) = Some (after_log txn made)
after_entry (Acked number dn) None = None
after_entry (Acked number dn) (Some made) = Some (after_ack number dn made)
after_entry (Retired number) None = None
after_entry (Retired number) (Some made) = Some (after_retirement number made)
