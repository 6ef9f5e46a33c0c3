-- For private calls: what reading gives, and what containers in memory keep.
use Rattle.std.specs.Prelude.{◌≡◌, ◌⊎◌, ℕ, ◌*◌, ◌-◌, ◌<◌, ◌≤◌, ◌↔◌, min, List, [], ◌∷◌, Option, Some, None, Result, Ok, Err}
use Rattle.std.specs.Prelude.{length, All}
use Rattle.std.specs.FinMap.{get}
use Rattle.std.specs.Option.{option_map}
use Rattle.oz_dellog.specs.Log.{Log}
use Rattle.oz_dellog.specs.declared.txn.Txn.{Txn}
use Rattle.oz_fields.specs.declared.block.TheConstants.{GREATEST_BLOCK_NUMBER}
use Rattle.oz_nodes.specs.declared.nodes.TheConstants.{FEWEST_NODES, MOST_NODES}
use Rattle.oz_nodes.specs.Pipelines.{pipelines_of}
use Rattle.oz_scm.specs.declared.grants.container.Container.{Container}
use Rattle.oz_scm.specs.declared.grants.entry.Entry.{Entry}
use Rattle.oz_scm.specs.declared.grants.fault.ReadFault.{ReadFault}
use Rattle.oz_scm.specs.declared.grants.fault.ReadFault.TheVariants.{Left, OutOfMemory}
use Rattle.oz_scm.specs.declared.grants.fault.BuildFault.{BuildFault}
use Rattle.oz_scm.specs.declared.grants.fault.BuildFault.TheVariants as faults
use Rattle.oz_scm.specs.grants.Build.{body_at}
use Rattle.oz_scm.specs.grants.Due.{HasRoom}
use Rattle.oz_scm.specs.grants.Log.{AreCounted}
use Rattle.oz_scm.specs.grants.Made.{Made, after_entry, after_log}

-- what a call gave, seen by view, is what reading gives; where memory runs out it says nothing
abbrev pub ReadFails : {Y : Type 0} → ReadFault → Result Y ℕ → Type 0
ReadFails (Left left) read = read ≡ Err left
ReadFails OutOfMemory read = Unit {0}

abbrev pub ReadsAs : {X Y : Type 0} → (X → Y) → Result X ReadFault → Result Y ℕ → Type 0
ReadsAs view (Ok x) read = read ≡ Ok (view x)
ReadsAs view (Err fault) read = ReadFails fault read

-- an entry that is a whole body, or the place of its first bad field
abbrev pub IsWhole : ℕ → Result Entry BuildFault → Result Entry ℕ → Type 0
IsWhole count (Ok entry) read = read ≡ Ok entry
IsWhole count (Err (faults.Damaged body at)) read = (body ≡ count) × (read ≡ Err at)
IsWhole count (Err faults.OutOfMemory) read = Unit {0}

-- what is made of a log and containers in memory
abbrev pub made_of : Log → ℕ → ℕ → List Container → Made
made_of log nodes next containers = record {
  nodes = nodes;
  containers = containers;
  next_id = next;
  last_txn = log.last;
  unretired = log.unretired;
}

-- what is made, and for how many containers more there is room
pub record View : Type 0 where
  pub made : Made
  pub spare : ℕ

abbrev pub made_in : Option View → Option Made
made_in found = option_map (λ (view : View). view.made) found

-- no transaction has a number above the last
abbrev pub AreBelow : Made → Type 0
AreBelow made = (number : ℕ) → made.last_txn < number → get made.unretired number ≡ None

-- Each container is on a pipeline that is there, and has ids of its own, and the numbers of transactions are drawn.
pub record IsSound (made : Made) : Type 0 where
  pub least : FEWEST_NODES ≤ made.nodes
  pub most : made.nodes ≤ MOST_NODES
  pub pipelines : All (λ (container : Container). container.pipeline < pipelines_of made.nodes) made.containers
  pub granted : All (λ (container : Container). container.granted < made.next_id) made.containers
  pub few : 64 * length made.containers < made.next_id
  pub within : made.next_id ≤ GREATEST_BLOCK_NUMBER
  pub below : AreBelow made
  pub counted : AreCounted made

-- a transaction was logged last, and before it there was this
pub record WasLogged (before made : Made) : Type 0 where
  pub txn : Txn
  pub below : AreBelow before
  pub is : made ≡ after_log txn before

-- an entry that is a whole body, and what it makes
pub record IsStep (before : Option Made) (bytes : List ℕ) (after : Option Made) : Type 0 where
  pub entry : Entry
  pub reads : body_at before bytes ≡ Ok entry
  pub is : after ≡ after_entry entry before

-- one of the numbers
abbrev pub IsAmong : List ℕ → ℕ → Type 0
IsAmong [] number = ⊥
IsAmong (first ∷ numbers) number = (first ≡ number) ⊎ IsAmong numbers number

-- the lowest of some numbers that keeps a rule
abbrev pub IsLowestOf : (ℕ → Type 0) → List ℕ → Option ℕ → Type 0
IsLowestOf Rule numbers None = (number : ℕ) → IsAmong numbers number → ¬ Rule number
IsLowestOf Rule numbers (Some lowest) =
    Rule lowest × ((number : ℕ) → IsAmong numbers number → Rule number → lowest ≤ number)

abbrev pub lower_of : Option ℕ → ℕ → ℕ
lower_of None number = number
lower_of (Some lowest) number = min lowest number

-- one number more
abbrev pub IsLowered : (ℕ → Type 0) → Option ℕ → ℕ → Option ℕ → Type 0
IsLowered Rule before number after =
    (Rule number × (after ≡ Some (lower_of before number))) ⊎ ((¬ Rule number) × (after ≡ before))

-- the list has the containers with room for a grant
abbrev pub IsListed : List Container → List ℕ → Type 0
IsListed containers listed = (number : ℕ) → IsAmong listed number ↔ HasRoom containers number
