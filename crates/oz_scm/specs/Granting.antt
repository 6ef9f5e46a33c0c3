-- Which grant is due, and what a call that is to make it does, whatever comes of the call.
use Rattle.std.specs.Prelude.{◌≡◌, ◌⊎◌, ℕ, ◌+◌, ◌<◌, ◌≤◌, Bool, true, false, List, [], ◌∷◌, ◌++◌, Result, Ok, Err}
use Rattle.std.specs.Prelude.{IfOk, IfErr, IfSome, OnOk, OnErr}
use Rattle.oz_fields.specs.declared.block.TheConstants.{GREATEST_BLOCK_NUMBER}
use Rattle.oz_scm.specs.declared.grants.entry.Entry.TheVariants.{Granted}
use Rattle.oz_scm.specs.declared.grants.entry.Grant.{Grant}
use Rattle.oz_scm.specs.declared.grants.limits.TheConstants.{GRANTED_IDS}
use Rattle.oz_scm.specs.grants.Due.{IsChosen}
use Rattle.oz_scm.specs.grants.Entries.{entry_bytes}
use Rattle.oz_scm.specs.grants.Made.{Made, after_grant}
use Rattle.oz_journal.specs.Grammar.{IsJournal, TellsBodies}
use Rattle.oz_nodes.specs.Pipelines.{IsAnyUp, IsFree, IsFirstFree}
use Rattle.oz_requests.specs.declared.request.Exclude.{Exclude}
use Rattle.oz_world.specs.Disk.{Seen, TellsAsBefore}
use Rattle.oz_world.specs.Faults.{Rose}
use Rattle.oz_world.specs.Moments.{Elapses, LeavesOnly}
use Rattle.oz_scm.specs.declared.fault.GrantFault.{GrantFault}
use Rattle.oz_scm.specs.declared.fault.GrantFault.TheVariants.{Stopped, NoPipeline, Excluded, IdsSpent, OutOfMemory}
use Rattle.oz_scm.specs.Scm.{State, StandsFor}

-- The ids that a stripe is granted next: on the first pipeline that is up and isn't excluded, going round from the
-- stripe's own, in the container that is chosen there, so many from the next id on.
pub record IsDue (made : Made) (up : List Bool) (stripe : ℕ) (exclude : Exclude) (grant : Grant) : Type 0 where
  pub on : IsFirstFree up exclude.pipelines stripe grant.pipeline
  pub chosen : IsChosen made.containers grant.pipeline exclude.containers grant.container
  pub next : grant.first ≡ made.next_id
  pub whole : grant.count ≡ GRANTED_IDS
  pub within : grant.first + grant.count ≤ GREATEST_BLOCK_NUMBER

-- why none is due, a row a refusal; the others say nothing of this
abbrev pub IsRefusedFor : Made → List Bool → Exclude → GrantFault → Type 0
IsRefusedFor made up exclude NoPipeline = ¬ IsAnyUp up
IsRefusedFor made up exclude Excluded = IsAnyUp up × ((pipeline : ℕ) → ¬ IsFree up exclude.pipelines pipeline)
IsRefusedFor made up exclude (IdsSpent next count) =
    (next ≡ made.next_id) × (count ≡ GRANTED_IDS) × (GREATEST_BLOCK_NUMBER < next + count)
    × ((pipeline : ℕ) × IsFree up exclude.pipelines pipeline)
IsRefusedFor made up exclude (Stopped count) = Unit {0}
IsRefusedFor made up exclude OutOfMemory = Unit {0}

-- the call answers that it is stopped
abbrev pub says_stopped : {T : Type 0} → Result T GrantFault → Bool
says_stopped (Ok x) = false
says_stopped (Err (Stopped count)) = true
says_stopped (Err NoPipeline) = false
says_stopped (Err Excluded) = false
says_stopped (Err (IdsSpent next count)) = false
says_stopped (Err OutOfMemory) = false

-- the bodies, and the grant behind them
abbrev pub with_grant : List (List ℕ) → ℕ → Grant → List (List ℕ)
with_grant bodies stripe grant = bodies ++ entry_bytes (Granted stripe grant) ∷ []

-- bytes that stand for these bodies, or for these and a grant that was due
abbrev pub IsBeforeOrGranted : Made → List Bool → ℕ → Exclude → List (List ℕ) → List ℕ → Type 0
IsBeforeOrGranted made up stripe exclude bodies left =
    IsJournal left bodies
    ⊎ ((grant : Grant) × IsDue made up stripe exclude grant × IsJournal left (with_grant bodies stripe grant))

-- bytes from which the same is loaded, or what a grant that was due makes of it
abbrev pub StandsOrGranted : Made → List Bool → ℕ → Exclude → List ℕ → Type 0
StandsOrGranted made up stripe exclude left =
    StandsFor made.nodes left made
    ⊎ ((grant : Grant) × IsDue made up stripe exclude grant × StandsFor made.nodes left (after_grant grant made))

-- A call that is to grant ids to a stripe.
pub record Grants {D : Type 0} (stripe : ℕ) (exclude : Exclude) (old new : State D) (before after : Seen)
    (result : Result Grant GrantFault) : Type 0 where
  -- Where it succeeds the grant that was due is made, by one body more, which is stable.
  pub due : IfOk result (IsDue old.made old.up stripe exclude)
  pub made : IfOk result (λ grant. new.made ≡ after_grant grant old.made)
  pub tells : (bodies : List (List ℕ)) → TellsBodies before.told bodies
      → IfOk result (λ grant. TellsBodies after.told (with_grant bodies stripe grant))
  pub acknowledged : (bodies : List (List ℕ)) → TellsBodies before.told bodies
      → IfOk result (λ grant. (left : List ℕ) → after.image after.clock left
      → IsJournal left (with_grant bodies stripe grant))
  pub moments : OnOk result (after.clock ≡ before.clock + 4)
  -- Where it doesn't nothing is granted, and unless it is stopped the disk isn't touched.
  pub refused : IfErr result (IsRefusedFor old.made old.up exclude)
  pub same : OnErr result (new.made ≡ old.made)
  pub untouched : OnErr result (says_stopped result ≡ false → new.disk ≡ old.disk)
  pub ups : new.up ≡ old.up
  -- A stop at any moment of the call leaves the bodies, or these and the one that names the grant.
  pub leaves : old.stopped ≡ false → (bodies : List (List ℕ)) → TellsBodies before.told bodies
      → LeavesOnly (IsBeforeOrGranted old.made old.up stripe exclude bodies) before.clock after.clock after.image
  pub stands : old.stopped ≡ false → IfSome before.told (λ bytes.
      LeavesOnly (StandsOrGranted old.made old.up stripe exclude) before.clock after.clock after.image)
  pub telling : TellsAsBefore before.told after.told
  pub time : Elapses before.clock after.clock before.image after.image
  -- It answers that it is stopped where it was, and then nothing changes at all, and where the disk failed in the call.
  pub stops : new.stopped ≡ says_stopped result
  pub still : old.stopped ≡ true → new ≡ old
  pub count : (count : ℕ) → result ≡ Err (Stopped count) → count ≡ after.faults
  pub cause : old.stopped ≡ false → new.stopped ≡ true → Rose before.faults after.faults
  pub never_falls : before.faults ≤ after.faults
