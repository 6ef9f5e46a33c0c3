-- What a stop leaves of the storage container manager's disk.
use Rattle.std.specs.Prelude.{◌≡◌, ◌≢◌, ◌⊎◌, ℕ, true, false, List, [], ◌∷◌, ◌++◌, None, length, All}
use Rattle.oz_core.specs.declared.event.Event.{Event}
use Rattle.oz_core.specs.declared.event.EventKind.{EventKind}
use Rattle.oz_core.specs.declared.event.EventKind.TheVariants.{Up, Down, Halt}
use Rattle.oz_core.specs.declared.event.Node.TheVariants.{Scm}
use Rattle.oz_core.specs.declared.opening.Opening.{Opening}
use Rattle.oz_core.specs.Law.{KindIsEnabled}
use Rattle.oz_core.specs.Scm.{containers, next_id}
use Rattle.oz_core.specs.Seats.{scm_seat}
use Rattle.oz_scm.specs.grants.Made.{Made, log_of}
use Rattle.oz_scm.specs.Scm.{State, StandsFor}
use Rattle.oz_scm_events.specs.Granted.{by_scm}
use Rattle.oz_scm_events.specs.Kept.{AreContainers, IsLogOf}
use Rattle.oz_world.specs.Disk.{Seen}

-- what entries make is what the events of a story make of what was opened
pub record IsMadeOf (opening : Opening) (story : List Event) (made : Made) : Type 0 where
  pub nodes : made.nodes ≡ length opening.nodes
  pub next : made.next_id ≡ next_id opening story
  pub containers : AreContainers made.containers (containers opening story)
  pub log : IsLogOf opening story (log_of made)

-- bytes from which that is loaded
abbrev pub LoadsAs : Opening → List Event → List ℕ → Type 0
LoadsAs opening story bytes = (made : Made) × IsMadeOf opening story made × StandsFor (length opening.nodes) bytes made

-- bytes from which is loaded what the events make, or these and one more of the storage container manager, which the law
-- allows there
abbrev pub LoadsAsOrOneMore : Opening → List Event → List ℕ → Type 0
LoadsAsOrOneMore opening story bytes =
    LoadsAs opening story bytes
    ⊎ ((kind : EventKind) × KindIsEnabled opening story scm_seat kind
    × LoadsAs opening (story ++ by_scm kind ∷ []) bytes)

abbrev pub IsUpOrDown : EventKind → Type 0
IsUpOrDown (Up dn) = Unit {0}
IsUpOrDown (Down dn) = Unit {0}
IsUpOrDown _ = ⊥

-- It halted, and since then only says who is up. A stop leaves what the events before the Halt make, or these and one more.
-- Of a disk that doesn't tell what it has nothing is said.
pub record ScmHalted (disk : Seen) (opening : Opening) (seen : List Event) : Type 0 where
  pub before : List Event
  pub count : ℕ
  pub behind : List Event
  pub parts : seen ≡ before ++ by_scm (Halt Scm count) ∷ behind
  pub quiet : All (λ (event : Event). event.seat ≡ scm_seat → IsUpOrDown event.kind) behind
  pub images : disk.told ≢ None → (bytes : List ℕ) → disk.image disk.clock bytes
      → LoadsAsOrOneMore opening before bytes

-- While nothing failed a stop leaves what its events make. Once a call failed, and where the disks agreed as the run
-- began, it has halted so.
pub record Leaves {D : Type 0} (Coherent : Type 0) (opening : Opening) (scm : State D) (disk : Seen)
    (seen mine : List Event) : Type 0 where
  pub rests : scm.stopped ≡ false → disk.told ≢ None → (bytes : List ℕ) → disk.image disk.clock bytes
      → LoadsAs opening mine bytes
  pub halted : Coherent → scm.stopped ≡ true → ScmHalted disk opening seen
