-- What comes of having something done to a datanode for a line, for the datanode and its seat.
use Rattle.std.proofs.Common.{◌≡◌, ℕ, ◌+◌, ◌<◌, ◌≤◌, true, false, List, [], ◌∷◌, ◌++◌, Option, Result, Ok, Err, refl, sym, ◌∙◌, subst, append-nil}
use Rattle.oz_buffer.specs.Buffer.{AllFollow, Follows}
use Rattle.oz_core.specs.declared.event.Event.{Event}
use Rattle.oz_core.specs.declared.event.EventKind.TheVariants.{Halt}
use Rattle.oz_core.specs.declared.event.Node.{Node}
use Rattle.oz_core.specs.declared.event.Node.TheVariants.{Datanode}
use Rattle.oz_core.specs.declared.opening.Opening.{Opening}
use Rattle.oz_core.specs.Contents.{OpeningBytes}
use Rattle.oz_core.specs.Fits.{EventFits}
use Rattle.oz_datanode.specs.Datanode.{State, is_halted}
use Rattle.oz_script.specs.declared.lines.script.Line.{Line}
use Rattle.oz_script.specs.declared.lines.script.Script.{Script}
use Rattle.oz_script.specs.declared.lines.script.TheConstants.{MOST_CLIENTS}
use Rattle.oz_repl.specs.views.Away.{StaysAway}
use Rattle.oz_turn.specs.Told.{own_entries, BeginsWith}
use Rattle.oz_world.specs.Disk.{Images}
use Rattle.oz_node_events.specs.declared.command.DoneRefusal.{DoneRefusal}
use Rattle.oz_node_events.specs.declared.command.DoneRefusal.TheVariants.{Halted, Told, OutOfMemory}
use Rattle.oz_node_events.specs.declared.command.NodeCommand.{NodeCommand}
use Rattle.oz_node_events.specs.declared.command.NodeCommand.TheVariants as command
use Rattle.oz_node_events.specs.Commands.{by_node}
use Rattle.oz_node_events.specs.Doing.{EndsSo, IsDoneSo, IsToldSo, IsUndone, IsWanted, LeftSo, WasTold, end_kind, last_done, refused_by, told_of}
use Rattle.oz_node_events.specs.Led.{HasItDone, HaveLed, done_kind, last_of}
use Rattle.oz_node_events.specs.NodeSeat.{IsAppended, IsKept, SeatView, StandsFor, events_of, is_bad}
use Rattle.oz_node_events.specs.laws.Wiped.{counted_once}
use Rattle.oz_node_events.proofs.Away.{done_untold, halt_untold}
use Rattle.oz_node_events.proofs.Commanding.{run_follows, run_stands}
use Rattle.oz_node_events.proofs.Noted.{ready_stands}
use Rattle.oz_node_events.proofs.Seated.{done_more, done_on, kept_more, kept_on, noted_more, stays_more, stays_on}
use Rattle.oz_node_events.proofs.Wiping.{halt_stands, wipe_follows, wipe_stands}

-- ---- in the hold

pub told_as : (dn : ℕ) (done : NodeCommand) (end : Result (Unit {0}) ℕ) → by_node dn (end_kind dn done end) ∷ [] ≡ told_of dn done (refused_by end)
told_as dn done (Ok it) = refl
told_as dn done (Err count) = refl

pub untold_as : (line : Line) (place : List Event) (end : Result (Unit {0}) ℕ) → WasTold line place (Ok tt) → WasTold line place (refused_by end)
untold_as line place (Ok it) untold = untold
untold_as line place (Err count) untold = untold

module _ {D : Type 0} (told : D → Option (List ℕ)) (clock : D → ℕ) (image : D → Images) (faults : D → ℕ) (Coherent : Type 0)
    (done : NodeCommand) (old new : State D) where
  pub left_as : (end : Result (Unit {0}) ℕ) → EndsSo told clock image faults Coherent done old new end
      → LeftSo told clock image faults Coherent done old new (refused_by end)
  left_as (Ok it) ends = ends
  left_as (Err count) ends = ends

  pub left_still : (refusal : DoneRefusal) → IsUndone refusal → new ≡ old → LeftSo told clock image faults Coherent done old new (Err refusal)
  left_still (Halted count) undone same = absurd undone
  left_still Told undone same = same
  left_still OutOfMemory undone same = same

  pub ended_once : (count : ℕ) → EndsSo told clock image faults Coherent done old new (Err count) → 1 ≤ count
  ended_once count ends = counted_once told clock image faults old new count ends.1

  -- what may follow where it is done, and where it fails, may follow whatever came of it
  pub end_follows : (May : Event → Type 0) (dn : ℕ) (end : Result (Unit {0}) ℕ) → EndsSo told clock image faults Coherent done old new end
      → May (by_node dn (done_kind dn done)) → ((count : ℕ) → 1 ≤ count → May (by_node dn (Halt (Datanode dn) count))) → May (by_node dn (end_kind dn done end))
  end_follows May dn (Ok it) ends follows halts = follows
  end_follows May dn (Err count) ends follows halts = halts count (ended_once count ends)

pub none_told : (dn : ℕ) (done : NodeCommand) (refusal : DoneRefusal) → IsUndone refusal → told_of dn done (Err refusal) ≡ []
none_told dn done (Halted count) undone = absurd undone
none_told dn done Told undone = refl
none_told dn done OutOfMemory undone = refl

-- ---- for the seat

-- the event that was told stands behind what was seen then
pub told_so : (dn : ℕ) (done : NodeCommand) (seen other place after : List Event) (result : Result (Unit {0}) DoneRefusal) → BeginsWith place seen → BeginsWith place other
    → BeginsWith after (place ++ told_of dn done result) → IsToldSo dn done seen other after result
told_so dn done seen other place after (Ok it) begins others goes = record { before = place; begins = begins; begins_other = others; goes_on = goes }
told_so dn done seen other place after (Err (Halted count)) begins others goes = record { before = place; begins = begins; begins_other = others; goes_on = goes }
told_so dn done seen other place after (Err Told) begins others goes = tt
told_so dn done seen other place after (Err OutOfMemory) begins others goes = tt

not_bad : (dn : ℕ) (done : NodeCommand) → is_bad (done_kind dn done) ≡ false
not_bad dn command.Stop = refl
not_bad dn command.Start = refl
not_bad dn command.Wipe = refl

module _ (Coherent : Type 0) (opening : Opening) (bytes : OpeningBytes) (script : Script) (dn room : ℕ) (last : List ℕ) (seen mine : List Event)
    (kept : IsKept Coherent opening bytes script (record { dn = dn; seen = seen; mine = mine; room = room; last = last })) (led : Coherent → HaveLed script dn last seen mine)
    (number : ℕ) (its : number ≡ dn) (later : List Event) (begins : BeginsWith later seen) (follow : AllFollow (Follows Coherent opening bytes script) [] later) (given : List Event) (places : ℕ)
    (own : own_entries (λ (event : Event). event.seat) (4 + number) later ≡ given) (line : Line) (done : NodeCommand) where
  pub kept_so : (result : Result (Unit {0}) DoneRefusal) → given ≡ mine ++ told_of dn done result
      → IsKept Coherent opening bytes script (record { dn = dn; seen = later; mine = given; room = places; last = last_done line last result })
  kept_so (Ok it) more =
      kept_more Coherent opening bytes script dn room last seen mine kept led number its later begins follow given places own (done_kind dn done) (λ coherent. not_bad dn done) more
      (last_done line last (Ok it))
  kept_so (Err (Halted count)) more =
      kept_more Coherent opening bytes script dn room last seen mine kept led number its later begins follow given places own (Halt (Datanode dn) count) (λ coherent. refl) more last
  kept_so (Err Told) more =
      kept_on Coherent opening bytes script dn room last seen mine kept led number its later begins follow given places own (more ∙ append-nil mine)
  kept_so (Err OutOfMemory) more =
      kept_on Coherent opening bytes script dn room last seen mine kept led number its later begins follow given places own (more ∙ append-nil mine)

  pub led_so : line.client ≤ MOST_CLIENTS → last_of last line.client < line.number → (before : List Event) → BeginsWith before seen
      → (Coherent → HasItDone script before dn done line)
      → (result : Result (Unit {0}) DoneRefusal) → BeginsWith later (before ++ told_of dn done result) → WasTold line before result → given ≡ mine ++ told_of dn done result
      → Coherent → HaveLed script dn (last_done line last result) later given
  led_so few behind before begun by (Ok it) ends untold more =
      done_more Coherent opening bytes script dn room last seen mine kept led number its later begins follow given places own line done few behind before begun ends by untold more
  led_so few behind before begun by (Err (Halted count)) ends untold more =
      noted_more Coherent opening bytes script dn room last seen mine kept led number its later begins follow given places own (Halt (Datanode dn) count) (λ coherent. refl) more tt
  led_so few behind before begun by (Err Told) ends told more =
      done_on Coherent opening bytes script dn room last seen mine kept led number its later begins follow given places own (more ∙ append-nil mine)
  led_so few behind before begun by (Err OutOfMemory) ends told more =
      done_on Coherent opening bytes script dn room last seen mine kept led number its later begins follow given places own (more ∙ append-nil mine)

  pub stays_so : (result : Result (Unit {0}) DoneRefusal) → given ≡ mine ++ told_of dn done result
      → (Coherent → StaysAway opening dn seen) → Coherent → StaysAway opening dn later
  stays_so (Ok it) more =
      stays_more Coherent opening bytes script dn room last seen mine kept led number its later begins follow given places own (done_kind dn done) (λ coherent. not_bad dn done) more
      (done_untold dn done seen)
  stays_so (Err (Halted count)) more =
      stays_more Coherent opening bytes script dn room last seen mine kept led number its later begins follow given places own (Halt (Datanode dn) count) (λ coherent. refl) more
      (halt_untold dn count seen)
  stays_so (Err Told) more =
      stays_on Coherent opening bytes script dn room last seen mine kept led number its later begins follow given places own (more ∙ append-nil mine)
  stays_so (Err OutOfMemory) more =
      stays_on Coherent opening bytes script dn room last seen mine kept led number its later begins follow given places own (more ∙ append-nil mine)

-- ---- for the datanode

module _ (Coherent : Type 0) (opening : Opening) (bytes : OpeningBytes) (script : Script) (loaded : Node → ℕ) {D : Type 0} (told : D → Option (List ℕ)) (clock : D → ℕ)
    (image : D → Images) (faults : D → ℕ) where
  abbrev Stands : SeatView → State D → Type 0
  Stands view node = StandsFor told clock image faults Coherent opening bytes script loaded view node

  pub done_follows : (view : SeatView) (node : State D) (done : NodeCommand) → IsKept Coherent opening bytes script view → Stands view node → is_halted node ≡ false → IsWanted done node.stopped
      → (story : List Event) → AllFollow (Follows Coherent opening bytes script) [] story → events_of view.dn story ≡ view.mine
      → (Coherent → EventFits opening bytes script story (done_kind view.dn done)) → Follows Coherent opening bytes script story (by_node view.dn (done_kind view.dn done))
  done_follows view node command.Stop kept stood unhalted wanted = run_follows Coherent opening bytes script loaded told clock image faults view node false kept stood unhalted wanted
  done_follows view node command.Start kept stood unhalted wanted = run_follows Coherent opening bytes script loaded told clock image faults view node true kept stood unhalted wanted
  done_follows view node command.Wipe kept stood unhalted wanted = wipe_follows Coherent opening bytes script loaded told clock image faults view node kept stood unhalted

  module _ (view later : SeatView) (old new : State D) (other : List Event) (kept : IsKept Coherent opening bytes script view) (kept_later : IsKept Coherent opening bytes script later)
      (stood : Stands view old) (number : later.dn ≡ view.dn) where
    done_stands : (done : NodeCommand) → IsDoneSo told clock image faults Coherent done old new → later.mine ≡ view.mine ++ by_node view.dn (done_kind view.dn done) ∷ []
        → IsAppended (by_node view.dn (done_kind view.dn done)) view.seen other later.seen → Stands later new
    done_stands command.Stop so mine told_so =
        subst (Stands later) (sym so) (run_stands Coherent opening bytes script loaded told clock image faults view later old false other kept kept_later stood number mine told_so)
    done_stands command.Start so mine told_so =
        subst (Stands later) (sym so) (run_stands Coherent opening bytes script loaded told clock image faults view later old true other kept kept_later stood number mine told_so)
    done_stands command.Wipe so mine told_so =
        wipe_stands Coherent opening bytes script loaded told clock image faults view later old new other kept kept_later stood so number mine told_so

    still_stands : BeginsWith later.seen view.seen → new ≡ old → later.mine ≡ view.mine → Stands later new
    still_stands goes same mine =
        subst (Stands later) (sym same) (ready_stands Coherent opening bytes script loaded told clock image faults old view later kept kept_later number mine goes stood)

    pub left_stands : (done : NodeCommand) (result : Result (Unit {0}) DoneRefusal) → BeginsWith later.seen view.seen → LeftSo told clock image faults Coherent done old new result
        → later.mine ≡ view.mine ++ told_of view.dn done result → IsToldSo view.dn done view.seen other later.seen result → Stands later new
    left_stands done (Ok it) goes left mine told_so = done_stands done left mine told_so
    left_stands done (Err (Halted count)) goes left mine told_so =
        halt_stands Coherent opening bytes script loaded told clock image faults view later old new count other kept kept_later stood left.1 number mine told_so
    left_stands done (Err Told) goes left mine told_so = still_stands goes left (mine ∙ append-nil view.mine)
    left_stands done (Err OutOfMemory) goes left mine told_so = still_stands goes left (mine ∙ append-nil view.mine)
