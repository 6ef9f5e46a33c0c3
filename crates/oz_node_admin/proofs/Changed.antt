-- What having something done to a datanode comes to for who commands it.
use Rattle.std.proofs.Common.{◌≡◌, ℕ, Bool, true, false, cond, List, [], ◌∷◌, ◌++◌, Option, Err, slice_set, sym, ap, ◌∙◌, subst, append-nil}
use Rattle.std.specs.Prelude.{not}
use Rattle.oz_core.specs.declared.event.Event.{Event}
use Rattle.oz_datanode.specs.Datanode.{State}
use Rattle.oz_script.specs.declared.lines.script.Line.{Line}
use Rattle.oz_world.specs.Disk.{Images}
use Rattle.oz_node_events.specs.declared.command.DoneRefusal.{DoneRefusal}
use Rattle.oz_node_events.specs.declared.command.DoneRefusal.TheVariants.{Halted, Told, OutOfMemory}
use Rattle.oz_node_events.specs.declared.command.NodeCommand.{NodeCommand}
use Rattle.oz_node_events.specs.declared.command.NodeCommand.TheVariants as command
use Rattle.oz_node_events.specs.Commands.{by_node, run_event}
use Rattle.oz_node_events.specs.Doing.{IsDoneSo, IsWanted, LeftSo, last_done, told_of}
use Rattle.oz_node_events.specs.Led.{done_kind}
use Rattle.oz_node_events.specs.NodeSeat.{SeatView}
use Rattle.oz_node_admin.specs.Commands.{last_after, own_after, run_done}
use Rattle.oz_node_admin.specs.Seats.{WasLeft}

no_wipe : (runs : Bool) → run_done runs ≡ command.Wipe → ⊥
no_wipe true is = cc
no_wipe false is = cc

module _ (done : NodeCommand) (runs : Bool) (is : done ≡ run_done runs) where
  pub wanted_as : (stopped : Bool) → stopped ≡ runs → IsWanted done stopped
  wanted_as stopped was = subst (λ (d : NodeCommand). IsWanted d stopped) (sym is) (by runs was)
    where
      by : (r : Bool) → stopped ≡ r → IsWanted (run_done r) stopped
      by true was = was
      by false was = was

  pub own_so : (dn : ℕ) (stopped : Bool) (mine : List Event) → stopped ≡ runs → mine ++ by_node dn (done_kind dn done) ∷ [] ≡ own_after dn runs stopped mine
  own_so dn stopped mine was = ap (λ (d : NodeCommand). mine ++ by_node dn (done_kind dn d) ∷ []) is ∙ by runs was
    where
      by : (r : Bool) → stopped ≡ r → mine ++ by_node dn (done_kind dn (run_done r)) ∷ [] ≡ own_after dn r stopped mine
      by true was = sym (ap (λ (t : Bool). cond t (mine ++ by_node dn (run_event dn true) ∷ []) mine) was)
      by false was = sym (ap (λ (t : Bool). cond t mine (mine ++ by_node dn (run_event dn false) ∷ [])) was)

  pub last_so : (stopped : Bool) (line : Line) (last : List ℕ) → stopped ≡ runs → slice_set last line.client line.number ≡ last_after runs stopped line last
  last_so stopped line last was = by runs was
    where
      by : (r : Bool) → stopped ≡ r → slice_set last line.client line.number ≡ last_after r stopped line last
      by true was = sym (ap (λ (t : Bool). cond t (slice_set last line.client line.number) last) was)
      by false was = sym (ap (λ (t : Bool). cond (not t) (slice_set last line.client line.number) last) was)

  module _ {D : Type 0} (told : D → Option (List ℕ)) (clock : D → ℕ) (image : D → Images) (faults : D → ℕ) (Coherent : Type 0) (old new : State D) where
    pub ran_so : IsDoneSo told clock image faults Coherent done old new → new ≡ record old { stopped = not runs }
    ran_so so = by runs (subst (λ (d : NodeCommand). IsDoneSo told clock image faults Coherent d old new) is so)
      where
        by : (r : Bool) → IsDoneSo told clock image faults Coherent (run_done r) old new → new ≡ record old { stopped = not r }
        by true so = so
        by false so = so

    pub left_so : (line : Line) (before after : SeatView) (refusal : DoneRefusal) → LeftSo told clock image faults Coherent done old new (Err refusal)
        → after.mine ≡ before.mine ++ told_of before.dn done (Err refusal) → after.last ≡ last_done line before.last (Err refusal) → WasLeft before after old new
    left_so line before after (Halted count) left mine last = absurd (no_wipe runs (sym is ∙ left.0))
    left_so line before after Told left mine last = record { node = left; its = mine ∙ append-nil before.mine; last = last }
    left_so line before after OutOfMemory left mine last = record { node = left; its = mine ∙ append-nil before.mine; last = last }
