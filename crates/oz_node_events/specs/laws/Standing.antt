-- A datanode at which nothing happened that is noted.
use Rattle.std.proofs.Common.{◌≡◌, ℕ, Bool, true, false, cond, List, Option, None, Some, refl, sym, ap, ◌∙◌, subst}
use Rattle.std.specs.Prelude.{IsSomeAnd, not}
use Rattle.oz_block.specs.Blocks.{StandsFor as StandsForNode}
use Rattle.oz_core.specs.declared.event.Node.{Node as AnyNode}
use Rattle.oz_core.specs.declared.event.Node.TheVariants.{Datanode}
use Rattle.oz_core.specs.declared.opening.Opening.{Opening}
use Rattle.oz_core.specs.Contents.{OpeningBytes}
use Rattle.oz_datanode.specs.Datanode.{State, count_of, is_halted, meta_of, node_in}
use Rattle.oz_datanode.specs.Writing.{is_open}
use Rattle.oz_datanode.specs.laws.GoingOn.{count_never_falls, rose_until}
use Rattle.oz_entries.specs.Node.{Node, is_held}
use Rattle.oz_script.specs.declared.lines.script.Script.{Script}
use Rattle.oz_replicas.specs.Stays.{Stays}
use Rattle.oz_world.specs.Disk.{Images}
use Rattle.oz_node_events.specs.NodeSeat.{SeatView, StandsFor}
use Rattle.oz_node_events.specs.laws.Contents.{contents_move}
use Rattle.oz_node_events.specs.laws.Disks.{both_tell, no_fewer_then}

same_count : (a b : Bool) (m n : ℕ) (x y : Option ℕ) → b ≡ a → cond b (Some n) x ≡ cond a (Some m) y
    → cond a (Some m) None ≡ cond b (Some n) None
same_count true true m n x y same stop = sym stop
same_count true false m n x y same stop = absurd cc
same_count false true m n x y same stop = absurd cc
same_count false false m n x y same stop = refl

-- what a disk tells stands for what is held
moved : (was now : Option (List ℕ)) (old new : Node) → now ≡ was → new ≡ old → IsSomeAnd was (λ bytes. StandsForNode bytes old)
    → IsSomeAnd now (λ bytes. StandsForNode bytes new)
moved was now old new same held stands =
    subst (λ (o : Option (List ℕ)). IsSomeAnd o (λ bytes. StandsForNode bytes new)) (sym same)
    (subst (λ (n : Node). IsSomeAnd was (λ bytes. StandsForNode bytes n)) (sym held) stands)

pub stands_still : {D : Type 0} (told : D → Option (List ℕ)) (clock : D → ℕ) (image : D → Images) (faults : D → ℕ)
    (Coherent : Type 0) (opening : Opening) (bytes : OpeningBytes) (script : Script) (loaded : AnyNode → ℕ) (view : SeatView)
    (old new : State D) → Stays told clock image faults old new
    → StandsFor told clock image faults Coherent opening bytes script loaded view old
    → StandsFor told clock image faults Coherent opening bytes script loaded view new
stands_still told clock image faults Coherent opening bytes script loaded view old new same stood = record {
  number = same.id ∙ stood.number;
  halt = stood.halt ∙ same_count (is_halted old) (is_halted new) (count_of faults old) (count_of faults new) _ _ same.halted same.stop;
  line = stood.line ∙ sym (ap not same.line);
  tells = λ coherent. both_tell told faults old new same.goes_on (stood.tells coherent);
  no_fewer = no_fewer_then told faults old new same.goes_on (loaded (Datanode view.dn)) stood.no_fewer;
  rose = λ halted.
      rose_until (loaded (Datanode view.dn)) (count_of faults old) (count_of faults new) (stood.rose (sym same.halted ∙ halted))
      (count_never_falls told faults old new same.goes_on);
  held = λ coherent runs block. stood.held coherent (sym same.halted ∙ runs) block ∙ sym (ap (λ (n : Node). is_held n block) same.node);
  whole = λ coherent runs block row is.
      stood.whole coherent (sym same.halted ∙ runs) block row (sym (ap (λ (n : Node). n.rows block) same.node) ∙ is);
  closed = λ coherent runs container. stood.closed coherent (sym same.halted ∙ runs) container
      ∙ sym (ap (λ (n : Node). not (is_open (n.states container))) same.node);
  greatest = λ coherent runs container. stood.greatest coherent (sym same.halted ∙ runs) container
      ∙ sym (ap (λ (n : Node). n.greatest container) same.node);
  journal = λ coherent runs.
      moved (told (meta_of old)) (told (meta_of new)) (node_in old) (node_in new) (ap told same.journal) same.node
      (stood.journal coherent (sym same.halted ∙ runs));
  contents = λ coherent runs.
      contents_move told clock image faults opening bytes script view.seen view.seen old new same.node same.holds (λ block content has. has)
      (stood.contents coherent (sym same.halted ∙ runs));
}
