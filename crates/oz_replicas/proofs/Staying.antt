-- What stays where nothing is noted.
use Rattle.std.proofs.Common.{◌≡◌, ℕ, Bool, true, false, cond, ◌||◌, List, Option, None, Some, IsSome, IfSome, refl, sym, ap, ◌∙◌, subst}
use Rattle.std.proofs.lemmas.Bool.{false≢true}
use Rattle.oz_datanode.specs.Datanode.{State, DisksGoOn, node_in, meta_of, slots_of, is_halted, count_of, stop_of, Runs}
use Rattle.oz_datanode.specs.Pairs.{Content, HaveAll, NodeHolds}
use Rattle.oz_datanode.specs.Writing.{IsOpen, Abandons, is_open}
use Rattle.oz_datanode.specs.laws.GoingOn.{disks_same, disks_stay, go_on_then}
use Rattle.oz_entries.specs.Node.{Node, is_held}
use Rattle.oz_fields.specs.declared.block.Block.{Block}
use Rattle.oz_world.specs.Disk.{Images}
use Rattle.oz_replicas.specs.Nodes.{AreOf}
use Rattle.oz_replicas.specs.Outcomes.{HasAlready, Takes}
use Rattle.oz_replicas.specs.Stays.{IsIdle, Stays}

running : (halted stopped : Bool) (count : ℕ) → cond halted (Some count) (cond stopped (Some 0) None) ≡ None → (halted ≡ false) × (stopped ≡ false)
running true stopped count is = absurd cc
running false true count is = absurd cc
running false false count is = (refl, refl)

stopping : (halted stopped : Bool) (count : ℕ) → halted ≡ false → stopped ≡ false → ◌≡◌ {A = Option ℕ} (cond halted (Some count) (cond stopped (Some 0) None)) None
stopping true stopped count whole on = absurd (false≢true (sym whole))
stopping false true count whole on = absurd (false≢true (sym on))
stopping false false count whole on = refl

halting : (halted stopped : Bool) (count : ℕ) → halted ≡ true → cond halted (Some count) (cond stopped (Some 0) None) ≡ Some count
halting true stopped count is = refl
halting false stopped count is = absurd (false≢true is)

either_of : (b : Bool) → (b ≡ true → ⊥) → b ≡ false
either_of true never = absurd (never refl)
either_of false never = refl

module _ {D : Type 0} (faults : D → ℕ) where
  pub runs_parts : (node : State D) → Runs faults node → (is_halted node ≡ false) × (node.stopped ≡ false)
  runs_parts node runs = running (is_halted node) node.stopped (count_of faults node) runs

  pub runs_from : (node : State D) → is_halted node ≡ false → node.stopped ≡ false → Runs faults node
  runs_from node whole on = stopping (is_halted node) node.stopped (count_of faults node) whole on

  -- a datanode whose disk failed is stopped with its count
  pub halted_stop : (node : State D) → is_halted node ≡ true → stop_of faults node ≡ Some (count_of faults node)
  halted_stop node is = halting (is_halted node) node.stopped (count_of faults node) is

module _ {D : Type 0} (told : D → Option (List ℕ)) (clock : D → ℕ) (image : D → Images) (faults : D → ℕ) where
  pub stays_itself : (node : State D) → Stays told clock image faults node node
  stays_itself node = record {
    id = refl;
    node = refl;
    journal = refl;
    halted = refl;
    line = refl;
    stop = refl;
    holds = λ contents holding. holding;
    goes_on = disks_same told faults node node refl;
  }

  pub stays_same : (old new : State D) → new ≡ old → Stays told clock image faults old new
  stays_same old new same = subst (λ (n : State D). Stays told clock image faults old n) (sym same) (stays_itself old)

  pub stays_on : (one two three : State D) → Stays told clock image faults one two → Stays told clock image faults two three → Stays told clock image faults one three
  stays_on one two three first second = record {
    id = second.id ∙ first.id;
    node = second.node ∙ first.node;
    journal = second.journal ∙ first.journal;
    halted = second.halted ∙ first.halted;
    line = second.line ∙ first.line;
    stop = second.stop ∙ first.stop;
    holds = λ contents holding. second.holds contents (first.holds contents holding);
    goes_on = go_on_then told faults one two three first.goes_on second.goes_on;
  }

  -- the shelf alone changed, and it runs still
  pub stays_running : (old new : State D) → new ≡ record { id = old.id; blocks = old.blocks; shelf = new.shelf; stopped = old.stopped } → Runs faults old → Runs faults new → ((contents : Block → Content) → NodeHolds told clock image faults contents old → NodeHolds told clock image faults contents new) → DisksGoOn told faults old new → Stays told clock image faults old new
  stays_running old new same ran runs holds goes = record {
    id = ap (λ (n : State D). n.id) same;
    node = ap (λ (n : State D). node_in n) same;
    journal = ap (λ (n : State D). meta_of n) same;
    halted = (runs_parts faults new runs).0 ∙ sym (runs_parts faults old ran).0;
    line = ap (λ (n : State D). n.stopped) same;
    stop = runs ∙ sym ran;
    holds = holds;
    goes_on = goes;
  }

  -- chunks are abandoned
  pub stays_abandoned : (block : Block) (old new : State D) → Abandons block old new → ((contents : Block → Content) → NodeHolds told clock image faults contents old → NodeHolds told clock image faults contents new) → Stays told clock image faults old new
  stays_abandoned block old new abandons holds =
      let halted : is_halted new ≡ is_halted old = ap (λ (n : State D). n.blocks.stopped || new.shelf.failed) abandons.same ∙ ap (λ (b : Bool). old.blocks.stopped || b) abandons.failed in
      let line : new.stopped ≡ old.stopped = ap (λ (n : State D). n.stopped) abandons.same in
      let journal : meta_of new ≡ meta_of old = ap (λ (n : State D). meta_of n) abandons.same in record {
        id = ap (λ (n : State D). n.id) abandons.same;
        node = ap (λ (n : State D). node_in n) abandons.same;
        journal = journal;
        halted = halted;
        line = line;
        stop = same_stop old new halted line journal abandons.slots;
        holds = holds;
        goes_on = disks_stay told faults old new journal abandons.slots;
      }
    where
      same_stop : (old new : State D) → is_halted new ≡ is_halted old → new.stopped ≡ old.stopped → meta_of new ≡ meta_of old → slots_of new ≡ slots_of old → stop_of faults new ≡ stop_of faults old
      same_stop old new halted line journal slots = cc

  -- it still takes the block, or has it
  pub open_before : (block : Block) (old new : State D) → Stays told clock image faults old new → IsOpen faults block new → IsOpen faults block old
  open_before block old new stays opened = record {
    ran = sym stays.stop ∙ opened.ran;
    is = ap (λ (n : Node). is_open (n.states block.container)) (sym stays.node) ∙ opened.is;
  }

  pub has_before : (block : Block) (old new : State D) → Stays told clock image faults old new → HasAlready faults block new → HasAlready faults block old
  has_before block old new stays has = record {
    served = open_before block old new stays has.served;
    held = ap (λ (n : Node). is_held n block) (sym stays.node) ∙ has.held;
  }

  pub takes : (block : Block) (node : State D) → IsOpen faults block node → ¬ HasAlready faults block node → Takes faults block node
  takes block node opened wanted = record {
    served = opened;
    absent = either_of (is_held (node_in node) block) (λ held. wanted (record { served = opened; held = held }));
  }

  -- what was read of blocks is read of them still
  pub read_still : (contents : Block → Content) (old new : State D) → node_in new ≡ node_in old → meta_of new ≡ meta_of old → told (slots_of new) ≡ told (slots_of old) → NodeHolds told clock image faults contents old → IsSome (told (meta_of new)) → IfSome (told (slots_of new)) (HaveAll contents (node_in new))
  read_still contents old new node journal slots holds some =
      subst (λ (o : Option (List ℕ)). IfSome o (HaveAll contents (node_in new))) (sym slots)
      (subst (λ (n : Node). IfSome (told (slots_of old)) (HaveAll contents n)) (sym node)
      (holds.read (subst (λ (d : D). IsSome (told d)) journal some)))

-- chunks of one block are gone once they are abandoned
pub idle_abandoned : {D : Type 0} (block : Block) (old new : State D) → AreOf block old.shelf → Abandons block old new → IsIdle new
idle_abandoned block old new own abandons = abandons.written ∙ own
