-- What taking everything away from a datanode comes to.
use Rattle.std.proofs.Common.{◌≡◌, ◌⊎◌, inl, inr, ℕ, ◌≤◌, Bool, true, false, List, [], Option, None, Some, Ok, Err, Result, refl, sym, ◌∙◌, arith}
use Rattle.std.specs.Prelude.{IsSome, IsSomeAnd}
use Rattle.oz_block.specs.Blocks.{StandsFor}
use Rattle.oz_datanode.specs.declared.refusal.NodeRefusal.{NodeRefusal}
use Rattle.oz_datanode.specs.declared.refusal.NodeRefusal.TheVariants as refusals
use Rattle.oz_datanode.specs.Datanode.{State, DisksGoOn, count_of, is_halted, meta_of, node_in, slots_of}
use Rattle.oz_datanode.specs.Pairs.{Content, NodeHolds, journal_seen, slots_seen}
use Rattle.oz_datanode.specs.Wiping.{Wipes}
use Rattle.oz_datanode.specs.laws.GoingOn.{count_rose}
use Rattle.oz_fields.specs.declared.block.Block.{Block}
use Rattle.oz_world.specs.Disk.{Images}
use Rattle.oz_world.specs.Faults.{Rose}
use Rattle.oz_node_events.specs.Commands.{HaltsSo, IsWipedSo}
use Rattle.oz_node_events.specs.laws.Disks.{both_tell}

true_false : true ≡ false → ⊥
true_false is = cc

some_and : (o : Option (List ℕ)) (P : List ℕ → Type 0) → IsSome o → ((bytes : List ℕ) → o ≡ Some bytes → P bytes) → IsSomeAnd o P
some_and None P is each = absurd (true_false (sym is))
some_and (Some bytes) P is each = each bytes refl

at_least_one : (before after count : ℕ) → Rose before after → count ≡ after → 1 ≤ count
at_least_one before after count rose is = omega (arith, rose, is)

module _ {D : Type 0} (told : D → Option (List ℕ)) (clock : D → ℕ) (image : D → Images) (faults : D → ℕ) (old new : State D) where
  abbrev EndsSo : Result (Unit {0}) NodeRefusal → Type 0
  EndsSo result = Wipes faults old new (journal_seen told clock image faults old) (journal_seen told clock image faults new)
      (slots_seen told clock image faults old) (slots_seen told clock image faults new) result

  pub emptied : (Coherent : Type 0) → is_halted old ≡ false → (Coherent → IsSome (told (meta_of old)) × IsSome (told (slots_of old)))
      → EndsSo (Ok tt) → ((contents : Block → Content) → NodeHolds told clock image faults contents new) → DisksGoOn told faults old new
      → IsWipedSo told clock image faults Coherent old new
  emptied Coherent ran tells wiped pairs goes_on = record {
    ran = ran;
    unhalted = wiped.ends.runs;
    id = wiped.id;
    line = wiped.line;
    empty = wiped.ends.blocks.made;
    journal = λ coherent. some_and (told (meta_of new)) (λ (bytes : List ℕ). StandsFor bytes (node_in new))
        (both_tell told faults old new goes_on (tells coherent)).0 wiped.ends.stands;
    pairs = pairs;
    goes_on = goes_on;
  }

  -- a disk failed: the journal's, or that of the slots
  halt_cause : (stopped : Bool) → new.blocks.stopped ≡ stopped → (n : ℕ) → EndsSo (Err (refusals.Stopped n))
      → Rose (faults (meta_of old)) (faults (meta_of new)) ⊎ Rose (faults (slots_of old)) (faults (slots_of new))
  halt_cause true is n failed = inl (failed.ends.journal_failed is).0
  halt_cause false is n failed = inr (failed.ends.slots_failed is).0

  pub halted_so : (refusal : NodeRefusal) (count : ℕ) → EndsSo (Err refusal) → DisksGoOn told faults old new → count ≡ count_of faults new
      → HaltsSo told faults old new count
  halted_so (refusals.Stopped n) count failed goes_on counted = record {
    halted = failed.ends.halted;
    counted = counted;
    cause = halt_cause new.blocks.stopped refl n failed;
    id = failed.id;
    line = failed.line;
    goes_on = goes_on;
  }
  halted_so (refusals.Full used asked capacity) count failed goes_on counted = absurd failed.ends
  halted_so (refusals.NotOpen state) count failed goes_on counted = absurd failed.ends
  halted_so refusals.NoBlock count failed goes_on counted = absurd failed.ends
  halted_so (refusals.Bad kept found) count failed goes_on counted = absurd failed.ends
  halted_so refusals.OutOfMemory count failed goes_on counted = absurd failed.ends

  -- no chunk is half written then either
  pub idle_so : (refusal : NodeRefusal) → EndsSo (Err refusal) → old.shelf.written ≡ [] → new.shelf.written ≡ []
  idle_so (refusals.Stopped n) failed idle = failed.ends.written ∙ idle
  idle_so (refusals.Full used asked capacity) failed idle = absurd failed.ends
  idle_so (refusals.NotOpen state) failed idle = absurd failed.ends
  idle_so refusals.NoBlock failed idle = absurd failed.ends
  idle_so (refusals.Bad kept found) failed idle = absurd failed.ends
  idle_so refusals.OutOfMemory failed idle = absurd failed.ends

  pub counted_once : (count : ℕ) → HaltsSo told faults old new count → 1 ≤ count
  counted_once count halts =
      at_least_one (count_of faults old) (count_of faults new) count (count_rose told faults old new halts.goes_on halts.cause) halts.counted
