-- What the slots that were listed tell of a datanode that is loaded.
use Rattle.std.proofs.Common.{◌≡◌, ◌↔◌, ℕ, ◌<◌, ◌≤◌, true, IsTrue, Contains, List, length, Option, None, Some, IfSome, sym, ap, subst}
use Rattle.std.proofs.lemmas.List.Elements.{All-contains}
use Rattle.oz_block.specs.Blocks.{StandsFor}
use Rattle.oz_chunk.specs.Slots.{end_of, IsLowestPast as IsPast}
use Rattle.oz_chunk.specs.declared.fault.SlotFault.{SlotFault}
use Rattle.oz_chunk.specs.declared.fault.SlotFault.TheVariants as faults
use Rattle.oz_entries.specs.Node.{Node, is_used}
use Rattle.oz_datanode.specs.declared.fault.NodeFault.TheVariants as nodes
use Rattle.oz_datanode.specs.Datanode.{IsLowestPast}
use Rattle.oz_datanode.specs.Steps.{is_in_use, slot_fault_of}
use Rattle.oz_datanode.proofs.Ranges.{in_use, in_use_parts, stands_below}

-- those in use below the last slot are listed
pub listed : (node : Node) (items held : List ℕ) → held ≡ items → ((slot : ℕ) → slot < 16384 → IsTrue (is_used node slot) ↔ Contains items slot) → (slot : ℕ) → slot < 16384 → IsTrue (is_in_use node slot) ↔ Contains held slot
listed node items held same all slot small =
    (λ is. subst (λ (l : List ℕ). Contains l slot) (sym same) ((all slot small).0 (in_use_parts node slot is).0), λ has. in_use node slot ((all slot small).1 (subst (λ (l : List ℕ). Contains l slot) same has)) small)

-- only a slot past the end is told as one
pub past_only : (fault : SlotFault) (offset : ℕ) → slot_fault_of fault ≡ nodes.Damaged true offset → fault ≡ faults.Past offset
past_only faults.Disk offset is = absurd cc
past_only (faults.Past other) offset is = ap faults.Past (inside is)
  where
    inside : nodes.Damaged true other ≡ nodes.Damaged true offset → other ≡ offset
    inside e = cc
past_only faults.OutOfMemory offset is = absurd cc

-- the lowest of those that are listed is the lowest of those in use
pub past_in : (node : Node) (items held : List ℕ) → held ≡ items → ((slot : ℕ) → slot < 16384 → IsTrue (is_used node slot) ↔ Contains items slot) → ((slot : ℕ) → Contains items slot → IsTrue (is_used node slot)) → (offset : ℕ) (meta told : Option (List ℕ)) → IfSome meta (λ bytes. StandsFor bytes node)
    → IfSome told (λ bytes. IsPast held (length bytes) offset) → IfSome meta (λ bytes. IfSome told (λ slots. (n : Node) × StandsFor bytes n × IsLowestPast n (length slots) offset))
past_in node items held same all only offset None told stands past = tt
past_in node items held same all only offset (Some bytes) None stands past = tt
past_in node items held same all only offset (Some bytes) (Some slots) stands past = (
  node,
  stands,
  record {
    slot = past.slot;
    is_in_use = only past.slot (subst (λ (l : List ℕ). Contains l past.slot) same past.is_held);
    past = past.past;
    lowest = λ other used beyond. All-contains (λ (o : ℕ). length slots < end_of o → past.slot ≤ o) held other past.lowest (subst (λ (l : List ℕ). Contains l other) (sym same) ((all other (stands_below bytes node stands other used)).0 used)) beyond;
    begins = past.begins;
  },
)
