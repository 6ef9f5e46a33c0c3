-- What calls that write and put leave of blocks, by what is seen of the two disks.
use Rattle.std.proofs.Common.{◌≡◌, ◌⊎◌, ℕ, ◌≤◌, ltb, ◌||◌, ◌&&◌, Bool, true, false, cond, List, length, Option, IsSome, IfSome, Result, Ok, refl, sym, ap, ◌∙◌, subst}
use Rattle.std.proofs.lemmas.Bool.{false≢true, lt-ltb}
use Rattle.oz_block.specs.Blocks.{State as Blocks, node_in as node_in_blocks}
use Rattle.oz_block.specs.Changes.{Changes}
use Rattle.oz_block.specs.declared.fault.BlockFault.{BlockFault}
use Rattle.oz_chunk.specs.Disk.{Syncs}
use Rattle.oz_chunk.specs.Taken.{is_taken}
use Rattle.oz_entries.specs.declared.entry.Entry.TheVariants as entries
use Rattle.oz_entries.specs.declared.row.BlockRow.{BlockRow}
use Rattle.oz_entries.specs.declared.row.Chunk.{Chunk}
use Rattle.oz_entries.specs.Held.{any_in}
use Rattle.oz_entries.specs.Node.{Node, is_held, is_used, with_row, HaveFreeSlots, or_slots, RowFits, chunk_count}
use Rattle.oz_fields.specs.declared.block.Block.{Block}
use Rattle.oz_block.specs.shelf.Shelf.{ShelfView, Rests, AreSettled, KeepsTold}
use Rattle.oz_block.specs.shelf.Written.{chunks_in, is_of, written_of, written_besides}
use Rattle.oz_block.specs.shelf.laws.Parting.{any_of, free_passed}
use Rattle.oz_world.specs.Disk.{Images, Seen, seen, TellsAsBefore}
use Rattle.oz_datanode.specs.Datanode.{State, node_in, meta_of, slots_of}
use Rattle.oz_datanode.specs.Pairs.{Content, Has, HaveAll, PairHolds, NodeHolds, journal_seen, slots_seen, with_content}
use Rattle.oz_datanode.specs.Steps.{is_in_use, AtRest}
use Rattle.oz_datanode.specs.Writing.{contents_with}
use Rattle.oz_datanode.specs.Steps.{Keeps}
use Rattle.oz_datanode.specs.declared.refusal.NodeRefusal.{NodeRefusal}
use Rattle.oz_datanode.proofs.Running.{runs_from}
use Rattle.oz_datanode.proofs.Pairing.{OneNode, pair_at_rest, written_pairs, synced_pairs, put_pairs, used_more, settled_fewer, free_unused, used_taken, any_taken}

-- the row of a put fits
pub row_fits : (node : Node) (row : BlockRow) (chunks : List Chunk) (size : ℕ) → row ≡ record { length = size; chunks = chunks } → 1 ≤ size → size ≤ 65536 → length chunks ≡ chunk_count size → HaveFreeSlots (is_in_use node) chunks → RowFits (is_used node) row
row_fits node row chunks size is least most count free = subst (λ (r : BlockRow). RowFits (is_used node) r) (sym is) (record {
  least = least;
  most = most;
  count = count;
  chunks = free_unused node (is_in_use node) (is_used node) chunks (λ slot small none. both (is_used node slot) (ltb slot 16384) (lt-ltb slot 16384 small) none) free;
}) where
  both : (u l : Bool) → l ≡ true → (u && l) ≡ false → u ≡ false
  both true true is none = none
  both true false is none = absurd (false≢true is)
  both false l is none = refl

module _ {D : Type 0} (told : D → Option (List ℕ)) (clock : D → ℕ) (image : D → Images) (faults : D → ℕ) where
  abbrev pub at : D → Seen
  at disk = seen (told disk) (clock disk) (image disk) (faults disk)

  abbrev pub IsInOrder : State D → Type 0
  IsInOrder node = Rests (is_in_use (node_in node)) node.shelf (slots_seen told clock image faults node)

  abbrev pub Holds : (Block → Content) → State D → Type 0
  Holds contents node = NodeHolds told clock image faults contents node

  abbrev pub Rest : State D → Type 0
  Rest node = AtRest (node_in node) (journal_seen told clock image faults node)

  -- nothing was put
  pub still_holds : (contents : Block → Content) (block : Block) (content : Content) (old new : State D) → OneNode → Rest old → Rests (is_in_use (node_in old)) new.shelf (slots_seen told clock image faults new) → node_in new ≡ node_in old → meta_of new ≡ meta_of old → told (slots_of new) ≡ told (slots_of old) → is_held (node_in old) block ≡ false → Holds contents old
      → Holds (with_content block content contents) new
  still_holds contents block content old new one rest rests node journal same absent holds =
      let made = synced_pairs contents block content (node_in old) (journal_seen told clock image faults old) (slots_seen told clock image faults old) (slots_seen told clock image faults new) one rest rests.settled same absent holds in
      subst (λ (n : Node). PairHolds (with_content block content contents) n (journal_seen told clock image faults new) (slots_seen told clock image faults new)) (sym node) (subst (λ (d : D). PairHolds (with_content block content contents) (node_in old) (at d) (slots_seen told clock image faults new)) (sym journal) made)

  pub refused_holds : (contents : Block → Content) (block : Block) (content : Content) (old : State D) → OneNode → Rest old → IsInOrder old → Holds contents old → Holds (contents_with block content contents old) old
  refused_holds contents block content old one rest rests holds = by (is_held (node_in old) block) refl
    where
      by : (b : Bool) → b ≡ is_held (node_in old) block → Holds (cond b contents (with_content block content contents)) old
      by true is = holds
      by false is = still_holds contents block content old old one rest rests refl refl refl (sym is) holds

  -- a body was added to the journal, or may have been
  pub put_holds : {T : Type 0} (contents : Block → Content) (block : Block) (content : Content) (row : BlockRow) (old new : State D) (mid : ShelfView D) (result : Result T BlockFault) → OneNode → Rest old → old.blocks.stopped ≡ false → Changes (entries.Put block row) old.blocks new.blocks (journal_seen told clock image faults old) (journal_seen told clock image faults new) result
      → Rests (is_in_use (node_in old)) mid (at mid.slots.disk) → AreSettled (is_taken mid.slots.taken) (at mid.slots.disk) → told mid.slots.disk ≡ told (slots_of old) → slots_of new ≡ mid.slots.disk → row.chunks ≡ chunks_in (written_of block mid.written) → is_held (node_in old) block ≡ false → IfSome (told (slots_of old)) (Has content row) → Holds contents old
      → (node_in new ≡ node_in old) ⊎ (node_in new ≡ with_row block row (node_in old)) → Holds (with_content block content contents) new
  put_holds contents block content row old new mid result one rest running changes rests settled same disk chunks absent this holds is =
      subst (λ (d : D). PairHolds (with_content block content contents) (node_in new) (journal_seen told clock image faults new) (at d)) (sym disk) (put_pairs contents block content row (node_in old) (node_in new) (is_taken mid.slots.taken) (journal_seen told clock image faults old) (journal_seen told clock image faults new) (slots_seen told clock image faults old) (at mid.slots.disk) one rest changes.telling.0 changes.time.later (changes.stands running) settled same
      (λ slot used. rests.taken slot ∙ used_taken (is_in_use (node_in old)) (chunks_in mid.written) slot used) (λ slot has. rests.taken slot ∙ any_taken (is_in_use (node_in old)) (chunks_in mid.written) slot (any_of (is_of block) mid.written slot (subst (λ (l : List Chunk). any_in l slot ≡ true) chunks has))) absent this holds is)

  -- what was written is in order once it is put
  pub put_rests : (node after : Node) (block : Block) (row : BlockRow) (mid new : ShelfView D) → after ≡ with_row block row node → row.chunks ≡ chunks_in (written_of block mid.written) → Rests (is_in_use node) mid (at mid.slots.disk) → AreSettled (is_taken mid.slots.taken) (at mid.slots.disk)
      → ((used later : ℕ → Bool) → ((slot : ℕ) → later slot ≡ (used slot || any_in (chunks_in (written_of block mid.written)) slot)) → Rests used mid (at mid.slots.disk) → AreSettled later (at mid.slots.disk) → Rests later new (at new.slots.disk)) → Rests (is_in_use after) new (at new.slots.disk)
  put_rests node after block row mid new is chunks rests settled forget = subst (λ (n : Node). Rests (is_in_use n) new (at new.slots.disk)) (sym is) (forget (is_in_use node) (is_in_use (with_row block row node)) more rests (settled_fewer (is_taken mid.slots.taken) (is_in_use (with_row block row node)) (at mid.slots.disk) (λ slot used. rests.taken slot ∙ taken slot (sym (more slot) ∙ used)) settled))
    where
      more : (slot : ℕ) → is_in_use (with_row block row node) slot ≡ (is_in_use node slot || any_in (chunks_in (written_of block mid.written)) slot)
      more slot = used_more block row node (is_in_use node) (subst (HaveFreeSlots (is_in_use node)) (sym chunks) (free_passed (is_in_use node) (is_of block) mid.written rests.free)) slot ∙ ap (λ (l : List Chunk). is_in_use node slot || any_in l slot) chunks

      taken : (slot : ℕ) → (is_in_use node slot || any_in (chunks_in (written_of block mid.written)) slot) ≡ true → or_slots (is_in_use node) (chunks_in mid.written) slot ≡ true
      taken slot is = by (is_in_use node slot) refl is
        where
          by : (u : Bool) → u ≡ is_in_use node slot → (u || any_in (chunks_in (written_of block mid.written)) slot) ≡ true → or_slots (is_in_use node) (chunks_in mid.written) slot ≡ true
          by true used is = used_taken (is_in_use node) (chunks_in mid.written) slot (sym used)
          by false used is = any_taken (is_in_use node) (chunks_in mid.written) slot (any_of (is_of block) mid.written slot is)

  -- slots were written
  pub wrote_holds : (contents : Block → Content) (old new : State D) → OneNode → Rest old → IsInOrder old → new.blocks ≡ old.blocks → AreSettled (is_in_use (node_in old)) (slots_seen told clock image faults new) → KeepsTold (is_taken old.shelf.slots.taken) (told (slots_of old)) (told (slots_of new)) → TellsAsBefore (told (slots_of old)) (told (slots_of new)) → Holds contents old → Holds contents new
  wrote_holds contents old new one rest rests blocks settled keeps telling holds =
      let made = written_pairs contents (node_in old) (is_taken old.shelf.slots.taken) (journal_seen told clock image faults old) (slots_seen told clock image faults old) (slots_seen told clock image faults new) one rest settled (λ slot used. rests.taken slot ∙ used_taken (is_in_use (node_in old)) (chunks_in old.shelf.written) slot used) keeps telling holds in
      subst (λ (b : Blocks D). PairHolds contents (node_in_blocks b) (at b.disk) (slots_seen told clock image faults new)) (sym blocks) made

  syncs_as : {T E F : Type 0} (before after : Seen) (x : T) → Syncs {T = T} {E = E} before after (Ok x) → Syncs {T = Unit {0}} {E = F} before after (Ok tt)
  syncs_as before after x syncs = record {
    told = syncs.told;
    stable = syncs.stable;
    time = syncs.time;
    moment = syncs.moment;
    cause = record { never_falls = syncs.cause.never_falls; failed = tt };
  }

  -- the block is held
  pub kept_ends : {T E : Type 0} (block : Block) (row own : BlockRow) (old new : State D) (mid : ShelfView D) (x : T) → row ≡ own → Syncs {T = T} {E = E} (slots_seen told clock image faults old) (at mid.slots.disk) (Ok x) → Changes {T = Unit {0}} (entries.Put block row) old.blocks new.blocks (journal_seen told clock image faults old) (journal_seen told clock image faults new) (Ok tt)
      → new.shelf ≡ record { slots = mid.slots; written = written_besides block mid.written; failed = mid.failed } → mid.failed ≡ false → mid.written ≡ old.shelf.written → mid.slots.taken ≡ old.shelf.slots.taken → new.id ≡ old.id → new.stopped ≡ old.stopped → old.stopped ≡ false → Keeps told clock image faults block own old new
  kept_ends block row own old new mid x same syncs changes shelf whole as_written taken id line on = record {
    puts = record {
      synced = subst (λ (d : D). Syncs {T = Unit {0}} {E = NodeRefusal} (slots_seen told clock image faults old) (at d) (Ok tt)) (sym (ap (λ (s : ShelfView D). s.slots.disk) shelf)) (syncs_as (slots_seen told clock image faults old) (at mid.slots.disk) x syncs);
      changed = subst (λ (r : BlockRow). Changes {T = Unit {0}} (entries.Put block r) old.blocks new.blocks (journal_seen told clock image faults old) (journal_seen told clock image faults new) (Ok tt)) same changes;
      taken = ap (λ (s : ShelfView D). s.slots.taken) shelf ∙ taken;
    };
    written = ap (λ (s : ShelfView D). s.written) shelf ∙ ap (written_besides block) as_written;
    runs = runs_from faults new (ap (λ (b : Bool). b || new.shelf.failed) changes.stops ∙ (ap (λ (s : ShelfView D). s.failed) shelf ∙ whole)) (line ∙ on);
    id = id;
    line = line;
  }

  -- what is read of blocks is what a stop leaves of them
  pub read_holds : (contents : Block → Content) (node : State D) → OneNode → Rest node → IsInOrder node → (IsSome (told (meta_of node)) → IfSome (told (slots_of node)) (HaveAll contents (node_in node))) → Holds contents node
  read_holds contents node one rest rests read = pair_at_rest contents (node_in node) (journal_seen told clock image faults node) (slots_seen told clock image faults node) one rest rests.settled read
