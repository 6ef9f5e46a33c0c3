-- What a copy that is refused leaves, and what is written of other blocks then.
use Rattle.std.proofs.Common.{◌≡◌, inl, inr, ℕ, ◌+◌, ◌^◌, ◌-◌, ◌<◌, min, ltb, lt-ltb, Bool, true, false, ◌||◌, ◌&&◌, List, length, Option, IfSome, Result, Ok, Err, OnOk, OnErr, is_err, refl, sym, ap, ◌∙◌, subst}
use Rattle.std.proofs.lemmas.Bool.{false≢true}
use Rattle.std.proofs.lemmas.List.{length-map}
use Rattle.oz_block.specs.Blocks.{node_in as node_in_blocks}
use Rattle.oz_chunk.specs.Taken.{is_taken}
use Rattle.oz_entries.specs.Held.{any_in}
use Rattle.oz_entries.specs.Node.{Node, is_used, chunk_count}
use Rattle.oz_entries.specs.declared.row.BlockRow.{BlockRow}
use Rattle.oz_fields.specs.declared.block.Block.{Block}
use Rattle.oz_block.specs.declared.shelf.written.Written.{Written}
use Rattle.oz_block.specs.shelf.Shelf.{ShelfView, Rests}
use Rattle.oz_block.specs.shelf.Written.{chunks_in, is_of, written_of, written_besides}
use Rattle.oz_block.specs.shelf.laws.FreeSlots.{or_slots_split}
use Rattle.oz_block.specs.shelf.laws.Parting.{any_parts}
use Rattle.oz_block.specs.shelf.laws.Written.{besides_again}
use Rattle.oz_world.specs.Disk.{Images, Seen}
use Rattle.oz_world.specs.Faults.{Rose}
use Rattle.oz_datanode.specs.Copying.{CopyGoes}
use Rattle.oz_datanode.specs.Datanode.{State, Runs, node_in, meta_of, slots_of}
use Rattle.oz_datanode.specs.Pairs.{Has}
use Rattle.oz_datanode.specs.Steps.{FillEnds, KeepEnds, is_in_use}
use Rattle.oz_datanode.specs.Writing.{intact}
use Rattle.oz_datanode.specs.declared.refusal.NodeRefusal.{NodeRefusal}
use Rattle.oz_datanode.specs.declared.refusal.NodeRefusal.TheVariants as refusals
use Rattle.oz_datanode.proofs.Parts.{with_shelf}
use Rattle.oz_datanode.proofs.Running.{runs_parts, runs_from}

pub on_ok : {T E P : Type 0} (result : Result T E) → is_err result ≡ false → OnOk result P → P
on_ok (Ok x) is on = on
on_ok (Err why) is on = absurd (false≢true (sym is))

pub on_err : {T E P : Type 0} (result : Result T E) → P → OnErr result P
on_err (Ok x) is = tt
on_err (Err why) is = is

-- a slot is that of a block, of a chunk of the block or of one of another
parted : (block : Block) (written : List Written) (used : Bool) (slot : ℕ) → (used || any_in (chunks_in written) slot) ≡ true → (used || any_in (chunks_in (written_besides block written)) slot || any_in (chunks_in (written_of block written)) slot) ≡ true
parted block written used slot is = by used (any_in (chunks_in (written_of block written)) slot) (any_in (chunks_in (written_besides block written)) slot) (sym (ap (λ (b : Bool). used || b) (any_parts (is_of block) written slot)) ∙ is)
  where
    by : (u a b : Bool) → (u || (a || b)) ≡ true → (u || b || a) ≡ true
    by true a b is = refl
    by false true true is = refl
    by false false true is = refl
    by false true false is = refl
    by false false false is = is

-- the slots in use by blocks and by what is written are those that are taken
pub freed_again : {D : Type 0} (old new : Node) (shelf : ShelfView D) (disk : Seen) (written : List Written) → new ≡ old → shelf.written ≡ written → Rests (is_in_use new) shelf disk → (slot : ℕ) → slot < 16384 → is_taken shelf.slots.taken slot ≡ (is_used old slot || any_in (chunks_in written) slot)
freed_again old new shelf disk written same left rests slot small =
    rests.taken slot
    ∙ (or_slots_split (is_in_use new) (chunks_in shelf.written) slot
    ∙ (ap (λ (b : Bool). b || any_in (chunks_in shelf.written) slot) (both (is_used new slot) (ltb slot 16384) (lt-ltb slot 16384 small))
    ∙ (ap (λ (n : Node). is_used n slot || any_in (chunks_in shelf.written) slot) same ∙ ap (λ (l : List Written). is_used old slot || any_in (chunks_in l) slot) left)))
  where
    both : (u l : Bool) → l ≡ true → (u && l) ≡ u
    both true l is = is
    both false l is = refl

module _ {D : Type 0} (told : D → Option (List ℕ)) (clock : D → ℕ) (image : D → Images) (faults : D → ℕ) (block : Block) where
  -- what is written of other blocks stays where the block is kept or not
  pub keep_others : {T : Type 0} (row : BlockRow) (old new : State D) (result : Result T NodeRefusal) → KeepEnds told clock image faults block row old new result → written_besides block new.shelf.written ≡ written_besides block old.shelf.written
  keep_others row old new (Ok done) ends = ap (written_besides block) ends.written ∙ besides_again block old.shelf.written
  keep_others row old new (Err (refusals.Stopped count)) ends = ap (written_besides block) ends.halts.written
  keep_others row old new (Err refusals.OutOfMemory) ends = ap (written_besides block) ends.written
  keep_others row old new (Err refusals.NoBlock) ends = absurd ends
  keep_others row old new (Err (refusals.NotOpen state)) ends = absurd ends
  keep_others row old new (Err (refusals.Full used asked capacity)) ends = absurd ends
  keep_others row old new (Err (refusals.Bad kept found)) ends = absurd ends

  module _ (bytes : List ℕ) where
    -- a chunk wasn't written
    pub fill_refused : (T : Type 0) (old new : State D) (why : NodeRefusal) → written_besides block new.shelf.written ≡ written_besides block old.shelf.written → FillEnds {T = T} told faults block bytes old new (Err why) → CopyGoes {T = T} told clock image faults block bytes old new (Err why)
    fill_refused T old new (refusals.Stopped count) others ends = record {
      halted = ends.halted;
      counted = ends.counted;
      cause = inr ends.cause;
      node = ap (λ (n : State D). node_in n) ends.same;
      journal = inl (ap (λ (n : State D). n.blocks) ends.same);
      id = ap (λ (n : State D). n.id) ends.same;
      line = ap (λ (n : State D). n.stopped) ends.same;
    }
    fill_refused T old new (refusals.Full used asked capacity) others ends = record {
      chunks = chunks_in (written_of block new.shelf.written);
      fewer = subst (λ (n : ℕ). n < chunk_count (length bytes)) (sym (length-map (written_of block new.shelf.written) (λ (w : Written). w.chunk))) ends.fewer;
      full = λ slot small. subst (λ (l : List Written). (is_used (node_in old) slot || any_in (chunks_in l) slot || any_in (chunks_in (written_of block new.shelf.written)) slot) ≡ true) others (parted block new.shelf.written (is_used (node_in old) slot) slot (ends.whose slot small));
      used = ends.used;
      asked = ends.asked;
      capacity = ends.capacity;
      blocks = ap (λ (n : State D). n.blocks) ends.same;
      runs = ends.runs;
      id = ap (λ (n : State D). n.id) ends.same;
      line = ap (λ (n : State D). n.stopped) ends.same;
    }
    fill_refused T old new refusals.OutOfMemory others ends = record {
      node = ap (λ (n : State D). node_in n) ends.same;
      journal = ap (λ (n : State D). meta_of n) ends.same;
      runs = ends.runs;
      id = ap (λ (n : State D). n.id) ends.same;
      line = ap (λ (n : State D). n.stopped) ends.same;
    }
    fill_refused T old new refusals.NoBlock others ends = absurd ends
    fill_refused T old new (refusals.NotOpen state) others ends = absurd ends
    fill_refused T old new (refusals.Bad kept found) others ends = absurd ends

    -- what is held is as it was
    pub refused_node : {T : Type 0} (old new : State D) (result : Result T NodeRefusal) → is_err result ≡ true → CopyGoes told clock image faults block bytes old new result → node_in new ≡ node_in old
    refused_node old new (Ok done) is goes = absurd (false≢true is)
    refused_node old new (Err (refusals.Stopped count)) is goes = goes.node
    refused_node old new (Err (refusals.Full used asked capacity)) is goes = ap node_in_blocks goes.blocks
    refused_node old new (Err refusals.OutOfMemory) is goes = goes.node
    refused_node old new (Err refusals.NoBlock) is goes = absurd goes
    refused_node old new (Err (refusals.NotOpen state)) is goes = absurd goes
    refused_node old new (Err (refusals.Bad kept found)) is goes = absurd goes

    -- what was written of the block is let go before and after
    module _ (old : State D) (first : ShelfView D) (now : State D) (last : ShelfView D) (first_disk : first.slots.disk ≡ slots_of old) (left : first.written ≡ written_besides block old.shelf.written) (last_disk : last.slots.disk ≡ slots_of now) (last_failed : last.failed ≡ now.shelf.failed) where
      still_runs : Runs faults now → Runs faults (with_shelf now last)
      still_runs runs =
          let both = runs_parts faults now runs in
          runs_from faults (with_shelf now last) (ap (λ (b : Bool). now.blocks.stopped || b) last_failed ∙ both.0) both.1

      pub refused_ends : {T : Type 0} (result : Result T NodeRefusal) → is_err result ≡ true → CopyGoes told clock image faults block bytes (with_shelf old first) now result → CopyGoes told clock image faults block bytes old (with_shelf now last) result
      refused_ends (Ok done) is goes = absurd (false≢true is)
      refused_ends (Err (refusals.Stopped count)) is goes = record {
        halted = ap (λ (b : Bool). now.blocks.stopped || b) last_failed ∙ goes.halted;
        counted = goes.counted ∙ ap (λ (d : D). min (faults (meta_of now) + faults d) (2 ^ 64 - 1)) (sym last_disk);
        cause = elim goes.cause [
          | inl journal ↦ inl journal
          | inr slots ↦ inr (subst (λ (d : D). Rose (faults (slots_of old)) (faults d)) (sym last_disk) (subst (λ (d : D). Rose (faults d) (faults (slots_of now))) first_disk slots))
        ];
        node = goes.node;
        journal = elim goes.journal [
          | inl same ↦ inl same
          | inr made ↦ inr (made.0, made.1, made.2, subst (λ (d : D). IfSome (told d) (Has (intact bytes) made.0)) (sym last_disk) made.3, made.4)
        ];
        id = goes.id;
        line = goes.line;
      }
      refused_ends (Err (refusals.Full used asked capacity)) is goes = record {
        chunks = goes.chunks;
        fewer = goes.fewer;
        full = λ slot small. subst (λ (l : List Written). (is_used (node_in old) slot || any_in (chunks_in l) slot || any_in goes.chunks slot) ≡ true) (ap (written_besides block) left ∙ besides_again block old.shelf.written) (goes.full slot small);
        used = goes.used;
        asked = goes.asked;
        capacity = goes.capacity;
        blocks = goes.blocks;
        runs = still_runs goes.runs;
        id = goes.id;
        line = goes.line;
      }
      refused_ends (Err refusals.OutOfMemory) is goes = record {
        node = goes.node;
        journal = goes.journal;
        runs = still_runs goes.runs;
        id = goes.id;
        line = goes.line;
      }
      refused_ends (Err refusals.NoBlock) is goes = absurd goes
      refused_ends (Err (refusals.NotOpen state)) is goes = absurd goes
      refused_ends (Err (refusals.Bad kept found)) is goes = absurd goes
