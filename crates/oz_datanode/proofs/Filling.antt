-- How far the chunks of a block were written, one behind the other.
use Rattle.std.proofs.Common.{◌≡◌, inl, inr, ℕ, ◌+◌, ◌-◌, ◌*◌, ◌/◌, ◌<◌, ◌≤◌, min, ◌||◌, Bool, true, List, [], ◌++◌, length, take, drop, slice_range, Option, Err, refl, sym, ap, ◌∙◌, subst, arith, length-take}
use Rattle.std.proofs.lemmas.Bool.{cases_lt}
use Rattle.std.proofs.lemmas.List.{take-take, take-append-drop, drop-take, take_all}
use Rattle.oz_block.specs.Blocks.{State as Blocks}
use Rattle.oz_entries.specs.Held.{any_in}
use Rattle.oz_entries.specs.Node.{is_used, chunk_count}
use Rattle.oz_fields.specs.declared.block.Block.{Block}
use Rattle.sha2.specs.Sha256.{sha256}
use Rattle.oz_block.specs.shelf.Written.{chunks_in, written_of, written_besides}
use Rattle.oz_block.specs.shelf.laws.Written.{makes_count, besides_written}
use Rattle.oz_world.specs.Disk.{Images}
use Rattle.oz_datanode.specs.Datanode.{State, Runs, DisksGoOn, node_in, slots_of}
use Rattle.oz_datanode.specs.laws.GoingOn.{disks_same, go_on_then, rose_since}
use Rattle.oz_datanode.specs.Pairs.{Content, NodeHolds, journal_seen}
use Rattle.oz_datanode.specs.Steps.{AtRest, FilledTo, Filled, FillEnds, PartEnds}
use Rattle.oz_datanode.specs.Writing.{MakeBytes, Wrote}
use Rattle.oz_datanode.specs.declared.refusal.NodeRefusal.{NodeRefusal}
use Rattle.oz_datanode.specs.declared.refusal.NodeRefusal.TheVariants as refusals
use Rattle.oz_datanode.proofs.Making.{none_made}
use Rattle.oz_datanode.proofs.Parts.{with_shelf}

joined : (n m : ℕ) (bytes : List ℕ) → take n bytes ++ take m (drop n bytes) ≡ take (n + m) bytes
joined n m bytes =
    ap (λ (l : List ℕ). l ++ take m (drop n bytes)) (sym (take-take n (n + m) bytes (omega arith)))
    ∙ (ap (λ (l : List ℕ). take n (take (n + m) bytes) ++ l) (sym (drop-take n m bytes)) ∙ take-append-drop n (take (n + m) bytes))

-- the bytes of one chunk more
pub one_more : (place : ℕ) (bytes part : List ℕ) → part ≡ slice_range bytes (place * 16384) (place * 16384 + min (length bytes - place * 16384) 16384) → place * 16384 < length bytes → take (place * 16384) bytes ++ part ≡ take ((place + 1) * 16384) bytes
one_more place bytes part is less =
    let n = place * 16384 in
    let m = min (length bytes - n) 16384 in
    let short : n + m - n ≡ m = omega arith in
    ap (λ (l : List ℕ). take n bytes ++ l) (is ∙ ap (λ (k : ℕ). take k (drop n bytes)) short)
    ∙ (joined n m bytes ∙ elim (cases_lt (length bytes) ((place + 1) * 16384)) [
      | inl last ↦
          let all : n + m ≡ length bytes = omega (arith, last, less) in
          take_all (n + m) bytes (omega (arith, all)) ∙ sym (take_all ((place + 1) * 16384) bytes (omega (arith, last)))
      | inr full ↦
          let same : n + m ≡ (place + 1) * 16384 = omega (arith, full) in
          ap (λ (k : ℕ). take k bytes) same
    ])

-- a chunk begins within the bytes of the block
pub within : (place size : ℕ) → place < (size + 16383) / 16384 → place * 16384 < size
within place size less = omega (arith, less)

pub all_places : (place size : ℕ) → (size + 16383) / 16384 ≤ place → size ≤ place * 16384
all_places place size past = omega (arith, past)

fewer : (count place taken size : ℕ) → count ≡ (taken + 16383) / 16384 → taken ≡ min (place * 16384) size → place < (size + 16383) / 16384 → count < (size + 16383) / 16384
fewer count place taken size is short less = omega (arith, is, short, less)

-- all but the shelf is as it was
still : {D : Type 0} (old mid new : State D) → mid ≡ with_shelf old mid.shelf → new.blocks ≡ mid.blocks → new.id ≡ mid.id → new.stopped ≡ mid.stopped → new ≡ with_shelf old new.shelf
still {D = D} old mid new same blocks id line =
    ap (λ (i : ℕ). made i new.blocks new.stopped) (id ∙ ap (λ (n : State D). n.id) same)
    ∙ (ap (λ (b : Blocks D). made old.id b new.stopped) (blocks ∙ ap (λ (n : State D). n.blocks) same) ∙ ap (λ (s : Bool). made old.id old.blocks s) (line ∙ ap (λ (n : State D). n.stopped) same))
  where
    made : ℕ → Blocks D → Bool → State D
    made i b s = record { id = i; blocks = b; shelf = new.shelf; stopped = s }

module _ {D : Type 0} (told : D → Option (List ℕ)) (clock : D → ℕ) (image : D → Images) (faults : D → ℕ) (block : Block) (bytes : List ℕ) where
  pub filled_none : (old : State D) → Runs faults old → written_of block old.shelf.written ≡ [] → FilledTo told clock image faults block bytes 0 old old
  filled_none old runs none = record {
    same = refl;
    runs = runs;
    made = none_made told block old.shelf none;
    others = refl;
    goes_on = disks_same told faults old old refl;
    holds = λ contents holds. holds;
  }

  pub filled_more : (place : ℕ) (part : List ℕ) (old mid new : State D) → FilledTo told clock image faults block bytes place old mid → Wrote told faults block place part mid new → part ≡ slice_range bytes (place * 16384) (place * 16384 + min (length bytes - place * 16384) 16384) → place * 16384 < length bytes
      → ((front : List ℕ) → MakeBytes told block front mid.shelf → length front ≡ place * 16384 → MakeBytes told block (front ++ part) new.shelf) → DisksGoOn told faults mid new
      → ((contents : Block → Content) → NodeHolds told clock image faults contents mid → NodeHolds told clock image faults contents new) → FilledTo told clock image faults block bytes (place + 1) old new
  filled_more place part old mid new filled wrote is less next goes holds = record {
    same = wrote.same ∙ ap (λ (n : State D). with_shelf n new.shelf) filled.same;
    runs = wrote.runs;
    made = subst (λ (l : List ℕ). MakeBytes told block l new.shelf) (one_more place bytes part is less) (next (take (place * 16384) bytes) filled.made (omega (arith, length-take (place * 16384) bytes, less)));
    others = ap (written_besides block) wrote.written.listed ∙ (besides_written mid.shelf.written (record { block = block; place = place; size = length part; chunk = record { slot = wrote.written.slot; digest = sha256 part } }) ∙ filled.others);
    goes_on = go_on_then told faults old mid new filled.goes_on goes;
    holds = λ contents holding. holds contents (filled.holds contents holding);
  }

  pub filled_all : (place : ℕ) (old new : State D) → FilledTo told clock image faults block bytes place old new → (length bytes + 16383) / 16384 ≤ place → Filled told faults block bytes old new
  filled_all place old new filled past = record {
    same = filled.same;
    runs = filled.runs;
    made = subst (λ (l : List ℕ). MakeBytes told block l new.shelf) (take_all (place * 16384) bytes (all_places place (length bytes) past)) filled.made;
    never_falls = filled.goes_on.slots_never_fall;
  }

  -- a chunk wasn't written
  pub part_refused : (T : Type 0) (place : ℕ) (part : List ℕ) (old mid new : State D) (why : NodeRefusal) → FilledTo told clock image faults block bytes place old mid → place < (length bytes + 16383) / 16384 → PartEnds {T = T} told faults block place part mid new (Err why) → FillEnds {T = T} told faults block bytes old new (Err why)
  part_refused T place part old mid new (refusals.Stopped count) filled less ends = record {
    halted = ends.halts.halted;
    counted = ends.halts.counted;
    cause = rose_since (faults (slots_of old)) (faults (slots_of mid)) (faults (slots_of new)) filled.goes_on.slots_never_fall ends.own;
    same = still old mid new filled.same ends.blocks ends.halts.id ends.halts.line;
  }
  part_refused T place part old mid new (refusals.Full used asked capacity) filled less ends = record {
    fewer = subst (λ (n : State D). length (written_of block n.shelf.written) < chunk_count (length bytes)) (sym ends.same) (fewer (length (written_of block mid.shelf.written)) place (length (take (place * 16384) bytes)) (length bytes) (makes_count mid.shelf.written block (length (take (place * 16384) bytes)) filled.made.made) (length-take (place * 16384) bytes) less);
    whose = λ slot small. subst (λ (n : State D). (is_used (node_in old) slot || any_in (chunks_in n.shelf.written) slot) ≡ true) (sym ends.same) (subst (λ (n : State D). (is_used (node_in n) slot || any_in (chunks_in mid.shelf.written) slot) ≡ true) filled.same (ends.whose slot small));
    used = ends.used;
    asked = ends.asked;
    capacity = ends.capacity;
    same = ends.same ∙ (filled.same ∙ ap (λ (n : State D). with_shelf old n.shelf) (sym ends.same));
    runs = subst (Runs faults) (sym ends.same) filled.runs;
  }
  part_refused T place part old mid new refusals.OutOfMemory filled less ends = record {
    same = ends ∙ (filled.same ∙ ap (λ (n : State D). with_shelf old n.shelf) (sym ends));
    runs = subst (Runs faults) (sym ends) filled.runs;
  }
  part_refused T place part old mid new refusals.NoBlock filled less ends = absurd ends
  part_refused T place part old mid new (refusals.NotOpen state) filled less ends = absurd ends
  part_refused T place part old mid new (refusals.Bad kept found) filled less ends = absurd ends

  pub others_refused : (T : Type 0) (place : ℕ) (part : List ℕ) (old mid new : State D) (why : NodeRefusal) → FilledTo told clock image faults block bytes place old mid → PartEnds {T = T} told faults block place part mid new (Err why) → written_besides block new.shelf.written ≡ written_besides block old.shelf.written
  others_refused T place part old mid new (refusals.Stopped count) filled ends = ap (written_besides block) ends.halts.written ∙ filled.others
  others_refused T place part old mid new (refusals.Full used asked capacity) filled ends = ap (λ (n : State D). written_besides block n.shelf.written) ends.same ∙ filled.others
  others_refused T place part old mid new refusals.OutOfMemory filled ends = ap (λ (n : State D). written_besides block n.shelf.written) ends ∙ filled.others
  others_refused T place part old mid new refusals.NoBlock filled ends = absurd ends
  others_refused T place part old mid new (refusals.NotOpen state) filled ends = absurd ends
  others_refused T place part old mid new (refusals.Bad kept found) filled ends = absurd ends

  pub rest_filled : (place : ℕ) (old now : State D) → FilledTo told clock image faults block bytes place old now → AtRest (node_in old) (journal_seen told clock image faults old) → AtRest (node_in now) (journal_seen told clock image faults now)
  rest_filled place old now filled rest = subst (λ (n : State D). AtRest (node_in n) (journal_seen told clock image faults n)) (sym filled.same) rest
