-- How far the chunks of a block were written, one behind the other.
use Rattle.std.proofs.Common.{◌≡◌, inl, inr, ℕ, ◌+◌, ◌-◌, ◌*◌, ◌/◌, ◌<◌, ◌≤◌, min, ◌||◌, Bool, true, false, List, [], ◌∷◌, ◌++◌, length, take, drop, slice_range, Option, Ok, Err, refl, sym, ap, ◌∙◌, subst, arith, length-take}
use Rattle.std.proofs.lemmas.Bool.{cases_lt}
use Rattle.std.proofs.lemmas.List.{take-take, take-append-drop, drop-take, take_all}
use Rattle.oz_datanode.specs.Datanode.{State, Runs, DisksGoOn, node_in}
use Rattle.oz_datanode.specs.Pairs.{Content, NodeHolds}
use Rattle.oz_datanode.specs.Writing.{MakeBytes, IsOpen, Wrote, WriteEnds, is_open}
use Rattle.oz_datanode.specs.declared.refusal.NodeRefusal.{NodeRefusal}
use Rattle.oz_datanode.specs.declared.refusal.NodeRefusal.TheVariants as refusals
use Rattle.oz_datanode.specs.laws.GoingOn.{disks_same, go_on_then}
use Rattle.oz_entries.specs.Held.{any_in}
use Rattle.oz_entries.specs.Node.{chunk_count, is_used}
use Rattle.oz_fields.specs.declared.block.Block.{Block}
use Rattle.oz_block.specs.declared.shelf.written.Written.{Written}
use Rattle.oz_block.specs.shelf.laws.Parting.{any_parts}
use Rattle.oz_block.specs.shelf.laws.Written.{besides_written, makes_count}
use Rattle.oz_block.specs.shelf.Shelf.{ShelfView}
use Rattle.oz_block.specs.shelf.Written.{chunks_in, is_of, written_of, written_besides}
use Rattle.oz_world.specs.Disk.{Images}
use Rattle.oz_replicas.specs.Nodes.{AreOf, WrittenTo, FillGoes}
use Rattle.oz_replicas.specs.Outcomes.{HasAlready}
use Rattle.oz_replicas.specs.Stays.{IsIdle, Stays}
use Rattle.oz_replicas.proofs.Staying.{stays_itself, stays_running, has_before, takes}

joined : (n m : ℕ) (bytes : List ℕ) → take n bytes ++ take m (drop n bytes) ≡ take (n + m) bytes
joined n m bytes =
    ap (λ (l : List ℕ). l ++ take m (drop n bytes)) (sym (take-take n (n + m) bytes (omega arith)))
    ∙ (ap (λ (l : List ℕ). take n (take (n + m) bytes) ++ l) (sym (drop-take n m bytes)) ∙ take-append-drop n (take (n + m) bytes))

-- the bytes of one chunk more
one_more : (place : ℕ) (bytes part : List ℕ) → part ≡ slice_range bytes (place * 16384) (place * 16384 + min (length bytes - place * 16384) 16384) → place * 16384 < length bytes → take (place * 16384) bytes ++ part ≡ take ((place + 1) * 16384) bytes
one_more place bytes part is less =
    let n = place * 16384 in
    let m = min (length bytes - n) 16384 in
    let short : n + m - n ≡ m = omega arith in
    ap (λ (l : List ℕ). take n bytes ++ l) (is ∙ ap (λ (k : ℕ). take k (drop n bytes)) short)
    ∙ (joined n m bytes ∙ elim (cases_lt (length bytes) ((place + 1) * 16384)) [
      | inl last ↦
          let all : n + m ≡ length bytes = omega (arith, last, less) in
          take_all (n + m) bytes (omega (arith, all)) ∙ sym (take_all ((place + 1) * 16384) bytes (omega (arith, last)))
      | inr full ↦
          let same : n + m ≡ (place + 1) * 16384 = omega (arith, full) in
          ap (λ (k : ℕ). take k bytes) same
    ])

-- a chunk begins within the bytes of the block
pub within : (place size : ℕ) → place < (size + 16383) / 16384 → place * 16384 < size
within place size less = omega (arith, less)

all_places : (place size : ℕ) → (size + 16383) / 16384 ≤ place → size ≤ place * 16384
all_places place size past = omega (arith, past)

none_of : {A : Type 0} (l : List A) → length l ≤ 0 → l ≡ []
none_of [] small = refl
none_of (x ∷ l) small = absurd (omega (arith, small))

-- there are as many chunks as places
chunks_made : (place size : ℕ) → size ≤ (place + 1) * 16384 → chunk_count size ≤ place + 1
chunks_made place size small = omega (arith, small)

few_chunks : (place size : ℕ) → place * 16384 < size → place < chunk_count size
few_chunks place size less = omega (arith, less)

pub own_still : {D : Type 0} (block : Block) (old new : ShelfView D) → new.written ≡ old.written → AreOf block old → AreOf block new
own_still block old new same own = ap (λ (w : List Written). written_besides block w) same ∙ own

-- what is taken by chunks is taken by those of the block
whose_own : (block : Block) (written : List Written) (slot : ℕ) → written_besides block written ≡ [] → any_in (chunks_in written) slot ≡ any_in (chunks_in (written_of block written)) slot
whose_own block written slot own =
    any_parts (is_of block) written slot ∙ (ap (λ (w : List Written). any_in (chunks_in (written_of block written)) slot || any_in (chunks_in w) slot) own ∙ or_none (any_in (chunks_in (written_of block written)) slot))
  where
    or_none : (b : Bool) → (b || false) ≡ b
    or_none true = refl
    or_none false = refl

chunks_length : (written : List Written) → length (chunks_in written) ≡ length written
chunks_length [] = refl
chunks_length (one ∷ written) = omega (arith, chunks_length written)

module _ {D : Type 0} (told : D → Option (List ℕ)) (clock : D → ℕ) (image : D → Images) (faults : D → ℕ) (block : Block) (bytes : List ℕ) where
  pub written_none : (old : State D) → IsIdle old → WrittenTo told clock image faults block bytes 0 old old
  written_none old idle = record {
    same = refl;
    own = ap (λ (w : List Written). written_besides block w) idle;
    count = let size : length (written_of block old.shelf.written) ≡ 0 = ap (λ (w : List Written). length (written_of block w)) idle in omega (arith, size);
    made = inl (refl, refl);
    holds = λ contents holding. holding;
    goes_on = disks_same told faults old old refl;
  }

  pub written_stays : (place : ℕ) (old now : State D) → WrittenTo told clock image faults block bytes place old now → Stays told clock image faults old now
  written_stays place old now written = elim written.made [
    | inl none ↦ subst (λ (n : State D). Stays told clock image faults old n) (sym none.1) (stays_itself told clock image faults old)
    | inr some ↦ stays_running told clock image faults old now written.same some.0.ran some.1 written.holds written.goes_on
  ]

  open_still : (old now : State D) → now ≡ record { id = old.id; blocks = old.blocks; shelf = now.shelf; stopped = old.stopped } → Runs faults now → IsOpen faults block old → IsOpen faults block now
  open_still old now same runs opened = record { ran = runs; is = ap (λ (n : State D). is_open ((node_in n).states block.container)) same ∙ opened.is }

  open_was : (old now : State D) → now ≡ record { id = old.id; blocks = old.blocks; shelf = now.shelf; stopped = old.stopped } → Runs faults old → IsOpen faults block now → IsOpen faults block old
  open_was old now same runs opened = record { ran = runs; is = ap (λ (n : State D). is_open ((node_in n).states block.container)) (sym same) ∙ opened.is }

  pub written_more : (place : ℕ) (part : List ℕ) (old mid new : State D) → WrittenTo told clock image faults block bytes place old mid → IsOpen faults block mid → Wrote told faults block place part mid new → part ≡ slice_range bytes (place * 16384) (place * 16384 + min (length bytes - place * 16384) 16384) → place * 16384 < length bytes
      → (place ≡ 0 → written_of block mid.shelf.written ≡ [] → MakeBytes told block part new.shelf) → ((front : List ℕ) → MakeBytes told block front mid.shelf → length front ≡ place * 16384 → MakeBytes told block (front ++ part) new.shelf)
      → ((contents : Block → Content) → NodeHolds told clock image faults contents mid → NodeHolds told clock image faults contents new) → DisksGoOn told faults mid new → WrittenTo told clock image faults block bytes (place + 1) old new
  written_more place part old mid new written opened wrote is less first next holds goes = record {
    same = wrote.same ∙ ap (λ (n : State D). record { id = n.id; blocks = n.blocks; shelf = new.shelf; stopped = n.stopped }) written.same;
    own = ap (λ (w : List Written). written_besides block w) wrote.written.listed ∙ (besides_written mid.shelf.written _ ∙ written.own);
    count = omega (arith, makes_count new.shelf.written block (length whole) all.1.made, chunks_made place (length whole) (omega (arith, length-take ((place + 1) * 16384) bytes)));
    made = inr (all.0, wrote.runs, all.1);
    holds = λ contents holding. holds contents (written.holds contents holding);
    goes_on = go_on_then told faults old mid new written.goes_on goes;
  } where
    whole : List ℕ
    whole = take ((place + 1) * 16384) bytes

    all : IsOpen faults block old × MakeBytes told block whole new.shelf
    all = elim written.made [
      | inl none ↦
          let start : place * 16384 ≡ 0 = omega (arith, none.0) in
          let empty : take (place * 16384) bytes ++ part ≡ part = ap (λ (k : ℕ). take k bytes ++ part) start in
          let few : length (written_of block mid.shelf.written) ≤ 0 = omega (arith, written.count, none.0) in
          (subst (λ (n : State D). IsOpen faults block n) none.1 opened, subst (λ (l : List ℕ). MakeBytes told block l new.shelf) (sym empty ∙ one_more place bytes part is less) (first none.0 (none_of (written_of block mid.shelf.written) few)))
      | inr some ↦
          (some.0, subst (λ (l : List ℕ). MakeBytes told block l new.shelf) (one_more place bytes part is less) (next (take (place * 16384) bytes) some.2 (omega (arith, length-take (place * 16384) bytes, less))))
    ]

  pub written_all : {T : Type 0} (done : T) (place : ℕ) (old new : State D) → WrittenTo told clock image faults block bytes place old new → (length bytes + 16383) / 16384 ≤ place → 1 ≤ length bytes → FillGoes told clock image faults block bytes old new (Ok done)
  written_all done place old new written past some = elim written.made [
    | inl none ↦ absurd (omega (arith, all_places place (length bytes) past, none.0, some))
    | inr made ↦
        (written_stays place old new written, open_still old new written.same made.1 made.0, subst (λ (l : List ℕ). MakeBytes told block l new.shelf) (take_all (place * 16384) bytes (all_places place (length bytes) past)) made.2)
  ]

  -- the call at a chunk is refused
  pub write_gives_up : (T : Type 0) (refusal : NodeRefusal) (place : ℕ) (part : List ℕ) (old mid new : State D) → WrittenTo told clock image faults block bytes place old mid → place * 16384 < length bytes → ¬ HasAlready faults block old → WriteEnds {T = T} told faults block place part mid new (Err refusal)
      → ((contents : Block → Content) → NodeHolds told clock image faults contents mid → NodeHolds told clock image faults contents new) → DisksGoOn told faults mid new → FillGoes {T = T} told clock image faults block bytes old new (Err refusal)
  write_gives_up T (refusals.Stopped count) place part old mid new written less wanted ends holds goes = (
    mid,
    (
      written_stays place old mid written,
      elim ends [
        | inl was ↦ inl (was.stop, was.same)
        | inr halts ↦ inr (record {
          ran = halts.0.ran;
          halted = halts.1.halts.halted;
          counted = halts.1.halts.counted;
          cause = inr halts.1.own;
          node = halts.1.halts.node;
          id = halts.1.halts.id;
          line = halts.1.halts.line;
          disks = inl (record { blocks = halts.1.blocks; holds = holds });
          goes_on = goes;
        })
      ],
    ),
  )
  write_gives_up T (refusals.Full used asked capacity) place part old mid new written less wanted ends holds goes = (
    mid,
    (
      written_stays place old mid written,
      (
        record {
          took = takes told clock image faults block mid ends.0 (λ has. wanted (has_before told clock image faults block old mid (written_stays place old mid written) has));
          chunks = chunks_in (written_of block mid.shelf.written);
          fewer = omega (arith, written.count, few_chunks place (length bytes) less, chunks_length (written_of block mid.shelf.written));
          full = λ slot small. ap (λ (b : Bool). is_used (node_in mid) slot || b) (sym (whose_own block mid.shelf.written slot written.own)) ∙ ends.1.whose slot small;
          used = ends.1.used;
          asked = ends.1.asked;
          capacity = ends.1.capacity;
        },
        ends.1.same,
      ),
    ),
  )
  write_gives_up T (refusals.NotOpen state) place part old mid new written less wanted ends holds goes = (mid, (written_stays place old mid written, (record { ran = ends.ran; is = ends.is; not_open = ends.not_open }, ends.same)))
  write_gives_up T refusals.OutOfMemory place part old mid new written less wanted ends holds goes = (mid, (written_stays place old mid written, inl ends.1))
  write_gives_up T refusals.NoBlock place part old mid new written less wanted ends holds goes = absurd ends
  write_gives_up T (refusals.Bad kept found) place part old mid new written less wanted ends holds goes = absurd ends

  -- and the chunks are those of the block still
  pub refused_own : (T : Type 0) (refusal : NodeRefusal) (place : ℕ) (part : List ℕ) (mid new : State D) → WriteEnds {T = T} told faults block place part mid new (Err refusal) → AreOf block mid.shelf → AreOf block new.shelf
  refused_own T (refusals.Stopped count) place part mid new ends own = elim ends [
    | inl was ↦ subst (λ (n : State D). AreOf block n.shelf) (sym was.same) own
    | inr halts ↦ own_still block mid.shelf new.shelf halts.1.halts.written own
  ]
  refused_own T (refusals.Full used asked capacity) place part mid new ends own = subst (λ (n : State D). AreOf block n.shelf) (sym ends.1.same) own
  refused_own T (refusals.NotOpen state) place part mid new ends own = subst (λ (n : State D). AreOf block n.shelf) (sym ends.same) own
  refused_own T refusals.OutOfMemory place part mid new ends own = subst (λ (n : State D). AreOf block n.shelf) (sym ends.1) own
  refused_own T refusals.NoBlock place part mid new ends own = absurd ends
  refused_own T (refusals.Bad kept found) place part mid new ends own = absurd ends
