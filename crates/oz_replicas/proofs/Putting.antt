-- What a put comes to, of a block whose chunks are written.
use Rattle.std.proofs.Common.{◌≡◌, inl, inr, ℕ, Bool, false, cond, List, [], length, Option, Result, Ok, Err, OnOk, IfSome, refl, sym, ◌∙◌, subst}
use Rattle.std.proofs.lemmas.Bool.{false≢true}
use Rattle.oz_datanode.specs.Datanode.{State, Runs, DisksGoOn, is_halted, node_in, slots_of}
use Rattle.oz_datanode.specs.Pairs.{Content, Has, NodeHolds, with_content}
use Rattle.oz_datanode.specs.Writing.{MakeBytes, IsOpen, PutEnds, contents_with, intact}
use Rattle.oz_datanode.specs.declared.refusal.NodeRefusal.{NodeRefusal}
use Rattle.oz_datanode.specs.declared.refusal.NodeRefusal.TheVariants as refusals
use Rattle.oz_entries.specs.Node.{is_held}
use Rattle.oz_fields.specs.declared.block.Block.{Block}
use Rattle.oz_block.specs.declared.shelf.written.Written.{Written}
use Rattle.oz_block.specs.shelf.Written.{row_of, written_besides}
use Rattle.oz_world.specs.Disk.{Images}
use Rattle.oz_replicas.specs.Nodes.{AreOf, PutGoes}
use Rattle.oz_replicas.specs.Outcomes.{HasAlready}
use Rattle.oz_replicas.specs.Stays.{IsIdle, Stays}
use Rattle.oz_replicas.proofs.Chunks.{own_still}
use Rattle.oz_replicas.proofs.Staying.{runs_parts, stays_itself, stays_on, takes}

module _ {D : Type 0} (told : D → Option (List ℕ)) (clock : D → ℕ) (image : D → Images) (faults : D → ℕ) (block : Block) (bytes : List ℕ) where
  put_holds : (mid new : State D) → is_held (node_in mid) block ≡ false → Runs faults mid → IfSome (told (slots_of mid)) (Has (intact bytes) (row_of mid.shelf.written block (length bytes))) → ((contents : Block → Content) (content : Content) → is_halted mid ≡ false → IfSome (told (slots_of mid)) (Has content (row_of mid.shelf.written block (length bytes))) → NodeHolds told clock image faults contents mid → NodeHolds told clock image faults (contents_with block content contents mid) new)
      → (contents : Block → Content) → NodeHolds told clock image faults contents mid → NodeHolds told clock image faults (with_content block (intact bytes) contents) new
  put_holds mid new absent runs has pairs contents holding =
      subst (λ (b : Bool). NodeHolds told clock image faults (cond b contents (with_content block (intact bytes) contents)) new) absent (pairs contents (intact bytes) (runs_parts faults mid runs).0 has holding)

  has_still : (mid new : State D) → told (slots_of new) ≡ told (slots_of mid) → IfSome (told (slots_of mid)) (Has (intact bytes) (row_of mid.shelf.written block (length bytes))) → IfSome (told (slots_of new)) (Has (intact bytes) (row_of mid.shelf.written block (length bytes)))
  has_still mid new same has = subst (λ (o : Option (List ℕ)). IfSome o (Has (intact bytes) (row_of mid.shelf.written block (length bytes)))) (sym same) has

  pub put_goes : {T : Type 0} (mid new : State D) (result : Result T NodeRefusal) → IsOpen faults block mid → MakeBytes told block bytes mid.shelf → ¬ HasAlready faults block mid → PutEnds told clock image faults block (length bytes) mid new result
      → ((contents : Block → Content) (content : Content) → is_halted mid ≡ false → IfSome (told (slots_of mid)) (Has content (row_of mid.shelf.written block (length bytes))) → NodeHolds told clock image faults contents mid → NodeHolds told clock image faults (contents_with block content contents mid) new) → DisksGoOn told faults mid new → PutGoes told clock image faults block bytes mid new result
  put_goes mid new (Ok done) opened made wanted ends pairs goes =
      let took = takes told clock image faults block mid opened wanted in
      let puts = ends.put took.absent in (
        mid,
        (
          stays_itself told clock image faults mid,
          record {
            took = took;
            held = record {
              row = row_of mid.shelf.written block (length bytes);
              size = refl;
              has = has_still mid new puts.synced.told made.has;
              changed = puts.changed;
              runs = ends.runs;
              id = ends.id;
              line = ends.line;
            };
            holds = put_holds mid new took.absent opened.ran made.has pairs;
            goes_on = goes;
          },
        ),
      )
  put_goes mid new (Err (refusals.Stopped count)) opened made wanted ends pairs goes =
      let took = takes told clock image faults block mid opened wanted in (
        mid,
        (
          stays_itself told clock image faults mid,
          elim ends [
            | inl was ↦ inl (was.stop, was.same)
            | inr halts ↦ inr (record {
              ran = opened.ran;
              halted = halts.2.halts.halted;
              counted = halts.2.halts.counted;
              cause = halts.2.halts.cause;
              node = halts.2.halts.node;
              id = halts.2.halts.id;
              line = halts.2.halts.line;
              disks = inr (record {
                took = took;
                row = row_of mid.shelf.written block (length bytes);
                size = refl;
                has = has_still mid new halts.2.slots made.has;
                journal = halts.2.journal;
                holds = put_holds mid new took.absent opened.ran made.has pairs;
              });
              goes_on = goes;
            })
          ],
        ),
      )
  put_goes mid new (Err (refusals.Full used asked capacity)) opened made wanted ends pairs goes = absurd ends
  put_goes mid new (Err (refusals.NotOpen state)) opened made wanted ends pairs goes =
      (mid, (stays_itself told clock image faults mid, (record { ran = ends.0.ran; is = ends.0.is; not_open = ends.0.not_open }, ends.0.same)))
  put_goes mid new (Err refusals.NoBlock) opened made wanted ends pairs goes = absurd (false≢true (sym ends.made ∙ made.made))
  put_goes mid new (Err (refusals.Bad kept found)) opened made wanted ends pairs goes = absurd ends
  put_goes mid new (Err refusals.OutOfMemory) opened made wanted ends pairs goes =
      (mid, (stays_itself told clock image faults mid, inr (opened.ran, ends.3, goes)))

  -- the chunks that are left are those of the block
  pub put_own : {T : Type 0} (mid new : State D) (result : Result T NodeRefusal) → PutEnds told clock image faults block (length bytes) mid new result → AreOf block mid.shelf → AreOf block new.shelf
  put_own mid new (Ok done) ends own = subst (λ (w : List Written). written_besides block w ≡ []) (sym (ends.written ∙ own)) refl
  put_own mid new (Err (refusals.Stopped count)) ends own = elim ends [
    | inl was ↦ subst (λ (n : State D). AreOf block n.shelf) (sym was.same) own
    | inr halts ↦ own_still block mid.shelf new.shelf halts.2.halts.written own
  ]
  put_own mid new (Err (refusals.Full used asked capacity)) ends own = absurd ends
  put_own mid new (Err (refusals.NotOpen state)) ends own = subst (λ (n : State D). AreOf block n.shelf) (sym ends.0.same) own
  put_own mid new (Err refusals.NoBlock) ends own = subst (λ (n : State D). AreOf block n.shelf) (sym ends.same) own
  put_own mid new (Err (refusals.Bad kept found)) ends own = absurd ends
  put_own mid new (Err refusals.OutOfMemory) ends own = own_still block mid.shelf new.shelf ends.3.written own

  -- what was done before it is nothing that is noted
  pub after_filling : {T : Type 0} (old mid new : State D) (result : Result T NodeRefusal) → Stays told clock image faults old mid → PutGoes told clock image faults block bytes mid new result → PutGoes told clock image faults block bytes old new result
  after_filling old mid new (Ok done) stays goes = (goes.0, (stays_on told clock image faults old mid goes.0 stays goes.1.0, goes.1.1))
  after_filling old mid new (Err refusal) stays goes = (goes.0, (stays_on told clock image faults old mid goes.0 stays goes.1.0, goes.1.1))

  -- nothing that was written is left once it is put
  pub put_idle : {T : Type 0} (mid new : State D) (result : Result T NodeRefusal) → PutEnds told clock image faults block (length bytes) mid new result → AreOf block mid.shelf → OnOk result (IsIdle new)
  put_idle mid new (Ok done) ends own = ends.written ∙ own
  put_idle mid new (Err refusal) ends own = tt
