-- What edits of what was written leave in order, by what is seen of the disk.
use Rattle.std.proofs.Common.{◌≡◌, ℕ, ◌||◌, Bool, false, cond, not, List, filter, Option, ap, sym, subst}
use Rattle.oz_chunk.specs.Taken.{is_taken}
use Rattle.oz_entries.specs.Held.{any_in}
use Rattle.oz_world.specs.Disk.{Images, Seen, TellsAsBefore, seen}
use Rattle.oz_block.specs.declared.shelf.written.Written.{Written}
use Rattle.oz_block.specs.shelf.Shelf.{ShelfView, Rests, AreSettled}
use Rattle.oz_block.specs.shelf.Written.{chunks_in}
use Rattle.oz_block.proofs.shelf_lemmas.Resting.{let_go_rests, forget_rests}

module _ {D : Type 0} (told : D → Option (List ℕ)) (clock : D → ℕ) (image : D → Images) (faults : D → ℕ) where
  abbrev pub at : D → Seen
  at disk = seen (told disk) (clock disk) (image disk) (faults disk)

  pub let_go_is : (used : ℕ → Bool) (test : Written → Bool) (old new : ShelfView D) → Rests used old (at old.slots.disk) → ((s : ℕ) → is_taken new.slots.taken s ≡ cond (any_in (chunks_in (filter test old.written)) s) false (is_taken old.slots.taken s)) → new.written ≡ filter (λ one. not (test one)) old.written → new.slots.disk ≡ old.slots.disk
      → Rests used new (at new.slots.disk)
  let_go_is used test old new rests free left disk = let_go_rests used test old new (at old.slots.disk) (at new.slots.disk) rests free left (ap told disk) (subst (λ (d : D). AreSettled used (at d)) (sym disk) rests.settled)

  pub forgot_is : (used later : ℕ → Bool) (test : Written → Bool) (old new : ShelfView D) → ((s : ℕ) → later s ≡ (used s || any_in (chunks_in (filter test old.written)) s)) → Rests used old (at old.slots.disk) → AreSettled later (at old.slots.disk) → new.slots ≡ old.slots → new.written ≡ filter (λ one. not (test one)) old.written → Rests later new (at new.slots.disk)
  forgot_is used later test old new more rests settled same left =
      let disk : new.slots.disk ≡ old.slots.disk = ap (λ (s : _). s.disk) same in
      forget_rests used later test old new (at old.slots.disk) (at new.slots.disk) rests more same left (ap told disk) (subst (λ (d : D). AreSettled later (at d)) (sym disk) settled)

  pub tells_on : (disk between after : D) → between ≡ disk → TellsAsBefore (told between) (told after) → TellsAsBefore (told disk) (told after)
  tells_on disk between after same tells = subst (λ (d : D). TellsAsBefore (told d) (told after)) same tells
