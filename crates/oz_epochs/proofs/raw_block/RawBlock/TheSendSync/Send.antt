-- A raw block may go to another thread where its items may.
use Rattle.std.proofs.Common.{ℕ, ◌+◌, List, [], ◌∷◌}
use Rattle.std.proofs.Crossing.{frees}
use Rattle.std.specs.Allocator.{array_of}
use Rattle.std.specs.Prelude.{length}
use Rattle.oz_epochs.specs.RawBlock.{heap, owned}
use Rattle.oz_epochs.specs.contracts.raw_block.RawBlock as C
use base.Fraction.{full_share}
use base.Shift.{Keyless}
use denote.Memory.{mem}
use denote.Param.Send.{IsSend, owning_send, part_keyless, plain_send}
use denote.RattleType.{RattleType}
use denote.RawPtr.{Ptr, block_ptr, null_ptr, coded_ptr, ptr_own, rawptr_pure}
use mir.Syntax.{ty_ptr}
use types.SemTy.{cells}

module _ (T : RattleType) (s : IsSend T) where
  each : (items : List T.Denot) (b o : ℕ) → Keyless (cells (mem T) items b o)
  each [] b o = tt
  each (item ∷ items) b o = (part_keyless T s full_share item b o, each items b (o + (mem T).size))

  all : (start : Ptr) (items : List T.Denot) (room : ℕ) → Keyless (owned T start items room)
  all null_ptr items room = tt
  all (block_ptr b o) items room = (tt, (each items b o, (tt, frees.frees heap (array_of T (length items + room)) (block_ptr b o))))

pub send : (T : RattleType) → IsSend T → IsSend (C.the_row T)
send T s = owning_send (C.the_type T) (plain_send Ptr coded_ptr (ty_ptr ∷ []) ptr_own rawptr_pure, tt) (λ p. all T s p.start p.items p.room) (λ k p w. tt)
