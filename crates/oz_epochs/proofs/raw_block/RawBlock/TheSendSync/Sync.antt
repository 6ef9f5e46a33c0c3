-- A raw block may be seen from several threads where its items may.
use Rattle.std.proofs.Common.{ℕ, ◌+◌, List, [], ◌∷◌}
use Rattle.oz_epochs.specs.RawBlock.{lent}
use Rattle.oz_epochs.specs.contracts.raw_block.RawBlock as C
use base.Fml.{Lft}
use base.Shift.{Keyless}
use denote.Memory.{mem}
use denote.Param.Send.{IsSync, struct_sync, plain_sync}
use denote.RattleType.{RattleType}
use denote.RawPtr.{Ptr, block_ptr, null_ptr, coded_ptr, ptr_own, rawptr_pure}
use denote.Slice.{elements_shared}
use denote.Struct.Owning.{shape, to}
use mir.Syntax.{ty_ptr}

module _ (T : RattleType) (s : IsSync T) (κ : Lft) where
  each : (items : List T.Denot) (b o : ℕ) → Keyless (elements_shared T items b o κ)
  each [] b o = tt
  each (item ∷ items) b o = (s.shared item b o κ, each items b (o + (mem T).size))

  all : (start : Ptr) (items : List T.Denot) (room : ℕ) → Keyless (lent T start items room κ)
  all null_ptr items room = tt
  all (block_ptr b o) items room = (tt, each items b o)

pub sync : (T : RattleType) → IsSync T → IsSync (C.the_row T)
sync T s = record {
  shared = λ p b o κ. ((struct_sync (shape (C.the_type T)) (plain_sync Ptr coded_ptr (ty_ptr ∷ []) ptr_own rawptr_pure, tt)).shared (to (C.the_type T) p) b o κ, all T s κ p.start p.items p.room);
}
