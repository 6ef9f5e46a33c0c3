-- What a raw block owns, for private calls and their proofs.
use Rattle.std.specs.Prelude.{ℕ, ◌+◌, ◌*◌, ◌^◌, List, length}
use Rattle.std.specs.Allocator.{array_of}
use Rattle.std.specs.Global.{Global}
use Rattle.std.specs.contracts.impls.GlobalAllocator.TheImpl.{ghosts}
use base.Fml.{Lft, Fml, fsep, feq, flt, froom}
use denote.Memory.{mem, lone}
use denote.RattleType.{RattleType}
use denote.RawPtr.{Ptr, block_ptr, null_ptr}
use denote.Sharing.{said, beside}
use denote.Slice.{elements_shared}
use prog.Memory.{size}
use types.SemTy.{cells}

-- all handles to the heap are this one
abbrev pub heap : Global
heap = record { memory = record { seal = tt } }

module _ (R : RattleType) where
  abbrev pub bytes : ℕ → ℕ
  bytes count = count * size (lone R.mir)

  abbrev pub fits : ℕ → Fml
  fits count = flt (bytes count) (2 ^ 63)

  -- what lies past so many items: room for others, and the right to give the whole block back
  abbrev pub past : ℕ → ℕ → ℕ → ℕ → Fml
  past b o count room =
      fsep (froom (array_of R room) b (o + bytes count))
      (ghosts.dealloc_token heap (array_of R (count + room)) (block_ptr b o))

  -- A block has its items from its start on. Where there is none, there is no room.
  abbrev pub owned : Ptr → List R.Denot → ℕ → Fml
  owned (block_ptr b o) items room =
      fsep (fits (length items + room)) (fsep (cells (mem R) items b o) (past b o (length items) room))
  owned null_ptr items room = feq ℕ (length items + room) 0

  -- what is seen of the items through a `&`
  abbrev pub lent : Ptr → List R.Denot → ℕ → Lft → Fml
  lent (block_ptr b o) items room = beside (said (fits (length items + room))) (elements_shared R items b o)
  lent null_ptr items room = said (feq ℕ (length items + room) 0)
