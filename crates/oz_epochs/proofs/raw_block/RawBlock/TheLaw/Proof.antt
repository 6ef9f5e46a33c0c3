-- A `&` to a raw block is a `&` to each item that they hold.
use Rattle.std.specs.Prelude.{ℕ, ◌+◌, List, [], ◌∷◌, length}
use mathlib.Core.List.{◌++◌}
use seplogic.Ra.Ura.{Ura}
use base.Fml.{Lft, Incl, Incl-trans, Fml, ftrue, fsep, feq}
use base.Fraction.{full_share}
use contract.BorrowLft.{meet_⊑_left}
use denote.Memory.{mem, part_at, shared_of}
use denote.Param.Laws.{Laws}
use denote.Param.Shared.{copy_shared}
use denote.RattleType.{RattleType}
use denote.RawPtr.{Ptr, block_ptr, null_ptr}
use denote.Shares.{Shares-less}
use denote.Sharing.{ShrLaws, said}
use denote.SharingLaws.{beside_shr_laws, said_shr_laws}
use denote.Slice.{elements_shared, elements_shr_laws}
use denote.Struct.Field.{RawPtr-field}
use denote.Struct.Laws.{RawPtr-copy}
use denote.Struct.Lending.{Lends, Lends-both, Lends-first, Lends-nothing, Lends-said, of_Lends}
use types.Logic.{Logic}
use types.SemTy.{cells}
use Rattle.oz_epochs.specs.RawBlock.{fits, owned, lent, past}
use Rattle.oz_epochs.specs.contracts.raw_block.RawBlock as C
use Rattle.oz_epochs.proofs.raw_block.RawBlock.TheLaw.Statement.{statement}

module _ (T : RattleType) (L : Laws T) where
  again : (p : Ptr) (items : List T.Denot) (room : ℕ) → ShrLaws (lent T p items room)
  again (block_ptr b o) items room =
      beside_shr_laws (said (fits T (length items + room))) (elements_shared T items b o)
      (said_shr_laws (fits T (length items + room)) tt) (elements_shr_laws T L.shr_laws items b o)
  again null_ptr items room = said_shr_laws (feq ℕ (length items + room) 0) tt

  module _ {M : Type 1} {𝓤 : Ura M} (𝓛 : Logic 𝓤) (l : Lft) (le : Incl l T.lives) where
    each : (items : List T.Denot) (b o : ℕ) → Lends 𝓛 (cells (mem T) items b o) (elements_shared T items b o) l
    each [] b o = Lends-nothing 𝓛 ftrue l
    each (item ∷ items) b o =
        let next : ℕ = o + (mem T).size in
        Lends-both 𝓛 (part_at T full_share item b o) (cells (mem T) items b next) (shared_of T item b o) (elements_shared T items b next) l
        (λ κ ts. Shares-less 𝓛 T T.lives l le (L.shares 𝓛) item κ ts b o) (each items b next)

    all : (p : Ptr) (items : List T.Denot) (room : ℕ) → Lends 𝓛 (owned T p items room) (lent T p items room) l
    all (block_ptr b o) items room =
        let few : Fml = fits T (length items + room) in
        Lends-both 𝓛 few (fsep (cells (mem T) items b o) (past T b o (length items) room)) (said few) (elements_shared T items b o) l
        (Lends-said 𝓛 few tt l)
        (Lends-first 𝓛 (cells (mem T) items b o) (past T b o (length items) room) (elements_shared T items b o) l (each items b o))
    all null_ptr items room = Lends-said 𝓛 (feq ℕ (length items + room) 0) tt l

pub shares : (T : RattleType) (L : Laws T) → statement T L
shares T L =
    of_Lends (C.struct T) (C.the_codes T.Denot T.coded) (C.the_heap T) (C.the_lent T) (λ d p. again T L d.start d.items d.room) (copy_shared RawPtr-field RawPtr-copy, tt)
    (λ M 𝓤 𝓛 d p. all T L 𝓛 (C.the_row T).lives (Incl-trans (meet_⊑_left (T.lives ++ []) _) (meet_⊑_left T.lives [])) d.start d.items d.room)
