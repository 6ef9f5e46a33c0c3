-- A block as the heap enlarges it.
use Rattle.std.proofs.Common.{◌≡◌, ℕ, ◌+◌, ◌-◌, ◌^◌, ◌<◌, ◌≤◌, List, [], ◌∷◌, refl, sym, ap, subst, length, arith}
use Rattle.std.specs.Allocator.{array_of, block_with_items}
use Rattle.std.specs.contracts.impls.GlobalAllocator.TheImpl.{ghosts}
use Rattle.oz_epochs.specs.RawBlock.{heap, bytes, past, owned}
use base.Fml.{Fml, fsep, feq, froom}
use base.Fraction.{full_share}
use base.Logic.{ent, never_e}
use denote.Array.{Array}
use denote.ArrayMemory.{Single, Array-apart, Array-whole}
use denote.Memory.{mem, shares, part_at}
use denote.RattleType.{RattleType}
use denote.RawPtr.{Ptr, block_ptr, null_ptr}
use seplogic.Ra.Ura.{Ura}
use types.Kit.{‵, ◌$◌, ◌∵◌, !, qed, done, by, move, keep, drop, use1, rewrite, fsplit, fsplit3, fjoin, fjoin3, feq_i, flt_i}
use types.Logic.{Logic, sem}
use types.SemTy.{cells}
use types.Share.{parts}

in_a_row : (R : RattleType) (items : List R.Denot) (b o : ℕ) → cells (mem R) items b o ≡ parts (mem R) (shares R) full_share items b o
in_a_row R [] b o = refl
in_a_row R (x ∷ items) b o = ap (fsep (part_at R full_share x b o)) (in_a_row R items b (o + (mem R).size))

-- a block with so much room for these items, as the heap sees it
abbrev pub block : (R : RattleType) → Ptr → ℕ → ℕ → List R.Denot → Fml
block = block_with_items (ghosts.dealloc_token heap)

module _ {M : Type 1} {𝓤 : Ura M} (𝓛 : Logic 𝓤) (R : RattleType) (items : List R.Denot) (count capacity : ℕ) (all : count ≡ length items) where
  pub packed : (b o room : ℕ) → capacity ≡ length items + room → ent 𝓤 (sem 𝓛 (owned R (block_ptr b o) items room)) (sem 𝓛 (block R (block_ptr b o) count capacity items))
  packed b o room filled = let left : room ≡ capacity - count = omega arith in let whole : count + room ≡ capacity = omega arith in
      qed 𝓛 (‵ (owned R (block_ptr b o) items room) ∷ []) ∵ fsplit ! $ drop ! $ fsplit ! $ rewrite ! 0 (λ (F : Fml). ‵ F) (in_a_row R items b o) refl $
      feq_i ! ℕ (length items) count (sym all) $ fjoin ! $ use1 𝓛 (‵ (part_at (Array R count) full_share items b o)) (Array-whole 𝓛 R full_share count items b o) $ move ! (1 ∷ []) $
      rewrite ! 0 (λ (k : ℕ). ‵ (past R b o k room)) (sym all) refl $ fsplit ! $ rewrite ! 0 (λ (k : ℕ). ‵ (froom (array_of R k) b (o + bytes R count))) left refl $
      rewrite ! 1 (λ (k : ℕ). ‵ (ghosts.dealloc_token heap (array_of R k) (block_ptr b o))) whole refl $ move ! (2 ∷ 0 ∷ 1 ∷ []) $ fjoin3 ! $ done !

  pub unpacked : Single R.mir → count ≤ capacity → bytes R capacity < 2 ^ 63 → (start : Ptr) → ent 𝓤 (sem 𝓛 (block R start count capacity items)) (sem 𝓛 (owned R start items (capacity - count)))
  unpacked one le few null_ptr = qed 𝓛 (‵ (block R null_ptr count capacity items) ∷ []) ∵ fsplit ! $ keep ! (0 ∷ []) $ by ! (never_e 𝓤 _)
  unpacked one le few (block_ptr b o) = let room : ℕ = capacity - count in let whole : capacity ≡ length items + room = omega arith in
      qed 𝓛 (‵ (block R (block_ptr b o) count capacity items) ∷ []) ∵ fsplit3 ! $
      use1 𝓛 (‵ (fsep (feq ℕ (length items) count) (parts (mem R) (shares R) full_share items b o))) (Array-apart 𝓛 R full_share one count items b o) $ fsplit ! $ drop ! $
      rewrite ! 0 (λ (F : Fml). ‵ F) (sym (in_a_row R items b o)) refl $ rewrite ! 2 (λ (k : ℕ). ‵ (ghosts.dealloc_token heap (array_of R k) (block_ptr b o))) whole refl $
      rewrite ! 1 (λ (k : ℕ). ‵ (froom (array_of R room) b (o + bytes R k))) all refl $ move ! (1 ∷ 2 ∷ []) $ fjoin ! $ move ! (1 ∷ 0 ∷ []) $ fjoin ! $
      flt_i ! (bytes R (length items + room)) (2 ^ 63) (subst (λ (k : ℕ). bytes R k < 2 ^ 63) whole few) $ fjoin ! $ done !
