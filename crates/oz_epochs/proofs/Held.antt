-- What the proofs of the functions of `RawBlock` share.
use Rattle.std.proofs.Common.{◌≡◌, ℕ, ◌+◌, ◌*◌, ◌^◌, ◌<◌, List, [], ◌∷◌, refl, sym, ap, subst, length, arith}
use Rattle.oz_epochs.specs.RawBlock.{bytes, past, owned}
use Rattle.oz_epochs.specs.declared.raw_block.RawBlock.{RawBlock}
use Rattle.oz_epochs.specs.contracts.raw_block.RawBlock as C
use base.Fml.{Fml, Lft, Share, GName, feq, fat, fbor, fobor, fobs, fauth, flft}
use base.Fraction.{full_share}
use base.Logic.{SProp, ent, sep, never}
use borrow.Table.OneValue.{part_out, part_in}
use denote.Laws.{Is, shows}
use denote.Memory.{mem, lone, part_at}
use denote.RattleType.{RattleType}
use denote.RawPtr.{Ptr, block_ptr, ptr_val, in_a_block}
use denote.Steps.{only, peeks, owned as owns_it}
use denote.Struct.Laws.{RawPtr-laws}
use denote.Struct.Owning.{shape, to}
use denote.Struct.OwningLaws.{Tells-lowered}
use denote.Struct.Struct.{Struct, Struct-Makes}
use Rattle.std.proofs.alloc.Resizes.{times_capped, wider}
use mir.Syntax.{Opd as Operand, op2, mul, unsigned, size_of, w64}
use prog.Memory.{size, capped}
use prog.Wp.{Env}
use types.ByLocal.{is}
use types.Run.{Opd, Rv, bin, size_word}
use mir.Val.{vint, Val, vstruct, vcons, vnil}
use seplogic.Ra.Ura.{Ura}
use types.Kit.{Goal, Soaks, Seq, Step, step, Item, ‵, ◌⊛◌, some, ◌$◌, ◌∵◌, !, qed, done, by, move, drop, use1, split, pick, rewrite, fsplit, fjoin, feq_l, flt_i}
use types.Logic.{Logic, sem}
use types.Mut.{open_ref}
use types.SemTy.{cells, Body}

-- the machine value of a raw block that begins there
abbrev pub word : Ptr → Val
word start = vstruct (vcons (ptr_val start) vnil)

module _ (R : RattleType) where
  abbrev pub Row : RattleType
  Row = C.the_row R

  -- the word lies in memory
  abbrev pub names : Ptr → ℕ → ℕ → Fml
  names start b o = fat full_share (lone Row.mir) b o (word start)

module _ {M : Type 1} {𝓤 : Ura M} {𝓛 : Logic 𝓤} {K : Type 0} {Γ : List (Item 𝓤)} {G : Goal 𝓤 𝓛.H} where
  -- what a raw block owns is all that a value of the type needs
  pub placed : K → (R : RattleType) (p : RawBlock R.Denot)
      → Step K 𝓛 (‵ ((Row R).own_val p (word p.start ∷ [])) ∷ Γ) G (‵ (owned R p.start p.items p.room) ∷ Γ) G
  placed t R p = step (λ rest.
      let Fields : RattleType = Struct (shape (C.the_type R)) in
      owns_it t Fields (Is Fields) (Struct-Makes 𝓛 (shape (C.the_type R)) ((λ x vs. tt), tt)) (to (C.the_type R) p) (word p.start ∷ []) ((ptr_val p.start ∷ [], tt), (refl, (refl, tt))) $
      fjoin t $ rest)

-- room that is there lies in a block
pub nowhere : {M : Type 1} {𝓤 : Ura M} (𝓛 : Logic 𝓤) (count : ℕ) → 0 < count → ent 𝓤 (sem 𝓛 (feq ℕ count 0)) (never 𝓤)
nowhere 𝓛 count full = qed 𝓛 (‵ (feq ℕ count 0) ∷ []) ∵ feq_l ! (λ none. absurd (omega arith))

module _ {M : Type 1} {𝓤 : Ura M} (𝓛 : Logic 𝓤) (R : RattleType) (p : RawBlock R.Denot) (b o : ℕ) where
  pub apart : ent 𝓤 (sem 𝓛 (part_at (Row R) full_share p b o)) (sep 𝓤 (sem 𝓛 (names R p.start b o)) (sem 𝓛 (owned R p.start p.items p.room)))
  apart = qed 𝓛 (‵ (part_at (Row R) full_share p b o) ∷ []) ∵
      use1 𝓛 (some (λ (v : Val). ‵ (fat full_share (lone (Row R).mir) b o v) ⊛ ‵ ((Row R).own_val p (v ∷ [])))) (part_out 𝓛 (Row R) refl full_share p b o) $ pick ! (λ v.
      split ! $ move ! (1 ∷ []) $ peeks ! (Row R) (Is (Row R)) (shows 𝓛 (Row R)) p (v ∷ []) (λ is. fsplit ! $ drop ! $
      rewrite ! 1 (λ (w : Val). ‵ (fat full_share (lone (Row R).mir) b o w)) (ap only (Tells-lowered (C.the_type R) (RawPtr-laws, tt) p (v ∷ []) is)) refl $
      move ! (1 ∷ 0 ∷ []) $ done !))

  module _ (b' o' : ℕ) (e : p.start ≡ block_ptr b' o') where
    pub together : ent 𝓤 (sep 𝓤 (sem 𝓛 (names R (block_ptr b' o') b o)) (sem 𝓛 (owned R (block_ptr b' o') p.items p.room))) (sem 𝓛 (part_at (Row R) full_share p b o))
    together = qed 𝓛 (‵ (names R (block_ptr b' o') b o) ∷ ‵ (owned R (block_ptr b' o') p.items p.room) ∷ []) ∵
        rewrite ! 0 (λ (s : Ptr). ‵ (names R s b o)) (sym e) refl $ rewrite ! 1 (λ (s : Ptr). ‵ (owned R s p.items p.room)) (sym e) refl $
        move ! (1 ∷ []) $ placed ! R p $ move ! (1 ∷ 0 ∷ []) $ by ! (part_in 𝓛 (Row R) refl full_share p b o (word p.start))

module _ {M : Type 1} {𝓤 : Ura M} {𝓛 : Logic 𝓤} {K : Type 0} {Γ : List (Item 𝓤)} {G : Goal 𝓤 𝓛.H} where
  -- a `&mut` to room that is there is opened
  pub opened : K → Soaks G → (R : RattleType) {κ : Lft} {q : Share} {γ : GName} (p : RawBlock R.Denot) (b o : ℕ) → 0 < length p.items + p.room
      → ((b' o' : ℕ) → p.start ≡ block_ptr b' o' → Seq K 𝓛 (‵ (names R (block_ptr b' o') b o) ∷ ‵ (owned R (block_ptr b' o') p.items p.room)
      ∷ ‵ (fobor κ q (Body (mem (Row R)) b o γ)) ∷ ‵ (fobs γ ((Row R).coded.code p)) ∷ ‵ (fauth γ ((Row R).coded.code p)) ∷ Γ) G)
      → Seq K 𝓛 (‵ (fobs γ ((Row R).coded.code p)) ∷ ‵ (fbor κ (Body (mem (Row R)) b o γ)) ∷ ‵ (flft κ q) ∷ Γ) G
  opened t z R p b o full k = open_ref t z (mem (Row R)) $
      use1 𝓛 (‵ (names R p.start b o) ⊛ ‵ (owned R p.start p.items p.room)) (apart 𝓛 R p b o) $ split t $ move t (1 ∷ []) $
      in_a_block t p.start (λ s. owned R s p.items p.room) (nowhere 𝓛 (length p.items + p.room) full) (λ b' o' e. move t (1 ∷ []) $ rewrite t 0 (λ (s : Ptr). ‵ (names R s b o)) e refl $ k b' o' e)

-- other items, as many as before
module _ {M : Type 1} {𝓤 : Ura M} (𝓛 : Logic 𝓤) (R : RattleType) (p : RawBlock R.Denot) (b o b' o' : ℕ) (e : p.start ≡ block_ptr b' o') where
  abbrev pub around : SProp 𝓤
  around = sep 𝓤 (sem 𝓛 (names R (block_ptr b' o') b o)) (sem 𝓛 (past R b' o' (length p.items) p.room))

  pub refilled : bytes R (length p.items + p.room) < 2 ^ 63 → (items : List R.Denot) → length items ≡ length p.items
      → ent 𝓤 (sep 𝓤 (sem 𝓛 (cells (mem R) items b' o')) around) (sem 𝓛 (part_at (Row R) full_share (record p { items = items }) b o))
  refilled few items as_many = qed 𝓛 (‵ (cells (mem R) items b' o') ∷ (‵ (names R (block_ptr b' o') b o) ⊛ ‵ (past R b' o' (length p.items) p.room)) ∷ []) ∵
      move ! (1 ∷ []) $ split ! $ move ! (1 ∷ []) $ rewrite ! 0 (λ (k : ℕ). ‵ (past R b' o' k p.room)) (sym as_many) refl $ move ! (2 ∷ 0 ∷ []) $ fjoin ! $
      flt_i ! (bytes R (length items + p.room)) (2 ^ 63) (subst (λ (k : ℕ). bytes R (k + p.room) < 2 ^ 63) (sym as_many) few) $ fjoin ! $ move ! (1 ∷ 0 ∷ []) $
      by ! (together 𝓛 R (record p { items = items }) b o b' o' e)

module _ {M : Type 1} {𝓤 : Ura M} {𝓛 : Logic 𝓤} {K : Type 0} {Γ : List (Item 𝓤)} {E : Env 𝓤 𝓛.H} where
  -- the bytes of so many items, as the code counts them
  pub counts : K → (R : RattleType) (count : ℕ) → bytes R count < 2 ^ 63 → {x : Operand} → Opd K 𝓛 Γ E x (vint w64 count)
      → Rv K 𝓛 Γ E (op2 (mul unsigned) x (size_of (lone R.mir))) (vint w64 (bytes R count))
  counts t R count few x =
      let same : count * capped (size (lone R.mir)) ≡ bytes R count = times_capped count (size (lone R.mir)) few in
      is t (bin t x (size_word t) (record { fits = subst (λ (k : ℕ). k < 2 ^ 64) (sym same) (wider (bytes R count) few) })) (ap (vint w64) same)
