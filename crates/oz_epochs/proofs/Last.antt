-- Some items apart from the others, and the room behind the last.
use Rattle.std.proofs.Common.{◌≡◌, ℕ, zero, suc, ◌+◌, ◌<◌, List, [], ◌∷◌, ◌++◌, refl, ap, ◌∙◌, subst, length, arith}
use Rattle.std.proofs.RawLayout.{as_raw, as_written}
use Rattle.std.proofs.ptr.Rows.{next}
use Rattle.std.specs.Allocator.{array_of}
use Rattle.std.specs.Prelude.{slice_get, slice_set, Some}
use Rattle.std.specs.contracts.impls.GlobalAllocator.TheImpl.{ghosts}
use Rattle.oz_epochs.specs.RawBlock.{heap, bytes, past}
use base.Fml.{Fml, fsep, froom}
use base.Fraction.{full_share}
use base.Logic.{SProp, ent, sep, emp, via, emp∗, snd∗, assoc', assoc∗, mono_r}
use denote.Memory.{mem, lone, part_at}
use denote.RattleType.{RattleType}
use denote.RawPtr.{block_ptr}
use lib.ListN.{length-append}
use mir.Syntax.{Ty, ty_array}
use native.Mathlib.Nat.{suc-mul, zero-mul}
use prog.Memory.{size}
use seplogic.Ra.Ura.{Ura}
use types.Kit.{‵, ◌⊛◌, ◌$◌, ◌∵◌, !, qed, done, move, use1, use2, split}
use types.Logic.{Logic, sem}
use types.SemTy.{cells}

-- a list has an item at an index, between others
pub record Parted {X : Type 0} (items : List X) (index : ℕ) : Type 0 where
  pub before : List X
  pub item : X
  pub after : List X
  pub are : items ≡ before ++ item ∷ after
  pub place : index ≡ length before
  pub there : slice_get items index ≡ Some item
  pub changed : (next : X) → slice_set items index next ≡ before ++ next ∷ after

pub parted : {X : Type 0} (items : List X) (index : ℕ) → index < length items → Parted items index
parted [] index within = absurd (omega arith)
parted (x ∷ items) zero within = record { before = []; item = x; after = items; are = refl; place = refl; there = refl; changed = λ next. refl }
parted {X} (x ∷ items) (suc index) within =
    let p : Parted items index = parted items index (omega arith) in let put : List X → List X = λ t. x ∷ t in
    record { before = x ∷ p.before; item = p.item; after = p.after; are = ap put p.are; place = ap suc p.place; there = p.there; changed = λ next. ap put (p.changed next) }

-- a list with an item has a last one
pub ends : {X : Type 0} (items : List X) → 0 < length items → (before : List X) × ((item : X) × (items ≡ before ++ item ∷ []))
ends [] full = absurd (omega arith)
ends (x ∷ []) full = ([], (x, refl))
ends (x ∷ y ∷ items) full = let behind = ends (y ∷ items) (omega arith) in (x ∷ behind.0, (behind.1.0, ap (λ (t : List _). x ∷ t) behind.1.1))

shifted : (o a b s : ℕ) → b ≡ a + s → o + b ≡ o + a + s
shifted o a b s e = omega arith

further : (at o a b s : ℕ) → at ≡ o + b → b ≡ a + s → at ≡ o + s + a
further at o a b s e f = omega arith

here : (at o a : ℕ) → at ≡ o + a → a ≡ 0 → o ≡ at
here at o a e f = omega arith

module _ (R : RattleType) where
  abbrev pub one : ℕ
  one = size (lone R.mir)

  -- what lies behind so many items and one more
  abbrev pub beyond : ℕ → ℕ → ℕ → ℕ → Fml
  beyond b o count room =
      fsep (froom (array_of R room) b (o + bytes R count + one)) (ghosts.dealloc_token heap (array_of R (count + suc room)) (block_ptr b o))

  pub beyond_is : (b o room : ℕ) (items : List R.Denot) (item : R.Denot) → past R b o (length (items ++ item ∷ [])) room ≡ beyond b o (length items) room
  beyond_is b o room items item =
      let count : ℕ = length items in let all : count + 1 + room ≡ count + suc room = omega arith in
      ap (λ (k : ℕ). past R b o k room) (length-append items (item ∷ [])) ∙
      (λ i. fsep (froom (array_of R room) b (shifted o (bytes R count) (bytes R (count + 1)) one (next count one) i)) (ghosts.dealloc_token heap (array_of R (all i)) (block_ptr b o)))

module _ {M : Type 1} {𝓤 : Ura M} (𝓛 : Logic 𝓤) (R : RattleType) (b : ℕ) where
  abbrev held : List R.Denot → ℕ → SProp 𝓤
  held items o = sem 𝓛 (cells (mem R) items b o)

  abbrev lies : R.Denot → ℕ → SProp 𝓤
  lies x o = sem 𝓛 (part_at R full_share x b o)

  pub apart : (items others : List R.Denot) (o at : ℕ) → at ≡ o + bytes R (length items) → ent 𝓤 (held (items ++ others) o) (sep 𝓤 (held items o) (held others at))
  apart [] others o at e = subst (λ (k : ℕ). ent 𝓤 (held others o) (sep 𝓤 (emp 𝓤) (held others k))) (here at o (bytes R 0) e (zero-mul (one R))) (emp∗ 𝓤 (held others o))
  apart (x ∷ xs) others o at e =
      via 𝓤 (sep 𝓤 (lies x o) (sep 𝓤 (held xs (o + one R)) (held others at)))
      (mono_r 𝓤 (lies x o) (apart xs others (o + one R) at (further at o (bytes R (length xs)) (bytes R (suc (length xs))) (one R) e (suc-mul (length xs) (one R)))))
      (assoc' 𝓤 (lies x o) (held xs (o + one R)) (held others at))

  pub together : (items others : List R.Denot) (o at : ℕ) → at ≡ o + bytes R (length items) → ent 𝓤 (sep 𝓤 (held items o) (held others at)) (held (items ++ others) o)
  together [] others o at e = subst (λ (k : ℕ). ent 𝓤 (sep 𝓤 (emp 𝓤) (held others k)) (held others o)) (here at o (bytes R 0) e (zero-mul (one R))) (snd∗ 𝓤 (emp 𝓤) (held others o))
  together (x ∷ xs) others o at e =
      via 𝓤 (sep 𝓤 (lies x o) (sep 𝓤 (held xs (o + one R)) (held others at)))
      (assoc∗ 𝓤 (lies x o) (held xs (o + one R)) (held others at))
      (mono_r 𝓤 (lies x o) (together xs others (o + one R) at (further at o (bytes R (length xs)) (bytes R (suc (length xs))) (one R) e (suc-mul (length xs) (one R)))))

  -- the first place that is empty, and the others
  pub room_apart : (o room : ℕ) → ent 𝓤 (sem 𝓛 (froom (array_of R (suc room)) b o)) (sep 𝓤 (sem 𝓛 (froom (lone R.mir) b o)) (sem 𝓛 (froom (array_of R room) b (o + one R))))
  room_apart o room =
      let τ : Ty = lone R.mir in let behind : ℕ = o + one R in
      qed 𝓛 (‵ (froom (array_of R (suc room)) b o) ∷ []) ∵ as_written ! (ty_array τ (suc room)) b o $
      use1 𝓛 (‵ (froom τ b o) ⊛ ‵ (froom (ty_array τ room) b behind)) (𝓛.laws.room_uncons τ room b o) $ split ! $ move ! (1 ∷ []) $
      as_raw ! (ty_array τ room) b behind $ move ! (1 ∷ 0 ∷ []) $ done !

  pub room_together : (o room : ℕ) → ent 𝓤 (sep 𝓤 (sem 𝓛 (froom (lone R.mir) b o)) (sem 𝓛 (froom (array_of R room) b (o + one R)))) (sem 𝓛 (froom (array_of R (suc room)) b o))
  room_together o room =
      let τ : Ty = lone R.mir in let behind : ℕ = o + one R in
      qed 𝓛 (‵ (froom τ b o) ∷ ‵ (froom (array_of R room) b behind) ∷ []) ∵ move ! (1 ∷ []) $ as_written ! (ty_array τ room) b behind $
      move ! (1 ∷ 0 ∷ []) $ use2 𝓛 (‵ (froom (ty_array τ (suc room)) b o)) (𝓛.laws.room_cons τ room b o) $ as_raw ! (ty_array τ (suc room)) b o $ done !
