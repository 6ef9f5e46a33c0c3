-- A block as the heap gives it and takes it back.
use Rattle.std.proofs.Common.{◌≡◌, ℕ, ◌+◌, ◌^◌, ◌<◌, [], ◌∷◌, refl, sym, ap, subst, ◌∙◌, arith}
use Rattle.std.proofs.alloc.Resizes.{wider}
use Rattle.std.specs.Allocator.{array_of, owned_block, HasLayout}
use Rattle.std.specs.contracts.impls.GlobalAllocator.TheImpl.{ghosts}
use Rattle.oz_epochs.specs.RawBlock.{heap, bytes, fits, past, owned}
use Rattle.oz_epochs.proofs.Held.{nowhere}
use Rattle.std.specs.Prelude.{Ok, Err}
use Rattle.std.specs.contracts.alloc.AllocError as AE
use Rattle.std.specs.contracts.result.Result as RS
use denote.Builtin.{unit}
use denote.Enum.Laws.{makes}
use denote.Laws.{Is, Makes}
use mir.Val.{Val, vunit, vstruct, vcons, vnil}
use types.Match.{live}
use base.Fml.{Fml, fsep, froom}
use base.Logic.{ent, sep, via, never, never_e}
use denote.Steps.{nothing}
use denote.Memory.{lone}
use denote.RattleType.{RattleType}
use denote.RawPtr.{Ptr, block_ptr, null_ptr}
use mir.Syntax.{ty_array}
use native.Mathlib.Nat.{zero-mul}
use prog.Capped.{capped_is}
use prog.Memory.{size, capped, align}
use prog.RawLaws.{size-raw, align-raw}
use seplogic.Ra.Ura.{Ura}
use types.Kit.{‵, ◌$◌, ◌∵◌, !, qed, done, by, move, keep, drop, rewrite, fsplit, fjoin, flt_i}
use types.Logic.{Logic, sem}

module _ (R : RattleType) where
  pub laid : (count : ℕ) → bytes R count < 2 ^ 63 → HasLayout (array_of R count) (bytes R count) (capped (align (lone R.mir)))
  laid count few = (
    ap capped (size-raw (ty_array (lone R.mir) count)) ∙ capped_is (bytes R count) (wider (bytes R count) few),
    ap capped (align-raw (ty_array (lone R.mir) count)),
  )

  abbrev pub free : Ptr → ℕ → Fml
  free start room = owned_block (ghosts.dealloc_token heap) (array_of R room) start

  whole : (o none room : ℕ) → none ≡ 0 → (o + none ≡ o) × (0 + room ≡ room)
  whole o none room e = (omega arith, omega arith)

  past_none : (b o room : ℕ) → past R b o 0 room ≡ free (block_ptr b o) room
  past_none b o room =
      let same = whole o (bytes R 0) room (zero-mul (size (lone R.mir))) in
      λ i. fsep (froom (array_of R room) b (same.0 i)) (ghosts.dealloc_token heap (array_of R (same.1 i)) (block_ptr b o))

module _ {M : Type 1} {𝓤 : Ura M} (𝓛 : Logic 𝓤) (R : RattleType) where
  pub emptied : (start : Ptr) (room : ℕ) → 0 < room → ent 𝓤 (sem 𝓛 (owned R start [] room)) (sep 𝓤 (sem 𝓛 (fits R room)) (sem 𝓛 (free R start room)))
  emptied null_ptr room full = via 𝓤 (never 𝓤) (nowhere 𝓛 (0 + room) (omega arith)) (never_e 𝓤 _)
  emptied (block_ptr b o) room full = let all : 0 + room ≡ room = omega arith in
      qed 𝓛 (‵ (owned R (block_ptr b o) [] room) ∷ []) ∵ fsplit ! $ rewrite ! 0 (λ (k : ℕ). ‵ (fits R k)) all refl $
      move ! (1 ∷ []) $ fsplit ! $ drop ! $ rewrite ! 0 (λ (F : Fml). ‵ F) (past_none R b o room) refl $ move ! (1 ∷ 0 ∷ []) $ done !

  pub filled : (start : Ptr) (room : ℕ) → bytes R room < 2 ^ 63 → ent 𝓤 (sem 𝓛 (free R start room)) (sem 𝓛 (owned R start [] room))
  filled null_ptr room few = qed 𝓛 (‵ (free R null_ptr room) ∷ []) ∵ fsplit ! $ keep ! (0 ∷ []) $ by ! (never_e 𝓤 _)
  filled (block_ptr b o) room few = qed 𝓛 (‵ (free R (block_ptr b o) room) ∷ []) ∵ rewrite ! 0 (λ (F : Fml). ‵ F) (sym (past_none R b o room)) refl $
      nothing ! $ fjoin ! $ flt_i ! (bytes R (0 + room)) (2 ^ 63) (subst (λ (k : ℕ). bytes R k < 2 ^ 63) (omega arith) few) $ fjoin ! $ done !

-- `Ok(())`, or that there was no memory
abbrev pub Taken : RattleType
Taken = RS.the_row unit AE.the_row

pub taken : {M : Type 1} {𝓤 : Ura M} (𝓛 : Logic 𝓤) → Makes 𝓛 Taken (Is Taken)
taken 𝓛 = makes (RS.the_type unit AE.the_row) (((λ x vs. tt), tt), (((λ x vs us. (tt, tt)), tt), tt)) 𝓛

abbrev pub ok : Val
ok = live 0 (vcons vunit vnil)

abbrev pub refused : Val
refused = live 1 (vcons (vstruct vnil) vnil)

pub is_ok : Is Taken (Ok tt) (ok ∷ [])
is_ok = (vunit ∷ [], (refl, ((vunit ∷ [], tt), (refl, (refl, tt)))))

pub is_refused : Is Taken (Err (record {})) (refused ∷ [])
is_refused = (vstruct vnil ∷ [], (refl, ((vstruct vnil ∷ [], tt), (refl, ((tt, (refl, tt)), tt)))))
