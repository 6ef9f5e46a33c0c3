-- What three answers come to.
use Rattle.std.proofs.Common.{◌≡◌, ◌∷◌, [], List, Bool, true, false, Option, Some, None, nat_le, count_by, is_none, not, ◌&&◌, if◌then◌else◌, length, refl, sym, ◌∙◌, ap, arith}
use Rattle.oz_core.specs.declared.event.Event.{Event}
use Rattle.oz_core.specs.declared.event.PutRefusal.{PutRefusal}
use Rattle.oz_core.specs.declared.opening.Opening.{Opening}
use Rattle.oz_core.specs.Steps.{GrantedBlock, is_abandoned, is_any, is_of_node, is_written}
use Rattle.oz_steps.specs.declared.fate.Fate.TheVariants as fates
use Rattle.oz_steps.specs.Grants.{AreAnswers, IsFate, fate_of, refused_so}

-- of three answers two are puts, or two are refusals
two-of-three : (one two three : Option PutRefusal)
    → nat_le 2 (count_by is_none (one ∷ two ∷ three ∷ [])) ≡ false
    → nat_le 2 (count_by (refused_so is_any) (one ∷ two ∷ three ∷ [])) ≡ true
two-of-three None None None few = sym few
two-of-three None None (Some c) few = sym few
two-of-three None (Some b) None few = sym few
two-of-three None (Some b) (Some c) few = refl
two-of-three (Some a) None None few = sym few
two-of-three (Some a) None (Some c) few = refl
two-of-three (Some a) (Some b) None few = refl
two-of-three (Some a) (Some b) (Some c) few = refl

and-so : (a b : Bool) → a ≡ true → b ≡ false → (a && not b) ≡ true
and-so a b first second = rw (first, second) refl

given-up : (o : Opening) (s : List Event) (g : GrantedBlock) (one two three : Option PutRefusal)
    → AreAnswers o s g (one ∷ two ∷ three ∷ [])
    → nat_le 2 (count_by is_none (one ∷ two ∷ three ∷ [])) ≡ false → is_abandoned o s g ≡ true
given-up o s g one two three are few =
    and-so _ (is_written s g) (ap (nat_le 2) (are.refused is_any) ∙ two-of-three one two three few) (are.written ∙ few)

by-counts : (o : Opening) (s : List Event) (g : GrantedBlock) (one two three : Option PutRefusal) (puts off : Bool)
    → AreAnswers o s g (one ∷ two ∷ three ∷ [])
    → nat_le 2 (count_by is_none (one ∷ two ∷ three ∷ [])) ≡ puts
    → nat_le 2 (count_by (refused_so is_of_node) (one ∷ two ∷ three ∷ [])) ≡ off
    → IsFate o s g (if puts then fates.Written else if off then fates.PipelineRefused else fates.ContainerRefused)
by-counts o s g one two three true off are put gone = are.written ∙ put
by-counts o s g one two three false true are put gone =
    (given-up o s g one two three are put, ap (nat_le 2) (are.refused is_of_node) ∙ gone)
by-counts o s g one two three false false are put gone =
    (given-up o s g one two three are put, ap (nat_le 2) (are.refused is_of_node) ∙ gone)

pub fate-so : (o : Opening) (s : List Event) (g : GrantedBlock) (answers : List (Option PutRefusal))
    → length answers ≡ 3 → AreAnswers o s g answers → IsFate o s g (fate_of answers)
fate-so o s g [] size are = absurd (omega (arith, size))
fate-so o s g (one ∷ []) size are = absurd (omega (arith, size))
fate-so o s g (one ∷ two ∷ []) size are = absurd (omega (arith, size))
fate-so o s g (one ∷ two ∷ three ∷ []) size are = by-counts o s g one two three _ _ are refl refl
fate-so o s g (one ∷ two ∷ three ∷ four ∷ more) size are = absurd (omega (arith, size))
