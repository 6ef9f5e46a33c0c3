-- When two blocks are one.
use Rattle.std.proofs.Common.{◌≡◌, ℕ, eqb, ltb, Bool, true, false, cond, ◌&&◌, refl, sym, ap, ◌∙◌, eqb-true, eq-eqb, arith}
use Rattle.std.proofs.lemmas.Bool.{and_parts, and_from}
use Rattle.std.specs.Ordering.{nat_cmp, ordering_then, is_eq}
use Rattle.std.specs.declared.cmp.Ordering.{Ordering}
use Rattle.std.specs.declared.cmp.Ordering.TheVariants.{Less, Equal, Greater}
use Rattle.oz_fields.specs.declared.block.Block.{Block}
use Rattle.oz_entries.specs.Node.{is_same_block}
use Rattle.oz_entries.specs.Held.{block_order}

pub eq_number : (x y : ℕ) → is_eq (nat_cmp x y) ≡ eqb x y
eq_number x y = both (ltb x y) (eqb x y) (λ less. not_equal less)
  where
    both : (l e : Bool) → (l ≡ true → e ≡ false) → is_eq (cond l Less (cond e Equal Greater)) ≡ e
    both true e differ = sym (differ refl)
    both false true differ = refl
    both false false differ = refl

    not_equal : ltb x y ≡ true → eqb x y ≡ false
    not_equal less = grind (arith, less)

then_eq : (o p : Ordering) → is_eq (ordering_then o p) ≡ (is_eq o && is_eq p)
then_eq Less p = refl
then_eq Equal p = refl
then_eq Greater p = refl

pub eq_block : (a b : Block) → is_eq (block_order a b) ≡ is_same_block a b
eq_block a b =
    then_eq (nat_cmp a.container b.container) (nat_cmp a.local b.local)
    ∙ (ap (λ (t : Bool). t && is_eq (nat_cmp a.local b.local)) (eq_number a.container b.container)
    ∙ ap (λ (t : Bool). eqb a.container b.container && t) (eq_number a.local b.local))

pub same_block : (a b : Block) → is_same_block a b ≡ true → a ≡ b
same_block a b same =
    let parts = and_parts (eqb a.container b.container) (eqb a.local b.local) same in
    let container : a.container ≡ b.container = eqb-true a.container b.container parts.0 in
    let local : a.local ≡ b.local = eqb-true a.local b.local parts.1 in
    let made : ℕ → ℕ → Block = λ c l. record { container = c; local = l } in
    ap (λ (c : ℕ). made c a.local) container ∙ ap (λ (l : ℕ). made b.container l) local

pub itself : (a : Block) → is_same_block a a ≡ true
itself a = and_from (eqb a.container a.container) (eqb a.local a.local) (eq-eqb a.container a.container refl) (eq-eqb a.local a.local refl)
