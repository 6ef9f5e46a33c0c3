-- What tests of a view say.
use Rattle.std.proofs.Common.{◌≡◌, ◌↔◌, ℕ, zero, suc, ◌<◌, Bool, true, false, not, ◌==◌, List, [], ◌∷◌, length}
use Rattle.std.proofs.Common.{get_or, Some, Contains, refl, sym, ◌∙◌, ap, subst, arith}
use Rattle.std.proofs.lemmas.Bool.{and_from, and_parts, eqb-true, eq-eqb, false_from_ne_true, not-true, not_from_false}
use Rattle.std.proofs.lemmas.List.Folds.{Any-from_list_any, list_any-from_Any}
use Rattle.std.proofs.lemmas.Option.{get_or_from_slice_get, none-some, same_Some, slice_get_within}
use Rattle.std.specs.List.{slice_get}
use Rattle.oz_repl.specs.declared.repl.view.View.{View}
use Rattle.oz_repl.specs.repl.View.{HoldsAt, LacksAt, held_at}
use Rattle.oz_repl.specs.repl.Listed.{is_among, is_holder_at, is_lacking_at, is_up_at}

-- ---- a local id among others

pub among : (locals : List ℕ) (local : ℕ) → is_among locals local ≡ true → Contains locals local
among locals local is =
    let any = Any-from_list_any (λ it. it == local) locals is in
    let same : any.1 ≡ local = eqb-true any.1 local any.4 in
    (any.0, any.2, subst (λ (it : ℕ). get_or locals any.0 it ≡ it) same any.3)

pub is_found : (locals : List ℕ) (local : ℕ) → Contains locals local → is_among locals local ≡ true
is_found locals local (k, lt, at) = list_any-from_Any (λ it. it == local) locals (k, local, lt, at, eq-eqb local local refl)

pub not_among : (locals : List ℕ) (local : ℕ) → is_among locals local ≡ false → Contains locals local → ⊥
not_among locals local none there = let is = is_found locals local there in absurd cc

pub is_not_found : (locals : List ℕ) (local : ℕ) → (Contains locals local → ⊥) → is_among locals local ≡ false
is_not_found locals local none = false_from_ne_true (is_among locals local) (λ is. none (among locals local is))

-- ---- who is up

pub up_at : (ups : List Bool) (place : ℕ) → get_or ups place false ≡ true → slice_get ups place ≡ Some true
up_at [] place e = absurd cc
up_at (up ∷ ups) zero e = ap Some e
up_at (up ∷ ups) (suc place) e = up_at ups place e

pub is_up : (ups : List Bool) (place : ℕ) → slice_get ups place ≡ Some true → get_or ups place false ≡ true
is_up ups place e = get_or_from_slice_get ups place true false e

-- ---- who holds and who lacks a block

module _ (view : View) (local place : ℕ) where
  pub holds_at : is_holder_at view local place ≡ true → HoldsAt view local place
  holds_at is =
      let both = and_parts (is_up_at view place) (is_among (held_at view place) local) is in
      record { up = up_at view.up place both.0; held = among (held_at view place) local both.1 }

  pub is_holder : HoldsAt view local place → is_holder_at view local place ≡ true
  is_holder at = and_from (is_up_at view place) (is_among (held_at view place) local) (is_up view.up place at.up) (is_found (held_at view place) local at.held)

  pub lacks_at : is_lacking_at view local place ≡ true → LacksAt view local place
  lacks_at is =
      let both = and_parts (is_up_at view place) (not (is_among (held_at view place) local)) is in
      record { up = up_at view.up place both.0; lacking = not_among (held_at view place) local (not-true (is_among (held_at view place) local) both.1) }

  pub is_lacking : LacksAt view local place → is_lacking_at view local place ≡ true
  is_lacking at =
      and_from (is_up_at view place) (not (is_among (held_at view place) local)) (is_up view.up place at.up)
      (not_from_false (is_among (held_at view place) local) (is_not_found (held_at view place) local at.lacking))

-- ---- three tests, by place

within_three : (ups : List Bool) (place : ℕ) → length ups ≡ 3 → slice_get ups place ≡ Some true → place < 3
within_three ups place long is = let lt = slice_get_within ups place true is in omega (arith, lt, long)

pub by_place : (view : View) (local : ℕ) (one two three : Bool) → length view.up ≡ 3 → one ≡ is_holder_at view local 0
    → two ≡ is_holder_at view local 1 → three ≡ is_holder_at view local 2
    → (place : ℕ) → (slice_get (one ∷ two ∷ three ∷ []) place ≡ Some true) ↔ HoldsAt view local place
by_place view local one two three long a b c zero = (λ is. holds_at view local 0 (sym a ∙ same_Some one true is), λ at. ap Some (a ∙ is_holder view local 0 at))
by_place view local one two three long a b c (suc zero) = (
  λ is. holds_at view local 1
      (sym b ∙ same_Some two true is),
  λ at. ap Some (b ∙ is_holder view local 1 at),
)
by_place view local one two three long a b c (suc (suc zero)) = (
  λ is. holds_at view local 2
      (sym c ∙ same_Some three true is),
  λ at. ap Some (c ∙ is_holder view local 2 at),
)
by_place view local one two three long a b c (suc (suc (suc place))) =
    (λ is. absurd (none-some true is), λ at. let lt = within_three view.up (suc (suc (suc place))) long at.up in absurd (omega (arith, lt)))
