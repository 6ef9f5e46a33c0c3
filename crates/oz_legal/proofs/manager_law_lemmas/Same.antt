-- Pieces that a test takes for one are one.
use Rattle.std.proofs.Common.{◌≡◌, Bool, true, ◌&&◌, refl, subst}
use Rattle.std.proofs.lemmas.Bool.{eqb-true, eq-eqb}
use Rattle.std.specs.Bool.{Decides}
use Rattle.std.specs.Prelude.{nat_eq}
use Rattle.oz_fields.specs.declared.block.Piece.{Piece}
use Rattle.oz_replay.specs.laws.Found.{both, joined}

abbrev pub is_piece : Piece → Piece → Bool
is_piece a b = nat_eq a.block.container b.block.container && nat_eq a.block.local b.block.local && nat_eq a.length b.length

same_piece : (a b : Piece) → is_piece a b ≡ true → a ≡ b
same_piece a b e =
    let front = both (nat_eq a.block.container b.block.container && nat_eq a.block.local b.block.local) (nat_eq a.length b.length) e in
    let block = both (nat_eq a.block.container b.block.container) (nat_eq a.block.local b.block.local) front.0 in
    λ i. record {
      block = record { container = eqb-true a.block.container b.block.container block.0 i; local = eqb-true a.block.local b.block.local block.1 i };
      length = eqb-true a.length b.length front.1 i;
    }

itself : (a : Piece) → is_piece a a ≡ true
itself a = joined _ _ (joined _ _ (eq-eqb a.block.container a.block.container refl) (eq-eqb a.block.local a.block.local refl)) (eq-eqb a.length a.length refl)

pub piece_decides : (a b : Piece) → Decides (is_piece a b) (a ≡ b)
piece_decides a b = (same_piece a b, λ e. subst (λ (p : Piece). is_piece a p ≡ true) e (itself a))
