-- Looking for a slot that a block of a container uses, as a loop does.
use Rattle.std.proofs.Common.{◌≡◌, ℕ, suc, ◌+◌, ◌||◌, Bool, false, Option, refl, sym, ap, subst, ◌∙◌, arith}
use Rattle.oz_fields.specs.declared.block.Block.{Block}
use Rattle.oz_entries.specs.Node.{uses_below}
use Rattle.oz_entries.specs.laws.Drops.{is_theirs}

pub none_yet : (users : ℕ → Option Block) (container : ℕ) → uses_below users container 0 ≡ false
unfolding uses_below
none_yet users container = refl

pub nor_this : (users : ℕ → Option Block) (container i : ℕ) (found : Bool) → uses_below users container i ≡ false → found ≡ is_theirs container (users i) → found ≡ false → uses_below users container (i + 1) ≡ false
unfolding uses_below
nor_this users container i found before is not =
    let next : suc i ≡ i + 1 = omega arith in
    let more : uses_below users container (suc i) ≡ false = ap (λ (b : Bool). b || uses_below users container i) (sym is ∙ not) ∙ before in
    subst (λ (n : ℕ). uses_below users container n ≡ false) next more
