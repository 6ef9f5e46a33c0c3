-- A seat comes back from a noter that had it.
use Rattle.std.proofs.Common.{◌≡◌, Result, Ok, Err, IfOk, OnErr, sym, ap, ◌∙◌}
use Rattle.std.specs.Borrow.{GName}
use Rattle.oz_node_events.specs.Noting.{IsSameNoter, NotingView}

-- what is behind the reference by now is the seat that came back
pub seat_back : {S : Type 0} (name back : GName) (made after : NotingView) (now : S) (given : (x : S) × (name ≡ back → x ≡ now))
    → made.reference ≡ name → IsSameNoter made after → back ≡ after.reference → given.0 ≡ now
seat_back name back made after now given of_name same is =
    given.1 (sym of_name ∙ (sym (ap (λ (v : NotingView). v.reference) same.same) ∙ sym is))

-- what follows from both outcomes of a call
pub by_outcome : {A E : Type 0} {P : A → Type 0} {Q R : Type 0} (r : Result A E) → IfOk r P → OnErr r Q → ((a : A) → P a → R) → (Q → R) → R
by_outcome (Ok a) ok err first second = first a ok
by_outcome (Err e) ok err first second = second err

pub ok_then : {A E : Type 0} {P Q : A → Type 0} (r : Result A E) → IfOk r P → ((a : A) → P a → Q a) → IfOk r Q
ok_then (Ok a) ok then = then a ok
ok_then (Err e) ok then = tt
