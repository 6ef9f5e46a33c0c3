-- What holds of a result that is Ok.
use Rattle.std.proofs.Common.{◌≡◌, Option, None, Some, Result, Ok, Err, IfOk, refl}

pub ok-so : {A E : Type 0} (P Q : A → Type 0) (result : Result A E) → ((a : A) → P a → Q a) → IfOk result P → IfOk result Q
ok-so P Q (Ok a) so is = so a is
ok-so P Q (Err e) so is = tt

pub none-if : {A : Type 0} (o : Option A) → ((a : A) → o ≡ Some a → ⊥) → o ≡ None
none-if None not = refl
none-if (Some a) not = absurd (not a refl)
