-- What follows where a call answers Ok.
use Rattle.std.specs.Prelude.{Result, Ok, Err, IfOk}

pub if_ok : {A E : Type 0} (r : Result A E) (P Q : A → Type 0) → IfOk r P → ((a : A) → P a → Q a) → IfOk r Q
if_ok (Ok a) P Q is so = so a is
if_ok (Err e) P Q is so = tt
