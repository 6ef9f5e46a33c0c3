-- What holds of a good result.
use Rattle.std.proofs.Common.{Result, Ok, Err, IfOk}

pub if_ok : {X E : Type 0} (r : Result X E) (P Q : X → Type 0) → IfOk r P → ((x : X) → P x → Q x) → IfOk r Q
if_ok (Ok x) P Q p from = from x p
if_ok (Err e) P Q p from = tt
