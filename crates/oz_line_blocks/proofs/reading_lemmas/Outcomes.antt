-- A clause of an error.
use Rattle.std.proofs.Common.{Result, Ok, Err}
use Rattle.std.specs.Prelude.{OnErr}

-- what holds at any rate holds at an error
pub on_err_of : {A E : Type 0} (came : Result A E) (P : Type 0) → P → OnErr came P
on_err_of (Ok a) P holds = tt
on_err_of (Err e) P holds = holds
