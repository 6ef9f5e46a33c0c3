-- What adding a body promises, whatever the call that hands it on answers beside.
use Rattle.std.proofs.Common.{◌≡◌, List, ℕ, Ok, Err, subst}
use Rattle.oz_world.specs.Disk.{Seen}
use Rattle.oz_journal.specs.Appends.{Appends}

pub added : {T E U F : Type 0} (body other : List ℕ) (before after : Seen) (x : T) (y : U) → body ≡ other → Appends {T = T} {E = E} body before after (Ok x) → Appends {T = U} {E = F} other before after (Ok y)
added {T} {E} {U} {F} body other before after x y is adds = subst (λ (l : List ℕ). Appends {T = U} {E = F} l before after (Ok y)) is (record {
  settled = record {
    telling = adds.settled.telling;
    stable = adds.settled.stable;
    time = adds.settled.time;
    moments = adds.settled.moments;
    cause = record { never_falls = adds.settled.cause.never_falls; failed = tt };
  };
  tells = adds.tells;
  leaves = adds.leaves;
  acknowledged = adds.acknowledged;
})

pub failed : {T E U F : Type 0} (body other : List ℕ) (before after : Seen) (x : E) (y : F) → body ≡ other → Appends {T = T} {E = E} body before after (Err x) → Appends {T = U} {E = F} other before after (Err y)
failed {T} {E} {U} {F} body other before after x y is adds = subst (λ (l : List ℕ). Appends {T = U} {E = F} l before after (Err y)) is (record {
  settled = record {
    telling = adds.settled.telling;
    stable = tt;
    time = adds.settled.time;
    moments = tt;
    cause = record { never_falls = adds.settled.cause.never_falls; failed = adds.settled.cause.failed };
  };
  tells = λ bodies stands. tt;
  leaves = adds.leaves;
  acknowledged = λ bodies stands. tt;
})
