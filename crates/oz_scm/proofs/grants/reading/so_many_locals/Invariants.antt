use Rattle.std.proofs.Common.{◌≡◌, ◌-◌, []}
use Rattle.oz_scm.specs.grants.Reading.{numbers_at}
use Rattle.oz_scm.proofs.grants.reading.so_many_locals.Given as goal

abbrev pub invariant-loop : goal.invariant-loop
invariant-loop l = numbers_at l.locals.items (l.count - l.counter) l.rest ≡ numbers_at [] l.count l.bytes
