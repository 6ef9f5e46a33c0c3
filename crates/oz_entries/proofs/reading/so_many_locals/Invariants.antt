use Rattle.std.proofs.Common.{◌≡◌, ◌-◌, []}
use Rattle.oz_rows.specs.Reading.{owner_at}
use Rattle.oz_entries.specs.Reading.{each_at}
use Rattle.oz_entries.proofs.reading.so_many_locals.Given as goal

abbrev pub invariant-loop : goal.invariant-loop
invariant-loop l = each_at (λ before. owner_at) l.locals.items (l.count - l.counter) l.rest ≡ each_at (λ before. owner_at) [] l.count l.bytes
