use Rattle.std.proofs.Common.{sym}
use Rattle.oz_cache.specs.Places.{found}
use Rattle.oz_cache.proofs.Counting.{first_itself, first_after}
use Rattle.oz_cache.proofs.cached_rows.CachedRows.first_from.Goals as goal

pub returns-in-Some : goal.returns-in-Some
returns-in-Some c = first_itself (found c.args.self.now.rows.entries) c.args.from.now c.in-Some.cached.now (sym c.in-Some.ensures)

pub returns-in-None : goal.returns-in-None
returns-in-None c = first_after (found c.args.self.now.rows.entries) c.args.from.now (sym c.in-None.ensures) c.next.result c.next.ensures
