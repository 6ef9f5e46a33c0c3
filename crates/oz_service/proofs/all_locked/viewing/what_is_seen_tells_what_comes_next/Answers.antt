use Rattle.oz_service.specs.laws.Viewed.{done_as_seen, next_as_seen}
use Rattle.oz_service.proofs.all_locked.viewing.what_is_seen_tells_what_comes_next.Goals as goal

pub returns-clause-next : goal.returns-clause-next
returns-clause-next c = next_as_seen

pub returns-clause-done : goal.returns-clause-done
returns-clause-done c = done_as_seen
