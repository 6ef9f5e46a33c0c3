use Rattle.request_parts.proofs.knowing.is_alike.Goals as goal

pub decide_purge-requires-clause-known : goal.decide_purge-requires-clause-known
decide_purge-requires-clause-known c = c.in_ok-are.ensures.0 c.if-are.true
