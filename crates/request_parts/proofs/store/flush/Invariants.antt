use Rattle.request_parts.proofs.store.flush.Given as goal

-- the ledger of the counter
abbrev pub ghosts-bring_down : goal.ghosts-bring_down
ghosts-bring_down a = record { name = a.blank.name; parts = a.blank.parts }
