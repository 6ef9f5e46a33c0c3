use Rattle.oz_om.proofs.telling.bring_down.Given as goal

-- the ledger of the counter
abbrev pub ghosts-bring_down_in : goal.ghosts-bring_down_in
ghosts-bring_down_in g a = record { name = a.blank.name; parts = a.blank.parts }
