use Rattle.structure_tests.proofs.epochs.thousands_of_entries_find_memory_one_by_one.Given as goal

-- the ledger of the counter
abbrev pub ghosts-fill_and_take : goal.ghosts-fill_and_take
ghosts-fill_and_take g a = record { name = a.blank.name; parts = a.blank.parts }
