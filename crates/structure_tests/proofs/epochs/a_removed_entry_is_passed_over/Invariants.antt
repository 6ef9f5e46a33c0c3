use Rattle.structure_tests.proofs.epochs.a_removed_entry_is_passed_over.Given as goal

-- the ledger of the counter
abbrev pub ghosts-pass_over : goal.ghosts-pass_over
ghosts-pass_over g a = record { name = a.blank.name; parts = a.blank.parts }
