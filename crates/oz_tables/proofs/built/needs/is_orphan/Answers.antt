use Rattle.oz_tables.proofs.built.needs.is_orphan.Goals as goal

pub returns-then-branch : goal.returns-then-branch
returns-then-branch c = λ orphan. c.in_ok-is_based.ensures c.if-branch.true orphan.0 orphan.1
