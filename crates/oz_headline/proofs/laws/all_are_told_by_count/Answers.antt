use Rattle.oz_headline.proofs.Counting.{all_told, others}
use Rattle.oz_headline.proofs.laws.all_are_told_by_count.Goals as goal

pub returns-clause-all : goal.returns-clause-all
returns-clause-all c opening bytes script story numbered fits many = all_told opening bytes script story numbered fits many

pub returns-clause-others : goal.returns-clause-others
returns-clause-others c opening bytes script story client numbered fits other = others opening bytes script story numbered fits client other
