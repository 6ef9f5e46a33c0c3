use Rattle.oz_headline.proofs.Deletes.{deletes}
use Rattle.oz_headline.proofs.History.{answers, asks, replies}
use Rattle.oz_headline.proofs.Moments.{all_are_by}
use Rattle.oz_headline.proofs.Reading.{reads}
use Rattle.oz_headline.proofs.laws.one_history_says_the_rest.Goals as goal

pub returns-clause-replies : goal.returns-clause-replies
returns-clause-replies c opening story legal = replies opening story legal

pub returns-clause-asks : goal.returns-clause-asks
returns-clause-asks c opening bytes script story legal fits = asks opening bytes script story legal fits

pub returns-clause-answers : goal.returns-clause-answers
returns-clause-answers c opening bytes script story legal fits = answers opening bytes script story legal fits

pub returns-clause-reads : goal.returns-clause-reads
returns-clause-reads c opening bytes script story fits = reads opening bytes script story fits

pub returns-clause-deletes : goal.returns-clause-deletes
returns-clause-deletes c opening story log legal = deletes opening story log legal

pub returns-clause-moments : goal.returns-clause-moments
returns-clause-moments c opening story clock legal by = all_are_by opening clock story legal by
