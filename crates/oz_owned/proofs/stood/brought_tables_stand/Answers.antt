use Rattle.oz_owned.specs.laws.Standing.{brought_all, brought_more, brought_one}
use Rattle.oz_owned.proofs.stood.brought_tables_stand.Goals as goal

pub returns-clause-all : goal.returns-clause-all
returns-clause-all c = λ opening loaded newest tables stripe most story listed legal are stood low written. brought_all opening loaded stripe story
    newest listed are stood legal most tables low written

pub returns-clause-more : goal.returns-clause-more
returns-clause-more c = λ opening loaded newest tables next stripe most later story listed legal are stood low le it written. brought_more opening
    loaded stripe story newest listed are stood legal most later tables next low le it written

pub returns-clause-one : goal.returns-clause-one
returns-clause-one c = λ opening loaded newest tables next stripe most later story batch listed legal are stood low le it only_one written. brought_one
    opening loaded stripe story newest listed are stood legal most later tables next batch low le it only_one written
