use Rattle.oz_service.specs.laws.Looked.{a_look_sweeps_its_stripe, swept_still}
use Rattle.oz_service.proofs.looks.a_look_sweeps_its_stripe.Goals as goal

pub returns-clause-now : goal.returns-clause-now
returns-clause-now c = λ opening loaded tables stripe most start rest later pins found legal le stood pinned it let_go.
    a_look_sweeps_its_stripe opening loaded tables stripe most start rest later pins found legal le stood pinned it let_go

pub returns-clause-still : goal.returns-clause-still
returns-clause-still c = λ opening loaded stripe start story more swept. swept_still opening loaded stripe start story more swept
