use Rattle.oz_service.specs.laws.Dated.{left_by_rows}
use Rattle.oz_service.proofs.drains.when_a_block_left_is_told_by_tables.Goals as goal

pub returns : goal.returns
returns c = λ opening bytes loaded story stripe since block rows store legal own stand left decided used. left_by_rows opening bytes loaded store
    story legal stripe block own rows since stand left decided used
