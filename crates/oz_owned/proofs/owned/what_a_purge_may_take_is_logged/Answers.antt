use Rattle.oz_owned.specs.laws.Purged.{may_go_logged}
use Rattle.oz_owned.proofs.owned.what_a_purge_may_take_is_logged.Goals as goal

pub returns : goal.returns
returns c = λ opening bytes loaded story stripe local go first block of_row store legal all own its whole among.
    may_go_logged opening bytes loaded store story legal stripe local go all first own its of_row whole block among
