use Rattle.oz_service.specs.laws.Drained.{holds_it_up, is_holding}
use Rattle.oz_service.proofs.drains.who_holds.Goals as goal

pub returns : goal.returns
returns c = λ opening bytes loaded story start line legal store ordered is swept away dn. (
  λ it. holds_it_up opening bytes loaded story start line legal store ordered is swept away dn it,
  λ it. is_holding opening bytes loaded story start line legal store ordered is swept away dn it,
)
