use Rattle.oz_store.specs.granted.laws.Numbers.{grant_numbered, stay_numbered}
use Rattle.oz_store.proofs.granted.laws.containers_stay_numbered.Goals as goal

pub returns-clause-all : goal.returns-clause-all
returns-clause-all c = λ opening story numbered legal. stay_numbered opening numbered story legal

pub returns-clause-granted : goal.returns-clause-granted
returns-clause-granted c = λ opening story place stripe container pipeline first count numbered legal grant. grant_numbered opening numbered story legal place stripe container pipeline first count grant
