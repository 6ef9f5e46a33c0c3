use Rattle.oz_store.specs.granted.laws.Grants.{grant_below, grant_from, grant_within}
use Rattle.oz_store.specs.granted.laws.Numbers.{block_fits}
use Rattle.oz_store.proofs.granted.laws.grants_fit.Goals as goal

pub returns-clause-from : goal.returns-clause-from
returns-clause-from c = λ opening story place stripe container pipeline first count legal grant. grant_from opening story legal place stripe container pipeline first count grant

pub returns-clause-within : goal.returns-clause-within
returns-clause-within c = λ opening story place stripe container pipeline first count legal grant. grant_within opening story legal place stripe container pipeline first count grant

pub returns-clause-below : goal.returns-clause-below
returns-clause-below c = λ opening story place stripe container pipeline first count legal grant. grant_below opening story legal place stripe container pipeline first count grant

pub returns-clause-blocks : goal.returns-clause-blocks
returns-clause-blocks c = λ opening story stripe pipeline block some numbered legal of. block_fits opening numbered story legal some stripe block pipeline of
