use Rattle.oz_headline.proofs.Puts.{a_put_is_named}
use Rattle.oz_headline.proofs.laws.a_put_names_its_key.Goals as goal

pub returns : goal.returns
returns c opening bytes script story line volume bucket key payload it legal fits apart there other puts done =
    a_put_is_named opening bytes script story line volume bucket key payload it legal fits apart there other puts done
