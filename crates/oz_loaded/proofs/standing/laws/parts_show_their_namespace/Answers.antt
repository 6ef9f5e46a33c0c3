use Rattle.oz_loaded.proofs.standing_lemmas.Shown.{shows}
use Rattle.oz_loaded.proofs.standing.laws.parts_show_their_namespace.Goals as goal

pub returns : goal.returns
returns c = λ all parts namespace are stands. shows all parts are namespace stands
