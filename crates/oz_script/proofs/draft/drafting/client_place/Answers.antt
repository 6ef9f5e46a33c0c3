use Rattle.std.proofs.Common.{◌∙◌, List, ℕ}
use Rattle.std.specs.Str.{bytes_eq}
use Rattle.oz_script.proofs.draft_lemmas.Places.{position_else}
use Rattle.oz_script.proofs.draft.drafting.client_place.Goals as goal

pub returns : goal.returns
returns c = c.unwrap_or.ensures ∙ rw c.len.ensures (position_else (λ (client : List ℕ). bytes_eq client c.args.name.now) c.args.clients.now c.spoken_place.result c.spoken_place.ensures)
