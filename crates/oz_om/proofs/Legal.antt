-- What follows from stories in which each event may follow.
use Rattle.std.proofs.Common.{List, [], ◌∷◌, ◌++◌}
use Rattle.oz_buffer.specs.Buffer.{AllFollow, Follows}
use Rattle.oz_core.specs.declared.event.Event.{Event}
use Rattle.oz_core.specs.declared.opening.Opening.{Opening}
use Rattle.oz_core.specs.Contents.{OpeningBytes}
use Rattle.oz_core.specs.Law.{IsLegal, IsLegalFrom}
use Rattle.oz_script.specs.declared.lines.script.Script.{Script}

module _ (Coherent : Type 0) (opening : Opening) (bytes : OpeningBytes) (script : Script) (coherent : Coherent) where
  legal_from : (before story : List Event) → AllFollow (Follows Coherent opening bytes script) before story → IsLegalFrom opening before story
  unfolding AllFollow IsLegalFrom
  legal_from before [] follow = tt
  legal_from before (event ∷ story) follow = (follow.0.enabled coherent, legal_from (before ++ event ∷ []) story follow.1)

  pub legal_of : (story : List Event) → AllFollow (Follows Coherent opening bytes script) [] story → IsLegal opening story
  legal_of story follow = legal_from [] story follow
