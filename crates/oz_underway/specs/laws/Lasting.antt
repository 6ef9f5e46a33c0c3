-- What a line asked last says how often it asked.
use Rattle.std.proofs.Common.{◌≡◌, ◌≢◌, ℕ, Bool, true, false, ◌==◌, cond, List, [], length, Option, None, Some, refl, sym, ap, ◌∙◌}
use Rattle.std.proofs.lemmas.Bool.{eqb-true}
use Rattle.oz_script.specs.declared.lines.script.Script.{Script}
use Rattle.oz_requests.specs.declared.request.AskId.{AskId}
use Rattle.oz_core.specs.declared.event.Event.{Event}
use Rattle.oz_core.specs.declared.limits.TheConstants.{SERVICE_CLIENT}
use Rattle.oz_core.specs.declared.opening.Opening.{Opening}
use Rattle.oz_core.specs.Asks.{asks_of, last_ask}
use Rattle.oz_core.specs.Contents.{OpeningBytes}
use Rattle.oz_buffer.specs.Buffer.{AllFollow, Follows}
use Rattle.oz_underway.specs.UnderWay.{IsLast}
use Rattle.oz_underway.specs.laws.Asks.{asks_count, none_last, step_of_last}

module _ (Coherent : Type 0) (opening : Opening) (bytes : OpeningBytes) (script : Script) where
  pub times_of_last : (client line asked : ℕ) (story : List Event) → client ≢ SERVICE_CLIENT → Coherent
      → AllFollow (Follows Coherent opening bytes script) [] story → (last : Option AskId)
      → IsLast last asked → last_ask client line story ≡ last → asks_count client line story ≡ asked
  times_of_last client line asked story other coherent all None none is = ap length (none_last (asks_of client line story) is) ∙ sym none
  times_of_last client line asked story other coherent all (Some id) step is =
      sym (step_of_last Coherent opening bytes script client line other story coherent all id is) ∙ step

pub last_of_times : (client line asked : ℕ) → IsLast (cond (asked == 0) None (Some (record { client = client; line = line; step = asked }))) asked
last_of_times client line asked = by (asked == 0) refl
  where
    by : (t : Bool) → (asked == 0) ≡ t → IsLast (cond t None (Some (record { client = client; line = line; step = asked }))) asked
    by true is = eqb-true asked 0 is
    by false is = refl
