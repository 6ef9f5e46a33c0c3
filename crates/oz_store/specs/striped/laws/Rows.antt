-- What namespaces are for which rows stand.
use Rattle.std.proofs.Common.{◌≡◌, ℕ, List, length, ap}
use Rattle.oz_namespace.specs.declared.namespace.Namespace.{Namespace}
use Rattle.oz_requests.specs.declared.reply.Reply.{Reply}
use Rattle.oz_requests.specs.declared.request.Request.{Request}
use Rattle.oz_model.specs.Answers.{after}
use Rattle.oz_rows.specs.RowMaps.{Rows}
use Rattle.oz_sound.specs.StandsFor.{StandsFor}
use Rattle.oz_sound.specs.laws.Oneness.{one_namespace}
use Rattle.oz_store.specs.striped.Shares.{HasAllStripes}

pub standing_has_all : (rows : Rows) (namespace : Namespace) → StandsFor rows namespace → HasAllStripes namespace
standing_has_all rows namespace stand = ap (λ (l : List ℕ). length l) stand.stripes

pub left_as_it_was : (rows : Rows) (part : Namespace) (request : Request) (reply : Reply) → StandsFor rows part → StandsFor rows (after part request reply)
    → after part request reply ≡ part
left_as_it_was rows part request reply one other = one_namespace rows (after part request reply) part other one
