-- What a reply over rows promises.
use Rattle.oz_decision.specs.Meets.{Stand}
use Rattle.oz_model.specs.Answers.{AnswersIn}
use Rattle.oz_model.specs.Scope.{scope_of}
use Rattle.oz_namespace.specs.declared.namespace.Namespace.{Namespace}
use Rattle.oz_requests.specs.declared.reply.Reply.{Reply}
use Rattle.oz_requests.specs.declared.request.Request.{Request}
use Rattle.oz_requests.specs.Names.{volume_in}
use Rattle.oz_rows.specs.RowMaps.{Rows}
use Rattle.oz_sound.specs.Sound.{IsSoundButRenames}

-- this is so of the namespace that the rows stand for
abbrev pub ShowsThat : Rows → (Namespace → Type 0) → Type 0
ShowsThat rows Holds = (namespace : Namespace) → Stand IsSoundButRenames rows namespace → Holds namespace

-- the reply is that of one thread, whichever namespace the rows stand for
abbrev pub IsReply : Rows → Request → Reply → Type 0
IsReply rows request reply =
    ShowsThat rows (λ namespace. AnswersIn (scope_of namespace (volume_in request)) request reply)
