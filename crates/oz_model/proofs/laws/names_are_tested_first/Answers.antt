use Rattle.oz_requests.specs.Names.{volume_in}
use Rattle.oz_model.specs.Answers.{Answers}
use Rattle.oz_model.specs.Scope.{scope_of}
use Rattle.oz_model.specs.laws.Order.{refused_by_name}
use Rattle.oz_model.specs.laws.Codes.{code_alone}
use Rattle.oz_model.proofs.laws.names_are_tested_first.Goals as goal

pub returns : goal.returns
unfolding Answers
returns c = λ namespace request reply code bad answers.
    let scope = scope_of namespace (volume_in request) in
    code_alone scope request reply code (refused_by_name scope request code bad) answers
