use Rattle.std.proofs.Common.{◌≡◌, ◌∙◌, Option, None, IfOk, subst, sym, ap, rules}
use Rattle.oz_names.specs.declared.code.Code.{Code}
use Rattle.oz_requests.specs.Names.{name_fault}
use Rattle.oz_model.specs.Answers.{AnswersIn, Replies}
use Rattle.oz_model.specs.Refusals.{missing, first_of}
use Rattle.oz_model.specs.laws.Order.{refused_so, refused_by_name, refused_missing, refused_by_row}
use Rattle.oz_model.proofs.answering.answered.Goals as goal

pub returns-in-Some-clause-reply : goal.returns-in-Some-clause-reply
returns-in-Some-clause-reply c =
    let scope = c.args.scope in
    let request = c.args.request.now in
    let code = c.in-Some.code in
    subst (AnswersIn scope request) (sym (ap (λ it. it.reply) c.refused.ensures)) (refused_so scope request code (refused_by_name scope request code (sym c.name_fault.ensures ∙ c.in-Some.is)))

pub returns-in-Some-missing-clause-reply : goal.returns-in-Some-missing-clause-reply
returns-in-Some-missing-clause-reply c =
    let scope = c.args.scope in
    let request = c.args.request.now in
    let code = c.in-Some-missing.code in
    let named : name_fault request ≡ None = search rules in
    subst (AnswersIn scope request) (sym (ap (λ it. it.reply) c.refused-in-Some-missing.ensures)) (refused_so scope request code (refused_missing scope request code named (sym c.missing.ensures ∙ c.in-Some-missing.is)))

pub returns-clause-reply : goal.returns-clause-reply
returns-clause-reply c =
    let scope = c.args.scope in
    let request = c.args.request.now in
    let named : name_fault request ≡ None = search rules in
    let there : first_of (missing scope request) ≡ None = search rules in
    subst (λ (o : Option Code). IfOk c.by_row.result (λ it. Replies o scope request it.reply)) (sym (refused_by_row scope request named there)) c.by_row.ensures.reply
