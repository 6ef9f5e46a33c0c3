use Rattle.oz_script.specs.laws.OneAnswer.{one_answer}
use Rattle.oz_script.proofs.laws.each_text_has_one_answer.Goals as goal

pub returns : goal.returns
returns c = one_answer
