use Rattle.model.proofs.Alike.Answers.{one_answer}
use Rattle.model.proofs.laws.secrets.shape_keeps_answers.Goals as goal

pub returns : goal.returns
returns c = one_answer
