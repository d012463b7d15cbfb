use Rattle.compare.proofs.Answered.{answered, says_nothing}
use Rattle.compare.specs.Answered.{Compares}
use Rattle.compare.proofs.program.compare_input.Goals as goal

pub returns-in-Ok-clause-answers : goal.returns-in-Ok-clause-answers
returns-in-Ok-clause-answers g c =
    answered (g.R.Read.remaining c.args.input.now) (g.O.Write.contents c.args.output.now) (g.O.Write.contents c.compare_trees.new.output) c.in-Ok.both.0 c.in-Ok.both.1 c.compare_trees.result
    c.in-Ok.ensures.left c.compare_trees.ensures.answers

pub returns-in-Err-clause-answers : goal.returns-in-Err-clause-answers
returns-in-Err-clause-answers g c = says_nothing (Compares (g.R.Read.remaining c.args.input.now) (g.O.Write.contents c.args.output.now) (g.O.Write.contents c.args.output.now)) c.in-Err.status c.in-Err.ensures.no_answer
