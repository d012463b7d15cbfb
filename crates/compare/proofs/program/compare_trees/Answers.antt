use Rattle.compare.specs.Compared.{IsCompared}
use Rattle.compare.proofs.Answered.{compared, says_nothing}
use Rattle.compare.proofs.program.compare_trees.Goals as goal

pub returns-in-Ok-clause-answers : goal.returns-in-Ok-clause-answers
returns-in-Ok-clause-answers g c =
    compared c.args.old.now c.args.new.now (g.O.Write.contents c.args.output.now) (g.O.Write.contents c.compare.new.out) (g.O.Write.contents c.end_compared.new.output) c.in-Ok.is_equal c.end_compared.result
    c.in-Ok.ensures c.end_compared.ensures.kept c.end_compared.ensures.status

pub returns-in-Err-clause-answers : goal.returns-in-Err-clause-answers
returns-in-Err-clause-answers g c =
    says_nothing (IsCompared c.args.old.now c.args.new.now (g.O.Write.contents c.args.output.now) (g.O.Write.contents c.compare.new.out)) c.tell_stop.result (c.tell_stop.ensures.not_done, c.tell_stop.ensures.not_one)
