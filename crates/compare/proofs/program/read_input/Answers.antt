use Rattle.std.proofs.lemmas.Result.{IfOk-weaker}
use Rattle.compare.proofs.Answered.{both_left}
use Rattle.compare.proofs.program.read_input.Goals as goal

pub returns-clause-left : goal.returns-clause-left
returns-clause-left g c =
    IfOk-weaker c.read_both.result _ _ (λ both left. both_left (g.R.Read.remaining c.args.input.now) c.in_ok-parts.parts.first.items c.in_ok-parts.parts.second.items both.0 both.1 c.in_ok-parts.ensures.cut left) c.read_both.ensures.left
