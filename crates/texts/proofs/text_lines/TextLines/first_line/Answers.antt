use Rattle.views.specs.Runs.{IsFirstOf}
use Rattle.texts.proofs.TextEnds.{run_found, some_run}
use Rattle.texts.proofs.LineSteps.{at_first_line}
use Rattle.texts.proofs.LineWalks.{begins_here}
use Rattle.texts.proofs.text_lines.TextLines.first_line.Goals as goal

pub unwrap-requires : goal.unwrap-requires
unwrap-requires c = some_run (IsFirstOf c.args.root) c.args.root c.first.result c.requires c.first.ensures

pub beginning-requires-clause-begins : goal.beginning-requires-clause-begins
beginning-requires-clause-begins c =
    let first = run_found IsFirstOf c.args.root c.first.result c.unwrap.result c.first.ensures c.unwrap.ensures in
    begins_here c.args.root 0 c.unwrap.result (at_first_line c.args.root c.requires c.unwrap.result first)
