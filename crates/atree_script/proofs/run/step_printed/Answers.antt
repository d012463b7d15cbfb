use Rattle.atree_script.specs.declared.printer.Printer.{Printer}
use Rattle.atree_script.proofs.Printing.{same_output, all_printed}
use Rattle.atree_script.proofs.run.step_printed.Goals as goal

pub returns-clause-output : goal.returns-clause-output
returns-clause-output g c =
    let done = c.step.ensures.done in
    same_output (λ (s : Printer g.row.O.Denot). s.out.ghost_name) (λ (s : Printer g.row.O.Denot). g.O.Write.contents s.out.now) (λ (s : Printer g.row.O.Denot). s.fault) c.args.printer.now c.step.new.handler done.0 done.2

pub returns-clause-step : goal.returns-clause-step
returns-clause-step g c =
    let done = c.step.ensures.done in
    (done.0, done.1, all_printed (λ (s : Printer g.row.O.Denot). s.out.ghost_name) (λ (s : Printer g.row.O.Denot). g.O.Write.contents s.out.now) (λ (s : Printer g.row.O.Denot). s.fault) c.args.printer.now c.step.new.handler done.0 done.2)
