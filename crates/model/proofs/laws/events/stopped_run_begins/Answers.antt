use Rattle.model.proofs.Run.Runs.{runs_split}
use Rattle.model.proofs.laws.events.stopped_run_begins.Goals as goal

pub returns : goal.returns
returns c = λ old new cs done told replies h stop. let parts = runs_split old new done cs told replies h in (parts.0, parts.1, parts.2, (stop, parts.3), parts.5)
