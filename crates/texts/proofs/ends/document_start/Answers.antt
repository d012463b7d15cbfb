use Rattle.views.specs.Runs.{IsFirstOf}
use Rattle.texts.proofs.TextEnds.{some_run}
use Rattle.texts.proofs.ends.document_start.Goals as goal

pub unwrap-run-requires : goal.unwrap-run-requires
unwrap-run-requires c = some_run (IsFirstOf c.args.root) c.args.root c.first.result c.requires c.first.ensures
