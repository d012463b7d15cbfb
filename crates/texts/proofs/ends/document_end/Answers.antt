use Rattle.views.specs.Runs.{IsLastOf}
use Rattle.texts.proofs.TextEnds.{run_found, some_run, at_document_end}
use Rattle.texts.proofs.ends.document_end.Goals as goal

pub unwrap-run-requires : goal.unwrap-run-requires
unwrap-run-requires c = some_run (IsLastOf c.args.root) c.args.root c.last.result c.requires c.last.ensures

pub returns : goal.returns
returns c =
    let last = run_found IsLastOf c.args.root c.last.result c.unwrap-run.result c.last.ensures c.unwrap-run.ensures in
    record { same = last.root; at = at_document_end c.args.root c.unwrap-run.result c.character_count.result last c.character_count.ensures }
