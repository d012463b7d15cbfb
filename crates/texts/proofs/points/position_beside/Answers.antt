use Rattle.std.proofs.Common.{sym, ◌∙◌}
use Rattle.views.specs.Runs.{IsFirstOf}
use Rattle.texts.proofs.TextEnds.{run_found, some_run}
use Rattle.texts.proofs.PointPlaces.{at_start, first_tested}
use Rattle.texts.proofs.points.position_beside.Goals as goal

pub unwrap-first-requires : goal.unwrap-first-requires
unwrap-first-requires c = some_run (IsFirstOf c.args.root) c.args.root c.first.result c.requires.text c.first.ensures

pub returns-then-is_after : goal.returns-then-is_after
returns-then-is_after c =
    let first = run_found IsFirstOf c.args.root c.first.result c.unwrap-first.result c.first.ensures c.unwrap-first.ensures in
    record { same = first.root; at = at_start c.args.root c.args.point c.requires.outside c.unwrap-first.result first (sym c.is_after.ensures ∙ c.if-is_after.true) }

pub position_past-requires-clause-beyond : goal.position_past-requires-clause-beyond
position_past-requires-clause-beyond c =
    let first = run_found IsFirstOf c.args.root c.first.result c.unwrap-first.result c.first.ensures c.unwrap-first.ensures in
    first_tested c.args.root c.args.point c.requires.outside c.unwrap-first.result first ∙ sym c.is_after.ensures ∙ c.if-is_after.false
