use Rattle.std.proofs.Common.{Some, refl, sym, ap, ◌∙◌}
use Rattle.std.specs.Prelude.{slice_get}
use Rattle.model.specs.FlatText.{lines, start_at, end_at}
use Rattle.model.specs.Ranges.{Range}
use Rattle.views.specs.Nodes.{world_at, id_at}
use Rattle.text_boundaries.specs.RunNumbers.{number_in}
use Rattle.texts.specs.Positions.{node_text}
use Rattle.texts.proofs.LineRanges.{line_is_there}
use Rattle.texts.proofs.LineWalks.{end_of, rises, there, no_more, at_end, found_last, found_it}
use Rattle.texts.proofs.text_lines.TextLines.range.Goals as goal

pub range_past-requires-clause-size : goal.range_past-requires-clause-size
range_past-requires-clause-size c =
    let l = c.args.self in
    no_more l c.run_at.result (end_of l) c.run_at.ensures.root c.run_at.ensures.spot refl refl (found_last l c.args.index c.requires c.if-self-index.true)

pub range_past-requires-clause-last : goal.range_past-requires-clause-last
range_past-requires-clause-last c =
    let l = c.args.self in
    at_end l c.run_at.result (end_of l) c.run_at.ensures.root c.run_at.ensures.spot refl refl (found_last l c.args.index c.requires c.if-self-index.true)

pub range_to-requires-clause-order : goal.range_to-requires-clause-order
range_to-requires-clause-order c =
    rises c.args.self c.run_at-first.result c.run_at-last.result c.run_at-first.ensures.root c.run_at-first.ensures.spot c.run_at-last.ensures.root c.run_at-last.ensures.spot

pub returns : goal.returns
returns c =
    let l = c.args.self in
    let n = l.root in
    let first = c.run_at-first.ensures in
    let last = c.run_at-last.ensures in
    let here = found_it l c.args.index c.requires c.if-self-index.false in
    let found = there l c.run_at-first.result c.run_at-last.result first.root first.spot last.root last.spot in
    let is = line_is_there (node_text n) c.args.index (number_in c.run_at-first.result) (number_in c.run_at-last.result) (sym (ap (slice_get (lines (node_text n))) here) ∙ found) in
    record {
      world = c.range_to.ensures.world ∙ ap world_at first.root;
      root = c.range_to.ensures.root ∙ ap id_at first.root;
      at = ap Some (c.range_to.ensures.at ∙ ap (λ m. let r : Range = record { start = start_at (number_in c.run_at-first.result); end = end_at (node_text m) (number_in c.run_at-last.result) } in r) first.root) ∙ is;
    }
