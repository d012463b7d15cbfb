use Rattle.std.proofs.Common.{◌≡◌, ◌≤◌, ◌+◌, ap, ◌∙◌, arith}
use Rattle.model.specs.FlatText.{start_of, start_at, count_in}
use Rattle.model.proofs.Text.Sides.{start_rises}
use Rattle.views.specs.Nodes.{world_at, id_at}
use Rattle.text_boundaries.specs.RunNumbers.{number_in, text_around}
use Rattle.texts.proofs.TextEnds.{counted_in}
use Rattle.texts.proofs.line_ranges.range_to.Goals as goal

pub over-requires-clause-order : goal.over-requires-clause-order
over-requires-clause-order c =
    let t = text_around c.args.first in
    let rise = start_rises t (number_in c.args.first) (number_in c.args.last) c.requires.order in
    let order : start_of t (number_in c.args.first) + 0 ≤ start_of t (number_in c.args.last) + c.character_count.result = omega (arith, rise) in
    order

pub returns : goal.returns
returns c =
    let counted : c.character_count.result ≡ count_in (text_around c.args.first) (number_in c.args.last) =
    counted_in c.args.first.root c.args.last c.character_count.result c.requires.same c.character_count.ensures in
    record {
      world = ap world_at c.over.ensures.same;
      root = ap id_at c.over.ensures.same;
      at = c.over.ensures.at ∙ λ k. record { start = start_at (number_in c.args.first); end = record { run = number_in c.args.last; index = counted k } };
    }
