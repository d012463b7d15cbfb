use Rattle.std.proofs.Common.{◌-◌, length, ◌∙◌}
use Rattle.text_boundaries.specs.RunNumbers.{number_in, text_around}
use Rattle.texts.proofs.LineRanges.{caret_is_there}
use Rattle.texts.proofs.line_ranges.range_past.Goals as goal

pub returns : goal.returns
returns c =
    let t = text_around c.args.run in
    let told = c.caret_past.ensures in
    record {
      world = told.world;
      root = told.root;
      at = told.at ∙ caret_is_there t c.args.line c.args.index (number_in c.args.run) (length t - 1) c.requires.size c.requires.last c.if-line-lt1.false c.requires.past c.if-line-index.false;
    }
