use Rattle.std.proofs.Common.{◌+◌, ◌∙◌}
use Rattle.model.specs.FlatText.{begins_format}
use Rattle.text_boundaries.specs.RunNumbers.{number_in}
use Rattle.texts.specs.Positions.{position_text}
use Rattle.texts.proofs.TextEnds.{at_start_before}
use Rattle.texts.proofs.FormatStarts.{started_here, sought_previous}
use Rattle.texts.proofs.position.TextPosition.start_of_format.Goals as goal

pub returns-then-begins_format_after : goal.returns-then-begins_format_after
returns-then-begins_format_after c =
    let p = c.args.self in
    let r = c.loop-previous.run in
    let loop = c.loop-previous.invariant in
    record {
      same = loop.same;
      at = at_start_before (position_text p) (number_in r) (number_in p.run + 1) (begins_format (position_text p))
          (loop.sought ∙ started_here p.run r loop.same c.begins_format_after.result c.begins_format_after.ensures c.if-begins_format_after.true);
    }

pub loop-previous-preserved : goal.loop-previous-preserved
loop-previous-preserved c =
    sought_previous c.args.self.run c.loop-previous.run c.in-Some.previous c.begins_format_after.result c.loop-previous.invariant c.in-Some.ensures c.begins_format_after.ensures c.if-begins_format_after.false
