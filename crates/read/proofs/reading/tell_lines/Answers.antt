use Rattle.std.proofs.Common.{◌≡◌, ◌<◌, arith, ◌∙◌}
use Rattle.texts.specs.LineWalks.{lines_root}
use Rattle.texts.specs.NodeTexts.{root_of}
use Rattle.read.specs.Spans.{span_of}
use Rattle.read.proofs.Numbered.{first_lines, next_line, last_line}
use Rattle.read.proofs.reading.tell_lines.Goals as goal

pub loop-number-init : goal.loop-number-init
loop-number-init g c = record {
  root = c.lines-lines.ensures;
  written = first_lines (root_of c.args.text) (span_of c.args.selected) (g.O.Write.contents c.args.out.now) c.end.result c.to_line_index-last.result c.end.ensures.at c.to_line_index-last.ensures.index;
}

pub loop-number-preserved : goal.loop-number-preserved
loop-number-preserved g c =
    let low : c.loop-number.number < c.to_line_index-last.result = omega arith in
    record {
      root = c.tell_line.ensures.same ∙ c.loop-number.invariant.root;
      written = next_line (root_of c.args.text) (span_of c.args.selected) (lines_root c.loop-number.lines) c.loop-number.at c.in_ok-at.at c.loop-number.number c.to_line_index-last.result c.loop-number.invariant.root low c.loop-number.invariant.written c.in_ok-at.ensures.printed c.in_ok-at.ensures.after;
    }

pub returns : goal.returns
returns g c =
    let all : c.loop-number.number ≡ c.to_line_index-last.result = omega arith in
    last_line (root_of c.args.text) (span_of c.args.selected) (g.O.Write.contents c.args.out.now) (g.O.Write.contents c.loop-number.out) (g.O.Write.contents c.tell_line-2.new.out) _ (lines_root c.loop-number.lines) c.loop-number.at c.loop-number.number c.to_line_index-last.result c.loop-number.invariant.root all c.loop-number.invariant.written c.in_ok-tell_line.ensures.printed
