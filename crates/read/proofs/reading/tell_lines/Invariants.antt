use Rattle.std.proofs.Common.{◌≡◌, ◌+◌, ◌-◌}
use Rattle.std.specs.List.{range_with_len}
use Rattle.texts.specs.LineWalks.{lines_root}
use Rattle.texts.specs.NodeTexts.{root_of}
use Rattle.views.specs.Nodes.{world_at, id_at}
use Rattle.read.specs.Lines.{line_numbers, lines_text}
use Rattle.read.specs.Spans.{span_of}
use Rattle.read.proofs.Following.{IsUnderWay}
use Rattle.read.proofs.reading.tell_lines.Given as goal

-- the lines before this number are printed
abbrev pub invariant-loop-number : goal.invariant-loop-number
invariant-loop-number g l =
    let w = world_at (root_of l.fn.text) in
    let id = id_at (root_of l.fn.text) in
    record {
      root : lines_root l.lines ≡ root_of l.fn.text;
      written : IsUnderWay (g.O.Write.contents l.fn.out) (g.O.Write.contents l.out) (lines_text w id (span_of l.fn.selected) 0 (line_numbers w id)) (lines_text w id (span_of l.fn.selected) l.at (range_with_len l.number (l.last + 1 - l.number)));
    }
