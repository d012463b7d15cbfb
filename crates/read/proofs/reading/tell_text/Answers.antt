use Rattle.std.proofs.Common.{◌++◌, subst}
use Rattle.std.specs.Io.KnownBytes.{Appends}
use Rattle.std.proofs.KnownBytes.{Appends-trans}
use Rattle.std.proofs.lemmas.Result.{on_ok_weaker}
use Rattle.texts.specs.NodeTexts.{root_of}
use Rattle.views.specs.Nodes.{world_at, id_at}
use Rattle.read.specs.Lines.{line_numbers, lines_text, read_text, selection_text}
use Rattle.read.specs.Spans.{span_of}
use Rattle.read.proofs.reading.tell_text.Goals as goal

pub returns : goal.returns
unfolding read_text
returns g c =
    let w = world_at (root_of c.args.text) in
    let id = id_at (root_of c.args.text) in
    let first = selection_text w id in
    on_ok_weaker c.tell_lines.result
    (λ lines.
    subst (λ s. Appends (g.O.Write.contents c.args.out.now) (g.O.Write.contents c.tell_lines.new.out) (first ++ lines_text w id s 0 (line_numbers w id))) c.in_ok-selected.ensures.span
    (Appends-trans _ _ _ first (lines_text w id (span_of c.in_ok-selected.selected) 0 (line_numbers w id)) c.in_ok-selected.ensures.printed lines))
    c.tell_lines.ensures
