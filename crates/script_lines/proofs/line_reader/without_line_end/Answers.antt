use Rattle.std.proofs.Common.{◌≡◌, ap, arith, ◌∙◌}
use Rattle.std.specs.Io.BufRead.{strip_last}
use Rattle.std.proofs.lemmas.Str.Pattern.{strip_suffix_char}
use Rattle.script_lines.proofs.LineEnds.{stripped}
use Rattle.script_lines.proofs.line_reader.without_line_end.Goals as goal

pub returns : goal.returns
returns c =
    let line = c.args.line.now in
    let first : c.unwrap_or-line.result.now ≡ strip_last 10 line = stripped 10 c.args.line c.unwrap_or-line.result c.strip_suffix.result (strip_suffix_char 10 line c.strip_suffix.result c.strip_suffix.ensures.cases (omega arith)) c.unwrap_or-line.ensures in
    let second : c.unwrap_or.result.now ≡ strip_last 13 c.unwrap_or-line.result.now =
    stripped 13 c.unwrap_or-line.result c.unwrap_or.result c.strip_suffix-2.result (strip_suffix_char 13 c.unwrap_or-line.result.now c.strip_suffix-2.result c.strip_suffix-2.ensures.cases (omega arith)) c.unwrap_or.ensures in
    second ∙ ap (strip_last 13) first
