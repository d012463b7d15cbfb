use Rattle.std.proofs.Common.{◌≡◌, codes, Ok, None, rules, sym}
use Rattle.std.proofs.lemmas.Bool.{cond-true}
use Rattle.script_lines.specs.HeadMeaning.{update_means}
use Rattle.script_lines.specs.LineMeaning.{plain_line_means}
use Rattle.script_lines.specs.LineReading.{BeginsUpdate}
use Rattle.script_lines.specs.NodeMeaning.{IsNodeLine}
use Rattle.script_lines.specs.declared.lines.Line.TheVariants as says
use Rattle.script_nodes.specs.FieldMeaning.{node_means}
use Rattle.script_lines.proofs.FirstWords.{blank_no_word, no_first_word, read_by_word}
use Rattle.script_lines.proofs.LineWords.{node_is_line_word, update_is_line_word}
use Rattle.script_lines.proofs.PlainLines.{no_line, plain_line}
use Rattle.script_lines.proofs.lines.read_line.Goals as goal

pub returns-then-says_nothing-clause-means : goal.returns-then-says_nothing-clause-means
returns-then-says_nothing-clause-means c = λ u n. cond-true _ _ _ (sym c.if-says_nothing.ensures.blank)

pub returns-in_err-word-clause-means : goal.returns-in_err-word-clause-means
returns-in_err-word-clause-means c = λ u n.
    let none : plain_line_means c.args.line.now ≡ None = no_line c.args.line.now (sym c.if-says_nothing.ensures.blank) c.in_err-word.ensures.takes.1 in search rules

pub returns-clause-means : goal.returns-clause-means
returns-clause-means c =
    plain_line c.args.line.now c.in_ok-word.word.now _ c.line_by_word.result (sym c.if-says_nothing.ensures.blank) c.in_ok-word.ensures.takes c.line_by_word.ensures.means

pub returns-then-says_nothing-clause-update : goal.returns-then-says_nothing-clause-update
returns-then-says_nothing-clause-update c = blank_no_word (codes "update") update_is_line_word update_means BeginsUpdate c.args.line.now (Ok says.Nothing) (sym c.if-says_nothing.ensures.blank)

pub returns-in_err-word-clause-update : goal.returns-in_err-word-clause-update
returns-in_err-word-clause-update c = no_first_word (codes "update") update_is_line_word update_means BeginsUpdate c.args.line.now c.from_residual.result c.in_err-word.ensures.takes.1

pub returns-clause-update : goal.returns-clause-update
returns-clause-update c =
    read_by_word (codes "update") update_is_line_word update_means BeginsUpdate c.args.line.now c.in_ok-word.word.now _ c.line_by_word.result c.in_ok-word.ensures.takes c.line_by_word.ensures.update

pub returns-then-says_nothing-clause-node : goal.returns-then-says_nothing-clause-node
returns-then-says_nothing-clause-node c = blank_no_word (codes "node") node_is_line_word node_means IsNodeLine c.args.line.now (Ok says.Nothing) (sym c.if-says_nothing.ensures.blank)

pub returns-in_err-word-clause-node : goal.returns-in_err-word-clause-node
returns-in_err-word-clause-node c = no_first_word (codes "node") node_is_line_word node_means IsNodeLine c.args.line.now c.from_residual.result c.in_err-word.ensures.takes.1

pub returns-clause-node : goal.returns-clause-node
returns-clause-node c =
    read_by_word (codes "node") node_is_line_word node_means IsNodeLine c.args.line.now c.in_ok-word.word.now _ c.line_by_word.result c.in_ok-word.ensures.takes c.line_by_word.ensures.node
