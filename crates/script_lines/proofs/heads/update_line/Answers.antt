use Rattle.std.proofs.Common.{subst}
use Rattle.script_lines.specs.HeadMeaning.{finished}
use Rattle.script_lines.specs.LineReading.{HeadData, head_data}
use Rattle.script_words.specs.Meaning.{Answers}
use Rattle.script_words.specs.Reading.{unread}
use Rattle.script_lines.proofs.HeadAnswers.{IsUpdate, line_read, no_fields, no_tree}
use Rattle.script_lines.proofs.heads.update_line.Goals as goal

pub returns-in_err-tree_id : goal.returns-in_err-tree_id
returns-in_err-tree_id c = no_tree (unread c.args.words) c.from_residual.result c.in_err-tree_id.field-0.0 c.from_residual.ensures.1 c.in_err-tree_id.ensures.takes

pub returns-in_err-read_fields : goal.returns-in_err-read_fields
returns-in_err-read_fields c =
    no_fields (unread c.args.words) (unread c.tree.new.self) c.in_ok-tree_id.tree_id (head_data c.new-head.result) c.from_residual-in_err-read_fields.result c.in_err-read_fields.field-0.0 _
    c.from_residual-in_err-read_fields.ensures.1 c.in_ok-tree_id.ensures.takes c.new-head.ensures c.in_err-read_fields.ensures

pub returns : goal.returns
returns c =
    let k = c.in_ok-read_fields.ensures in
    line_read (unread c.args.words) (unread c.tree.new.self) c.in_ok-tree_id.tree_id (head_data c.new-head.result) k.0 c.finish.result c.in_ok-tree_id.ensures.takes c.new-head.ensures k.1
    (subst (λ (h : HeadData). Answers (finished c.in_ok-tree_id.tree_id h) c.finish.result IsUpdate) k.2 c.finish.ensures)
