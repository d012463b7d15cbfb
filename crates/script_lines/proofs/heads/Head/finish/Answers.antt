use Rattle.std.proofs.Common.{◌≡◌, Some, option_map, refl, rules}
use Rattle.schema.specs.UpdateData.{info_data}
use Rattle.script_lines.specs.LineReading.{head_data}
use Rattle.script_lines.proofs.HeadAnswers.{head_finished, no_info}
use Rattle.script_lines.proofs.heads.Head.finish.Goals as goal

pub returns-in_err-tree : goal.returns-in_err-tree
returns-in_err-tree c =
    let focus : c.args.self.focus ≡ Some c.in_ok-focus.focus = search rules in
    no_info c.args.tree_id (head_data c.args.self) c.in_ok-focus.focus c.from_residual-in_err-tree.result c.in_err-tree.field-0.0 _ c.from_residual-in_err-tree.ensures.1 focus (c.in_err-tree.ensures (head_data c.args.self) refl refl)

pub returns : goal.returns
returns c =
    let focus : c.args.self.focus ≡ Some c.in_ok-focus.focus = search rules in
    let k = c.in_ok-tree.ensures (head_data c.args.self) refl refl in
    head_finished c.args.tree_id (head_data c.args.self) c.in_ok-focus.focus k.0 (option_map info_data c.in_ok-tree.tree) c.new.result.items focus k.1 k.2 c.new.ensures.items
