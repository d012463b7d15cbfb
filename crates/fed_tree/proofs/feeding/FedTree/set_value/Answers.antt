use Rattle.std.proofs.Common.{◌∙◌, Some, ap, sym, option_map}
use Rattle.schema.specs.UpdateData.{update_data}
use Rattle.script_nodes.specs.Given.{given}
use Rattle.fed_tree.specs.Begun.{with_value}
use Rattle.fed_tree.specs.Fed.{Fed}
use Rattle.fed_tree.proofs.Building.{builds_or_wants}
use Rattle.fed_tree.proofs.feeding.FedTree.set_value.Goals as goal

pub returns : goal.returns
returns c =
    let is = ap (λ (f : Fed). f.begun) (sym c.self.view_is) ∙ ap (option_map update_data) c.in-Some.is in
    builds_or_wants (with_value c.args.field (given c.args.value)) c.args.self.now _ (update_data c.in-Some.update)
    (update_data c.set_last.new.update) c.set_last.result is
    (ap (λ (f : Fed). record f { begun = Some (update_data c.set_last.new.update) }) c.self.view_is) c.set_last.ensures
