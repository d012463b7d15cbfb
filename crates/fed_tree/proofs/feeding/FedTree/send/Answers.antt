use Rattle.std.proofs.Common.{◌∙◌, ◌∷◌, [], ap, sym, subst, option_map}
use Rattle.schema.specs.UpdateData.{update_data}
use Rattle.script_lines.specs.declared.reader.ScriptCommand.TheVariants as command
use Rattle.fed_tree.specs.Fed.{Fed}
use Rattle.fed_tree.specs.Feeding.{CarriesOutAll, stage_of}
use Rattle.fed_tree.proofs.feeding.FedTree.send.Goals as goal

pub returns : goal.returns
returns c =
    let update = c.in_ok-update.update in
    let one = c.carry_out_one in (
      update,
      ap (λ (f : Fed). f.begun) (sym c.self.view_is) ∙ ap (option_map update_data) (sym c.in_ok-update.ensures.value),
      subst
          (λ (f : Fed). CarriesOutAll (stage_of f) (command.Update update ∷ []) one.result one.new.stage one.new.events)
          c.self.view_is
          one.ensures,
      ap (option_map update_data) c.take.ensures.after,
    )
