use Rattle.std.proofs.Common.{◌∙◌, ap, rules}
use Rattle.std.specs.Prelude.{find}
use Rattle.model.specs.RoleClasses.{is_dialog}
use Rattle.model.specs.Upward.{says, upward}
use Rattle.std.specs.Option.{option_map}
use Rattle.views.specs.ShownWorlds.{world_of}
use Rattle.views.specs.Nodes.{id_at}
use Rattle.views.proofs.DialogAbove.{active_dialog_is, no_dialog}
use Rattle.views.proofs.state_ref.StateRef.active_dialog.Goals as goal

pub returns-in_default-clause-node : goal.returns-in_default-clause-node
returns-in_default-clause-node c = no_dialog (world_of c.args.self.now) c.in_default.ensures.node

pub returns-clause-node : goal.returns-clause-node
returns-clause-node c =
    let w = world_of c.args.self.now in
    let f = c.in-Some.focus in
    active_dialog_is w c.know.ensures.formed (id_at f) c.in-Some.ensures.node (option_map id_at c.nearest.result)
    (c.nearest.ensures.node (λ d. is_dialog d.role) (search rules) ∙ ap (λ v. find (says (λ d. is_dialog d.role) v) (upward v (id_at f))) c.in-Some.ensures.world)
