use Rattle.std.proofs.Common.{Some, refl}
use Rattle.fed_tree.proofs.Carrying.{refocuses_tree}
use Rattle.fed_tree.proofs.stage.Stage.refocus.Goals as goal

pub returns-in-Some : goal.returns-in-Some
returns-in-Some g c =
    let h = c.update_host_focus_state_and_process_changes.ensures in
    let new = c.update_host_focus_state_and_process_changes.new.self in
    (h.0, refocuses_tree c.args.self.now (record { tree = Some new; is_host_focused = c.args.is_host_focused }) c.in-Some.tree new c.args.is_host_focused h.0 c.in-Some.is h.1 refl, h.2)
