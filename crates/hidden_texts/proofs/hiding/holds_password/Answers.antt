use Rattle.std.proofs.Common.{◌&&◌, map, sym, ap, ◌∙◌}
use Rattle.std.specs.List.{list_any}
use Rattle.views.specs.Descendants.{descendants}
use Rattle.views.specs.Nodes.{world_at, id_at}
use Rattle.views.specs.PlainWalks.{node_in}
use Rattle.hidden_texts.specs.Walked.{is_password_node}
use Rattle.hidden_texts.proofs.Secrets.{holds_seen}
use Rattle.hidden_texts.proofs.hiding.holds_password.Goals as goal

pub returns-then-has_runs : goal.returns-then-has_runs
returns-then-has_runs c =
    let n = c.args.node.now in
    let below = map (node_in (world_at n)) (descendants (world_at n) (id_at n)) in
    c.has_password_input.ensures ∙ ap (list_any is_password_node) c.descendants.ensures ∙ sym (ap (λ b. b && list_any is_password_node below) (sym c.has_runs.ensures ∙ c.if-has_runs.true)) ∙ holds_seen n
