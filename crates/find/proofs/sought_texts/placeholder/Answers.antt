use Rattle.std.proofs.Common.{None, ap, ◌∙◌}
use Rattle.std.specs.Prelude.{if◌then◌else◌}
use Rattle.schema.specs.NodeData.{NodeData}
use Rattle.hidden_texts.specs.Hidden.{is_in_password}
use Rattle.views.specs.Nodes.{world_at, id_at}
use Rattle.find.proofs.Wanting.{field_seen}
use Rattle.find.proofs.sought_texts.placeholder.Goals as goal

pub returns : goal.returns
returns c =
    let n = c.args.node in
    c.unless_in_password.ensures
    ∙ ap (λ t. if is_in_password (world_at n) (id_at n) then None else t) (c.placeholder.ensures ∙ ap (λ (d : NodeData). d.placeholder) c.data.ensures.is ∙ field_seen (λ d. d.placeholder) n)
