use Rattle.std.proofs.Common.{◌∙◌, rules}
use Rattle.views.specs.Nodes.{world_at, id_at}
use Rattle.hidden_texts.specs.Hidden.{password_filter}
use Rattle.hidden_texts.proofs.Secrets.{password_above}
use Rattle.hidden_texts.proofs.hiding.is_in_password.Goals as goal

pub returns : goal.returns
returns c =
    let w = world_at c.args.node.now in
    c.is_some.ensures ∙ password_above w (id_at c.args.node.now) c.filtered_parent.result (c.filtered_parent.ensures.node (password_filter w) (search rules))
