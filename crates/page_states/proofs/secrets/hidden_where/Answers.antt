use Rattle.views.specs.Nodes.{world_at, id_at}
use Rattle.page_states.proofs.Hiding.{nothing_hidden}
use Rattle.page_states.proofs.secrets.hidden_where.Goals as goal

pub returns : goal.returns
returns c = nothing_hidden (world_at c.args.node.now) (c.requires.open c.if-has_password.false) (id_at c.args.node.now)
