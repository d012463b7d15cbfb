use Rattle.std.proofs.Common.{sym, ◌∙◌}
use Rattle.views.specs.Nodes.{world_at, id_at}
use Rattle.page_states.proofs.Hiding.{all_hidden}
use Rattle.page_states.proofs.secrets.hidden_below.Goals as goal

pub returns-then-is_in_password : goal.returns-then-is_in_password
returns-then-is_in_password c = all_hidden (world_at c.args.node.now) (id_at c.args.node.now) (sym c.requires.within ∙ c.if-is_in_password.true)
