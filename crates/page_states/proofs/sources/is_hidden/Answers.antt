use Rattle.std.proofs.Common.{ap}
use Rattle.views.specs.Nodes.{world_at, id_at}
use Rattle.page_states.specs.declared.secrets.Hidden.{Hidden}
use Rattle.page_states.proofs.Hiding.{nothing_hidden}
use Rattle.page_states.proofs.sources.is_hidden.Goals as goal

pub returns : goal.returns
returns c = ap (λ (h : Hidden). h.value) (nothing_hidden (world_at c.args.node.now) (c.requires c.if-has_password.false) (id_at c.args.node.now))
