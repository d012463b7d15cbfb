use Rattle.std.proofs.Common.{ap}
use Rattle.std.specs.Prelude.{option_copied}
use Rattle.views.specs.Nodes.{world_at, id_at}
use Rattle.hidden_texts.specs.Hidden.{is_in_password}
use Rattle.find.proofs.ShownValues.{none_either_way}
use Rattle.find.proofs.sought_texts.unless_in_password.Goals as goal

pub returns-in-None : goal.returns-in-None
returns-in-None c = none_either_way (is_in_password (world_at c.args.node) (id_at c.args.node)) (option_copied c.args.text) (ap (λ t. option_copied t) c.in-None.is)
