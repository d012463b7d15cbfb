use Rattle.std.proofs.Common.{sym, ◌∙◌}
use Rattle.views.specs.Nodes.{world_at, id_at}
use Rattle.hidden_texts.proofs.Secrets.{runless as without_runs}
use Rattle.page_states.proofs.Hiding.{runless}
use Rattle.page_states.proofs.secrets.hides_value_outside.Goals as goal

pub returns : goal.returns
returns c =
    let n = c.args.node.now in
    runless (world_at n) (id_at n) c.requires.outside (without_runs n (sym c.may_hold_text.ensures ∙ c.if-may_hold_text.false))
