use Rattle.std.proofs.Common.{sym, ◌∙◌}
use Rattle.views.proofs.ValueTexts.{own_is_there, runs_are_there}
use Rattle.views.proofs.node.node_ref.NodeRef.has_value.Goals as goal

pub returns-then-has_own_value : goal.returns-then-has_own_value
returns-then-has_own_value c = c.if-has_own_value.true ∙ own_is_there c.args.self.now (sym c.has_own_value.ensures ∙ c.if-has_own_value.true)

pub returns-else-has_own_value : goal.returns-else-has_own_value
returns-else-has_own_value c = c.has_value_in_runs.ensures ∙ runs_are_there c.args.self.now (sym c.has_own_value.ensures ∙ c.if-has_own_value.false)
