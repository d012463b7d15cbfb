use Rattle.std.proofs.Common.{sym, ap, ◌∙◌}
use Rattle.std.specs.Prelude.{is_none}
use Rattle.views.specs.Nodes.{world_at, id_at}
use Rattle.views.proofs.FitRuns.{unheld_no_text, no_runs_no_text}
use Rattle.views.proofs.DefectRuns.{tested, none_if_text}
use Rattle.views.proofs.node.node_ref.NodeRef.supports_text_ranges.Goals as goal

pub returns-then-not-holds_text : goal.returns-then-not-holds_text
returns-then-not-holds_text c = sym (unheld_no_text c.args.self.now (sym c.holds_text.ensures ∙ c.if-not-holds_text.true))

pub returns-in_default : goal.returns-in_default
returns-in_default c = sym (no_runs_no_text (world_at c.args.self.now) (id_at c.args.self.now) c.in_default.ensures)

pub returns : goal.returns
returns c =
    tested c.first_defect.result c.is_none.result c.is_none.ensures ∙ ap is_none c.first_defect.ensures
    ∙ none_if_text c.args.self.now c.in-Some.first c.in-Some.ensures (sym c.holds_text.ensures ∙ c.if-not-holds_text.false)
