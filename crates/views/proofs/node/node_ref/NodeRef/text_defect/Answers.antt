use Rattle.std.proofs.Common.{sym, ap, ◌∙◌}
use Rattle.std.specs.Prelude.{◌||◌, is_none}
use Rattle.model.specs.TextRuns.{supports_text_ranges}
use Rattle.views.specs.Nodes.{world_at, id_at}
use Rattle.views.proofs.FitRuns.{unheld_no_text}
use Rattle.views.proofs.DefectRuns.{none_if_text, without_runs, some_runs, unheld_defect, held_defect}
use Rattle.views.proofs.node.node_ref.NodeRef.text_defect.Goals as goal

pub returns-in_default-clause-exact : goal.returns-in_default-clause-exact
returns-in_default-clause-exact c = sym (without_runs c.args.self.now c.in_default.ensures)

pub returns-then-not-holds_text-clause-exact : goal.returns-then-not-holds_text-clause-exact
returns-then-not-holds_text-clause-exact c =
    sym (unheld_defect c.args.self.now c.in-Some.first c.in-Some.ensures (sym c.holds_text.ensures ∙ c.if-not-holds_text.true))

pub returns-then-not-holds_text-clause-none : goal.returns-then-not-holds_text-clause-none
returns-then-not-holds_text-clause-none c =
    let n = c.args.self.now in
    let some = some_runs n c.in-Some.first c.in-Some.ensures in
    let no_text = unheld_no_text n (sym c.holds_text.ensures ∙ c.if-not-holds_text.true) in
    sym (λ i. some i || no_text i)

pub returns-clause-exact : goal.returns-clause-exact
returns-clause-exact c =
    c.first_defect.ensures ∙ sym (held_defect c.args.self.now c.in-Some.first c.in-Some.ensures (sym c.holds_text.ensures ∙ c.if-not-holds_text.false))

pub returns-clause-none : goal.returns-clause-none
returns-clause-none c =
    let n = c.args.self.now in
    let r = c.in-Some.first in
    ap is_none c.first_defect.ensures
    ∙ none_if_text n r c.in-Some.ensures (sym c.holds_text.ensures ∙ c.if-not-holds_text.false)
    ∙ sym (ap (λ b. b || supports_text_ranges (world_at n) (id_at n)) (some_runs n r c.in-Some.ensures))
