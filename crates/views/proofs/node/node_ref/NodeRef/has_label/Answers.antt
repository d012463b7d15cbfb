use Rattle.std.proofs.Common.{sym, ◌∙◌, ap}
use Rattle.std.specs.Prelude.{is_some}
use Rattle.model.specs.Labels.{joined_text}
use Rattle.views.specs.Nodes.{data_at}
use Rattle.views.specs.LabelTexts.{parts_of}
use Rattle.views.proofs.LabelTexts.{own_label_there, label_is_joined, none_there}
use Rattle.views.proofs.node.node_ref.NodeRef.has_label.Goals as goal

pub returns-then-has_own_label : goal.returns-then-has_own_label
returns-then-has_own_label c = c.if-has_own_label.true ∙ own_label_there c.args.self.now (sym c.has_own_label.ensures ∙ c.if-has_own_label.true)

pub returns-else-has_own_label : goal.returns-else-has_own_label
returns-else-has_own_label c =
    let n = c.args.self.now in
    c.has_part.ensures
    ∙ ap is_some (ap (λ ns. joined_text (parts_of ns)) c.labelled_by.ensures ∙ label_is_joined n (none_there (data_at n).label (sym c.has_own_label.ensures ∙ c.if-has_own_label.false)))
