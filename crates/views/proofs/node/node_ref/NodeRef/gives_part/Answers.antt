use Rattle.std.proofs.Common.{sym, ◌∙◌, ap}
use Rattle.std.specs.Prelude.{is_some}
use Rattle.views.proofs.LabelTexts.{part_is_value, part_is_label}
use Rattle.views.proofs.node.node_ref.NodeRef.gives_part.Goals as goal

pub returns-then-label_comes_from_value : goal.returns-then-label_comes_from_value
returns-then-label_comes_from_value c = c.has_value.ensures ∙ ap is_some (part_is_value c.args.self.now (sym c.label_comes_from_value.ensures ∙ c.if-label_comes_from_value.true))

pub returns : goal.returns
returns c = c.has_own_label.ensures ∙ ap is_some (part_is_label c.args.self.now (sym c.label_comes_from_value.ensures ∙ c.if-label_comes_from_value.false))
