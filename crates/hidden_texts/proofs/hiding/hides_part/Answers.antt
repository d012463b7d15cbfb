use Rattle.std.proofs.Common.{sym, ◌∙◌}
use Rattle.hidden_texts.proofs.Secrets.{part_of_label, part_of_other}
use Rattle.hidden_texts.proofs.hiding.hides_part.Goals as goal

pub returns-then-label_comes_from_value : goal.returns-then-label_comes_from_value
returns-then-label_comes_from_value c = c.hides_value_by.ensures ∙ part_of_label c.args.node.now (sym c.label_comes_from_value.ensures ∙ c.if-label_comes_from_value.true)

pub returns : goal.returns
returns c = c.is_within.ensures ∙ part_of_other c.args.node.now (sym c.label_comes_from_value.ensures ∙ c.if-label_comes_from_value.false)
