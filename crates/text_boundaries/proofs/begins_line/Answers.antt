use Rattle.std.proofs.Common.{sym, ap, ◌∙◌}
use Rattle.std.specs.Prelude.{is_none}
use Rattle.text_boundaries.proofs.FlatRuns.{none_from_not, begins_at_number}
use Rattle.text_boundaries.proofs.begins_line.Goals as goal

pub returns : goal.returns
returns c = none_from_not c.is_none.result c.previous_on_line.result c.is_none.ensures ∙ ap is_none (c.previous_on_line.ensures ∙ ap (λ d. d.previous_on_line) c.node.ensures) ∙ sym (begins_at_number c.args.run)
