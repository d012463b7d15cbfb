use Rattle.std.proofs.Common.{sym, ap, ◌∙◌}
use Rattle.std.specs.Prelude.{is_none}
use Rattle.text_boundaries.proofs.FlatRuns.{none_from_not, ends_at_number}
use Rattle.text_boundaries.proofs.ends_line.Goals as goal

pub returns : goal.returns
returns c = none_from_not c.is_none.result c.next_on_line.result c.is_none.ensures ∙ ap is_none (c.next_on_line.ensures ∙ ap (λ d. d.next_on_line) c.node.ensures) ∙ sym (ends_at_number c.args.run)
