use Rattle.std.proofs.Common.{Some, sym, ap, ◌∙◌}
use Rattle.std.specs.Prelude.{option_map}
use Rattle.model.specs.TextRuns.{SentRun}
use Rattle.text_boundaries.proofs.FlatRuns.{shown_at_number}
use Rattle.texts.proofs.position.TextPosition.inner_node.Goals as goal

pub returns-clause-run : goal.returns-clause-run
returns-clause-run c = ap (option_map (λ r. r.id)) (shown_at_number c.args.self.now.run) ∙ sym (ap (λ (s : SentRun). Some s.id) c.view.ensures.is)
