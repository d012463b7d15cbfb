use Rattle.std.proofs.Common.{Some, refl, sym, ap, ◌∙◌}
use Rattle.std.specs.Prelude.{option_map}
use Rattle.model.specs.declared.FullNodeId.{FullNodeId}
use Rattle.text_boundaries.proofs.FlatRuns.{shown_at_number}
use Rattle.texts.proofs.position.TextPosition.to_raw.Goals as goal

pub returns : goal.returns
returns c = (ap (option_map (λ s. s.id.node)) (shown_at_number c.args.self.run) ∙ sym (ap (λ (k : FullNodeId). Some k.node) c.id.ensures), refl)
