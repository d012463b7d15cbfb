-- Positions in the flat text of a root.
use Rattle.std.proofs.Common.{arith}
use Rattle.model.specs.FlatText.{IsPosition}
use Rattle.model.specs.TextLaws.{IsWhole}
use Rattle.model.proofs.Text.TextFacts.{is_text}
use Rattle.model.proofs.Text.WholeTexts.{whole_text}
use Rattle.views.specs.Runs.{run_world, root_id}
use Rattle.text_boundaries.proofs.FlatRuns.{runs_counted, count_at_number}
use Rattle.texts.specs.declared.position.TextPosition.{TextPosition}
use Rattle.texts.specs.Positions.{position_text, flat_position}

module _ (p : TextPosition) where
  pub text_is_whole : IsWhole (position_text p)
  text_is_whole = whole_text (run_world p.run) (root_id p.run) (is_text (run_world p.run) (root_id p.run) p.text)

  pub is_position : IsPosition (position_text p) (flat_position p)
  is_position = record { run = (let n = runs_counted p.run in omega (arith, n)); index = (let c = count_at_number p.run in let i = p.within in omega (arith, c, i)) }
