use Rattle.std.proofs.Common.{sym, ap, ◌∙◌}
use Rattle.std.specs.Prelude.{◌&&◌}
use Rattle.model.specs.FlatText.{run_has}
use Rattle.text_boundaries.specs.RunNumbers.{number_in, text_around}
use Rattle.text_boundaries.proofs.FlatRuns.{newline_at_number}
use Rattle.text_boundaries.proofs.closes_paragraph.Goals as goal

pub returns-then-ends_line : goal.returns-then-ends_line
returns-then-ends_line c =
    let r = c.args.run in
    c.ends_with_newline.ensures ∙ sym (newline_at_number r) ∙ sym (ap (λ b. b && run_has (λ s. s.has_newline) (text_around r) (number_in r)) (sym c.ends_line.ensures ∙ c.if-ends_line.true))
