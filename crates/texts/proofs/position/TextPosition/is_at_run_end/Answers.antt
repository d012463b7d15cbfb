use Rattle.std.proofs.Common.{sym, ap, ◌==◌, ◌∙◌}
use Rattle.text_boundaries.proofs.FlatRuns.{count_at_number}
use Rattle.texts.proofs.position.TextPosition.is_at_run_end.Goals as goal

pub returns : goal.returns
returns c = let p = c.args.self in ap (λ k. p.index == k) (c.character_count.ensures ∙ sym (count_at_number p.run))
