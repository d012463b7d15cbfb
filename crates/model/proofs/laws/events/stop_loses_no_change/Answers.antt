use Rattle.std.proofs.Common.{inl, inr, sym, ◌∙◌, subst}
use Rattle.model.specs.Run.{ToQuery, Does}
use Rattle.model.proofs.Decisions.{same_inside}
use Rattle.model.proofs.laws.events.stop_loses_no_change.Goals as goal

pub returns : goal.returns
returns c = λ old at new commands done told heard replies next reply run later here does. elim run.0 [
  | inl none ↦ absurd (later none)
  | inr asked ↦ let query = subst (λ c. Does at c new heard reply) (same_inside next (ToQuery asked.0) (sym here ∙ asked.1)) does in (query.0, query.1)
]
