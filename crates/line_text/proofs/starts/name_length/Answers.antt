use Rattle.std.proofs.Common.{length, arith, sym}
use Rattle.std.proofs.lemmas.List.Sums.{position_or_len_is}
use Rattle.line_text.specs.Starts.{ends_name}
use Rattle.line_text.proofs.starts.name_length.Goals as goal

pub returns-clause-exact : goal.returns-clause-exact
returns-clause-exact c = sym (position_or_len_is ends_name c.args.text.now (length c.args.text.now) 0 (omega arith) (λ k h. c.loop-end.invariant k (omega (arith, c.loop-end-test.false))) (λ h. absurd (omega arith)))
