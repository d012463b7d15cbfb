use Rattle.std.proofs.Common.{refl, rules}
use Rattle.html.specs.Escaped.{escaped_byte}
use Rattle.html.proofs.Beginnings.{at_err, past_bytes}
use Rattle.html.proofs.escaping.write_escaped_bytes.Goals as goal

pub returns-in_err-write_byte-clause-cut : goal.returns-in_err-write_byte-clause-cut
returns-in_err-write_byte-clause-cut g c =
    at_err _ (past_bytes escaped_byte _ _ _ _ c.args.text.now c.loop-byte.byte-index refl (search rules) c.loop-byte.invariant c.in_err-write_byte.ensures.cut)
