use Rattle.std.proofs.Common.{ℕ, ◌<◌}
use Rattle.texts.proofs.FormatStarts.{IsAlikeAt}
use Rattle.texts.proofs.formats.has_same_format.Given as goal

-- the nodes have the same of the looks before this one
abbrev pub invariant-loop-what : goal.invariant-loop-what
invariant-loop-what l = (k : ℕ) → k < l.what-index → IsAlikeAt l.fn.a l.fn.b k
