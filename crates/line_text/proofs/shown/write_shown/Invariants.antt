use Rattle.std.proofs.Common.{ℕ, ◌≡◌, List, ◌++◌, drop}
use Rattle.std.specs.Io.KnownBytes.{Appends}
use Rattle.line_text.specs.Shown.{shown, shown_after}
use Rattle.line_text.proofs.shown.write_shown.Given as goal

-- what is written so far, and what is shown of the rest, are what is shown of the text
abbrev pub invariant-loop-byte : goal.invariant-loop-byte
invariant-loop-byte g l = (written : List ℕ) × (written ++ shown_after l.held (drop l.byte-index l.fn.text) ≡ shown l.fn.text) × Appends (g.O.Write.contents l.fn.out) (g.O.Write.contents l.out) written
