use Rattle.std.proofs.Common.{◌≡◌, ◌-◌, ◌≤◌}
use Rattle.texts.proofs.text_lines.TextLines.nearest.Given as goal

abbrev pub invariant-loop-found : goal.invariant-loop-found
invariant-loop-found l = record { same : l.found.root ≡ l.self.root; upto : l.found.line ≤ l.index }

abbrev pub decreases-loop-found : goal.decreases-loop-found
decreases-loop-found l = l.index - l.found.line
