use Rattle.std.proofs.Common.{◌≡◌, ◌≤◌, false, length}
use Rattle.script_words.specs.Texts.{unquoted, unquoted_after}
use Rattle.script_words.proofs.unquoting.unquoted.Given as goal

-- what is left makes with the text so far what all makes
abbrev pub invariant-taking : goal.invariant-taking
invariant-taking l = (unquoted_after l.text.items l.is_escaped l.left ≡ unquoted l.fn.bytes) × (length l.left ≤ length l.fn.bytes)

abbrev pub decreases-taking : goal.decreases-taking
decreases-taking l = length l.left
