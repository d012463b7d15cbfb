use Rattle.std.proofs.Common.{◌≡◌, ◌++◌, length}
use Rattle.std.specs.Prelude.{string_bytes}
use Rattle.model.specs.Values.{bullets}
use Rattle.texts.specs.RangeCuts.{characters_left, parts_of}
use Rattle.texts.specs.Cuts.{character_ranges}
use Rattle.read.proofs.reading.shown.bullets.Given as goal

abbrev pub decreases-loop-character : goal.decreases-loop-character
decreases-loop-character l = length (characters_left l.left)

-- those so far, and one for each character that is left
abbrev pub invariant-loop-character : goal.invariant-loop-character
invariant-loop-character l = string_bytes l.text ++ bullets (length (characters_left l.left)) ≡ bullets (length (parts_of character_ranges l.fn.range))
