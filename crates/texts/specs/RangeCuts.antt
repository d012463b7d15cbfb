-- What the walks over the parts of a range have left.
use Rattle.std.specs.Prelude.{List, map}
use Rattle.model.specs.declared.FullNodeId.{FullNodeId}
use Rattle.model.specs.World.{World}
use Rattle.model.specs.FlatText.{FlatText}
use Rattle.model.specs.Ranges.{Range}
use Rattle.texts.specs.declared.range.TextRange.{TextRange}
use Rattle.texts.specs.declared.range_walks.RangeCharacters.{RangeCharacters}
use Rattle.texts.specs.declared.range_walks.RangeWords.{RangeWords}
use Rattle.texts.specs.declared.range_walks.RangeLines.{RangeLines}
use Rattle.texts.specs.TextRanges.{world_in, root_in, text_in, range_at}
use Rattle.texts.specs.Cuts.{character_ranges, word_ranges, line_ranges}

-- a range, with the world and the root of its text
abbrev pub Located : Type 0
Located = World × (FullNodeId × Range)

abbrev pub located_in : World → FullNodeId → Range → Located
located_in w root q = (w, (root, q))

abbrev pub located : TextRange → Located
located r = located_in (world_in r) (root_in r) (range_at r)

-- the parts of a range, of the same text
abbrev pub parts_of : (FlatText → Range → List Range) → TextRange → List Located
parts_of parts r = map (located_in (world_in r) (root_in r)) (parts (text_in r) (range_at r))

abbrev pub characters_left : RangeCharacters → List Located
characters_left s = parts_of character_ranges s.left

abbrev pub words_left : RangeWords → List Located
words_left s = parts_of word_ranges s.left

abbrev pub lines_left : RangeLines → List Located
lines_left s = parts_of line_ranges s.left
