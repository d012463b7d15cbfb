-- Which ranges of texts are equal.
use Rattle.std.specs.Prelude.{Bool}
use Rattle.std.specs.Coded.{Coded, coded×}
use Rattle.model.specs.declared.FullNodeId.{FullNodeId}
use Rattle.model.specs.FullIds.{coded_full}
use Rattle.texts.specs.declared.range.TextRange.{TextRange}
use Rattle.texts.specs.TextRanges.{root_in}
use Rattle.texts.specs.SameKeys.{same_key}
use Rattle.texts.specs.SamePositions.{RangeEnd, end_of, coded_end}

-- what two ranges are compared by: the root and both ends
abbrev pub Ends : Type 0
Ends = FullNodeId × (RangeEnd × RangeEnd)

abbrev pub ends_of : TextRange → Ends
ends_of r = (root_in r, (end_of r.first, end_of r.last))

abbrev pub coded_ends : Coded Ends
coded_ends = coded× coded_full (coded× coded_end coded_end)

-- they are equal in all three
abbrev pub same_text_range : TextRange → TextRange → Bool
same_text_range = same_key coded_ends ends_of
