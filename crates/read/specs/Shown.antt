-- What is shown of a range of a text, and of its positions.
use Rattle.std.specs.Prelude.{ℕ, ◌+◌, ◌-◌, ◌^◌, min, List, map, length, if◌then◌else◌}
use Rattle.model.specs.declared.FullNodeId.{FullNodeId}
use Rattle.model.specs.World.{World}
use Rattle.model.specs.FlatText.{FlatText, Position, flat_text}
use Rattle.model.specs.Moves.{utf16_len, to_global_utf16_index}
use Rattle.model.specs.Ranges.{Range, document_range, text_of, with_end}
use Rattle.model.specs.TextRuns.{is_password}
use Rattle.model.specs.Values.{bullets}
use Rattle.texts.specs.Cuts.{character_ranges}
use Rattle.texts.specs.RangeCuts.{Located, located_in}

-- the text of a range; in a password a bullet for each of its characters, also if all are the same
abbrev pub shown_text : Located → List ℕ
shown_text l =
    if is_password l.0 l.1.0 then bullets (length (character_ranges (flat_text l.0 l.1.0) l.1.1)) else text_of (flat_text l.0 l.1.0) l.1.1

-- its parts, in the same text
abbrev pub parts_at : (FlatText → Range → List Range) → Located → List Located
parts_at parts l = map (located_in l.0 l.1.0) (parts (flat_text l.0 l.1.0) l.1.1)

-- the index that is so much further, or the last one that there is
abbrev pub further : ℕ → ℕ → ℕ
further at by = min (at + by) (2 ^ 64 - 1)

-- the index after a range that begins at this one
abbrev pub index_after : ℕ → Located → ℕ
index_after at l = further at (utf16_len (shown_text l))

-- how many characters are before a position
abbrev pub count_before : FlatText → Position → ℕ
count_before t p = length (character_ranges t (with_end t (document_range t) p))

-- the index of a position: in a password the number of bullets before it
abbrev pub shown_index : World → FullNodeId → Position → ℕ
shown_index w id p = if is_password w id then further 0 (count_before (flat_text w id) p) else to_global_utf16_index (flat_text w id) p
