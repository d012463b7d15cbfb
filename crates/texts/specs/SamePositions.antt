-- Which positions of texts are equal.
use Rattle.std.specs.Prelude.{ℕ, Bool}
use Rattle.std.specs.Coded.{Coded, coded×, coded_ℕ}
use Rattle.model.specs.declared.FullNodeId.{FullNodeId}
use Rattle.model.specs.FullIds.{coded_full}
use Rattle.texts.specs.declared.edges.Edge.{Edge}
use Rattle.texts.specs.declared.position.TextPosition.{TextPosition}
use Rattle.views.specs.Nodes.{id_at}
use Rattle.views.specs.Runs.{run_id}
use Rattle.texts.specs.Positions.{root_at}
use Rattle.texts.specs.SameKeys.{same_key}

-- what two ends of ranges are compared by: the run and the index
abbrev pub RangeEnd : Type 0
RangeEnd = FullNodeId × ℕ

abbrev pub end_of : Edge → RangeEnd
end_of e = (e.spot.member.id, e.index)

abbrev pub coded_end : Coded RangeEnd
coded_end = coded× coded_full coded_ℕ

-- what two positions are compared by: the root, the run and the index
abbrev pub Key : Type 0
Key = FullNodeId × RangeEnd

abbrev pub key_of : TextPosition → Key
key_of p = (id_at (root_at p), (run_id p.run, p.index))

abbrev pub coded_key : Coded Key
coded_key = coded× coded_full coded_end

-- they are equal in all three
abbrev pub same_text_position : TextPosition → TextPosition → Bool
same_text_position = same_key coded_key key_of
