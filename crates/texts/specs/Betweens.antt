-- The range between two positions, each with a state of its own.
use Rattle.std.specs.Prelude.{Option, None, option_map, if◌then◌else◌}
use Rattle.schema.specs.declared.values.TextPosition.{TextPosition as Raw}
use Rattle.model.specs.Forest.{is_same}
use Rattle.model.specs.Ranges.{Range, range_between, position_named}
use Rattle.views.specs.Nodes.{id_at}
use Rattle.texts.specs.declared.position.TextPosition.{TextPosition}
use Rattle.texts.specs.Positions.{root_at, position_text, flat_position}

-- a range, if the positions have the same root
abbrev pub if_one_root : TextPosition → TextPosition → Option Range → Option Range
if_one_root p q range = if is_same (id_at (root_at p)) (id_at (root_at q)) then range else None

-- in the text of the first, between it and the position that has the name of the second there
abbrev pub between_names : TextPosition → TextPosition → Raw → Option Range
between_names p q raw =
    if_one_root p q (option_map (range_between (position_text p) (flat_position p)) (position_named (position_text p) raw))
