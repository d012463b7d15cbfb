-- Whether there is a character beside a position, and movements by one character.
use Rattle.std.specs.Prelude.{nat_lt, Bool, Option, Some, None, if◌then◌else◌}
use Rattle.model.specs.FlatText.{FlatText, Position, offset, total}
use Rattle.model.specs.Moves.{forward_to_character_start, backward_to_character_start}

-- after the position, and before it
abbrev pub has_character_after : FlatText → Position → Bool
has_character_after t p = nat_lt (offset t p) (total t)

abbrev pub has_character_before : FlatText → Position → Bool
has_character_before t p = nat_lt 0 (offset t p)

-- past the character after it, and before the one before it, if there is one
abbrev pub next_character : FlatText → Position → Option Position
next_character t p = if has_character_after t p then Some (forward_to_character_start t p) else None

abbrev pub previous_character : FlatText → Position → Option Position
previous_character t p = if has_character_before t p then Some (backward_to_character_start t p) else None
