-- Where the caret of a text is, and what is said of it where it has moved within a line.
use Rattle.std.specs.Prelude.{ℕ, ◌==◌, List, length, Bool, false, not, ◌||◌, Option, Some, None, option_map, if◌then◌else◌}
use Rattle.std.specs.Option.{option_map_or}
use Rattle.model.specs.declared.FullNodeId.{FullNodeId}
use Rattle.model.specs.FlatText.{FlatText, Position, flat_text}
use Rattle.model.specs.Moves.{to_global_usv_index, forward_to_word_end}
use Rattle.model.specs.Ranges.{text_of, with_end, selection_focus}
use Rattle.model.specs.TextRuns.{is_password}
use Rattle.model.specs.World.{World}
use Rattle.texts.specs.declared.position.TextPosition.{TextPosition}
use Rattle.texts.specs.Positions.{position_text, flat_position}
use Rattle.texts.specs.Characters.{next_character, previous_character}
use Rattle.phrases.specs.News.{news}
use Rattle.phrases.specs.Sayings.{character_line, word_line}
use Rattle.phrases.specs.Voices.{Speech}
use Rattle.speaking.specs.Said.{said_if}

-- how many scalars are before the caret
abbrev pub scalars_before : World → FullNodeId → Option ℕ
scalars_before w id = option_map (to_global_usv_index (flat_text w id)) (selection_focus w id)

-- in a password nothing is said of that
abbrev pub caret_place : World → FullNodeId → Option ℕ
caret_place w id = if is_password w id then None else scalars_before w id

-- a position has so many scalars before it, if there is one
abbrev pub is_at : Option TextPosition → ℕ → Bool
is_at position place = option_map_or (λ p. to_global_usv_index (position_text p) (flat_position p) == place) position false

-- the same of a position in a text
abbrev pub is_place : FlatText → Option Position → ℕ → Bool
is_place t p place = option_map_or (λ q. to_global_usv_index t q == place) p false

-- there is one character between the position and the one with so many scalars before it
abbrev pub is_beside : FlatText → Position → ℕ → Bool
is_beside t p place = is_place t (next_character t p) place || is_place t (previous_character t p) place

abbrev pub text_until : FlatText → Position → Position → List ℕ
text_until t p q = text_of t (with_end t (record { start = p; end = p }) q)

-- the character after the position, if there is one
abbrev pub character_at : FlatText → Position → Option (List ℕ)
character_at t p = option_map (text_until t p) (next_character t p)

-- the rest of the word in which the position is: from its start the whole word
abbrev pub word_at : FlatText → Position → List ℕ
word_at t p = text_until t p (forward_to_word_end t p)

-- where the caret has passed one character, the one that is after it is said, and otherwise the word
abbrev pub reached_said : FlatText → ℕ → Speech → Position → Speech
reached_said t before v p =
    if is_beside t p before then said_if character_line (character_at t p) v else said_if word_line (news None (Some (word_at t p))) v

abbrev pub said_at_caret : World → FullNodeId → ℕ → Speech → Speech
said_at_caret w id before v = option_map_or (reached_said (flat_text w id) before v) (selection_focus w id) v

-- that is said where the caret was at another place, and nothing is selected
abbrev pub within_said : World → FullNodeId → List ℕ → Option ℕ → Option ℕ → Speech → Speech
within_said w id selected (Some before) (Some now) v =
    if before == now || not (length selected == 0) then v else said_at_caret w id before v
within_said w id selected _ _ v = v
