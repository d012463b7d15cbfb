-- Indexes in the whole text, by what they count.
use Rattle.std.specs.Prelude.{◌≡◌, ◌==◌, ◌||◌, ℕ, Bool, true, List, length, map, take, sum_by}
use Rattle.schema.specs.RunFits.{is_cut_by}
use Rattle.model.specs.TextRuns.{SentRun, run_value, said_count, sent_characters}
use Rattle.model.specs.FlatText.{shown_character}
use Rattle.model.specs.Moves.{scalar_len, utf16_len}
use Rattle.texts.specs.declared.indexes.Units.{Units}
use Rattle.texts.specs.declared.indexes.Units.TheVariants.{Scalars, Utf16}

-- the number of units of a character
abbrev pub unit_len : Units → List ℕ → ℕ
unit_len Scalars = scalar_len
unit_len Utf16 = utf16_len

-- the lengths of the run's characters cut its value
abbrev pub IsCut : SentRun → Type 0
IsCut r = is_cut_by (run_value r) r.node.character_lengths ≡ true

-- each character of the run, as it is shown, is a bullet or a single byte, and so one unit of either kind
abbrev pub are_units : Bool → SentRun → Bool
are_units masked r = masked || (length (run_value r) == said_count r)

-- the number of units of a run's first characters, as they are shown
abbrev pub length_to : Units → Bool → SentRun → ℕ → ℕ
length_to units masked r i = sum_by (unit_len units) (take i (map (shown_character masked) (sent_characters r)))

-- the number of units of all of its characters
abbrev pub length_of : Units → Bool → SentRun → ℕ
length_of units masked r = length_to units masked r (said_count r)
