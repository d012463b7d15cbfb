-- What a line without fields means: any but that of a node and the one that begins an update.
use Rattle.std.specs.Prelude.{ℕ, ◌==◌, ◌≢◌, List, [], ◌∷◌, codes, Bool, true, false, Option, Some, option_map, Result, if◌then◌else◌}
use Rattle.std.specs.Str.{bytes_eq}
use Rattle.script_lines.specs.LineReading.{host_word}
use Rattle.script_lines.specs.QuestionMeaning.{question_means}
use Rattle.script_lines.specs.declared.lines.Line.{Line}
use Rattle.script_lines.specs.declared.lines.Line.TheVariants as says
use Rattle.script_words.specs.Cuts.{part_before}
use Rattle.script_words.specs.Meaning.{Gives, last_word, next_word, only, onward}
use Rattle.script_words.specs.NamedIn.{first_named}
use Rattle.script_words.specs.declared.stops.Stop.{Stop}

-- an empty line or a comment
abbrev pub is_blank : List ℕ → Bool
is_blank [] = true
is_blank (byte ∷ others) = byte == 35

-- `on` or `off`, and no more
abbrev pub host_state : List ℕ → Option Bool
host_state word = first_named host_word word (true ∷ false ∷ [])

abbrev pub host_means : Option (List ℕ) → Option Line
host_means line = option_map says.HostFocus (onward (last_word line) host_state)

-- the line that begins with this word, by the words that come after it
abbrev pub plain_means : List ℕ → Option (List ℕ) → Option Line
plain_means word line =
    if bytes_eq word (codes "host") then host_means line
    else if bytes_eq word (codes "end") then only says.End line
    else if bytes_eq word (codes "print") then only says.Print line
    else option_map says.Query (question_means word line)

-- THE MEANING OF A LINE WITHOUT FIELDS, without its end; none, if it is bad
abbrev pub plain_line_means : List ℕ → Option Line
plain_line_means text =
    if is_blank text then Some says.Nothing else onward (next_word (Some text)) (λ word. plain_means word.0 word.1)

-- a line without fields is read as what it means, or is bad where it means nothing
abbrev pub ReadsPlain : List ℕ → Result Line Stop → Type 0
ReadsPlain text result = part_before 32 text ≢ codes "update" → part_before 32 text ≢ codes "node" → Gives (plain_line_means text) result
