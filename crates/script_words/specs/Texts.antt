-- The meaning of a text in quotes.
use Rattle.std.specs.Prelude.{ℕ, ◌==◌, ◌||◌, Bool, true, false, List, [], ◌∷◌, ◌++◌, Option, Some, None, if◌then◌else◌}
use Rattle.std.specs.Str.{is_utf8}
use Rattle.script_words.specs.Meaning.{onward}
use Rattle.script_words.specs.declared.unquoting.InQuotes.{InQuotes}
use Rattle.script_words.specs.declared.unquoting.InQuotes.TheVariants.{Ends, Escapes, Gives}

-- behind a backslash a quote and a backslash stand for themselves, and n for a newline
abbrev pub escaped_step : ℕ → Option InQuotes
escaped_step byte = if byte == 34 || byte == 92 then Some (Gives byte) else if byte == 110 then Some (Gives 10) else None

abbrev pub plain_step : ℕ → Option InQuotes
plain_step byte = if byte == 34 then Some Ends else if byte == 92 then Some Escapes else Some (Gives byte)

abbrev pub step_of : Bool → ℕ → Option InQuotes
step_of true byte = escaped_step byte
step_of false byte = plain_step byte

abbrev pub by_step : Option InQuotes → List ℕ → List ℕ → (Bool → List ℕ → Option (List ℕ × List ℕ)) → Option (List ℕ × List ℕ)
by_step None text others more = None
by_step (Some Escapes) text others more = more true text
by_step (Some Ends) text others more = Some (text, others)
by_step (Some (Gives byte)) text others more = more false (text ++ byte ∷ [])

-- with the text so far, the whole text up to the closing quote, and what comes behind that
unfoldable pub unquoted_after : List ℕ → Bool → List ℕ → Option (List ℕ × List ℕ)
unquoted_after text is_escaped [] = None
unquoted_after text is_escaped (byte ∷ others) =
    by_step (step_of is_escaped byte) text others (λ next so_far. unquoted_after so_far next others)

abbrev pub unquoted : List ℕ → Option (List ℕ × List ℕ)
unquoted bytes = unquoted_after [] false bytes

-- a text is UTF-8
abbrev pub as_text : List ℕ → Option (List ℕ)
as_text bytes = if is_utf8 bytes then Some bytes else None

-- ---- a word that is a text

-- nothing comes behind its closing quote
abbrev pub whole_text : List ℕ → List ℕ → Option (List ℕ)
whole_text text [] = as_text text
whole_text text (byte ∷ others) = None

abbrev pub text_of : List ℕ → Option (List ℕ)
text_of [] = None
text_of (byte ∷ inner) = if byte == 34 then onward (unquoted inner) (λ read. whole_text read.0 read.1) else None

-- ---- the same at the front of what is left of a line, which is read in one go

-- behind the closing quote the line ends, or a space comes
abbrev pub behind_text : List ℕ → Option (Option (List ℕ))
behind_text [] = Some None
behind_text (byte ∷ left) = if byte == 32 then Some (Some left) else None

abbrev pub text_at : List ℕ → Option (List ℕ × Option (List ℕ))
text_at [] = None
text_at (byte ∷ inner) =
    if byte == 34 then
    onward (unquoted inner) (λ read. onward (behind_text read.1) (λ left. onward (as_text read.0) (λ text. Some (text, left))))
    else None

abbrev pub next_text : Option (List ℕ) → Option (List ℕ × Option (List ℕ))
next_text None = None
next_text (Some text) = text_at text
