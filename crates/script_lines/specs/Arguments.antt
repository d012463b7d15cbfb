-- What a program says of itself and of its arguments.
use Rattle.std.specs.Prelude.{ℕ, List, [], ◌∷◌, ◌++◌, codes, Bool, true, false, if◌then◌else◌, Option, Some, None, option_copied, Result, Ok, Err, MatchResult, ◌≡◌}
use Rattle.std.specs.Str.{bytes_eq}
use Rattle.std.specs.String.{string_bytes}
use Rattle.line_text.specs.Shown.{shown}
use Rattle.script_lines.specs.ArgumentErrors.{ReadsWords, options_with}
use Rattle.script_lines.specs.Ends.{Tells, told_of}
use Rattle.script_lines.specs.declared.argument_errors.ArgumentError.{ArgumentError}
use Rattle.script_lines.specs.declared.argument_errors.ArgumentError.TheVariants.{Help, Version, Count, File, Unknown, NotUtf8, Memory}
use Rattle.script_lines.specs.declared.argument_errors.ArgumentKind.{ArgumentKind}
use Rattle.script_lines.specs.declared.argument_errors.ArgumentKind.TheVariants as kind
use Rattle.script_lines.specs.declared.argument_errors.UnknownWord.{UnknownWord}
use Rattle.script_lines.specs.declared.arguments.Manual.{Manual}
use Rattle.script_words.specs.declared.stops.Stop.TheVariants as stop
use Rattle.version.specs.Version.{version_line}

-- the bytes of a stream, where they are known
abbrev Bytes : Type 0
Bytes = Option (List ℕ)

-- how a program is called
abbrev pub call_text : Manual → List ℕ
call_text manual = manual.name.now ++ manual.arguments.now ++ codes " < SCRIPT"

-- what is printed for `--help`
abbrev pub manual_text : Manual → List ℕ
manual_text manual = call_text manual ++ codes "\n\n" ++ manual.help.now

-- a program's options
abbrev pub options : Manual → List (List ℕ)
options manual = options_with (option_copied manual.option)

-- what says more
abbrev pub hint_text : Manual → List ℕ
hint_text manual = codes "; " ++ manual.name.now ++ codes " --help says more\n"

abbrev pub usage_text : Manual → List ℕ
usage_text manual = codes "usage: " ++ call_text manual ++ hint_text manual

-- what words of a kind are called
abbrev pub kind_text : ArgumentKind → List ℕ
kind_text kind.Role = codes "role"
kind_text kind.Number = codes "number"
kind_text kind.Tree = codes "tree"
kind_text kind.Dashed = codes "option"

-- the word that may be meant, and the end of the line
abbrev pub near_text : Option (List ℕ) → List ℕ
near_text None = codes "\n"
near_text (Some near) = codes "; did you mean " ++ near ++ codes "?\n"

abbrev pub unknown_text : UnknownWord → List ℕ
unknown_text it = codes "no " ++ kind_text it.kind ++ codes " " ++ shown (string_bytes it.word) ++ near_text (option_copied it.near)

-- what is wrong, in a line; nothing where words are missing or too many
abbrev pub error_text : ArgumentError → List ℕ
error_text File = codes "the script is read from standard input: put < before its file's name\n"
error_text (Unknown it) = unknown_text it
error_text NotUtf8 = codes "an argument isn't UTF-8\n"
error_text _ = []

-- that, and the usage
abbrev pub wrong_text : Manual → ArgumentError → List ℕ
wrong_text manual error = error_text error ++ usage_text manual

-- what is told where a program is not to run, on which stream, and its exit status
abbrev pub TellsError : Manual → ArgumentError → Bytes → Bytes → Bytes → Bytes → ℕ → Type 0
TellsError manual Help out out' err err' status = Tells out out' (manual_text manual) 0 status × (err' ≡ err)
TellsError manual Version out out' err err' status = Tells out out' (version_line manual.name.now) 0 status × (err' ≡ err)
TellsError manual Memory out out' err err' status = Tells err err' (told_of 0 stop.Memory) 4 status × (out' ≡ out)
TellsError manual error out out' err err' status = Tells err err' (wrong_text manual error) 2 status × (out' ≡ out)

-- whether the option, if there is one, is the first of the words; and the words after it, or else all of them
abbrev pub after_option : Option (List ℕ) → List (List ℕ) → Bool × List (List ℕ)
after_option None words = (false, words)
after_option (Some option) [] = (false, [])
after_option (Some option) (first ∷ others) = if bytes_eq first option then (true, others) else (false, first ∷ others)

-- What is answered to words, by a program that reads those after its option so: it runs with whether the option is given, and with what
-- they mean, and nothing is told; or the reason why not is told, and the result is the exit status.
abbrev pub Answers : {A : Type 0} → (List (List ℕ) → Result A ArgumentError → Type 0) → Manual → List (List ℕ) → Result (Bool × A) ℕ
    → Bytes → Bytes → Bytes → Bytes → Type 0
Answers reads manual words result out out' err err' =
    let given = after_option (option_copied manual.option) words in
    MatchResult result
    (λ asked. (asked.0 ≡ given.0) × ReadsWords reads (options manual) given.1 (Ok asked.1) × (out' ≡ out) × (err' ≡ err))
    (λ status. (error : ArgumentError) × ReadsWords reads (options manual) given.1 (Err error)
    × TellsError manual error out out' err err' status)

-- whether this option, if there is one, is the first of the words; and what is answered to the others
abbrev pub AnswersAfter : {A : Type 0} → (List (List ℕ) → Result A ArgumentError → Type 0) → Option (List ℕ) → Manual → List (List ℕ)
    → Result (Bool × (Bool × A)) ℕ → Bytes → Bytes → Bytes → Bytes → Type 0
AnswersAfter reads option manual words result out out' err err' =
    let given = after_option option words in
    MatchResult result
    (λ run. (run.0 ≡ given.0) × Answers reads manual given.1 (Ok run.1) out out' err err')
    (λ status. Answers reads manual given.1 (Err status) out out' err err')
