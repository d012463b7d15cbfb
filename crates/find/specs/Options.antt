-- The options of the program.
use Rattle.std.specs.Prelude.{ℕ, List, [], ◌∷◌, codes, map, find, Option, option_map}
use Rattle.std.specs.Borrow.{Bor}
use Rattle.std.specs.Str.{bytes_eq}
use Rattle.line_faults.specs.Messages.{IsNearestOf}
use Rattle.script_lines.specs.ArgumentErrors.{IsUnknownWord}
use Rattle.script_lines.specs.declared.argument_errors.ArgumentError.{ArgumentError}
use Rattle.script_lines.specs.declared.argument_errors.ArgumentKind.TheVariants.{Dashed}
use Rattle.find.specs.declared.options.Switch.{Switch}
use Rattle.find.specs.declared.options.Switch.TheVariants.{Flag, Setting}
use Rattle.find.specs.declared.options.Flag.TheVariants as flags
use Rattle.find.specs.declared.options.Setting.TheVariants as settings

-- an entry of the table, by its text
abbrev pub entry_of : Bor (List ℕ) × Switch → List ℕ × Switch
entry_of entry = (entry.0.now, entry.1)

-- the options, by their names
abbrev pub options : List (List ℕ × Switch)
options =
    (codes "--contains", Flag flags.Contains)
    ∷ (codes "--ignore-case", Flag flags.IgnoreCase)
    ∷ (codes "--exact", Flag flags.Exact)
    ∷ (codes "--any-number", Flag flags.AnyNumber)
    ∷ (codes "--every", Flag flags.Every)
    ∷ (codes "--label", Setting settings.Label)
    ∷ (codes "--text", Setting settings.Text)
    ∷ (codes "--any", Setting settings.Any)
    ∷ (codes "--level", Setting settings.Level)
    ∷ (codes "--at", Setting settings.At)
    ∷ []

abbrev pub option_named : List ℕ → Option Switch
option_named word = option_map (λ entry. entry.1) (find (λ entry. bytes_eq entry.0 word) options)

-- the names of all options, with those of every program
abbrev pub option_names : List (List ℕ)
option_names = codes "--help" ∷ codes "--version" ∷ map (λ entry. entry.0) options

-- the word is told as one that is no option, with the nearest of these names if one is near
abbrev pub IsNoOption : List ℕ → ArgumentError → Type 0
IsNoOption word error = (near : Option (List ℕ)) × IsNearestOf word option_names near × IsUnknownWord Dashed word near error
