-- What is wrong with the arguments of a program.
use Rattle.std.specs.Prelude.{ℕ, ◌==◌, nat_eq, List, [], ◌∷◌, codes, Bool, true, false, ◌||◌, MatchBool, if◌then◌else◌, Option, Some, None, option_copied, unwrap_or, Result, Ok, Err, IsErrAnd, ◌≡◌}
use Rattle.std.specs.List.{list_any, starts_with}
use Rattle.std.specs.Str.{bytes_eq}
use Rattle.std.specs.String.{string_bytes}
use Rattle.line_faults.specs.Messages.{IsNearestOf}
use Rattle.script_lines.specs.declared.argument_errors.ArgumentError.{ArgumentError}
use Rattle.script_lines.specs.declared.argument_errors.ArgumentError.TheVariants.{Help, Version, Count, File, Unknown, NotUtf8, Memory}
use Rattle.script_lines.specs.declared.argument_errors.ArgumentKind.{ArgumentKind}
use Rattle.script_lines.specs.declared.argument_errors.ArgumentKind.TheVariants.{Dashed}
use Rattle.script_lines.specs.declared.arguments.NoArguments.{NoArguments}

-- a word with a slash or a dot is rather a file's name
abbrev pub is_like_a_file : List ℕ → Bool
is_like_a_file word = list_any (λ byte. byte == 47 || byte == 46) word

-- words are missing or too many: one of them is like a file's name, or none is
abbrev pub miscounted : List (List ℕ) → ArgumentError
miscounted words = if list_any is_like_a_file words then File else Count

-- a word isn't of this kind, and this is the right word that is nearest to it: it is like a file's name, or it is named with that word,
-- unless there is no memory for it
abbrev pub IsUnknownWord : ArgumentKind → List ℕ → Option (List ℕ) → ArgumentError → Type 0
IsUnknownWord kind word near File = is_like_a_file word ≡ true
IsUnknownWord kind word near (Unknown it) =
    (is_like_a_file word ≡ false) × (it.kind ≡ kind) × (string_bytes it.word ≡ word) × (option_copied it.near ≡ near)
IsUnknownWord kind word near Memory = is_like_a_file word ≡ false
IsUnknownWord kind word near _ = ⊥

-- an option begins with two dashes, or is `-h`
abbrev pub is_option : List ℕ → Bool
is_option word = starts_with nat_eq word (codes "--") || bytes_eq word (codes "-h")

-- the options of a program that may have one besides `--help` and `--version`
abbrev pub options_with : Option (List ℕ) → List (List ℕ)
options_with None = codes "--help" ∷ codes "--version" ∷ []
options_with (Some option) = codes "--help" ∷ codes "--version" ∷ option ∷ []

-- of these options a word may mean this one: the nearest, and `--help` if none is near
abbrev pub MayMean : List (List ℕ) → List ℕ → List ℕ → Type 0
MayMean options word meant = (near : Option (List ℕ)) × IsNearestOf word options near × (meant ≡ unwrap_or near (codes "--help"))

-- any other option is unknown, and named with the one of these options that may be meant
abbrev pub IsUnknownOption : List (List ℕ) → List ℕ → ArgumentError → Type 0
IsUnknownOption options word error = (meant : List ℕ) × MayMean options word meant × IsUnknownWord Dashed word (Some meant) error

-- an option asks for the manual if it is `--help`, and for the version if it is `--version`; any other is unknown
pub record IsNoOption (options : List (List ℕ)) (word : List ℕ) (error : ArgumentError) : Type 0 where
  pub help : bytes_eq word (codes "--help") ≡ true → error ≡ Help
  pub version : bytes_eq word (codes "--version") ≡ true → error ≡ Version
  pub unknown : bytes_eq word (codes "--help") ≡ false → bytes_eq word (codes "--version") ≡ false → IsUnknownOption options word error

-- what is read from words, of which the first may be an option, by a program with these options that reads other words so
abbrev pub ReadsWords : {A : Type 0} → (List (List ℕ) → Result A ArgumentError → Type 0) → List (List ℕ) → List (List ℕ)
    → Result A ArgumentError → Type 0
ReadsWords reads options [] result = reads [] result
ReadsWords reads options (first ∷ more) result =
    MatchBool (is_option first) (IsErrAnd result (IsNoOption options first)) (reads (first ∷ more) result)

-- a program without arguments takes any word for a file's name
abbrev pub ReadsNone : List (List ℕ) → Result NoArguments ArgumentError → Type 0
ReadsNone [] (Ok none) = Unit
ReadsNone [] (Err error) = ⊥
ReadsNone (first ∷ more) result = result ≡ Err File
