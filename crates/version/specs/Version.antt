-- The version, as a number and as text.
use Rattle.std.specs.Prelude.{ℕ, List, ◌+◌, ◌*◌, ◌++◌, codes}
use Rattle.version.specs.declared.TheConstants.{MAJOR, MINOR, PATCH}

abbrev pub version_number : ℕ
version_number = MAJOR * 10000 + MINOR * 100 + PATCH

-- `tools/version` writes it
abbrev pub version_text : List ℕ
version_text = codes "0.1.0"

-- a line with a program's name and a version
abbrev pub line_of : List ℕ → List ℕ → List ℕ
line_of name version = name ++ codes " (accesskit-proved) " ++ version ++ codes "\n"

-- what a program of this name prints for `--version`
abbrev pub version_line : List ℕ → List ℕ
version_line name = line_of name version_text
