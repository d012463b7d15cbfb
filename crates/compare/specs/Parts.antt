-- The two scripts of an input.
use Rattle.std.specs.Prelude.{◌≡◌, ◌≢◌, ℕ, List, [], ◌∷◌, All, Bool, true, false, codes, ◌||◌, Option, Some, None}
use Rattle.std.specs.List.{concat}
use Rattle.std.specs.Io.BufRead.{take_through, drop_through}
use Rattle.std.specs.Str.{bytes_eq}

-- a line is the border between the scripts, with any end
abbrev pub is_border : List ℕ → Bool
is_border line =
    bytes_eq line (codes "# ---\n") || bytes_eq line (codes "# ---\r\n") || bytes_eq line (codes "# ---") || bytes_eq line (codes "# ---\r")

-- the bytes begin with these lines, each with its end, and the rest follows
abbrev pub BeginWith : List ℕ → List (List ℕ) → List ℕ → Type 0
BeginWith bytes [] rest = bytes ≡ rest
BeginWith bytes (line ∷ more) rest = (bytes ≢ []) × (line ≡ take_through 10 bytes) × BeginWith (drop_through 10 bytes) more rest

-- the bytes up to the rest are whole lines, none of them a border
pub record HasNoBorder (bytes first rest : List ℕ) : Type 0 where
  pub lines : List (List ℕ)
  pub begin : BeginWith bytes lines rest
  pub none : All (λ line. is_border line ≡ false) lines
  pub all : first ≡ concat lines

-- the first script is what stands before the first border, and the second one what stands behind it
pub record IsCut (bytes first second : List ℕ) : Type 0 where
  pub rest : List ℕ
  pub before : HasNoBorder bytes first rest
  pub border : is_border (take_through 10 rest) ≡ true
  pub behind : second ≡ drop_through 10 rest

-- the first part is read, and this is left; or the input has no border
abbrev pub CutsFirst : List ℕ → Option (List ℕ) → Option (List ℕ) → Type 0
CutsFirst bytes (Some first) left = (second : List ℕ) × (left ≡ Some second) × IsCut bytes first second
CutsFirst bytes None left = (lines : List ℕ) × HasNoBorder bytes lines []
