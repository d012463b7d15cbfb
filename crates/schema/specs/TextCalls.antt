-- How a writer of text is called.
use Rattle.std.specs.Prelude.{ℕ, List}

-- with the bytes of a text, or with the scalar of a character
pub data TextCall : Type 0 where
  WithText : (bytes : List ℕ) → TextCall
  WithCharacter : (scalar : ℕ) → TextCall
