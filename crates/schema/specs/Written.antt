-- The contents of a text buffer: the bytes that it received, and the number of failed calls.
use Rattle.std.specs.Prelude.{ℕ, List}

pub record Written : Type 0 where
  pub text : List ℕ
  pub failures : ℕ
