-- The lines said so far, and those that are postponed.
use Rattle.std.specs.Prelude.{ℕ, List, [], ◌++◌}

-- what is said so far, and what is said after everything else
pub record Speech : Type 0 where
  pub said : List ℕ
  pub waiting : List ℕ

-- a line is said at once
abbrev pub said_too : Speech → List ℕ → Speech
said_too s line = record s { said = s.said ++ line }

-- a line is said after everything else
abbrev pub said_later : Speech → List ℕ → Speech
said_later s line = record s { waiting = s.waiting ++ line }

-- the postponed lines are said
abbrev pub all_said : Speech → Speech
all_said s = record { said = s.said ++ s.waiting; waiting = [] }
