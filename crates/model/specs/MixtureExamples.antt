-- A list that is taken from both ends.
use Rattle.std.specs.Prelude.{ℕ, List, [], ◌∷◌, Some, None}
use Rattle.std.specs.Iterator.{YieldsFirst, YieldsLast}
use Rattle.model.specs.Mixtures.{front, back, Call, AreCalls, AreTaken}

abbrev pub three : List ℕ
three = 1 ∷ 2 ∷ 3 ∷ []

-- the ends meet at 2, and after that both return `None`
abbrev pub calls_on_three : List (Call ℕ)
calls_on_three = (front, Some 1) ∷ (back, Some 3) ∷ (back, Some 2) ∷ (front, None) ∷ (back, None) ∷ []

-- the same without 2
abbrev pub calls_that_lose : List (Call ℕ)
calls_that_lose = (front, Some 1) ∷ (back, Some 3) ∷ (back, None) ∷ []

-- these are calls on the list, and take it; those that lose the item where the ends meet don't
pub record ThreeAreTaken : Type 0 where
  pub called : AreCalls (YieldsFirst (λ (left : List ℕ). left)) (YieldsLast (λ (left : List ℕ). left)) three calls_on_three []
  pub taken : AreTaken three calls_on_three []
  pub lost : ¬ (AreTaken three calls_that_lose [])
