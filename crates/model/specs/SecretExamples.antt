-- Two worlds that differ in the characters of a password alone.
use Rattle.std.specs.Prelude.{codes, ◌≡◌, ℕ, List, [], ◌∷◌, Some, None}
use Rattle.schema.specs.NodeData.{NodeData, empty_node}
use Rattle.schema.specs.declared.Role.TheVariants.{PasswordInput, TextRun}
use Rattle.model.specs.declared.FullNodeId.{FullNodeId}
use Rattle.model.specs.World.{World}
use Rattle.model.specs.ListExamples.{parent}
use Rattle.model.specs.Examples.{at}
use Rattle.model.specs.ViewExamples.{one_tree}
use Rattle.model.specs.Values.{bullets, value_of}
use Rattle.model.specs.Shape.{EqualShape}

abbrev pub field_node : List ℕ → NodeData
field_node value = record (parent PasswordInput (1 ∷ 2 ∷ [])) { value = Some value }

-- a run with this value, cut by these lengths
abbrev pub run_node : List ℕ → List ℕ → NodeData
run_node value lengths = record (empty_node TextRun) { value = Some value; character_lengths = lengths }

-- a password 0 with this value of its own, and two runs
abbrev pub secret_nodes : List ℕ → NodeData → NodeData → List (FullNodeId × NodeData)
secret_nodes value first second = (at 0 0, field_node value) ∷ (at 0 1, first) ∷ (at 0 2, second) ∷ []

abbrev pub secret : List ℕ → NodeData → NodeData → World
secret value first second = one_tree None (secret_nodes value first second)

-- a letter and one of two bytes, and two equal letters
abbrev pub one_secret : World
one_secret = secret (codes "secret") (run_node (112 ∷ 195 ∷ 164 ∷ []) (1 ∷ 2 ∷ [])) (run_node (codes "ss") (1 ∷ 1 ∷ []))

-- four letters
abbrev pub other_secret : World
other_secret = secret (codes "x") (run_node (codes "xy") (1 ∷ 1 ∷ [])) (run_node (codes "zw") (1 ∷ 1 ∷ []))

-- the first secret, with a label at its first run
abbrev pub labelled_run : NodeData
labelled_run = record (run_node (112 ∷ 195 ∷ 164 ∷ []) (1 ∷ 2 ∷ [])) { label = Some (codes "x") }

abbrev pub labelled_secret : World
labelled_secret = secret (codes "secret") labelled_run (run_node (codes "ss") (1 ∷ 1 ∷ []))

-- three letters
abbrev pub shorter_secret : World
shorter_secret = secret (codes "secret") (run_node (codes "xy") (1 ∷ 1 ∷ [])) (run_node (codes "z") (1 ∷ []))

pub record SecretsAreAlike : Type 0 where
  pub shape : EqualShape (at 0 0) one_secret other_secret
  pub shown : value_of one_secret (at 0 0) ≡ Some (bullets 4)
  pub other_shown : value_of other_secret (at 0 0) ≡ Some (bullets 4)
  pub labels_are_told : ¬ (EqualShape (at 0 0) one_secret labelled_secret)
  pub counts_are_told : ¬ (EqualShape (at 0 0) one_secret shorter_secret)
