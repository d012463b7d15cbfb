-- The lines of a text, from one of its runs on.
use Rattle.std.specs.Prelude.{◌≡◌, ℕ, true, List, length, filter, zip, drop, Some}
use Rattle.std.specs.Coded.{Coded-set, coded_bool, coded_ℕ, coded×, coded_list, coded_option}
use Rattle.model.specs.FlatText.{FlatText, run_numbers, first_run, begins_line, ends_line, lines}
use Rattle.views.specs.declared.node.node_ref.NodeRef.{NodeRef}
use Rattle.views.specs.declared.walks.spot.Spot.{Spot}
use Rattle.views.specs.Nodes.{world_at, id_at}
use Rattle.views.specs.RunPlaces.{runs_before}

-- the number of the root's runs before the one at this place
abbrev pub number_at : NodeRef → Spot → ℕ
number_at n s = length (runs_before (world_at n) (id_at n) s.member.id)

-- the lines of the runs from this one on
abbrev pub lines_from : FlatText → ℕ → List (ℕ × ℕ)
lines_from t s = zip (filter (begins_line t) (drop s (run_numbers t))) (filter (ends_line t) (drop s (run_numbers t)))

-- the line of this number begins with the run
pub record BeginsLine (t : FlatText) (line first : ℕ) : Type 0 where
  pub begins : begins_line t first ≡ true
  pub left : drop line (lines t) ≡ lines_from t first

-- it has one proof at most, and so has that a line ends with a run: so lines can keep them
pub BeginsLine-prop : (t : FlatText) (line first : ℕ) → IsProp (BeginsLine t line first)
BeginsLine-prop t line first a b = λ i. record {
  begins = Coded-set coded_bool (begins_line t first) true a.begins b.begins i;
  left = Coded-set (coded_list (coded× coded_ℕ coded_ℕ)) (drop line (lines t)) (lines_from t first) a.left b.left i;
}

-- from the first run on, the last one is the first with which a line ends
abbrev pub EndsLine : FlatText → ℕ → ℕ → Type 0
EndsLine t first last = first_run t first (ends_line t) ≡ Some last

pub EndsLine-prop : (t : FlatText) (first last : ℕ) → IsProp (EndsLine t first last)
EndsLine-prop t first last = Coded-set (coded_option coded_ℕ) (first_run t first (ends_line t)) (Some last)
