-- Runs of a root at their places.
use Rattle.std.specs.Prelude.{◌≡◌, List, ◌∷◌, ◌++◌, true}
use Rattle.std.specs.Coded.{Coded-set, coded_bool, coded_list}
use Rattle.model.specs.declared.FullNodeId.{FullNodeId}
use Rattle.model.specs.FullIds.{coded_full}
use Rattle.model.specs.World.{World}
use Rattle.model.specs.Beside.{after_in, before_in, is_below}
use Rattle.model.specs.TextRuns.{run_filter, run_ids}
use Rattle.views.specs.declared.walks.spot.Spot.{Spot}
use Rattle.views.specs.Spots.{IsSpot, IsSpot-prop}

-- the runs of a root after a node, and before it
abbrev pub runs_after : World → FullNodeId → FullNodeId → List FullNodeId
runs_after w root id = after_in (run_filter w root) w root id

abbrev pub runs_before : World → FullNodeId → FullNodeId → List FullNodeId
runs_before w root id = before_in (run_filter w root) w root id

-- the node has this place, and is one of the root's runs: these are the ones before it, itself, and the ones after it
pub record IsRunPlace (w : World) (root : FullNodeId) (s : Spot) : Type 0 where
  pub spot : IsSpot w s
  pub below : is_below w root s.member.id ≡ true
  pub among : runs_before w root s.member.id ++ s.member.id ∷ runs_after w root s.member.id ≡ run_ids w root

-- it has one proof at most, so a run can keep it
pub IsRunPlace-prop : (w : World) (root : FullNodeId) (s : Spot) → IsProp (IsRunPlace w root s)
IsRunPlace-prop w root s a b = λ i. record {
  spot = IsSpot-prop w s a.spot b.spot i;
  below = Coded-set coded_bool (is_below w root s.member.id) true a.below b.below i;
  among =
      Coded-set (coded_list coded_full) (runs_before w root s.member.id ++ s.member.id ∷ runs_after w root s.member.id)
      (run_ids w root) a.among b.among i;
}
