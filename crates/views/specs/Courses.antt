-- The state of a walk over what a filter shows.
use Rattle.std.specs.Prelude.{◌≡◌, ℕ, ◌+◌, List, [], true, Option, Some, None, refl}
use Rattle.std.specs.Coded.{Coded-set, coded_bool}
use Rattle.model.specs.declared.FullNodeId.{FullNodeId}
use Rattle.model.specs.declared.filters.FilterResult.{FilterResult}
use Rattle.model.specs.World.{World}
use Rattle.model.specs.Forest.{above}
use Rattle.model.specs.Beside.{is_below, Spans, items_between, work_after, work_before}
use Rattle.views.specs.declared.walks.ends.Ends.{Ends}
use Rattle.views.specs.Spots.{IsSpot, IsSpot-prop}

-- the next nodes from either end, both below top
pub record AreEnds (w : World) (top : FullNodeId) (e : Ends) : Type 0 where
  pub front : IsSpot w e.front
  pub back : IsSpot w e.back
  pub front_below : is_below w top e.front.member.id ≡ true
  pub back_below : is_below w top e.back.member.id ≡ true

-- the ends of a walk, which is over if it has none
abbrev pub AreEndsIf : World → FullNodeId → Option Ends → Type 0
AreEndsIf w top None = Unit {0}
AreEndsIf w top (Some e) = AreEnds w top e

-- both ends are shown, and the front isn't after the back
abbrev pub SpansEnds : (FullNodeId → FilterResult) → World → FullNodeId → Ends → Type 0
SpansEnds f w top e = Spans f w top e.front.member.id e.back.member.id

abbrev pub SpansIf : (FullNodeId → FilterResult) → World → FullNodeId → Option Ends → Type 0
SpansIf f w top None = Unit {0}
SpansIf f w top (Some e) = SpansEnds f w top e

-- what is shown from the front to the back
abbrev pub between_ends : (FullNodeId → FilterResult) → World → FullNodeId → Ends → List FullNodeId
between_ends f w top e = items_between f w top e.front.member.id e.back.member.id

abbrev pub between_if : (FullNodeId → FilterResult) → World → FullNodeId → Option Ends → List FullNodeId
between_if f w top None = []
between_if f w top (Some e) = between_ends f w top e

-- how much work is left, whatever the filter answers
abbrev pub work_of_ends : World → FullNodeId → Ends → ℕ
work_of_ends w top e = work_after w top (above w e.front.member.id) + work_before w top (above w e.back.member.id) + 1

abbrev pub work_if : World → FullNodeId → Option Ends → ℕ
work_if w top None = 0
work_if w top (Some e) = work_of_ends w top e

is_below-prop : (w : World) (top id : FullNodeId) → IsProp (is_below w top id ≡ true)
is_below-prop w top id = Coded-set coded_bool (is_below w top id) true

-- it has one proof at most, so a walk can keep it
pub AreEndsIf-prop : (w : World) (top : FullNodeId) (o : Option Ends) → IsProp (AreEndsIf w top o)
AreEndsIf-prop w top None a b = refl
AreEndsIf-prop w top (Some e) a b = λ i. record {
  front = IsSpot-prop w e.front a.front b.front i;
  back = IsSpot-prop w e.back a.back b.back i;
  front_below = is_below-prop w top e.front.member.id a.front_below b.front_below i;
  back_below = is_below-prop w top e.back.member.id a.back_below b.back_below i;
}
