-- What entered, by the arrivals that the comparison found.
use Rattle.std.proofs.Common.{◌≡◌, ⊎_elim, true, false, Some, None, option_map, sym, ap, ◌∙◌}
use Rattle.std.proofs.lemmas.Option.{same_Some}
use Rattle.model.specs.declared.FullNodeId.{FullNodeId}
use Rattle.model.specs.World.{World}
use Rattle.model.specs.Update.{UpdateData}
use Rattle.model.specs.Surgery.{Seat, Left, Entered, HasEntered}
use Rattle.model.proofs.State.StatePlaces.{map_some}
use Rattle.tree_plan.specs.declared.passes.Arrival.{Arrival}
use Rattle.tree_plan.specs.declared.passes.Compared.{Compared}
use Rattle.tree_plan.specs.Passes.{at, IsShifted, HoldsCompared}
use Rattle.tree_plan.proofs.IdMaps.{none_or_some}

module _ (w : World) (u : UpdateData) (d : Compared) (k : HoldsCompared w u d) where
  -- an arrival is at a spot that the node entered
  pub arrived : (id : FullNodeId) (x : Arrival) → at d.entered id ≡ Some x → Entered w u x.spot id
  arrived id x is = (k.entered id x.spot).0 (ap (option_map (λ (y : Arrival). y.spot)) is)

  -- what entered has an arrival
  pub arrival_of : (id : FullNodeId) (s : Seat) → Entered w u s id → (x : Arrival) × (at d.entered id ≡ Some x) × (x.spot ≡ s)
  arrival_of id s e = map_some (λ (y : Arrival). y.spot) (at d.entered id) s ((k.entered id s).1 e)

  pub not_arrived : (id : FullNodeId) → at d.entered id ≡ None → ¬ (HasEntered w u id)
  not_arrived id none e = let x = arrival_of id e.0 e.1 in let no : None ≡ Some x.0 = sym none ∙ x.1 in cc

  pub no_arrival : (id : FullNodeId) → ¬ (HasEntered w u id) → at d.entered id ≡ None
  no_arrival id none = ⊎_elim (λ h. h) (λ x. absurd (none (x.0.spot, arrived id x.0 x.1))) (none_or_some (at d.entered id))

  -- a node with a plain arrival hasn't shifted
  pub plain_unshifted : (id : FullNodeId) (x : Arrival) → at d.entered id ≡ Some x → x.is_shifted ≡ false → ¬ (IsShifted d id)
  plain_unshifted id x is plain s =
      let same : x ≡ s.0 = same_Some x s.0 (sym is ∙ s.1) in
      let no : false ≡ true = sym plain ∙ ap (λ (y : Arrival). y.is_shifted) same ∙ s.2 in cc

  -- what hasn't shifted, and isn't among those that left, hasn't left
  pub hasnt_left : (id : FullNodeId) → at d.left id ≡ None → ¬ (IsShifted d id) → (s : Seat) → ¬ (Left w u s id)
  hasnt_left id none plain s l = ⊎_elim (λ is. let no : None ≡ Some s = sym none ∙ is in absurd cc) plain (k.left_each id s l)
