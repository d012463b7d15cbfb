-- What is kept of a prepared change, by what it is.
use Rattle.std.proofs.Common.{◌≡◌, Bool, List, [], sym, ap, subst, ◌∙◌}
use Rattle.std.specs.Global.{Vec}
use Rattle.schema.specs.UpdateData.{update_data}
use Rattle.schema.specs.declared.update.TreeUpdate.{TreeUpdate}
use Rattle.model.specs.Differences.{AreOfFocus}
use Rattle.model.specs.State.{with_host}
use Rattle.model.specs.declared.events.PlanEvent.{PlanEvent}
use Rattle.model.specs.World.{World}
use Rattle.tree_changes.specs.Changes.{overlaid_world}
use Rattle.tree_changes.specs.Decisions.{IsDecision}
use Rattle.tree_changes.specs.declared.decision.Decision.{Decision}
use Rattle.tree_store.specs.Commits.{HasSlots, IsReadyFor}
use Rattle.tree_store.specs.StoreViews.{StoreView, IsTight}
use Rattle.trees.specs.Prepared.{BothStates, IsPreparedForHost}
use Rattle.trees.specs.PreparedChanges.{IsPrepared, world_after}
use Rattle.trees.specs.declared.prepared.Change.{Change}
use Rattle.trees.specs.declared.prepared.Change.TheVariants as change

-- an update
module _ (k : StoreView) (c : Change) (u : TreeUpdate) (d : Decision) (is : c ≡ change.Update u d) where
  pub ready : IsPrepared k c → IsReadyFor k (update_data u) d
  ready held = (subst (λ x. IsPrepared k x) is held).0

  pub decided : IsPrepared k c → IsDecision k.world (update_data u) d
  decided held = (subst (λ x. IsPrepared k x) is held).1

  pub is_laid : IsPrepared k c → ∥ IsDecision k.world (update_data u) d ∥₁
  is_laid held = ∣ decided held ∣₁

  pub has_slots : IsPrepared k c → HasSlots k d
  has_slots held = (ready held).slots

  pub shows_update : (v : World) → v ≡ overlaid_world k.world (update_data u) d → v ≡ world_after k.world c
  shows_update v e = e ∙ sym (ap (world_after k.world) is)

-- a focus of the host
module _ (k : StoreView) (c : Change) (focused : Bool) (told : Vec PlanEvent) (is : c ≡ change.HostFocus focused told) where
  pub shows_focus : (v : World) → v ≡ with_host k.world focused → v ≡ world_after k.world c
  shows_focus v e = e ∙ sym (ap (world_after k.world) is)

  pub tight_kept : IsPrepared k c → IsTight k
  tight_kept held = subst (λ x. IsPrepared k x) is held

  pub refocused : (n : StoreView) → n ≡ record k { world = record k.world { host_focused = focused } } → n.world ≡ world_after k.world c
  refocused n e = shows_focus n.world (ap (λ (x : StoreView). x.world) e)

  pub tight_refocused : (n : StoreView) → n ≡ record k { world = record k.world { host_focused = focused } } → IsPrepared k c → IsTight n
  tight_refocused n e held = subst IsTight (sym e) (tight_kept held)

-- a tree whose host gets a focus is prepared for it
pub prepared_for_host : (v w : World) (focused : Bool) (told : List PlanEvent) (p : BothStates) → v ≡ w → AreOfFocus w (with_host w focused) [] told
    → p ≡ record { before = v; after = with_host v focused; events = told } → IsPreparedForHost w focused p
prepared_for_host v w focused told p is of_focus e =
    let q : BothStates = record { before = w; after = with_host w focused; events = told } in
    let same : p ≡ q = e ∙ ap (λ x. let r : BothStates = record { before = x; after = with_host x focused; events = told } in r) is in
    subst (λ (x : BothStates). IsPreparedForHost w focused x) (sym same) ((λ i. w), (λ i. with_host w focused), of_focus)
