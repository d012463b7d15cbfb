-- A climb goes up parents that don't go: where it ends, its nodes are reached, or the node from which it began isn't; and its steps are part of that node's depth.
use Rattle.std.proofs.Common.{◌≡◌, ◌≢◌, ℕ, ◌+◌, slice_get, Some, None, option_map, ◌⊎◌, inl, inr, ⊎_elim, refl, sym, ap, ◌∙◌, subst, arith}
use Rattle.model.specs.declared.FullNodeId.{FullNodeId}
use Rattle.model.specs.World.{World, Tree, IsNode, in_tree, listed_ids, root_of, Place, Reached, Kept}
use Rattle.model.specs.World as world
use Rattle.model.specs.Update.{UpdateData, NotReached, Stands, IsNamed, IsRebuild, merged_world}
use Rattle.model.specs.State.{Lists}
use Rattle.model.specs.Work.{HasDepthInTree, at_root, at_child}
use Rattle.model.specs.Surgery.{IsOld, Seat, IsAt, Entered, HasEntered, Gone, IsLive, IsRemoved, IsRefined, LeadsDown, here, down, IsClimb}
use Rattle.model.proofs.State.StatePlaces.{listed_tree, lister_is_node}
use Rattle.model.proofs.Update.RebuildKeeps.{listed_same}
use Rattle.model.proofs.Surgery.Spots.{lister_named}
use Rattle.model.proofs.Surgery.LiveAndGone.{spot_stays, stays_reached}
use Rattle.model.proofs.Surgery.FaultsStand.{loop_stands}

module _ (w : World) (u : UpdateData) (o : IsOld w) where
  abbrev m : World
  m = merged_world w u

  -- ---- the next node up

  -- a node of which the climb finds a spot: old, or entered
  abbrev pub IsSpotted : FullNodeId → Type 0
  IsSpotted n = IsNode w n ⊎ HasEntered w u n

  pub named_spotted : IsRefined w u → (n : FullNodeId) → IsNamed w u n → (IsNode w n ⊎ ¬ (IsNode w n)) → IsSpotted n
  named_spotted r n named (inl there) = inl there
  named_spotted r n named (inr absent) = inr (r.new_entered n named absent)

  -- what entered a place has a named parent
  pub entered_up : IsRemoved w u → (p : Place) (x : FullNodeId) → Entered w u (Some p) x → IsNamed w u p.0 × Lists m p x × ¬ (Gone w u p.0)
  entered_up r p x e = let named = lister_named w u p x e.0 e.1 in (named, e.0, r.named_stays p.0 named)

  -- what didn't enter, and isn't the root, has its old parent
  pub old_up : (s : Seat) (x : FullNodeId) → IsAt w s x → ¬ (HasEntered w u x) → ¬ (Gone w u x) → root_of m x.tree ≢ Some x → (p : Place) × (s ≡ Some p) × Lists m p x × ¬ (Gone w u p.0) × IsNode w p.0
  old_up None x was none stays other = absurd (other (spot_stays w u o None x was none stays).0)
  old_up (Some p) x was none stays other = let f = spot_stays w u o (Some p) x was none stays in (p, refl, f.0, f.1 p refl, lister_is_node w p x was)

  -- ---- the climb

  pub climb_begins : (q : FullNodeId) (S : FullNodeId → Type 0) → ((n : FullNodeId) → ¬ (S n)) → ¬ (Gone w u q) → IsClimb w u q S q 0
  climb_begins q S empty stays = record {
    begun = inr refl;
    stays = stays;
    up = λ n «in». absurd (empty n «in»);
    leads = here q;
    reached = λ reached n «in». absurd (empty n «in»);
  }

  pub climb_goes_up : (q : FullNodeId) (S T : FullNodeId → Type 0) (x : FullNodeId) (steps : ℕ) (p : Place) → IsClimb w u q S x steps
      → ((n : FullNodeId) → S n → T n) → T x → ((n : FullNodeId) → T n → S n ⊎ (n ≡ x)) → Lists m p x → ¬ (Gone w u p.0) → IsClimb w u q T p.0 (steps + 1)
  climb_goes_up q S T x steps p c more last only at stays = record {
    begun = inl (⊎_elim (λ «in». more q «in») (λ same. subst T (sym same) last) c.begun);
    stays = stays;
    up = λ n «in». ⊎_elim (λ before. climbs n (c.up n before)) (λ same. (p, subst (Lists m p) (sym same) at, stays, inr refl)) (only n «in»);
    leads = down p x q steps at c.leads;
    reached = λ reached n «in».
        let below : Reached m x = world.Reached.child p.0 x p.1 reached at in
        ⊎_elim (λ before. c.reached below n before) (λ same. subst (Reached m) (sym same) below) (only n «in»);
  }
    where
      climbs : (n : FullNodeId) → (p : Place) × Lists m p n × ¬ (Gone w u p.0) × (S p.0 ⊎ (p.0 ≡ x)) → (q : Place) × Lists m q n × ¬ (Gone w u q.0) × (T q.0 ⊎ (q.0 ≡ p.0))
      climbs n f = (f.0, f.1, f.2, inl (⊎_elim (λ before. more f.0.0 before) (λ same. subst T (sym same) last) f.3))

  -- it comes to one of its own nodes: the node from which it began isn't reached
  pub climb_loops : IsRefined w u → (q : FullNodeId) (S : FullNodeId → Type 0) (x : FullNodeId) (steps : ℕ) → IsClimb w u q S x steps → S x → IsNamed w u q → Stands w u (NotReached q.node)
  climb_loops r q S x steps c «in» named = loop_stands w u o r S up q named (⊎_elim (λ h. h) (λ same. subst S (sym same) «in») c.begun)
    where
      up : (n : FullNodeId) → S n → (p : Place) × Lists m p n × ¬ (Gone w u p.0) × S p.0
      up n is = let f = c.up n is in (f.0, f.1, f.2, ⊎_elim (λ h. h) (λ same. subst S (sym same) «in») f.3)

  -- it comes to a reached node: so are its nodes, and the node from which it began
  pub climb_ends : (q : FullNodeId) (S : FullNodeId → Type 0) (x : FullNodeId) (steps : ℕ) → IsClimb w u q S x steps → Reached m x → Reached m q
  climb_ends q S x steps c reached = ⊎_elim (c.reached reached q) (λ same. subst (Reached m) (sym same) reached) c.begun

  -- where no old node entered below another parent, each old named node is reached: the climb can end there
  pub unmoved_reached : IsRemoved w u → ((p : Place) (c : FullNodeId) → IsNode w c → Entered w u (Some p) c → ((j : ℕ) → ¬ (Lists w (p.0, j) c)) → ⊥) → (n : FullNodeId) → IsNamed w u n → IsNode w n → Reached m n
  unmoved_reached r unmoved n named there = stays_reached w u o (λ p c is e none. absurd (unmoved p c is e none)) r.named_stays n (o.node_reached n there) (r.named_stays n named)

  -- ---- a search

  -- what is closed under the lists and has the root has all that is reached in the tree
  pub search_all : (F : FullNodeId → Type 0) (index : ℕ) → ((id : FullNodeId) → root_of m index ≡ Some id → F id) → ((p : Place) (c : FullNodeId) → F p.0 → Lists m p c → F c) → (x : FullNodeId) → Reached m x → x.tree ≡ index → F x
  search_all F index begins goes x (world.Reached.root j t is) same = begins (in_tree j t.root) (subst (λ k. root_of m k ≡ Some (in_tree j t.root)) same (ap (option_map (λ t. in_tree j t.root)) is))
  search_all F index begins goes x (world.Reached.child parent x' k reached at) same = goes (parent, k) x (search_all F index begins goes parent reached (sym (listed_tree m (parent, k) x at) ∙ same)) at

-- ---- steps and depths

-- so many steps further down, a node is so much deeper
pub steps_deep : (v : World) (x q : FullNodeId) (steps depth : ℕ) → LeadsDown v x q steps → HasDepthInTree v x depth → HasDepthInTree v q (depth + steps)
steps_deep v x q steps depth (here n) has = let same : depth ≡ depth + 0 = omega arith in subst (HasDepthInTree v q) same has
steps_deep v x q steps depth (down p c n k at leads) has =
    let same : (depth + 1) + k ≡ depth + (k + 1) = omega arith in
    subst (HasDepthInTree v q) same (steps_deep v c q k (depth + 1) leads (at_child p c depth has at))

-- what is reached has a depth
pub reached_deep : (v : World) (x : FullNodeId) → Reached v x → (depth : ℕ) × HasDepthInTree v x depth
reached_deep v x (world.Reached.root j t is) = (0, at_root j (in_tree j t.root) (ap (option_map (λ t. in_tree j t.root)) is))
reached_deep v x (world.Reached.child parent x' k reached at) = let f = reached_deep v parent reached in (f.0 + 1, at_child (parent, k) x f.0 f.1 at)

-- from a live node the steps lead down in the rebuild too
pub leads_new : (w : World) (u : UpdateData) (new : World) → IsRebuild (merged_world w u) new → (x q : FullNodeId) (steps : ℕ) → LeadsDown (merged_world w u) x q steps → IsLive w u x → LeadsDown new x q steps
leads_new w u new r x q steps (here n) live = here n
leads_new w u new r x q steps (down p c n k at leads) live =
    let at' : Lists new p c = subst (λ xs. slice_get xs p.1 ≡ Some c) (sym (listed_same r p.0 live.0 live.1)) at in
    let live' : IsLive w u c = (subst (Kept (merged_world w u)) (sym (listed_tree (merged_world w u) p c at)) live.0, world.Reached.child p.0 c p.1 live.1 at) in
    down p c q k at' (leads_new w u new r c q k leads live')
