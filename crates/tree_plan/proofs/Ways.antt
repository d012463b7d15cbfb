-- The steps of the climbs from all named nodes.
use Rattle.std.proofs.Common.{◌≡◌, ◌⊎◌, ℕ, ◌+◌, ◌<◌, List, [], ◌∷◌, ◌++◌, ◌≤◌, length, map, take, get_or, Some, refl, sym, ap, subst, ◌∙◌, inl, inr, ⊎_elim, arith}
use Rattle.std.specs.List.{Contains}
use Rattle.std.proofs.lemmas.Option.{same_Some, slice_get-get_or, slice_get_within}
use Rattle.std.proofs.lemmas.List.{length-map, take_all}
use Rattle.std.proofs.lemmas.List.Elements.{Contains-push_cases}
use Rattle.schema.specs.NodeData.{NodeData}
use Rattle.schema.specs.declared.NodeId.{NodeId}
use Rattle.model.specs.declared.FullNodeId.{FullNodeId}
use Rattle.model.specs.World.{World, Kept, Reached, in_tree}
use Rattle.model.specs.Update.{UpdateData, IsNamed, index_for, merged_world}
use Rattle.model.specs.Work.{named_ids}
use Rattle.model.specs.Surgery.{IsOld, Adopts, IsLive, IsRefined, IsClimbed, LeadsDown, AreSteps}
use Rattle.model.proofs.Members.{contains_first, contains_later}
use Rattle.model.proofs.Surgery.LiveAndGone.{named_kept, named_live}
use Rattle.model.proofs.Surgery.Counts.{named_contained}
use Rattle.tree_plan.specs.Climbs.{IsWay, AreWays}
use Rattle.tree_plan.proofs.Ascents.{entry_at, leads_tree}

module _ (w : World) (u : UpdateData) where
  abbrev m : World
  m = merged_world w u

  -- the named ids are the named nodes
  pub id_named : (q : FullNodeId) → Contains (named_ids w u) q → IsNamed w u q
  id_named q c =
      let ids = named_ids w u in
      let names = map (λ (e : NodeId × NodeData). e.0) u.nodes in
      let e = entry_at w u c.0 q (slice_get-get_or ids c.0 q c.1 ∙ ap Some c.2) in
      let fits : c.0 < length names = slice_get_within names c.0 q.node e.0 in
      (e.1, (c.0, fits, same_Some (get_or names c.0 q.node) q.node (sym (slice_get-get_or names c.0 q.node fits) ∙ e.0)))

  pub ways_push : (qs : List FullNodeId) (q : FullNodeId) (sum steps : ℕ) → AreWays w u qs sum → IsWay w u q steps → AreWays w u (qs ++ q ∷ []) (sum + steps)
  ways_push [] q sum steps none way = (steps, 0, way, refl, omega arith)
  ways_push (x ∷ qs) q sum steps h way = (h.0, h.1 + steps, h.2, ways_push qs q h.1 steps h.3 way, omega (arith, h.4))

  pub adopters_push : (qs : List FullNodeId) (q : FullNodeId) → ((n : FullNodeId) → Contains qs n → Adopts w u n → Reached m n) → (Adopts w u q → Reached m q) → (n : FullNodeId) → Contains (qs ++ q ∷ []) n → Adopts w u n → Reached m n
  adopters_push qs q before here n «in» = ⊎_elim (λ h. before n h) (λ same. subst (λ x. Adopts w u x → Reached m x) same here) (Contains-push_cases qs q n «in»)

  pub all_climbed : IsRefined w u → ((n : FullNodeId) → Contains (named_ids w u) n → Adopts w u n → Reached m n) → IsClimbed w u
  all_climbed r reached = record { refined = r; adopter_reached = λ n named adopts. reached n (named_contained w u n named) adopts }

  module _ (o : IsOld w) (c : IsClimbed w u) where
    top_live : (q x : FullNodeId) (steps : ℕ) → IsNamed w u q → LeadsDown m x q steps → Reached m x ⊎ (x ≡ q) → IsLive w u x
    top_live q x steps named leads (inl reached) =
        let tree : index_for w u.name ≡ x.tree = sym named.0 ∙ leads_tree m x q steps leads in
        (subst (Kept m) tree (named_kept w u o c.refined.removed.settled.compared.opened), reached)
    top_live q x steps named leads (inr same) = subst (IsLive w u) (sym same) (named_live w u o c q named)

    pub ways_steps : (qs : List FullNodeId) (sum : ℕ) → ((q : FullNodeId) → Contains qs q → IsNamed w u q) → AreWays w u qs sum → AreSteps w u qs sum
    ways_steps [] sum named none = none
    ways_steps (q ∷ qs) sum named h =
        (h.0, h.1, h.2.0, top_live q h.2.0 h.0 (named q (contains_first q qs)) h.2.1 h.2.2, h.2.1, ways_steps qs h.1 (λ x «in». named x (contains_later q x qs «in»)) h.3, h.4)

  -- once all entries are gone over
  first_are_all : (k : ℕ) → length u.nodes ≤ k → take k (named_ids w u) ≡ named_ids w u
  first_are_all k fits = let same = length-map u.nodes (λ (e : NodeId × NodeData). in_tree (index_for w u.name) e.0) in take_all k (named_ids w u) (omega arith)

  pub climbed_in_the_end : (k : ℕ) → length u.nodes ≤ k → IsRefined w u → ((n : FullNodeId) → Contains (take k (named_ids w u)) n → Adopts w u n → Reached m n) → IsClimbed w u
  climbed_in_the_end k fits r reached = all_climbed r (subst (λ xs. (n : FullNodeId) → Contains xs n → Adopts w u n → Reached m n) (first_are_all k fits) reached)

  pub steps_in_the_end : (k : ℕ) → length u.nodes ≤ k → IsOld w → IsClimbed w u → (sum : ℕ) → AreWays w u (take k (named_ids w u)) sum → AreSteps w u (named_ids w u) sum
  steps_in_the_end k fits o c sum ways = ways_steps o c (named_ids w u) sum id_named (subst (λ xs. AreWays w u xs sum) (first_are_all k fits) ways)
