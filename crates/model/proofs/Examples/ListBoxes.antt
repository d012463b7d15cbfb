-- The focus on a list box, with an active descendant or with itself in its place.
use Rattle.std.proofs.Common.{◌≡◌, ◌≢◌, ℕ, List, [], ◌∷◌, Some, None, IsSome, ◌⊎◌, inl, inr, refl, sym, ap, ◌∙◌, subst, arith}
use Rattle.std.specs.Cmp.{nat_cmp_total}
use Rattle.std.specs.FinMap.{get, find}
use Rattle.std.proofs.lemmas.Option.{same_Some}
use Rattle.schema.specs.NodeData.{NodeData, empty_node}
use Rattle.schema.specs.declared.Role.TheVariants.{ListBoxOption}
use Rattle.model.specs.declared.FullNodeId.{FullNodeId}
use Rattle.model.specs.FullIds.{full_cmp, full_total}
use Rattle.model.specs.World.{Tree, IsNode}
use Rattle.model.specs.Focus.{first, IsEffectiveFocus, IsFocusId, IsFocus, IsFocusedNode, Resolves}
use Rattle.model.specs.Examples.{at, node, window, list_box, focused_list}
use Rattle.model.proofs.Worlds.Names.{same_id}
use Rattle.model.proofs.Focus.FocusIsOne.{effective_focus_unique}
use Rattle.model.proofs.Examples.Tools.{entries-from_entries, get_is, node_at}

module _ (active : ℕ) where
  nodes : List (FullNodeId × NodeData)
  nodes = (at 0 0, window (1 ∷ [])) ∷ (at 0 1, list_box active) ∷ (at 0 2, empty_node ListBoxOption) ∷ []

  has : get (focused_list active).nodes (at 0 1) ≡ Some (list_box active)
  unfolding nodes
  has = get_is (focused_list active).nodes nodes (entries-from_entries full_total nodes) (at 0 1)

  there : (id : FullNodeId) → IsSome (find full_cmp id nodes) → IsNode (focused_list active) id
  unfolding nodes
  there id is = node_at (focused_list active) nodes (entries-from_entries full_total nodes) id is

  effective : IsEffectiveFocus (focused_list active) (at 0 1)
  effective =
      let t : Tree = record { root = node 0; focus = node 1 } in
      (first t (get_is (focused_list active).trees ((0, t) ∷ []) (entries-from_entries nat_cmp_total ((0, t) ∷ [])) 0), list_box active, has, refl)

  -- where another node resolves it, or it resolves itself, the list box doesn't say that it is focused
  says_no : (a : FullNodeId) → Resolves (focused_list active) (at 0 1) a → ¬ (IsFocusedNode (focused_list active) (at 0 1))
  says_no a resolves f = resolved f.1 f.2 f.3
    where
      resolved : (e : FullNodeId) → IsEffectiveFocus (focused_list active) e → (((at 0 1 ≡ e) × ((b : FullNodeId) → ¬ (Resolves (focused_list active) e b))) ⊎ ((at 0 1 ≢ e) × Resolves (focused_list active) e (at 0 1))) → ⊥
      resolved e is (inl h) = subst (λ x. (b : FullNodeId) → ¬ (Resolves (focused_list active) x b)) (sym h.0) h.1 a resolves
      resolved e is (inr h) = h.0 (effective_focus_unique (focused_list active) (at 0 1) e effective is)

-- the list box has the effective focus; `focus` answers its active descendant, which alone says that it is focused
pub active_descendant_has_the_focus : IsFocusId (focused_list 2) (Some (at 0 1)) × IsFocus (focused_list 2) (Some (at 0 2)) × IsFocusedNode (focused_list 2) (at 0 2) × ¬ (IsFocusedNode (focused_list 2) (at 0 1))
unfolding nodes
active_descendant_has_the_focus =
    ((refl, effective 2), (refl, at 0 1, effective 2, inl resolves), (refl, at 0 1, effective 2, inr ((λ e. let n : 2 ≡ 1 = ap (λ x. x.node.0) e in omega arith), resolves)), says_no 2 (at 0 2) resolves)
  where
    resolves : Resolves (focused_list 2) (at 0 1) (at 0 2)
    resolves = (list_box 2, has 2, refl, refl, there 2 (at 0 2) refl)

-- one that names itself has the focus, and says that it isn't focused
pub own_active_descendant_is_not_focused : IsFocus (focused_list 1) (Some (at 0 1)) × ¬ (IsFocusedNode (focused_list 1) (at 0 1))
unfolding nodes
own_active_descendant_is_not_focused = ((refl, at 0 1, effective 1, inl resolves), says_no 1 (at 0 1) resolves)
  where
    resolves : Resolves (focused_list 1) (at 0 1) (at 0 1)
    resolves = (list_box 1, has 1, refl, refl, there 1 (at 0 1) refl)

-- an active descendant that isn't there isn't one: the list box has the focus, and says so
pub gone_active_descendant_is_passed_over : IsFocus (focused_list 9) (Some (at 0 1)) × IsFocusedNode (focused_list 9) (at 0 1)
unfolding nodes
gone_active_descendant_is_passed_over = ((refl, at 0 1, effective 9, inr (refl, unresolved)), (refl, at 0 1, effective 9, inl (refl, unresolved)))
  where
    unresolved : (a : FullNodeId) → ¬ (Resolves (focused_list 9) (at 0 1) a)
    unresolved a h =
        let same : h.0 ≡ list_box 9 = same_Some h.0 (list_box 9) (sym h.1 ∙ has 9) in
        let named : a.node ≡ node 9 = same_Some a.node (node 9) (sym h.2 ∙ ap (λ d. d.active_descendant) same) in
        let away : IsSome {T = NodeData} None = subst IsSome (ap (get (focused_list 9).nodes) (same_id a (at 0 9) h.3 named) ∙ get_is (focused_list 9).nodes (nodes 9) (entries-from_entries full_total (nodes 9)) (at 0 9)) h.4 in
        cc
