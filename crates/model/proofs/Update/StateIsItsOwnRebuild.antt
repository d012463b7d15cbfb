-- A state breaks no rule and is its own rebuild.
use Rattle.std.proofs.Common.{◌≡◌, ◌≢◌, ℕ, Option, Some, None, IsSome, option_map, ◌⊎◌, inl, inr, ⊎_elim, refl, sym, ap, ◌∙◌, subst, arith}
use Rattle.std.specs.Cmp.{nat_cmp_total}
use Rattle.std.specs.FinMap.{get, same_map, nat_cmp-IsAntisymmetric}
use Rattle.std.proofs.lemmas.Bool.{cases_eq}
use Rattle.model.specs.declared.FullNodeId.{FullNodeId}
use Rattle.model.specs.World.{ROOT_NAME, World, Tree, IsNode, index_of, in_tree, root_of, root_named, Place, Reached, Kept}
use Rattle.model.specs.World as world
use Rattle.model.specs.Update.{Fault, MissingTreeInfo, NotRootTree, MissingData, NotReached, NamedTwice, ListedTwice, RootTreeGrafted, GraftWithChildren, GraftedTwice, NoGraft, NoFirstTreeInfo, FocusMissing, FocusOnEmptyGraft, IndexesUsedUp, StandsApart, Stands, IsListedAt, IsRebuild, IsAccepted, index_for, root_after, merged_world}
use Rattle.model.specs.State.{IsState, idle_update}
use Rattle.model.proofs.Worlds.Names.{index_of-known}
use Rattle.model.proofs.State.StatePlaces.{IsSome_is}
use Rattle.model.proofs.Update.Merges.{tree_named, tree_elsewhere, known_stays}
use Rattle.model.proofs.Update.UpdateLeavesState.{not_first}

-- what is reached in a state is a node
pub state_reached : (w : World) → IsState w → (id : FullNodeId) → Reached w id → IsNode w id
state_reached w s id (world.Reached.root index t is) = s.root_is_node index id (ap (option_map (λ t. in_tree index t.root)) is)
state_reached w s id (world.Reached.child parent id' index reached at) = s.listed_is_node (parent, index) id at

pub own_rebuild : (w : World) → IsState w → IsRebuild w w
own_rebuild w s = record {
  known = refl;
  toolkit = refl;
  host = refl;
  trees = λ index t. (λ is. (s.present_kept index (IsSome_is t is), is), λ k. k.1);
  nodes = λ id d. (λ has. let there = IsSome_is d has in (s.present_kept id.tree (s.node_present id there), s.node_reached id there, has), λ k. k.2);
}

no_some : {A : Type 0} (o : Option A) → o ≡ None → IsSome o → ⊥
no_some o e there = cc

module _ (w : World) (t : Tree) (s : IsState w) (is : get w.trees 0 ≡ Some t) where
  root_known : index_of w ROOT_NAME ≡ Some 0
  root_known = index_of-known w ROOT_NAME 0 s.known_once s.known_first

  index_is : index_for w ROOT_NAME ≡ 0
  index_is = rw root_known

  root_is : root_after w (idle_update t.focus) ≡ Some t.root
  root_is = ap (λ i. option_map (λ t. t.root) (get w.trees i)) index_is ∙ ap (option_map (λ t. t.root)) is

  same_tree : (index : ℕ) → get (merged_world w (idle_update t.focus)).trees index ≡ get w.trees index
  same_tree index = go (cases_eq index (index_for w ROOT_NAME))
    where
      go : (index ≡ index_for w ROOT_NAME) ⊎ (index ≡ index_for w ROOT_NAME → ⊥) → get (merged_world w (idle_update t.focus)).trees index ≡ get w.trees index
      go (inl same) = ap (get (merged_world w (idle_update t.focus)).trees) same ∙ tree_named w (idle_update t.focus) t.root root_is ∙ sym is ∙ ap (get w.trees) (sym index_is ∙ sym same)
      go (inr other) = tree_elsewhere w (idle_update t.focus) index other

  pub idle_merged : merged_world w (idle_update t.focus) ≡ w
  idle_merged =
      let known : (merged_world w (idle_update t.focus)).known ≡ w.known = known_stays w (idle_update t.focus) 0 root_known in
      let trees : (merged_world w (idle_update t.focus)).trees ≡ w.trees = same_map nat_cmp_total nat_cmp-IsAntisymmetric (merged_world w (idle_update t.focus)).trees w.trees same_tree in
      λ i. record { known = known i; trees = trees i; nodes = w.nodes; toolkit = w.toolkit; host_focused = w.host_focused }

  again : IsState (merged_world w (idle_update t.focus))
  again = subst IsState (sym idle_merged) s

  none_apart_idle : (f : Fault) → ¬ (StandsApart w (idle_update t.focus) f)
  none_apart_idle MissingTreeInfo h = not_first w s h.0
  none_apart_idle NotRootTree h = not_first w s h.0
  none_apart_idle (MissingData n) h = h.2 (⊎_elim (λ root. again.root_is_node (index_for w ROOT_NAME) h.0 root) (λ (l : (p : Place) × IsListedAt w (idle_update t.focus) p h.0). again.listed_is_node l.0 h.0 l.1.1) h.3)
  none_apart_idle (NotReached n) h = absurd (omega (arith, h.2.1.1))
  none_apart_idle (NamedTwice n) h = nothing h.3
    where
      nothing : None ≡ Some n → ⊥
      nothing e = cc
  none_apart_idle (ListedTwice n) h = ⊎_elim (λ (q : (q : Place) × (h.2 ≢ q) × IsListedAt w (idle_update t.focus) q h.0). q.1 (again.listed_once h.2 q.0 h.0 h.3.1 q.2.1)) (λ root. again.root_unlisted h.2 h.0.tree h.0 root h.3.1) h.4
  none_apart_idle (RootTreeGrafted n) h = again.root_ungrafted h.0 h.2.1
  none_apart_idle (GraftWithChildren n) h = h.4 (again.graft_childless h.0 h.2 h.3.1)
  none_apart_idle (GraftedTwice name) h = h.2 (again.grafted_once h.0 h.1 name h.3.1 h.4.1)
  none_apart_idle (NoGraft name) h = h.2 (sym h.1)
  none_apart_idle (NoFirstTreeInfo name) h = no_some (get w.trees 0) (ap (get w.trees) (sym index_is) ∙ ap (λ n. get w.trees (index_for w n)) h.1 ∙ h.2) (IsSome_is t is)
  none_apart_idle (FocusMissing n) h = h
  none_apart_idle (FocusOnEmptyGraft name) h = h
  none_apart_idle IndexesUsedUp h = no_some (index_of w ROOT_NAME) h.1 (IsSome_is 0 root_known)

  none_idle : (f : Fault) → ¬ (Stands w (idle_update t.focus) f)
  none_idle (FocusMissing n) h = h.5 (again.node_reached h.2 (again.focus_is_node h.2 h.4))
  none_idle (FocusOnEmptyGraft name) h = let at = h.1 in no_some (root_named (merged_world w (idle_update t.focus)) name) at.5 (again.focus_goes_on at.0 name at.1 at.4)
  none_idle f h = none_apart_idle f h

  pub idle_accepted : IsAccepted w (idle_update t.focus) w
  idle_accepted = (none_idle, subst (λ x. IsRebuild x w) (sym idle_merged) (own_rebuild w s))
