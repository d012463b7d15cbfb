-- The focus goes from a window into the document that it grafts, and back.
use Rattle.std.proofs.Common.{◌≡◌, ◌≢◌, ℕ, List, [], ◌∷◌, nat_cmp, Some, None, IsSome, option_map, inl, inr, refl, sym, ap, ◌∙◌, subst, arith}
use Rattle.std.specs.Cmp.{nat_cmp_total}
use Rattle.std.specs.FinMap.{get, find}
use Rattle.std.proofs.lemmas.Option.{same_Some}
use Rattle.schema.specs.NodeData.{NodeData}
use Rattle.schema.specs.declared.TreeId.{TreeId}
use Rattle.model.specs.declared.FullNodeId.{FullNodeId}
use Rattle.model.specs.FullIds.{full_cmp, full_total}
use Rattle.model.specs.World.{World, Tree, IsNode, HasData, in_tree, Reached, Kept, graft_name, root_named, focus_named}
use Rattle.model.specs.World as world
use Rattle.model.specs.Focus.{OnChain, first, next, GoesOn, IsFocus, Resolves}
use Rattle.model.specs.Update.{IsAccepted, merged_world}
use Rattle.model.specs.Differences.{Updated, FocusMoved, AreDifferences}
use Rattle.model.specs.Examples.{at, node, name, window, document, graft, button, with_inner_focus, focus_on}
use Rattle.model.specs.ToldExamples.{FocusGoesInside, FocusComesBack}
use Rattle.model.proofs.Differences.HostChanges.{none_ascend}
use Rattle.model.proofs.Members.{contains_none}
use Rattle.model.proofs.Examples.ToldTools.{same_still, nothing_there}
use Rattle.model.proofs.Examples.Tools.{◌▸◌, entries-from_entries}
use Rattle.model.proofs.Examples.Evidence.{each_graft, accepted_by_chain}
use Rattle.model.proofs.Examples.Tested.{IsWritten, IsTested, merged_written, tree_at, node_in, is_there, reached_by, grafts_in, place_read, root_tree_again, tested, tested_apart}

abbrev nodes : List (FullNodeId × NodeData)
nodes = (at 0 0, window (1 ∷ [])) ∷ (at 0 1, graft (name 1)) ∷ (at 1 0, document (1 ∷ [])) ∷ (at 1 1, button) ∷ []

abbrev tree_of : ℕ → Tree
tree_of focus = record { root = node 0; focus = node focus }

abbrev trees : ℕ → List (ℕ × Tree)
trees focus = (0, tree_of focus) ∷ (1, tree_of 1) ∷ []

-- ---- one of the worlds

module _ (f : ℕ) where
  abbrev w : World
  w = with_inner_focus f

  written : IsWritten w (trees f) nodes
  written = record { trees = entries-from_entries nat_cmp_total (trees f); nodes = entries-from_entries full_total nodes }

  has : (id : FullNodeId) → get w.nodes id ≡ find full_cmp id nodes
  has = node_in written

  there : (id : FullNodeId) → IsSome (find full_cmp id nodes) → IsNode w id
  there = is_there written

  tree_here : (index : ℕ) → get w.trees index ≡ find nat_cmp index (trees f)
  tree_here = tree_at written

  plain : (id : FullNodeId) (d : NodeData) → HasData w id d → d.active_descendant ≡ None → (a : FullNodeId) → ¬ (Resolves w id a)
  plain id d is none a h = let same : h.0 ≡ d = same_Some h.0 d (sym h.1 ∙ is) in cc (h.2, none, ap (λ x. x.active_descendant) same)

on_window : IsFocus (with_inner_focus 0) (Some (at 0 0))
on_window = (refl, at 0 0, (first (tree_of 0) (tree_here 0 0), window (1 ∷ []), has 0 (at 0 0), refl), inr (refl, plain 0 (at 0 0) (window (1 ∷ [])) (has 0 (at 0 0)) refl))

on_button : IsFocus (with_inner_focus 1) (Some (at 1 1))
on_button = (refl, at 1 1, (next (at 0 1) (at 1 1) (first (tree_of 1) (tree_here 1 0)) goes, button, has 1 (at 1 1), refl), inr (refl, plain 1 (at 1 1) button (has 1 (at 1 1)) refl))
  where
    goes : GoesOn (with_inner_focus 1) (at 0 1) (at 1 1)
    goes = record {
      kept = world.Kept.root;
      reached = reached_by (written 1) 1 (at 0 1) refl;
      name = name 1;
      grafts = grafts_in (written 1) (at 0 1);
      declared = ap (option_map (λ t. in_tree 1 t.focus)) (tree_here 1 1);
    }

-- ---- the root tree declares another of its nodes focused

module _ (f g : ℕ) (stays : IsSome (find full_cmp (at 0 g) nodes)) where
  abbrev m : World
  m = merged_world (with_inner_focus f) (focus_on g)

  before : IsWritten m (trees g) nodes
  before = merged_written (with_inner_focus f) (focus_on g) (written f) (node 0) refl

  shown : IsTested (with_inner_focus f) (focus_on g) (with_inner_focus g) (trees g) nodes (trees g) nodes
  shown =
      tested (focus_on g) (written f) (node 0) refl (written g) (refl, refl, refl)
      (root_tree_again (focus_on g) (written f) refl refl refl) (refl ▸ refl ▸ tt, refl ▸ refl ▸ refl ▸ refl ▸ tt) refl

  m_tree : (index : ℕ) → get m.trees index ≡ find nat_cmp index (trees g)
  m_tree = tree_at before

  -- what is grafted is the document
  names_document : (id : FullNodeId) (k : TreeId) → graft_name m id ≡ Some k → name 1 ≡ k
  names_document id k grafts = (each_graft m nodes before.nodes (λ id d k. name 1 ≡ k) (tt ▸ refl ▸ tt ▸ tt ▸ tt) id k grafts).2

  chain_met : (id : FullNodeId) → OnChain m id → IsNode (with_inner_focus g) id
  chain_met id (first t is) = subst (λ x. IsNode (with_inner_focus g) (in_tree 0 x.focus)) (same_Some (tree_of g) t (sym (m_tree 0) ∙ is)) (there g (at 0 g) stays)
  chain_met id (next from id' on goes) =
      let declared : focus_named m goes.name ≡ Some (at 1 1) = ap (focus_named m) (sym (names_document from goes.name goes.grafts)) ∙ ap (option_map (λ t. in_tree 1 t.focus)) (m_tree 1) in
      subst (IsNode (with_inner_focus g)) (same_Some (at 1 1) id (sym declared ∙ goes.declared)) (there g (at 1 1) refl)

  focus_accepted : IsAccepted (with_inner_focus f) (focus_on g) (with_inner_focus g)
  focus_accepted = accepted_by_chain (tested_apart shown) chain_met (λ id k on grafts. subst (λ n. IsSome (root_named m n)) (names_document id k grafts) (subst IsSome (sym (ap (option_map (λ t. in_tree 1 t.root)) (m_tree 1))) refl))

  focus_told : (x y : FullNodeId) → IsFocus (with_inner_focus f) (Some x) → IsFocus (with_inner_focus g) (Some y) → x ≢ y → IsNode (with_inner_focus f) x → IsNode (with_inner_focus f) y → AreDifferences (with_inner_focus f) (with_inner_focus g) None (Updated x ∷ Updated y ∷ FocusMoved (Some x) (Some y) ∷ [])
  focus_told x y before after other x_there y_there = record {
    added = [];
    updated = [];
    of_focus = Updated x ∷ Updated y ∷ FocusMoved (Some x) (Some y) ∷ [];
    removed = [];
    are_added = none_ascend _ (λ id h. h.1 h.0);
    are_updated = none_ascend _ (λ id. same_still (with_inner_focus f) (with_inner_focus g) None id refl (place_read (written f) id ∙ sym (place_read (written g) id)) (nothing_there id));
    are_of_focus = (Some x, Some y, before, after, inr (λ e. other (same_Some x y e), x ∷ [], y ∷ [], inl (((x_there, x_there), contains_none x), refl), inl (((y_there, y_there), contains_none y), refl), refl));
    are_removed = none_ascend _ (λ id h. h.1 h.0);
    all = refl;
  }

apart : at 0 0 ≢ at 1 1
apart e = let same : 0 ≡ 1 = ap (λ x. x.tree) e in absurd (omega (arith, same))

pub focus_goes_inside : FocusGoesInside
focus_goes_inside = (focus_accepted 0 1 refl, _, focus_told 0 1 refl (at 0 0) (at 1 1) on_window on_button apart (there 0 (at 0 0) refl) (there 0 (at 1 1) refl), refl)

pub focus_comes_back : FocusComesBack
focus_comes_back = (focus_accepted 1 0 refl, _, focus_told 1 0 refl (at 1 1) (at 0 0) on_button on_window (λ e. apart (sym e)) (there 1 (at 1 1) refl) (there 1 (at 0 0) refl), refl)
