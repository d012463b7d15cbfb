-- Other data that keep the forest: no rule is broken, and the merged world is its own rebuild.
use Rattle.std.proofs.Common.{◌≡◌, ℕ, ◌<◌, [], map, Option, Some, None, IsSome, option_map, option_and_then, ◌⊎◌, inl, inr, ⊎_elim, refl, sym, ap, ◌∙◌, subst, arith}
use Rattle.std.specs.Option.{option_map_or}
use Rattle.std.specs.FinMap.{get}
use Rattle.schema.specs.NodeData.{NodeData}
use Rattle.schema.specs.declared.NodeId.{NodeId}
use Rattle.schema.specs.declared.TreeId.{TreeId}
use Rattle.model.specs.declared.FullNodeId.{FullNodeId}
use Rattle.model.specs.World.{World, Tree, Place, IsNode, HasData, data_of, in_tree, listed_ids, graft_name, Kept}
use Rattle.model.specs.Forest.{place_of}
use Rattle.model.specs.Focus.{IsFocus, IsEffectiveFocus, Resolves}
use Rattle.model.specs.Surgery.{IsOld}
use Rattle.model.specs.State.{IsState}
use Rattle.model.specs.Update.{UpdateData, IsNamed, IsRebuild, KeepsRules, index_for, merged_world}
use Rattle.model.proofs.State.StatePlaces.{IsSome_is}
use Rattle.model.proofs.Forest.PlaceOf.{stands_at_place, place_is}
use Rattle.model.proofs.Forest.Rooted.{state_formed}
use Rattle.model.proofs.Surgery.Spots.{node_stays}
use Rattle.model.proofs.Surgery.OldWorlds.{old_state}
use Rattle.model.proofs.Surgery.OldUpdates.{old_leaves_state}
use Rattle.tree_changes.specs.LookUps.{IsPlaceOf}
use Rattle.tree_plan.specs.declared.passes.Opened.{Opened}
use Rattle.tree_plan.specs.Passes.{HoldsOpened}
use Rattle.tree_plan.specs.Writing.{own_record}
use Rattle.tree_plan.specs.News.{KeepsForest, AllKeep, IsNamedOnce}
use Rattle.tree_plan.proofs.NamedData.{HasBoth, named_both}
use Rattle.tree_plan.proofs.NamedData as both
use Rattle.tree_plan.proofs.Trees.{KnownAlike, AreAfter, same_option}
use Rattle.tree_plan.proofs.Forests.{HaveOneForest, root_same, root_named_same, tree_named_same, lists_same, grafts_same, stands_same, reached_same, kept_same, chain_same}
use Rattle.tree_plan.proofs.SameTrees.{later, tree_before, trees_same, index_same}

pub same_data : (d : NodeData) → KeepsForest d d
same_data d = record { children = refl; graft = refl; active = refl }

module _ (w : World) (u : UpdateData) (o : IsOld w) (op : Opened) (opening : HoldsOpened w u op) (same : own_record u.name u.focus op ≡ op.record) (once : IsNamedOnce u) (keep : AllKeep w u) where
  abbrev m : World
  m = merged_world w u

  abbrev i : ℕ
  i = index_for w u.name

  -- ---- the nodes

  pub named_data : (id : FullNodeId) → IsNamed w u id → HasBoth w u KeepsForest id
  named_data = named_both w u KeepsForest once keep

  any_data : (id : FullNodeId) → (data_of m id ≡ data_of w id) ⊎ HasBoth w u KeepsForest id
  any_data = both.any_data w u KeepsForest same_data named_data

  data_now : (id : FullNodeId) (old : NodeData) → HasData w id old → (d : NodeData) × HasData m id d × KeepsForest old d
  data_now = both.data_now w u KeepsForest same_data named_data

  data_then : (id : FullNodeId) (d : NodeData) → HasData m id d → (old : NodeData) × HasData w id old × KeepsForest old d
  data_then = both.data_then w u KeepsForest same_data named_data

  node_now : (id : FullNodeId) → IsNode w id → IsNode m id
  node_now = node_stays w u

  pub node_then : (id : FullNodeId) → IsNode m id → IsNode w id
  node_then = both.node_then w u KeepsForest same_data named_data

  lists_alike : (id : FullNodeId) → listed_ids m id ≡ listed_ids w id
  lists_alike id = ⊎_elim
      (λ same. ap (λ x. option_map_or (λ (d : NodeData). map (in_tree id.tree) d.children) x []) same)
      (λ x. ap (λ y. option_map_or (λ (d : NodeData). map (in_tree id.tree) d.children) y []) x.3 ∙ ap (map (in_tree id.tree)) (sym x.4.children) ∙ sym (ap (λ y. option_map_or (λ (d : NodeData). map (in_tree id.tree) d.children) y []) x.2))
      (any_data id)

  grafts_alike : (id : FullNodeId) → graft_name m id ≡ graft_name w id
  grafts_alike id = ⊎_elim
      (λ same. ap (option_and_then (λ (d : NodeData). d.tree_id)) same)
      (λ x. ap (option_and_then (λ (d : NodeData). d.tree_id)) x.3 ∙ sym x.4.graft ∙ sym (ap (option_and_then (λ (d : NodeData). d.tree_id)) x.2))
      (any_data id)

  pub forward : HaveOneForest w m
  forward = record { trees = λ q. sym (trees_same w u o op opening same q); index = λ name. sym (index_same w u o op opening same name); lists = λ id. sym (lists_alike id); grafts = λ id. sym (grafts_alike id) }

  pub back : HaveOneForest m w
  back = record { trees = trees_same w u o op opening same; index = index_same w u o op opening same; lists = lists_alike; grafts = grafts_alike }

  -- ---- the rules

  pub rules : KeepsRules w u
  rules = record {
    first_has_info = λ none. absurd (later w u op opening same none);
    first_for_root = λ none. absurd (later w u op opening same none);
    root_is_node = λ id is. node_now id (o.root_is_node i id (sym (root_same m w back i) ∙ is));
    listed_is_node = λ p c at. node_now c (o.listed_is_node p c (lists_same m w back p c at.1));
    named_reached = λ id named. let d = named_data id named in reached_same w m forward id (o.node_reached id (IsSome_is d.0 d.2));
    named_once = once;
    listed_once = λ p q c a b. o.listed_once p q c (lists_same m w back p c a.1) (lists_same m w back q c b.1);
    root_unlisted = λ p id at root. o.root_unlisted p id.tree id (sym (root_same m w back id.tree) ∙ root) (lists_same m w back p id at.1);
    root_ungrafted = λ id at. o.root_ungrafted id (grafts_same m w back id _ at.1);
    graft_childless = λ id name at. lists_alike id ∙ o.graft_childless id name (grafts_same m w back id name at.1);
    grafted_once = λ id other name a b. o.grafted_once id other name (grafts_same m w back id name a.1) (grafts_same m w back other name b.1);
    later_grafted = opening.opened.later_grafted;
    later_has_info = opening.opened.later_has_info;
    later_has_index = opening.opened.later_has_index;
    focus_reached = λ id on. reached_same w m forward id (o.node_reached id (o.focus_is_node id (chain_same m w back id on)));
    focus_goes_on = λ id name on grafts. subst IsSome (root_named_same w m forward name) (o.focus_goes_on id name (chain_same m w back id on) (grafts_same m w back id name grafts));
  }

  kept_now : (q : ℕ) → IsSome (get w.trees q) → Kept m q
  kept_now q there = kept_same w m forward q (o.present_kept q there)

  -- nothing goes
  pub rebuilt : IsRebuild m m
  rebuilt = record {
    known = refl;
    toolkit = refl;
    host = refl;
    trees = λ q t. (λ is. (kept_now q (IsSome_is t (sym (trees_same w u o op opening same q) ∙ is)), is), λ x. x.1);
    nodes = λ id d. (λ has. let there = node_then id (IsSome_is d has) in (kept_now id.tree (o.node_present id there), reached_same w m forward id (o.node_reached id there), has), λ x. x.2);
  }

  root_there : IsNode w (in_tree i op.root)
  root_there = o.root_is_node i (in_tree i op.root) (ap (option_map (λ (t : Tree). in_tree i t.root)) (tree_before w u o op opening same))

  pub state_before : IsState w
  state_before = old_state o (in_tree i op.root) root_there

  state_after : IsState m
  state_after = old_leaves_state w u o rules m rebuilt

  -- ---- places, trees and the focus

  pub place_same : (id : FullNodeId) → place_of w id ≡ place_of m id
  place_same id = same_option (place_of w id) (place_of m id)
      (λ p e. (place_is m (state_formed state_after) id p).1 (stands_same w m forward p id (stands_at_place w id p e)))
      (λ p e. (place_is w (state_formed state_before) id p).1 (stands_same m w back p id (stands_at_place m id p e)))

  pub place_now : (id : FullNodeId) (place : Option Place) → IsPlaceOf w id place → IsPlaceOf m id place
  place_now id place is p = (λ e. stands_same w m forward p id ((is p).0 e), λ at. (is p).1 (stands_same m w back p id at))

  pub alike : (name : TreeId) → KnownAlike w m name
  alike name = record {
    index = sym (index_same w u o op opening same name);
    graft = λ g. (λ e. grafts_same w m forward g name e, λ e. grafts_same m w back g name e);
    tree = tree_named_same w m forward name;
  }

  pub none_after : AreAfter w u o rules m rebuilt []
  none_after = record {
    each = λ t c. absurd (let lt : c.0 < 0 = c.1 in omega arith);
    differ = λ t c. absurd (let lt : c.0 < 0 = c.1 in omega arith);
    others = λ name none. alike name;
  }

  pub effective_now : (e : FullNodeId) → IsEffectiveFocus w e → IsEffectiveFocus m e
  effective_now e f = let d = data_now e f.1 f.2 in (chain_same w m forward e f.0, d.0, d.1, sym d.2.graft ∙ f.3)

  resolves_now : (e a : FullNodeId) → Resolves w e a → Resolves m e a
  resolves_now e a r = let d = data_now e r.0 r.1 in (d.0, d.1, sym d.2.active ∙ r.2, r.3, node_now a r.4)

  resolves_then : (e a : FullNodeId) → Resolves m e a → Resolves w e a
  resolves_then e a r = let d = data_then e r.0 r.1 in (d.0, d.1, d.2.active ∙ r.2, r.3, node_then a r.4)

  pub focus_now : (answer : Option FullNodeId) → IsFocus w answer → IsFocus m answer
  focus_now None f = f
  focus_now (Some id) f = (
    f.0,
    f.1,
    effective_now f.1 f.2,
    ⊎_elim (λ r. inl (resolves_now f.1 id r)) (λ x. inr (x.0, λ a r. x.1 a (resolves_then f.1 a r))) f.3,
  )
