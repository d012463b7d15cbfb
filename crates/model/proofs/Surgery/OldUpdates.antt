-- An update that keeps the rules leaves a state, also the first one.
use Rattle.std.proofs.Common.{◌≡◌, ℕ, ◌-◌, ◌^◌, ◌<◌, ◌≤◌, List, [], ◌∷◌, length, slice_get, Some, None, IsSome, option_map, ⊎_elim, refl, sym, ap, ◌∙◌, subst, arith}
use Rattle.std.specs.FinMap.{get}
use Rattle.std.proofs.lemmas.Bool.{cases_eq}
use Rattle.schema.specs.declared.TreeId.{TreeId}
use Rattle.model.specs.World.{ROOT_NAME, World, IsNode, in_tree, index_of, root_of, Kept}
use Rattle.model.specs.World as world
use Rattle.model.specs.Update.{UpdateData, IsRebuild, KeepsRules, index_for, merged_world}
use Rattle.model.specs.State.{IsState}
use Rattle.model.specs.Surgery.{IsOld, IsOpened}
use Rattle.model.proofs.State.StatePlaces.{IsSome_is, root_of_parts, root_of-tree}
use Rattle.model.proofs.Update.Merges.{data_elsewhere, tree_elsewhere, tree_before, known_once_after, length_stays, index_for_known, length_fits}
use Rattle.model.proofs.Update.RebuildKeeps.{reached_present}
use Rattle.model.proofs.Update.RulesOrFault.{rules_or_fault}
use Rattle.model.proofs.Update.UpdateLeavesState.{IsSound, state_after}
use Rattle.model.proofs.Surgery.Spots.{first_after, root_here}
use Rattle.model.proofs.Surgery.LiveAndGone.{named_kept}
use Rattle.model.proofs.Surgery.RulesArePassed.{rules_passed}

module _ (w : World) (u : UpdateData) (o : IsOld w) (k : KeepsRules w u) where
  abbrev m : World
  m = merged_world w u

  abbrev i : ℕ
  i = index_for w u.name

  opened : IsOpened w u
  opened = (rules_passed w u o k).climbed.refined.removed.settled.compared.opened

  first_known : (xs : List TreeId) → m.known ≡ xs → slice_get m.known 0 ≡ Some ROOT_NAME
  first_known [] e = let none : length m.known ≡ 0 = ap length e in absurd (omega (arith, index_for_known w u))
  first_known (x ∷ xs) e =
      let at : slice_get m.known 0 ≡ Some x = ap (λ ys. slice_get ys 0) e in
      at ∙ ap Some (first_after w u o opened x at)

  room : (xs : List TreeId) → w.known ≡ xs → index_of w u.name ≡ None → length w.known < 2 ^ 32 - 1
  room [] e new = let none : length w.known ≡ 0 = ap length e in omega arith
  room (x ∷ xs) e new = k.later_has_index (λ none. let f : x ∷ xs ≡ [] = sym e ∙ none in cc) new

  top_present : (j : ℕ) → Kept m j → IsSome (get m.trees j) → IsSome (get m.trees 0)
  top_present j world.Kept.root there = there
  top_present j (world.Kept.grafted graft inner name kept reached grafts named) there = top_present graft.tree kept (reached_present m graft reached)

  named_present : IsSome (get m.trees i)
  named_present =
      let root = root_here w u o opened in
      let t = root_of_parts m i root.0 root.1 in
      IsSome_is t.0 t.1

  sound : IsSound m
  sound = record {
    known_first = first_known m.known refl;
    known_once = known_once_after w u o.known_once;
    known_fit = let fits : length m.known ≤ 2 ^ 32 - 1 = length_fits w u (2 ^ 32 - 1) (omega (arith, o.known_fit)) (room w.known refl) in omega arith;
    root_present = top_present i (named_kept w u o opened) named_present;
    present_known = λ index there. ⊎_elim
        (λ h. let known = o.present_known index h.0 in omega (arith, length_stays w u))
        (λ same. subst (λ j. j < length m.known) (sym same) (index_for_known w u))
        (tree_before w u index there);
    root_is_node = λ index id is. ⊎_elim
        (λ same. k.root_is_node id (subst (λ j. root_of m j ≡ Some id) same is))
        (λ other.
        let was : root_of w index ≡ Some id = ap (option_map (λ t. in_tree index t.root)) (sym (tree_elsewhere w u index other)) ∙ is in
        let tree : index ≡ id.tree = root_of-tree m index id is in
        subst IsSome (sym (data_elsewhere w u id (λ e. other (tree ∙ e)))) (o.root_is_node index id was))
        (cases_eq index i);
  }

  pub old_leaves_state : (new : World) → IsRebuild m new → IsState new
  old_leaves_state new r = state_after w u ((rules_or_fault w u).0 k) sound new r
