-- The trees of an update that leaves the record of its tree as it was.
use Rattle.std.proofs.Common.{◌≡◌, ℕ, position, Some, None, option_map, ⊎_elim, refl, sym, ap, ◌∙◌, subst}
use Rattle.std.specs.Ordering.{nat_cmp, is_eq}
use Rattle.std.specs.Cmp.Lexicographic.{slice_cmp}
use Rattle.std.specs.FinMap.{get}
use Rattle.std.proofs.lemmas.Bool.{cases_eq}
use Rattle.std.proofs.lemmas.Option.{same_Some}
use Rattle.schema.specs.declared.NodeId.{NodeId}
use Rattle.schema.specs.declared.TreeId.{TreeId}
use Rattle.model.specs.World.{World, Tree, in_tree, index_of, root_of}
use Rattle.model.specs.Surgery.{IsOld}
use Rattle.model.specs.Update.{UpdateData, IsFirst, index_for, root_after, merged_world}
use Rattle.model.proofs.State.StatePlaces.{IsSome_is, value_of}
use Rattle.model.proofs.Update.Merges.{tree_named, tree_elsewhere, root_stays, known_stays}
use Rattle.tree_changes.specs.LookUps as look
use Rattle.tree_plan.specs.declared.passes.Opened.{Opened}
use Rattle.tree_plan.specs.Passes.{HoldsOpened}
use Rattle.tree_plan.specs.Writing.{own_record}
use Rattle.tree_plan.proofs.Opens.{tree_is}
use Rattle.tree_plan.proofs.Trees.{both_parts}

-- the named tree is known where its record stays
module _ (w : World) (u : UpdateData) (op : Opened) (opening : HoldsOpened w u op) (same : own_record u.name u.focus op ≡ op.record) where
  pub known_here : index_of w u.name ≡ Some op.index
  known_here = sym opening.record_of.index ∙ sym (ap (λ r. r.index) same)

  pub later : ¬ (IsFirst w)
  later none = let unknown : index_of w u.name ≡ None = rw none refl in let clash : None ≡ Some op.index = sym unknown ∙ known_here in cc

-- where the record of the named tree stays, so do the trees and their indexes
module _ (w : World) (u : UpdateData) (o : IsOld w) (op : Opened) (opening : HoldsOpened w u op) (same : own_record u.name u.focus op ≡ op.record) where
  abbrev m : World
  m = merged_world w u

  abbrev i : ℕ
  i = index_for w u.name

  pub tree_before : get w.trees i ≡ Some (record { root = op.root; focus = u.focus })
  tree_before = tree_is w o u.name ∙ both_parts (look.tree_named w u.name) op.root u.focus (sym opening.record_of.root ∙ sym (ap (λ r. r.root) same)) (sym opening.record_of.focus ∙ sym (ap (λ r. r.focus) same))

  tree_after : get m.trees i ≡ Some (record { root = op.root; focus = u.focus })
  tree_after =
      let root = value_of (root_after w u) (root_stays w u (IsSome_is (record { root = op.root; focus = u.focus }) tree_before)) in
      let is : get m.trees i ≡ Some (record { root = root.0; focus = u.focus }) = tree_named w u root.0 root.1 in
      let at : root_of m i ≡ Some (in_tree i op.root) = subst (λ j. root_of m j ≡ Some (in_tree j op.root)) opening.index opening.root in
      let one : in_tree i root.0 ≡ in_tree i op.root = same_Some (in_tree i root.0) (in_tree i op.root) (sym (ap (option_map (λ (t : Tree). in_tree i t.root)) is) ∙ at) in
      let here : root.0 ≡ op.root = ap (λ x. x.node) one in
      is ∙ ap (λ (n : NodeId). Some (record { root = n; focus = u.focus })) here

  pub trees_same : (q : ℕ) → get m.trees q ≡ get w.trees q
  trees_same q = ⊎_elim (λ here. ap (get m.trees) here ∙ tree_after ∙ sym tree_before ∙ ap (get w.trees) (sym here)) (λ other. tree_elsewhere w u q other) (cases_eq q i)

  pub index_same : (name : TreeId) → index_of m name ≡ index_of w name
  index_same name = ap (position (λ k. is_eq (slice_cmp nat_cmp k.0 name.0))) (known_stays w u op.index (known_here w u op opening same))
