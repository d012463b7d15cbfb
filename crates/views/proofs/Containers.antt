-- The ancestors that a filter includes, one after another.
use Rattle.std.proofs.Common.{◌≡◌, Bool, true, false, cond, List, [], ◌∷◌, Option, Some, None, refl, sym, ap, subst, ◌∙◌}
use Rattle.std.specs.Prelude.{find, filter, filter_map, slice_get}
use Rattle.std.specs.List.{cons_option}
use Rattle.schema.specs.NodeData.{NodeData}
use Rattle.model.specs.declared.FullNodeId.{FullNodeId}
use Rattle.model.specs.declared.filters.FilterResult.{FilterResult}
use Rattle.model.specs.World.{World}
use Rattle.model.specs.Forest.{IsFormed}
use Rattle.model.specs.Lists.{ancestors}
use Rattle.model.specs.Covers.{is_included, filtered_parent}
use Rattle.model.specs.Views.{included_ancestors}
use Rattle.model.specs.Upward.{field_at, says, nearest_given}
use Rattle.views.specs.declared.node.node_ref.NodeRef.{NodeRef}
use Rattle.views.specs.Nodes.{world_at, id_at, data_at}
use Rattle.views.specs.FilterValues.{IsBy}
use Rattle.views.specs.Follows.{Follows}
use Rattle.views.proofs.Climbing.{rest_above, says_shown}
use Rattle.views.proofs.Inheriting.{given_shown}

-- the node, where there is one, and the included ones above it
abbrev pub included_from : (FullNodeId → FilterResult) → World → Option FullNodeId → List FullNodeId
included_from f w None = []
included_from f w (Some id) = id ∷ included_ancestors f w id

module _ (f : FullNodeId → FilterResult) (w : World) (formed : IsFormed w) where
  abbrev shows : FullNodeId → Bool
  shows a = is_included (f a)

  by_list : (up : List FullNodeId) (id : FullNodeId) → ancestors w id ≡ up → filter shows up ≡ included_from f w (find shows up)
  by_list [] id e = refl
  by_list (q ∷ up) id e = go (shows q) (by_list up q (rest_above w formed id q up e))
    where
      go : (b : Bool) → filter shows up ≡ included_from f w (find shows up) → cond b (q ∷ filter shows up) (filter shows up) ≡ included_from f w (cond b (Some q) (find shows up))
      go true later = ap (λ xs. q ∷ filter shows xs) (sym (rest_above w formed id q up e))
      go false later = later

  -- the first of them is the filtered parent, and the others are above that
  included_is : (id : FullNodeId) → included_ancestors f w id ≡ included_from f w (filtered_parent f w id)
  included_is id = by_list (ancestors w id) id refl

-- the search among them passes over a node that fails, and gives nothing of it
module _ (w : World) (n : NodeRef) (same : world_at n ≡ w) (up : List FullNodeId) where
  container_is_it : (test : NodeData → Bool) → test (data_at n) ≡ true → find (says test w) (id_at n ∷ up) ≡ Some (id_at n)
  container_is_it test e = ap (λ b. cond b (Some (id_at n)) (find (says test w) up)) (says_shown test w n same ∙ e)

  container_is_above : (test : NodeData → Bool) → test (data_at n) ≡ false → find (says test w) (id_at n ∷ up) ≡ find (says test w) up
  container_is_above test e = ap (λ b. cond b (Some (id_at n)) (find (says test w) up)) (says_shown test w n same ∙ e)

  gives_it : {A : Type 0} (field : NodeData → Option A) (a : A) → field (data_at n) ≡ Some a → nearest_given field w (id_at n ∷ up) ≡ Some a
  gives_it field a e = ap (λ o. slice_get (cons_option o (filter_map (field_at field w) up)) 0) (given_shown field w n same ∙ e)

  gives_later : {A : Type 0} (field : NodeData → Option A) → field (data_at n) ≡ None → nearest_given field w (id_at n ∷ up) ≡ nearest_given field w up
  gives_later field e = ap (λ o. slice_get (cons_option o (filter_map (field_at field w) up)) 0) (given_shown field w n same ∙ e)

-- the search from a node, by the filtered parent that a filter gives which answers alike
module _ {answers : NodeRef → FilterResult → Type 0} (w : World) (formed : IsFormed w) (n : NodeRef) (same : world_at n ≡ w) (f : FullNodeId → FilterResult) (follows : Follows answers w f) where
  included_is_from : (o : Option FullNodeId) → IsBy answers n filtered_parent o → included_ancestors f w (id_at n) ≡ included_from f w o
  included_is_from o found =
      included_is f w formed (id_at n) ∙ ap (included_from f w) (sym (found f (subst (λ v. Follows answers v f) (sym same) follows) ∙ ap (λ u. filtered_parent f u (id_at n)) same))

  pub none_included : IsBy answers n filtered_parent None → included_ancestors f w (id_at n) ≡ []
  none_included found = included_is_from None found

  module _ (q : NodeRef) (there : world_at q ≡ world_at n) (found : IsBy answers n filtered_parent (Some (id_at q))) where
    pub container_found : (test : NodeData → Bool) → test (data_at q) ≡ true → find (says test w) (included_ancestors f w (id_at n)) ≡ Some (id_at q)
    container_found test e = ap (find (says test w)) (included_is_from (Some (id_at q)) found) ∙ container_is_it w q (there ∙ same) (included_ancestors f w (id_at q)) test e

    pub container_passed : (test : NodeData → Bool) → test (data_at q) ≡ false → find (says test w) (included_ancestors f w (id_at n)) ≡ find (says test w) (included_ancestors f w (id_at q))
    container_passed test e = ap (find (says test w)) (included_is_from (Some (id_at q)) found) ∙ container_is_above w q (there ∙ same) (included_ancestors f w (id_at q)) test e

    pub field_found : {A : Type 0} (field : NodeData → Option A) (a : A) → field (data_at q) ≡ Some a → nearest_given field w (included_ancestors f w (id_at n)) ≡ Some a
    field_found field a e = ap (nearest_given field w) (included_is_from (Some (id_at q)) found) ∙ gives_it w q (there ∙ same) (included_ancestors f w (id_at q)) field a e

    pub field_passed : {A : Type 0} (field : NodeData → Option A) → field (data_at q) ≡ None → nearest_given field w (included_ancestors f w (id_at n)) ≡ nearest_given field w (included_ancestors f w (id_at q))
    field_passed field e = ap (nearest_given field w) (included_is_from (Some (id_at q)) found) ∙ gives_later w q (there ∙ same) (included_ancestors f w (id_at q)) field e
