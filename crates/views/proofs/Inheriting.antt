-- What a node has from the nodes above it, by the nearest that passes a test.
use Rattle.std.proofs.Common.{◌≡◌, ℕ, Bool, false, cond, List, [], ◌∷◌, Option, Some, None, refl, sym, ap, ◌∙◌}
use Rattle.std.specs.Prelude.{find, is_some, slice_get, filter_map, option_and_then}
use Rattle.std.specs.Option.{option_map, option_map_or}
use Rattle.std.specs.List.{cons_option}
use Rattle.schema.specs.NodeData.{NodeData}
use Rattle.model.specs.declared.FullNodeId.{FullNodeId}
use Rattle.model.specs.World.{World, data_of}
use Rattle.model.specs.Upward.{field_at, says, upward, nearest_given, inherited_field, says_upward}
use Rattle.views.specs.declared.node.node_ref.NodeRef.{NodeRef}
use Rattle.views.specs.Nodes.{world_at, id_at, data_at}
use Rattle.views.specs.Inherited.{inherited_at}
use Rattle.views.proofs.Climbing.{data_shown, any_found, some_mapped}

module _ {A : Type 0} (field : NodeData → Option A) (w : World) where
  abbrev gives : FullNodeId → Bool
  gives = says (λ d. is_some (field d)) w

  -- a node that gives nothing is passed over
  by_node : (x : FullNodeId) (o : Option NodeData) → data_of w x ≡ o → gives x ≡ is_some (field_at field w x)
  by_node x None e = ap (λ d. option_map_or (λ d. is_some (field d)) d false) e ∙ sym (ap (λ d. is_some (option_and_then field d)) e)
  by_node x (Some d) e = ap (λ d. option_map_or (λ d. is_some (field d)) d false) e ∙ sym (ap (λ d. is_some (option_and_then field d)) e)

  first_given : (x : FullNodeId) (xs : List FullNodeId) (o : Option A) → field_at field w x ≡ o → nearest_given field w xs ≡ option_and_then (field_at field w) (find gives xs)
      → slice_get (cons_option o (filter_map (field_at field w) xs)) 0 ≡ option_and_then (field_at field w) (cond (is_some o) (Some x) (find gives xs))
  first_given x xs None e later = later
  first_given x xs (Some a) e later = sym e

  -- the nearest that gives anything is the nearest that passes the test
  pub nearest_is_found : (ids : List FullNodeId) → nearest_given field w ids ≡ option_and_then (field_at field w) (find gives ids)
  nearest_is_found [] = refl
  nearest_is_found (x ∷ xs) =
      ap (λ o. slice_get (cons_option o (filter_map (field_at field w) xs)) 0) refl
      ∙ first_given x xs (field_at field w x) refl (nearest_is_found xs)
      ∙ ap (λ b. option_and_then (field_at field w) (cond b (Some x) (find gives xs))) (sym (by_node x (data_of w x) refl))

  pub given_shown : (n : NodeRef) → world_at n ≡ w → field_at field w (id_at n) ≡ field (data_at n)
  given_shown n same = ap (option_and_then field) (data_shown w n same)

  module _ (id : FullNodeId) where
    pub inherited_from : (n : NodeRef) → world_at n ≡ w → Some (id_at n) ≡ find gives (upward w id) → field (data_at n) ≡ inherited_field field w id
    inherited_from n same found = sym (given_shown n same) ∙ ap (option_and_then (field_at field w)) found ∙ sym (nearest_is_found (upward w id))

    pub nothing_inherited : None ≡ find gives (upward w id) → None ≡ inherited_field field w id
    nothing_inherited none = ap (option_and_then (field_at field w)) none ∙ sym (nearest_is_found (upward w id))

-- a node or an ancestor says so if one is found
pub said_where_found : (test : NodeData → Bool) (w : World) (id : FullNodeId) (found : Option NodeRef) → option_map id_at found ≡ find (says test w) (upward w id) → is_some found ≡ says_upward test w id
said_where_found test w id found e = some_mapped found ∙ ap is_some e ∙ any_found (says test w) (upward w id)

-- the same of a field that is a text, by what the code returns
module _ (field : NodeData → Option (List ℕ)) (n : NodeRef) where
  abbrev gives_it : FullNodeId → Bool
  gives_it = says (λ d. is_some (field d)) (world_at n)

  pub text_inherited : (o : Option (List ℕ)) (q : NodeRef) → o ≡ field (data_at q) → world_at q ≡ world_at n → Some (id_at q) ≡ find gives_it (upward (world_at n) (id_at n)) → o ≡ inherited_at field n
  text_inherited o q is same found = is ∙ inherited_from field (world_at n) (id_at n) q same found

  pub no_text_inherited : (o : Option (List ℕ)) → o ≡ None → None ≡ find gives_it (upward (world_at n) (id_at n)) → o ≡ inherited_at field n
  no_text_inherited o is none = is ∙ nothing_inherited field (world_at n) (id_at n) none
