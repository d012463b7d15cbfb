-- The value of a node, case by case, and texts that may be there.
use Rattle.std.proofs.Common.{◌≡◌, ℕ, Bool, true, false, List, [], ◌++◌, refl, sym, ap, ◌∙◌}
use Rattle.std.specs.Prelude.{Option, Some, None, is_some, unwrap_or, option_map, ◌||◌, if◌then◌else◌}
use Rattle.std.specs.Option.{option_or, option_and_then}
use Rattle.schema.specs.NodeData.{NodeData}
use Rattle.model.specs.declared.FullNodeId.{FullNodeId}
use Rattle.model.specs.World.{World}
use Rattle.model.specs.Values.{own_value, document_text, shown_value, has_value_in_runs, value_of}
use Rattle.model.proofs.Text.TextFacts.{has_value_is}
use Rattle.views.specs.declared.node.node_ref.NodeRef.{NodeRef}
use Rattle.views.specs.Nodes.{world_at, id_at, data_at}

module _ (n : NodeRef) where
  abbrev w : World
  w = world_at n

  abbrev id : FullNodeId
  id = id_at n

  pub own_value_is : own_value w id ≡ (data_at n).value
  own_value_is = ap (λ o. option_and_then (λ (d : NodeData). d.value) o) n.known

  abbrev valued : Option (List ℕ) → Bool → Option (List ℕ)
  valued own runs = option_or (option_map (shown_value w id) own) (if runs then Some (document_text w id) else None)

  by_own : (o : Option (List ℕ)) → o ≡ (data_at n).value → value_of w id ≡ valued o (has_value_in_runs w id)
  unfolding value_of
  by_own o e = ap (λ o. valued o (has_value_in_runs w id)) (own_value_is ∙ sym e)

  pub value_is_own : (v : List ℕ) → Some v ≡ (data_at n).value → Some (shown_value w id v) ≡ value_of w id
  value_is_own v e = sym (by_own (Some v) e)

  pub value_in_runs : None ≡ (data_at n).value → has_value_in_runs w id ≡ true → Some (document_text w id) ≡ value_of w id
  value_in_runs e r = sym (by_own None e ∙ ap (valued None) r)

  pub no_value : None ≡ (data_at n).value → has_value_in_runs w id ≡ false → None ≡ value_of w id
  no_value e r = sym (by_own None e ∙ ap (valued None) r)

  value_tested : (is_some (data_at n).value || has_value_in_runs w id) ≡ is_some (value_of w id)
  value_tested = ap (λ o. is_some o || has_value_in_runs w id) (sym own_value_is) ∙ has_value_is w id

  pub own_is_there : is_some (data_at n).value ≡ true → true ≡ is_some (value_of w id)
  own_is_there e = ap (λ b. b || has_value_in_runs w id) (sym e) ∙ value_tested

  pub runs_are_there : is_some (data_at n).value ≡ false → has_value_in_runs w id ≡ is_some (value_of w id)
  runs_are_there e = ap (λ b. b || has_value_in_runs w id) (sym e) ∙ value_tested

-- the text that is written, where there is one
pub text_there : {o : Option (List ℕ)} {t : List ℕ} → Some t ≡ o → t ≡ unwrap_or o []
text_there e = ap (λ o. unwrap_or o []) e

pub is_there : {o : Option (List ℕ)} {t : List ℕ} → Some t ≡ o → true ≡ is_some o
is_there e = ap is_some e

pub no_text : {o : Option (List ℕ)} → None ≡ o → [] ≡ unwrap_or o []
no_text e = ap (λ o. unwrap_or o []) e

pub is_not_there : {o : Option (List ℕ)} → None ≡ o → false ≡ is_some o
is_not_there e = ap is_some e

-- what was built is the text
pub built : (o : Option (List ℕ)) (t : List ℕ) → true ≡ is_some o → t ≡ [] ++ unwrap_or o [] → Some t ≡ o
built None t some e = cc
built (Some v) t some e = ap Some e

pub not_built : (o : Option (List ℕ)) → false ≡ is_some o → None ≡ o
not_built None e = refl
not_built (Some v) e = cc
