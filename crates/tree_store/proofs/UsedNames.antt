-- A name that has a record which isn't blank is used.
use Rattle.std.proofs.Common.{◌≡◌, ℕ, true, false, Option, Some, None, refl, sym, ap, subst, ◌∙◌, inl, inr}
use Rattle.std.specs.Prelude.{IsSome, is_some, option_and_then}
use Rattle.schema.specs.declared.TreeId.{TreeId}
use Rattle.model.specs.declared.FullNodeId.{FullNodeId}
use Rattle.model.specs.World.{World, index_of, graft_name}
use Rattle.tree_store.specs.declared.records.NameRecord.{NameRecord}
use Rattle.tree_store.specs.UsedNames.{IsUsed}
use Rattle.tree_store.specs.KeptNames.{IsNoBlank}

module _ (w : World) (name : TreeId) (at : Option NameRecord) (index : option_and_then (λ (r : NameRecord). r.index) at ≡ index_of w name)
    (graft : (g : FullNodeId) → option_and_then (λ (r : NameRecord). r.graft) at ≡ Some g → graft_name w g ≡ Some name) where
  by_parts : (i : Option ℕ) (g : Option FullNodeId) → option_and_then (λ (r : NameRecord). r.index) at ≡ i → option_and_then (λ (r : NameRecord). r.graft) at ≡ g
      → IsNoBlank at → IsSome at → IsUsed w name
  by_parts (Some i) g is_i is_g full there = inl (subst (λ o. IsSome o) (sym is_i ∙ index) refl)
  by_parts None (Some g) is_i is_g full there = inr (g, graft g is_g)
  by_parts None None is_i is_g full there = absurd (gone (full (λ j. (is_i j, is_g j))))
    where
      gone : at ≡ None → ⊥
      gone e = let j : false ≡ true = ap (λ (o : Option NameRecord). is_some o) (sym e) ∙ there in cc

  pub used : IsNoBlank at → IsSome at → IsUsed w name
  used = by_parts (option_and_then (λ (r : NameRecord). r.index) at) (option_and_then (λ (r : NameRecord). r.graft) at) refl refl
