-- The tests of focus say what the definitions of focus say.
use Rattle.std.proofs.Common.{◌≡◌, Bool, true, false, cond, ◌&&◌, Option, Some, None, ◌⊎◌, inl, inr, refl, sym, ap, ◌∙◌, subst}
use Rattle.std.specs.Prelude.{is_some, is_none, option_and_then, ◌↔◌, ◌≢◌, IsTrue}
use Rattle.std.specs.Bool.{then_some}
use Rattle.std.specs.Option.{option_map_or}
use Rattle.std.proofs.lemmas.Bool.{and_parts, false≢true}
use Rattle.std.proofs.lemmas.Option.{none-some, same_Some}
use Rattle.schema.specs.NodeData.{NodeData}
use Rattle.schema.specs.declared.NodeId.{NodeId}
use Rattle.model.specs.declared.FullNodeId.{FullNodeId}
use Rattle.model.specs.World.{World, IsNode, data_of, in_tree}
use Rattle.model.specs.Focus.{IsEffectiveFocus, Resolves, IsFocusedNode}
use Rattle.model.specs.State.{IsState}
use Rattle.model.specs.Forest.{is_same}
use Rattle.model.specs.Upward.{kin}
use Rattle.model.specs.FocusFound.{effective_focus, active_descendant, is_focused_by, is_focused}
use Rattle.model.proofs.Worlds.Names.{same_id}
use Rattle.model.proofs.Forest.PlaceOf.{same_from_test, test_self}
use Rattle.model.proofs.Focus.FocusIsOne.{effective_focus_unique}
use Rattle.model.proofs.Focus.FocusIsThere.{effective_focus_found}

pub focus_is_found : (w : World) → IsState w → (id : FullNodeId) → (effective_focus w ≡ Some id) ↔ IsEffectiveFocus w id
focus_is_found w s id =
    let f = effective_focus_found s in (
      (λ is. subst (IsEffectiveFocus w) (same_Some f.0 id (sym f.1 ∙ is)) f.2),
      (λ has. f.1 ∙ ap Some (effective_focus_unique w f.0 id f.2 has)),
    )

-- ---- the active descendant

kin_gives : (w : World) (id : FullNodeId) (n : NodeId) (a : FullNodeId) (b : Bool) → is_some (data_of w (in_tree id.tree n)) ≡ b → then_some b (in_tree id.tree n) ≡ Some a → (in_tree id.tree n ≡ a) × IsNode w (in_tree id.tree n)
kin_gives w id n a true there e = (same_Some (in_tree id.tree n) a e, there)
kin_gives w id n a false there e = absurd (none-some a e)

module _ (w : World) (id : FullNodeId) where
  resolved : (a : FullNodeId) (o : Option NodeData) → data_of w id ≡ o → option_and_then (kin w id) (option_and_then (λ d. d.active_descendant) o) ≡ Some a → Resolves w id a
  resolved a None has e = absurd (none-some a e)
  resolved a (Some d) has e = go d.active_descendant refl e
    where
      go : (m : Option NodeId) → d.active_descendant ≡ m → option_and_then (kin w id) m ≡ Some a → Resolves w id a
      go None is e = absurd (none-some a e)
      go (Some n) is e =
          let k = kin_gives w id n a (is_some (data_of w (in_tree id.tree n))) refl e in
          (d, has, is ∙ ap (λ (x : FullNodeId). Some x.node) k.0, ap (λ (x : FullNodeId). x.tree) (sym k.0), subst (IsNode w) k.0 k.1)

  pub active_resolves : (a : FullNodeId) → active_descendant w id ≡ Some a → Resolves w id a
  active_resolves a e = resolved a (data_of w id) refl e

  pub resolves_active : (a : FullNodeId) → Resolves w id a → active_descendant w id ≡ Some a
  resolves_active a r =
      let name : in_tree id.tree a.node ≡ a = same_id (in_tree id.tree a.node) a (sym r.3) refl in
      let there : is_some (data_of w (in_tree id.tree a.node)) ≡ true = subst (IsNode w) (sym name) r.4 in
      ap (λ o. option_and_then (kin w id) (option_and_then (λ (d : NodeData). d.active_descendant) o)) r.1
      ∙ ap (option_and_then (kin w id)) r.2
      ∙ ap (λ b. then_some b (in_tree id.tree a.node)) there
      ∙ ap Some name

-- ---- the focused node

module _ (w : World) (e id : FullNodeId) where
  -- where e is the effective focus
  abbrev IsIt : Type 0
  IsIt = ((id ≡ e) × ((a : FullNodeId) → ¬ (Resolves w e a))) ⊎ ((id ≢ e) × Resolves w e id)

  none_resolves : (o : Option FullNodeId) → active_descendant w e ≡ o → is_none o ≡ true → (a : FullNodeId) → ¬ (Resolves w e a)
  none_resolves None is empty a r = none-some a (sym is ∙ resolves_active w e a r)
  none_resolves (Some x) is empty a r = false≢true empty

  resolves_it : (o : Option FullNodeId) → active_descendant w e ≡ o → option_map_or (is_same id) o false ≡ true → Resolves w e id
  resolves_it None is same = absurd (false≢true same)
  resolves_it (Some x) is same = subst (Resolves w e) (sym (same_from_test id x same)) (active_resolves w e x is)

  tested : (b : Bool) → is_same id e ≡ b → cond b (is_none (active_descendant w e)) (option_map_or (is_same id) (active_descendant w e) false) ≡ true → IsIt
  tested true same h = inl (same_from_test id e same, none_resolves (active_descendant w e) refl h)
  tested false other h = inr ((λ (same : id ≡ e). false≢true (sym other ∙ ap (is_same id) (sym same) ∙ test_self id)), resolves_it (active_descendant w e) refl h)

  nothing_given : (o : Option FullNodeId) → active_descendant w e ≡ o → ((a : FullNodeId) → ¬ (Resolves w e a)) → is_none o ≡ true
  nothing_given None is none = refl
  nothing_given (Some x) is none = absurd (none x (active_resolves w e x is))

  differs : (b : Bool) → is_same id e ≡ b → id ≢ e → b ≡ false
  differs true same other = absurd (other (same_from_test id e same))
  differs false same other = refl

  is_it : IsIt → is_focused_by w e id ≡ true
  is_it (inl h) =
      ap (λ b. cond b (is_none (active_descendant w e)) (option_map_or (is_same id) (active_descendant w e) false)) (ap (is_same id) (sym h.0) ∙ test_self id)
      ∙ nothing_given (active_descendant w e) refl h.1
  is_it (inr h) =
      ap (λ b. cond b (is_none (active_descendant w e)) (option_map_or (is_same id) (active_descendant w e) false)) (differs (is_same id e) refl h.0)
      ∙ ap (λ o. option_map_or (is_same id) o false) (resolves_active w e id h.1)
      ∙ test_self id

pub focused_node_is_found : (w : World) → IsState w → (id : FullNodeId) → IsTrue (is_focused w id) ↔ IsFocusedNode w id
focused_node_is_found w s id =
    let f = effective_focus_found s in
    let tested_as : is_focused w id ≡ (w.host_focused && is_focused_by w f.0 id) = ap (λ o. w.host_focused && option_map_or (λ e. is_focused_by w e id) o false) f.1 in (
      (λ is. let h = and_parts w.host_focused (is_focused_by w f.0 id) (sym tested_as ∙ is) in (h.0, f.0, f.2, tested w f.0 id (is_same id f.0) refl h.1)),
      (λ h.
          let e : h.1 ≡ f.0 = effective_focus_unique w h.1 f.0 h.2 f.2 in
          tested_as ∙ ap (λ b. b && is_focused_by w f.0 id) h.0 ∙ is_it w f.0 id (subst (λ x. IsIt w x id) e h.3)),
    )
