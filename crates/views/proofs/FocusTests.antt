-- What the tests of code say of the focus.
use Rattle.std.proofs.Common.{◌≡◌, Bool, true, false, cond, ◌&&◌, Option, Some, None, refl, sym, ap, ◌∙◌}
use Rattle.std.specs.Prelude.{is_none, IsTrue, ◌↔◌, ◌≢◌}
use Rattle.std.specs.Option.{option_map, option_map_or}
use Rattle.model.specs.declared.FullNodeId.{FullNodeId}
use Rattle.model.specs.World.{World}
use Rattle.model.specs.State.{IsState}
use Rattle.model.specs.Forest.{is_same}
use Rattle.model.specs.Focus.{IsEffectiveFocus, Resolves}
use Rattle.model.specs.FocusFound.{effective_focus, active_descendant, is_focused_by, is_focused_in_tree, is_focused}
use Rattle.model.proofs.Focus.FocusIsFound.{focus_is_found, active_resolves, resolves_active}
use Rattle.model.proofs.Forest.PlaceOf.{same_from_test, test_self}
use Rattle.views.specs.declared.node.node_ref.NodeRef.{NodeRef}
use Rattle.views.specs.Nodes.{id_at, ShowsThe}
use Rattle.views.specs.FocusedOne.{IsFocusedOne}

module _ (w : World) (s : IsState w) where
  pub tested_in_tree : (id : FullNodeId) (r : Bool) → IsTrue r ↔ IsEffectiveFocus w id → r ≡ is_focused_in_tree w id
  tested_in_tree id true h =
      let found : effective_focus w ≡ Some id = (focus_is_found w s id).1 (h.0 refl) in
      sym (ap (λ o. option_map_or (is_same id) o false) found ∙ test_self id)
  tested_in_tree id false h = by_focus (effective_focus w) refl
    where
      by_test : (e : FullNodeId) (b : Bool) → is_same id e ≡ b → effective_focus w ≡ Some e → false ≡ b
      by_test e true same found = h.1 ((focus_is_found w s id).0 (found ∙ ap Some (sym (same_from_test id e same))))
      by_test e false same found = refl

      by_focus : (o : Option FullNodeId) → effective_focus w ≡ o → false ≡ is_focused_in_tree w id
      by_focus None found = sym (ap (λ o. option_map_or (is_same id) o false) found)
      by_focus (Some e) found = by_test e (is_same id e) refl found ∙ sym (ap (λ o. option_map_or (is_same id) o false) found)

  -- e is the effective focus, and these are views of the active descendant that it names
  module _ (e : FullNodeId) (focus : IsEffectiveFocus w e) where
    pub active_shown : (found : Option NodeRef) → ShowsThe w (Resolves w e) found → active_descendant w e ≡ option_map id_at found
    active_shown (Some n) shows = resolves_active w e (id_at n) ((shows.node (id_at n)).0 refl)
    active_shown None shows = go (active_descendant w e) refl
      where
        go : (o : Option FullNodeId) → active_descendant w e ≡ o → active_descendant w e ≡ None
        go None is = is
        go (Some a) is = let none : None ≡ Some a = (shows.node a).1 (active_resolves w e a is) in cc

    module _ (host : w.host_focused ≡ true) where
      focused_by : (o : Option FullNodeId) → active_descendant w e ≡ o → (id : FullNodeId) → is_focused w id ≡ cond (is_same id e) (is_none o) (option_map_or (is_same id) o false)
      focused_by o is id =
          ap (λ b. b && option_map_or (λ e. is_focused_by w e id) (effective_focus w) false) host
          ∙ ap (λ o. option_map_or (λ e. is_focused_by w e id) o false) ((focus_is_found w s e).1 focus)
          ∙ ap (λ o. cond (is_same id e) (is_none o) (option_map_or (is_same id) o false)) is

      one_or_not : (b : Bool) → cond b true false ≡ b
      one_or_not true = refl
      one_or_not false = refl

      none_of_one : (b : Bool) → cond b false b ≡ false
      none_of_one true = refl
      none_of_one false = refl

      pub focus_itself : ShowsThe w (Resolves w e) None → IsFocusedOne w (Some e)
      focus_itself shows = record { at = λ id. focused_by None (active_shown None shows) id ∙ one_or_not (is_same id e) }

      pub focus_names_itself : (n : NodeRef) → ShowsThe w (Resolves w e) (Some n) → id_at n ≡ e → IsFocusedOne w None
      focus_names_itself n shows same = record { at = λ id. focused_by (Some (id_at n)) (active_shown (Some n) shows) id ∙ ap (λ a. cond (is_same id e) false (is_same id a)) same ∙ none_of_one (is_same id e) }

      at_another : (a id : FullNodeId) (b : Bool) → is_same id e ≡ b → a ≢ e → cond b false (is_same id a) ≡ is_same id a
      at_another a id false same other = refl
      at_another a id true same other = go (is_same id a) refl
        where
          go : (t : Bool) → is_same id a ≡ t → false ≡ t
          go false is = refl
          go true is = absurd (other (sym (same_from_test id a is) ∙ same_from_test id e same))

      pub focus_names_another : (n : NodeRef) → ShowsThe w (Resolves w e) (Some n) → id_at n ≢ e → IsFocusedOne w (Some (id_at n))
      focus_names_another n shows other = record { at = λ id. focused_by (Some (id_at n)) (active_shown (Some n) shows) id ∙ at_another (id_at n) id (is_same id e) refl other }

pub nothing_focused : (w : World) → w.host_focused ≡ false → IsFocusedOne w None
nothing_focused w host = record { at = λ id. ap (λ b. b && option_map_or (λ e. is_focused_by w e id) (effective_focus w) false) host }
