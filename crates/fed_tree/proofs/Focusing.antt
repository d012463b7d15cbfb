-- The declared focus of a state, and the active descendant of a node.
use Rattle.std.proofs.Common.{◌≡◌, Option, Some, None, option_map, refl, sym, ◌∙◌, subst}
use Rattle.std.proofs.lemmas.Option.{none-some}
use Rattle.model.specs.declared.FullNodeId.{FullNodeId}
use Rattle.model.specs.World.{World}
use Rattle.model.specs.State.{IsState}
use Rattle.model.specs.Focus.{IsEffectiveFocus, Resolves}
use Rattle.model.specs.FocusFound.{active_descendant, effective_focus}
use Rattle.model.proofs.Focus.FocusIsFound.{active_resolves, focus_is_found, resolves_active}
use Rattle.views.specs.Nodes.{ShowsThe, id_at}
use Rattle.views.specs.declared.node.node_ref.NodeRef.{NodeRef}

-- by a view of the state of a tree
pub focus_found : (w u v : World) (id : FullNodeId) → u ≡ w → v ≡ u → IsState v → IsEffectiveFocus v id → effective_focus w ≡ Some id
focus_found w u v id is seen state focus = subst (λ (x : World). effective_focus x ≡ Some id) (seen ∙ is) ((focus_is_found v state id).1 focus)

-- a node that is shown as the active descendant, and none
pub active_found : (w : World) (id x : FullNodeId) (n : NodeRef) → ShowsThe w (Resolves w id) (Some n) → x ≡ id_at n → Some x ≡ active_descendant w id
active_found w id x n shows is = sym (resolves_active w id x ((shows.node x).0 (λ i. Some (sym is i))))

pub active_missing : (w : World) (id : FullNodeId) (found : Option NodeRef) → ShowsThe w (Resolves w id) found → found ≡ None → None ≡ active_descendant w id
active_missing w id found shows none = sym (nothing (active_descendant w id) refl)
  where
    nothing : (o : Option FullNodeId) → active_descendant w id ≡ o → o ≡ None
    nothing None is = refl
    nothing (Some x) is = absurd (none-some x (subst (λ (f : Option NodeRef). option_map id_at f ≡ Some x) none ((shows.node x).1 (active_resolves w id x is))))
