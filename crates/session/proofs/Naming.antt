-- Two ways to say which node there is.
use Rattle.std.proofs.Common.{◌≡◌, Option, Some, None, refl, sym}
use Rattle.std.specs.Prelude.{◌↔◌}
use Rattle.std.proofs.lemmas.Option.{none-some}
use Rattle.schema.specs.declared.NodeId.{NodeId}
use Rattle.schema.specs.declared.TreeId.{TreeId}
use Rattle.model.specs.declared.FullNodeId.{FullNodeId}
use Rattle.model.specs.World.{World, local_id_of}
use Rattle.model.specs.State.{IsState}
use Rattle.model.specs.Queries.{node_named, raw_of}
use Rattle.model.specs.Focus.{IsFocus}
use Rattle.model.specs.FocusFound.{shown_focus}
use Rattle.model.proofs.Asking.NamedNodes.{named_node_is_located}
use Rattle.model.proofs.Asking.ShownFocus.{shown_focus_is_focus}
use Rattle.model.proofs.Asking.Raws.{raw_is_name}
use Rattle.schema.specs.declared.values.TextPosition.{TextPosition}
use Rattle.model.specs.FlatText.{FlatText, Position}
use Rattle.model.specs.Ranges.{IsRaw}

same_options : {A : Type 0} (a b : Option A) → ((x : A) → a ≡ Some x → b ≡ Some x) → ((x : A) → b ≡ Some x → a ≡ Some x) → a ≡ b
same_options None None there back = refl
same_options None (Some y) there back = absurd (none-some y (back y refl))
same_options (Some x) b there back = sym (there x refl)

-- what is found by its id in its tree, and its tree, is the node that is named
pub found_is_named : (w : World) (n : NodeId) (tree : TreeId) (found : Option FullNodeId) → IsState w → ((id : FullNodeId) → (found ≡ Some id) ↔ (local_id_of w id ≡ Some (n, tree))) → found ≡ node_named w (n, tree)
found_is_named w n tree found s h =
    same_options found (node_named w (n, tree))
    (λ id e. (named_node_is_located w (n, tree) id s).1 ((h id).0 e))
    (λ id e. (h id).1 ((named_node_is_located w (n, tree) id s).0 e))

-- the focus is the one that is shown
pub focus_is_shown : (w : World) (focus : Option FullNodeId) → IsState w → IsFocus w focus → focus ≡ shown_focus w
focus_is_shown w focus s is = (shown_focus_is_focus w focus s).0 is

-- a position by its name
pub raw_named : (t : FlatText) (p : Position) (raw : TextPosition) → IsRaw t p raw → raw_of t p ≡ Some raw
raw_named t p raw is = (raw_is_name t p raw).0 is
