-- What can be done with a node.
use Rattle.std.specs.Prelude.{◌≡◌, true, false, Some}
use Rattle.schema.specs.NodeData.{empty_node}
use Rattle.schema.specs.declared.Role.TheVariants.{Button, CheckBox, MenuItem}
use Rattle.schema.specs.declared.values.HasPopup.TheVariants.{Menu}
use Rattle.schema.specs.declared.values.Toggled.TheVariants.{Mixed}
use Rattle.model.specs.declared.FullNodeId.{FullNodeId}
use Rattle.model.specs.World.{World}
use Rattle.model.specs.declared.filters.FilterResult.{FilterResult}
use Rattle.model.specs.FocusFound.{is_focused_in_tree}
use Rattle.model.specs.Views.{is_focusable, is_only_clicked, is_selectable, supports_toggle, supports_expand_collapse}

pub record OfButtons : Type 0 where
  pub plain : is_only_clicked (empty_node Button) ≡ true
  pub toggled : is_only_clicked (record (empty_node Button) { toggled = Some Mixed }) ≡ false
  pub expanded : is_only_clicked (record (empty_node Button) { expanded = Some false }) ≡ false
  pub selected : is_only_clicked (record (empty_node Button) { selected = Some false }) ≡ false

-- what is set decides, and not the role
pub record OfControls : Type 0 where
  pub toggled : supports_toggle (record (empty_node Button) { toggled = Some Mixed }) ≡ true
  pub not_toggled : supports_toggle (record (empty_node CheckBox) { selected = Some false }) ≡ false
  pub with_popup : supports_expand_collapse (record (empty_node Button) { has_popup = Some Menu }) ≡ true
  pub without_popup : supports_expand_collapse (record (empty_node MenuItem) { toggled = Some Mixed }) ≡ false
  pub not_selected : is_selectable (record (empty_node Button) { toggled = Some Mixed }) ≡ false

abbrev pub FocusedIsFocusable : Type 0
FocusedIsFocusable =
    (f : FullNodeId → FilterResult) (w : World) (id : FullNodeId) → is_focused_in_tree w id ≡ true → is_focusable f w id ≡ true
