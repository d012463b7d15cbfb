-- What a flag says of a node.
use Rattle.std.specs.Prelude.{ℕ, ◌+◌, ◌*◌, ◌/◌, ◌%◌, ◌==◌, ◌&&◌, Bool, List, [], ◌∷◌, is_some, if◌then◌else◌}
use Rattle.schema.specs.NodeData.{NodeData}
use Rattle.model.specs.declared.FullNodeId.{FullNodeId}
use Rattle.model.specs.World.{World}
use Rattle.model.specs.RoleClasses.{is_text_input, is_multiline, is_password_input, is_dialog, is_item_like, is_read_only_supported, is_label, is_container_with_selectable_children, is_read_only_by_default}
use Rattle.model.specs.Filters.{is_hidden, common_filter}
use Rattle.model.specs.Labels.{label_of}
use Rattle.model.specs.Values.{value_of}
use Rattle.model.specs.Views.{is_italic, is_read_only, is_read_only_or_disabled, is_selectable, supports_toggle, supports_expand_collapse, supports_url, is_focusable, is_clickable, supports_increment, supports_decrement, is_invocable}
use Rattle.model.specs.TextRuns.{supports_text_ranges}
use Rattle.fed_tree.specs.declared.flags.Flag.{Flag}
use Rattle.fed_tree.specs.declared.flags.Flag.TheVariants as flag

-- what the call of a node with this name answers, with the common filter where the call takes one
abbrev pub says : Flag → World → FullNodeId → NodeData → Bool
says flag.Hidden w id d = is_hidden w id
says flag.Disabled w id d = d.disabled
says flag.Busy w id d = d.busy
says flag.Modal w id d = d.modal
says flag.Required w id d = d.required
says flag.Multiselectable w id d = d.multiselectable
says flag.LiveAtomic w id d = d.live_atomic
says flag.TouchTransparent w id d = d.touch_transparent
says flag.ClipsChildren w id d = d.clips_children
says flag.Italic w id d = is_italic w id
says flag.ReadOnly w id d = is_read_only d
says flag.ReadOnlySupported w id d = is_read_only_supported d.role
says flag.TextInput w id d = is_text_input d.role
says flag.Multiline w id d = is_multiline d.role
says flag.PasswordInput w id d = is_password_input d.role
says flag.Dialog w id d = is_dialog d.role
says flag.ItemLike w id d = is_item_like d.role
says flag.Graft w id d = is_some d.tree_id
says flag.Selectable w id d = is_selectable d
says flag.SupportsToggle w id d = supports_toggle d
says flag.SupportsExpandCollapse w id d = supports_expand_collapse d
says flag.SupportsUrl w id d = supports_url d
says flag.SupportsTextRanges w id d = supports_text_ranges w id
says flag.Focusable w id d = is_focusable (common_filter w) w id
says flag.Clickable w id d = is_clickable (common_filter w) w id
says flag.SupportsIncrement w id d = supports_increment (common_filter w) w id
says flag.SupportsDecrement w id d = supports_decrement (common_filter w) w id
says flag.Invocable w id d = is_invocable (common_filter w) w id
says flag.LabelComesFromValue w id d = is_label d.role
says flag.ContainerWithSelectableChildren w id d = is_container_with_selectable_children d.role
says flag.ReadOnlyByDefault w id d = is_read_only_by_default d.role
says flag.ReadOnlyOrDisabled w id d = is_read_only_or_disabled d
says flag.HasLabel w id d = is_some (label_of w id)
says flag.HasValue w id d = is_some (value_of w id)

-- the bits of a number that are wanted and whose flags are said to hold: the lowest is the first flag's
abbrev pub said_bits : (Flag → Bool) → List Flag → ℕ → ℕ
said_bits says [] wanted = 0
said_bits says (flag ∷ flags) wanted = 2 * said_bits says flags (wanted / 2) + (if (wanted % 2 == 1) && says flag then 1 else 0)
