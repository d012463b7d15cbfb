-- The marks of a node say which of its fields are set, and of what neither of two nodes has set they have the same.
use Rattle.std.proofs.Common.{◌≡◌, Bool, true, false, refl}
use Rattle.std.specs.Prelude.{is_some, string_bytes}
use Rattle.std.specs.Bool.{then_some}
use Rattle.schema.specs.Parts.{marks_of}
use Rattle.schema.specs.contracts.Node.{the_view}
use Rattle.schema.specs.declared.Node.TheInside.{Inside}

is_set : {A : Type 0} (b : Bool) (x : A) → is_some (then_some b x) ≡ b
is_set true x = refl
is_set false x = refl

pub both_unset : {A : Type 0} (x y : A) (m n : Bool) → (m ≡ false) × (n ≡ false) → then_some m x ≡ then_some n y
both_unset x y m n unset = rw (unset.0, unset.1) refl

pub marks_kept : (a : Inside) → marks_of (the_view a) ≡ a.marks
marks_kept a i = record {
  hidden = a.marks.hidden;
  disabled = a.marks.disabled;
  read_only = a.marks.read_only;
  busy = a.marks.busy;
  live_atomic = a.marks.live_atomic;
  modal = a.marks.modal;
  multiselectable = a.marks.multiselectable;
  required = a.marks.required;
  touch_transparent = a.marks.touch_transparent;
  italic = a.marks.italic;
  clips_children = a.marks.clips_children;
  active_descendant = is_set a.marks.active_descendant a.plain.active_descendant i;
  previous_on_line = is_set a.marks.previous_on_line a.plain.previous_on_line i;
  next_on_line = is_set a.marks.next_on_line a.plain.next_on_line i;
  level = is_set a.marks.level a.plain.level i;
  size_of_set = is_set a.marks.size_of_set a.plain.size_of_set i;
  position_in_set = is_set a.marks.position_in_set a.plain.position_in_set i;
  numeric_value = is_set a.marks.numeric_value a.plain.numeric_value i;
  min_numeric_value = is_set a.marks.min_numeric_value a.plain.min_numeric_value i;
  max_numeric_value = is_set a.marks.max_numeric_value a.plain.max_numeric_value i;
  numeric_value_step = is_set a.marks.numeric_value_step a.plain.numeric_value_step i;
  numeric_value_jump = is_set a.marks.numeric_value_jump a.plain.numeric_value_jump i;
  scroll_x = is_set a.marks.scroll_x a.plain.scroll_x i;
  scroll_x_min = is_set a.marks.scroll_x_min a.plain.scroll_x_min i;
  scroll_x_max = is_set a.marks.scroll_x_max a.plain.scroll_x_max i;
  scroll_y = is_set a.marks.scroll_y a.plain.scroll_y i;
  scroll_y_min = is_set a.marks.scroll_y_min a.plain.scroll_y_min i;
  scroll_y_max = is_set a.marks.scroll_y_max a.plain.scroll_y_max i;
  text_selection = is_set a.marks.text_selection a.plain.text_selection i;
  tree_id = is_set a.marks.tree_id a.plain.tree_id i;
  bounds = is_set a.marks.bounds a.plain.bounds i;
  transform = is_set a.marks.transform a.plain.transform i;
  background_color = is_set a.marks.background_color a.plain.background_color i;
  foreground_color = is_set a.marks.foreground_color a.plain.foreground_color i;
  font_size = is_set a.marks.font_size a.plain.font_size i;
  font_weight = is_set a.marks.font_weight a.plain.font_weight i;
  overline = is_set a.marks.overline a.plain.overline i;
  strikethrough = is_set a.marks.strikethrough a.plain.strikethrough i;
  underline = is_set a.marks.underline a.plain.underline i;
  expanded = is_set a.marks.expanded a.plain.expanded i;
  selected = is_set a.marks.selected a.plain.selected i;
  toggled = is_set a.marks.toggled a.plain.toggled i;
  orientation = is_set a.marks.orientation a.plain.orientation i;
  sort_direction = is_set a.marks.sort_direction a.plain.sort_direction i;
  aria_current = is_set a.marks.aria_current a.plain.aria_current i;
  has_popup = is_set a.marks.has_popup a.plain.has_popup i;
  live = is_set a.marks.live a.plain.live i;
  text_direction = is_set a.marks.text_direction a.plain.text_direction i;
  text_align = is_set a.marks.text_align a.plain.text_align i;
  vertical_offset = is_set a.marks.vertical_offset a.plain.vertical_offset i;
  label = is_set a.marks.label (string_bytes a.label) i;
}
