-- Two nodes agree in some of their fields.
use Rattle.std.specs.Prelude.{◌≡◌, is_some}
use Rattle.schema.specs.Marks.{MarkSet}
use Rattle.schema.specs.NodeData.{NodeData}

-- which fields of a node are set, and its flags
abbrev pub marks_of : NodeData → MarkSet
marks_of d = record {
  hidden = d.hidden;
  disabled = d.disabled;
  read_only = d.read_only;
  busy = d.busy;
  live_atomic = d.live_atomic;
  modal = d.modal;
  multiselectable = d.multiselectable;
  required = d.required;
  touch_transparent = d.touch_transparent;
  italic = d.italic;
  clips_children = d.clips_children;
  active_descendant = is_some d.active_descendant;
  previous_on_line = is_some d.previous_on_line;
  next_on_line = is_some d.next_on_line;
  level = is_some d.level;
  size_of_set = is_some d.size_of_set;
  position_in_set = is_some d.position_in_set;
  numeric_value = is_some d.numeric_value;
  min_numeric_value = is_some d.min_numeric_value;
  max_numeric_value = is_some d.max_numeric_value;
  numeric_value_step = is_some d.numeric_value_step;
  numeric_value_jump = is_some d.numeric_value_jump;
  scroll_x = is_some d.scroll_x;
  scroll_x_min = is_some d.scroll_x_min;
  scroll_x_max = is_some d.scroll_x_max;
  scroll_y = is_some d.scroll_y;
  scroll_y_min = is_some d.scroll_y_min;
  scroll_y_max = is_some d.scroll_y_max;
  text_selection = is_some d.text_selection;
  tree_id = is_some d.tree_id;
  bounds = is_some d.bounds;
  transform = is_some d.transform;
  background_color = is_some d.background_color;
  foreground_color = is_some d.foreground_color;
  font_size = is_some d.font_size;
  font_weight = is_some d.font_weight;
  overline = is_some d.overline;
  strikethrough = is_some d.strikethrough;
  underline = is_some d.underline;
  expanded = is_some d.expanded;
  selected = is_some d.selected;
  toggled = is_some d.toggled;
  orientation = is_some d.orientation;
  sort_direction = is_some d.sort_direction;
  aria_current = is_some d.aria_current;
  has_popup = is_some d.has_popup;
  live = is_some d.live;
  text_direction = is_some d.text_direction;
  text_align = is_some d.text_align;
  vertical_offset = is_some d.vertical_offset;
  label = is_some d.label;
}

-- in flags, and in what is set
pub record SameMarks (a b : NodeData) : Type 0 where
  pub hidden : a.hidden ≡ b.hidden
  pub disabled : a.disabled ≡ b.disabled
  pub read_only : a.read_only ≡ b.read_only
  pub busy : a.busy ≡ b.busy
  pub live_atomic : a.live_atomic ≡ b.live_atomic
  pub modal : a.modal ≡ b.modal
  pub multiselectable : a.multiselectable ≡ b.multiselectable
  pub required : a.required ≡ b.required
  pub touch_transparent : a.touch_transparent ≡ b.touch_transparent
  pub italic : a.italic ≡ b.italic
  pub clips_children : a.clips_children ≡ b.clips_children
  pub set : marks_of a ≡ marks_of b

-- in what most nodes have
pub record SameFirst (a b : NodeData) : Type 0 where
  pub role : a.role ≡ b.role
  pub label : a.label ≡ b.label
  pub bounds : a.bounds ≡ b.bounds
  pub children : a.children ≡ b.children

-- in links to other nodes and trees, and the selection
pub record SameLinks (a b : NodeData) : Type 0 where
  pub active_descendant : a.active_descendant ≡ b.active_descendant
  pub previous_on_line : a.previous_on_line ≡ b.previous_on_line
  pub next_on_line : a.next_on_line ≡ b.next_on_line
  pub tree_id : a.tree_id ≡ b.tree_id
  pub text_selection : a.text_selection ≡ b.text_selection

-- in level, position and size of a set
pub record SameCounts (a b : NodeData) : Type 0 where
  pub level : a.level ≡ b.level
  pub size_of_set : a.size_of_set ≡ b.size_of_set
  pub position_in_set : a.position_in_set ≡ b.position_in_set

-- in numeric values
pub record SameValues (a b : NodeData) : Type 0 where
  pub numeric_value : a.numeric_value ≡ b.numeric_value
  pub min_numeric_value : a.min_numeric_value ≡ b.min_numeric_value
  pub max_numeric_value : a.max_numeric_value ≡ b.max_numeric_value
  pub numeric_value_step : a.numeric_value_step ≡ b.numeric_value_step
  pub numeric_value_jump : a.numeric_value_jump ≡ b.numeric_value_jump

-- in scroll positions and translation
pub record SameScrolls (a b : NodeData) : Type 0 where
  pub scroll_x : a.scroll_x ≡ b.scroll_x
  pub scroll_x_min : a.scroll_x_min ≡ b.scroll_x_min
  pub scroll_x_max : a.scroll_x_max ≡ b.scroll_x_max
  pub scroll_y : a.scroll_y ≡ b.scroll_y
  pub scroll_y_min : a.scroll_y_min ≡ b.scroll_y_min
  pub scroll_y_max : a.scroll_y_max ≡ b.scroll_y_max
  pub transform : a.transform ≡ b.transform

-- in look of the text
pub record SameLooks (a b : NodeData) : Type 0 where
  pub font_size : a.font_size ≡ b.font_size
  pub font_weight : a.font_weight ≡ b.font_weight
  pub background_color : a.background_color ≡ b.background_color
  pub foreground_color : a.foreground_color ≡ b.foreground_color
  pub overline : a.overline ≡ b.overline
  pub strikethrough : a.strikethrough ≡ b.strikethrough
  pub underline : a.underline ≡ b.underline

-- in choices
pub record SameChoices (a b : NodeData) : Type 0 where
  pub expanded : a.expanded ≡ b.expanded
  pub selected : a.selected ≡ b.selected
  pub toggled : a.toggled ≡ b.toggled
  pub orientation : a.orientation ≡ b.orientation
  pub sort_direction : a.sort_direction ≡ b.sort_direction
  pub aria_current : a.aria_current ≡ b.aria_current
  pub has_popup : a.has_popup ≡ b.has_popup
  pub live : a.live ≡ b.live
  pub text_direction : a.text_direction ≡ b.text_direction
  pub text_align : a.text_align ≡ b.text_align
  pub vertical_offset : a.vertical_offset ≡ b.vertical_offset

-- in what fewer nodes have
pub record SameRarer (a b : NodeData) : Type 0 where
  pub links : SameLinks a b
  pub counts : SameCounts a b
  pub values : SameValues a b
  pub scrolls : SameScrolls a b
  pub looks : SameLooks a b
  pub choices : SameChoices a b

-- in actions
pub record SameActions (a b : NodeData) : Type 0 where
  pub actions : a.actions ≡ b.actions
  pub child_actions : a.child_actions ≡ b.child_actions

-- in the value and the lists about its characters
pub record SameRuns (a b : NodeData) : Type 0 where
  pub value : a.value ≡ b.value
  pub character_lengths : a.character_lengths ≡ b.character_lengths
  pub word_starts : a.word_starts ≡ b.word_starts
  pub character_positions : a.character_positions ≡ b.character_positions
  pub character_widths : a.character_widths ≡ b.character_widths

-- in the descriptions and other words for the user
pub record SameDescriptions (a b : NodeData) : Type 0 where
  pub description : a.description ≡ b.description
  pub role_description : a.role_description ≡ b.role_description
  pub placeholder : a.placeholder ≡ b.placeholder
  pub braille_label : a.braille_label ≡ b.braille_label
  pub braille_role_description : a.braille_role_description ≡ b.braille_role_description

-- in names and other texts
pub record SameNames (a b : NodeData) : Type 0 where
  pub url : a.url ≡ b.url
  pub author_id : a.author_id ≡ b.author_id
  pub html_id : a.html_id ≡ b.html_id
  pub class_name : a.class_name ≡ b.class_name
  pub column_index_text : a.column_index_text ≡ b.column_index_text
  pub row_index_text : a.row_index_text ≡ b.row_index_text
  pub font_family : a.font_family ≡ b.font_family
  pub language : a.language ≡ b.language

-- in what few nodes have
pub record SameRareParts (a b : NodeData) : Type 0 where
  pub labelled_by : a.labelled_by ≡ b.labelled_by
  pub controls : a.controls ≡ b.controls
  pub descriptions : SameDescriptions a b
  pub names : SameNames a b
