-- The data of a node, field by field, independent of how a node is stored in memory.
-- A text is the list of its UTF-8 bytes. A set of actions is the number whose bits are its members (Actions.antt).
use Rattle.std.specs.Prelude.{ℕ, ℤ, List, [], Bool, false, Option, None}
use Rattle.schema.specs.declared.NodeId.{NodeId}
use Rattle.schema.specs.declared.Role.{Role}
use Rattle.schema.specs.declared.TreeId.{TreeId}
use Rattle.schema.specs.declared.values.AriaCurrent.{AriaCurrent}
use Rattle.schema.specs.declared.values.Color.{Color}
use Rattle.schema.specs.declared.values.HasPopup.{HasPopup}
use Rattle.schema.specs.declared.values.Live.{Live}
use Rattle.schema.specs.declared.values.Orientation.{Orientation}
use Rattle.schema.specs.declared.geometry.Rect.{Rect}
use Rattle.schema.specs.declared.values.SortDirection.{SortDirection}
use Rattle.schema.specs.declared.values.TextAlign.{TextAlign}
use Rattle.schema.specs.declared.values.TextDecoration.{TextDecoration}
use Rattle.schema.specs.declared.values.TextDirection.{TextDirection}
use Rattle.schema.specs.declared.values.TextSelection.{TextSelection}
use Rattle.schema.specs.declared.values.Toggled.{Toggled}
use Rattle.schema.specs.declared.geometry.Translation.{Translation}
use Rattle.schema.specs.declared.values.VerticalOffset.{VerticalOffset}

pub record NodeData : Type 0 where
  pub role : Role
  pub children : List NodeId
  pub labelled_by : List NodeId
  pub controls : List NodeId
  pub active_descendant : Option NodeId
  pub previous_on_line : Option NodeId
  pub next_on_line : Option NodeId
  -- the tree that is grafted here
  pub tree_id : Option TreeId
  -- texts
  pub label : Option (List ℕ)
  pub value : Option (List ℕ)
  pub description : Option (List ℕ)
  pub role_description : Option (List ℕ)
  pub placeholder : Option (List ℕ)
  pub url : Option (List ℕ)
  pub author_id : Option (List ℕ)
  pub html_id : Option (List ℕ)
  pub class_name : Option (List ℕ)
  pub braille_label : Option (List ℕ)
  pub braille_role_description : Option (List ℕ)
  pub column_index_text : Option (List ℕ)
  pub row_index_text : Option (List ℕ)
  pub font_family : Option (List ℕ)
  pub language : Option (List ℕ)
  -- flags
  pub hidden : Bool
  pub disabled : Bool
  pub read_only : Bool
  pub busy : Bool
  pub live_atomic : Bool
  pub modal : Bool
  pub multiselectable : Bool
  pub required : Bool
  pub touch_transparent : Bool
  pub italic : Bool
  pub clips_children : Bool
  -- flags that may be unset
  pub expanded : Option Bool
  pub selected : Option Bool
  pub level : Option ℕ
  pub size_of_set : Option ℕ
  pub position_in_set : Option ℕ
  -- numbers in thousandths
  pub numeric_value : Option ℤ
  pub min_numeric_value : Option ℤ
  pub max_numeric_value : Option ℤ
  pub numeric_value_step : Option ℤ
  pub numeric_value_jump : Option ℤ
  -- scroll positions, a rectangle and a translation, in units of 1/64 pixel
  pub scroll_x : Option ℤ
  pub scroll_x_min : Option ℤ
  pub scroll_x_max : Option ℤ
  pub scroll_y : Option ℤ
  pub scroll_y_min : Option ℤ
  pub scroll_y_max : Option ℤ
  pub bounds : Option Rect
  pub transform : Option Translation
  -- sets of actions
  pub actions : ℕ
  pub child_actions : ℕ
  pub text_selection : Option TextSelection
  -- the length of each character, in bytes
  pub character_lengths : List ℕ
  -- the index of the first character of each word
  pub word_starts : List ℕ
  -- where each character begins and its width, in units of 1/64 pixel
  pub character_positions : Option (List ℤ)
  pub character_widths : Option (List ℤ)
  -- in hundredths of a pixel
  pub font_size : Option ℕ
  pub font_weight : Option ℕ
  pub background_color : Option Color
  pub foreground_color : Option Color
  pub overline : Option TextDecoration
  pub strikethrough : Option TextDecoration
  pub underline : Option TextDecoration
  pub toggled : Option Toggled
  pub orientation : Option Orientation
  pub sort_direction : Option SortDirection
  pub aria_current : Option AriaCurrent
  pub has_popup : Option HasPopup
  pub live : Option Live
  pub text_direction : Option TextDirection
  pub text_align : Option TextAlign
  pub vertical_offset : Option VerticalOffset

-- a node with nothing but a role
abbrev pub empty_node : Role → NodeData
empty_node role = record {
  role = role;
  children = [];
  labelled_by = [];
  controls = [];
  active_descendant = None;
  previous_on_line = None;
  next_on_line = None;
  tree_id = None;
  label = None;
  value = None;
  description = None;
  role_description = None;
  placeholder = None;
  url = None;
  author_id = None;
  html_id = None;
  class_name = None;
  braille_label = None;
  braille_role_description = None;
  column_index_text = None;
  row_index_text = None;
  font_family = None;
  language = None;
  hidden = false;
  disabled = false;
  read_only = false;
  busy = false;
  live_atomic = false;
  modal = false;
  multiselectable = false;
  required = false;
  touch_transparent = false;
  italic = false;
  clips_children = false;
  expanded = None;
  selected = None;
  level = None;
  size_of_set = None;
  position_in_set = None;
  numeric_value = None;
  min_numeric_value = None;
  max_numeric_value = None;
  numeric_value_step = None;
  numeric_value_jump = None;
  scroll_x = None;
  scroll_x_min = None;
  scroll_x_max = None;
  scroll_y = None;
  scroll_y_min = None;
  scroll_y_max = None;
  bounds = None;
  transform = None;
  actions = 0;
  child_actions = 0;
  text_selection = None;
  character_lengths = [];
  word_starts = [];
  character_positions = None;
  character_widths = None;
  font_size = None;
  font_weight = None;
  background_color = None;
  foreground_color = None;
  overline = None;
  strikethrough = None;
  underline = None;
  toggled = None;
  orientation = None;
  sort_direction = None;
  aria_current = None;
  has_popup = None;
  live = None;
  text_direction = None;
  text_align = None;
  vertical_offset = None;
}
