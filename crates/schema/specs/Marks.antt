-- Which fields of a node are set, and its boolean fields, each by a number.
use Rattle.std.specs.Prelude.{ℕ, Bool, false, ◌==◌, List, [], ◌∷◌, if◌then◌else◌}
use Rattle.std.specs.Int.{bit_at}
use Rattle.std.proofs.Common.{get_or}
use denote.Enum.Declared.{tag_of}
use Rattle.schema.specs.declared.marks.Mark.{Mark}
use Rattle.schema.specs.contracts.marks.Mark.{the_type}

pub record MarkSet : Type 0 where
  pub hidden : Bool
  pub disabled : Bool
  pub read_only : Bool
  pub busy : Bool
  pub live_atomic : Bool
  pub modal : Bool
  pub multiselectable : Bool
  pub required : Bool
  pub touch_transparent : Bool
  pub italic : Bool
  pub clips_children : Bool
  pub active_descendant : Bool
  pub previous_on_line : Bool
  pub next_on_line : Bool
  pub level : Bool
  pub size_of_set : Bool
  pub position_in_set : Bool
  pub numeric_value : Bool
  pub min_numeric_value : Bool
  pub max_numeric_value : Bool
  pub numeric_value_step : Bool
  pub numeric_value_jump : Bool
  pub scroll_x : Bool
  pub scroll_x_min : Bool
  pub scroll_x_max : Bool
  pub scroll_y : Bool
  pub scroll_y_min : Bool
  pub scroll_y_max : Bool
  pub text_selection : Bool
  pub tree_id : Bool
  pub bounds : Bool
  pub transform : Bool
  pub background_color : Bool
  pub foreground_color : Bool
  pub font_size : Bool
  pub font_weight : Bool
  pub overline : Bool
  pub strikethrough : Bool
  pub underline : Bool
  pub expanded : Bool
  pub selected : Bool
  pub toggled : Bool
  pub orientation : Bool
  pub sort_direction : Bool
  pub aria_current : Bool
  pub has_popup : Bool
  pub live : Bool
  pub text_direction : Bool
  pub text_align : Bool
  pub vertical_offset : Bool
  pub label : Bool

-- the set that has the numbers of which this is true
abbrev pub marks_by : (ℕ → Bool) → MarkSet
marks_by has = record {
  hidden = has 0;
  disabled = has 1;
  read_only = has 2;
  busy = has 3;
  live_atomic = has 4;
  modal = has 5;
  multiselectable = has 6;
  required = has 7;
  touch_transparent = has 8;
  italic = has 9;
  clips_children = has 10;
  active_descendant = has 11;
  previous_on_line = has 12;
  next_on_line = has 13;
  level = has 14;
  size_of_set = has 15;
  position_in_set = has 16;
  numeric_value = has 17;
  min_numeric_value = has 18;
  max_numeric_value = has 19;
  numeric_value_step = has 20;
  numeric_value_jump = has 21;
  scroll_x = has 22;
  scroll_x_min = has 23;
  scroll_x_max = has 24;
  scroll_y = has 25;
  scroll_y_min = has 26;
  scroll_y_max = has 27;
  text_selection = has 28;
  tree_id = has 29;
  bounds = has 30;
  transform = has 31;
  background_color = has 32;
  foreground_color = has 33;
  font_size = has 34;
  font_weight = has 35;
  overline = has 36;
  strikethrough = has 37;
  underline = has 38;
  expanded = has 39;
  selected = has 40;
  toggled = has 41;
  orientation = has 42;
  sort_direction = has 43;
  aria_current = has 44;
  has_popup = has 45;
  live = has 46;
  text_direction = has 47;
  text_align = has 48;
  vertical_offset = has 49;
  label = has 50;
}

-- the set whose numbers are the bits of a word
abbrev pub mark_data : ℕ → MarkSet
mark_data bits = marks_by (λ i. bit_at bits i == 1)

abbrev pub no_marks : MarkSet
no_marks = marks_by (λ i. false)

-- what is set, by its number
abbrev pub in_order : MarkSet → List Bool
in_order m =
    m.hidden ∷ m.disabled ∷ m.read_only ∷ m.busy ∷ m.live_atomic ∷
    m.modal ∷ m.multiselectable ∷ m.required ∷ m.touch_transparent ∷ m.italic ∷
    m.clips_children ∷ m.active_descendant ∷ m.previous_on_line ∷ m.next_on_line ∷ m.level ∷
    m.size_of_set ∷ m.position_in_set ∷ m.numeric_value ∷ m.min_numeric_value ∷ m.max_numeric_value ∷
    m.numeric_value_step ∷ m.numeric_value_jump ∷ m.scroll_x ∷ m.scroll_x_min ∷ m.scroll_x_max ∷
    m.scroll_y ∷ m.scroll_y_min ∷ m.scroll_y_max ∷ m.text_selection ∷ m.tree_id ∷
    m.bounds ∷ m.transform ∷ m.background_color ∷ m.foreground_color ∷ m.font_size ∷
    m.font_weight ∷ m.overline ∷ m.strikethrough ∷ m.underline ∷ m.expanded ∷
    m.selected ∷ m.toggled ∷ m.orientation ∷ m.sort_direction ∷ m.aria_current ∷
    m.has_popup ∷ m.live ∷ m.text_direction ∷ m.text_align ∷ m.vertical_offset ∷
    m.label ∷
    []

abbrev pub mark_number : Mark → ℕ
mark_number = tag_of the_type

-- whether a set has a field
abbrev pub has_mark : Mark → MarkSet → Bool
has_mark mark m = get_or (in_order m) (mark_number mark) false

-- a set with a field put in or taken out, and all others as before
abbrev pub put_mark : Mark → Bool → MarkSet → MarkSet
put_mark mark b m = marks_by (λ i. if i == mark_number mark then b else get_or (in_order m) i false)
