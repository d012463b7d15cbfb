-- What is said of a focused node.
use Rattle.std.specs.Prelude.{◌≡◌, ℕ, ℤ, List, length, ◌==◌, Bool, not, ◌&&◌, ◌||◌, Option, Some, None, is_some, is_none, option_copied, option_map, option_and_then, cond, if◌then◌else◌}
use Rattle.schema.specs.NodeData.{NodeData}
use Rattle.model.specs.declared.FullNodeId.{FullNodeId}
use Rattle.model.specs.World.{World}
use Rattle.model.specs.declared.filters.FilterResult.{FilterResult}
use Rattle.model.specs.declared.filters.FilterResult.TheVariants.{Include, ExcludeNode, ExcludeSubtree}
use Rattle.model.specs.Filters.{is_hidden, is_transparent}
use Rattle.model.specs.RoleClasses.{is_text_input, is_password_input, is_multiline, is_read_only_supported}
use Rattle.model.specs.Values.{placeholder}
use Rattle.model.specs.Views.{is_read_only, computed_size_of_set, computed_position_in_set}
use Rattle.hidden_texts.specs.Hidden.{is_in_password, hides_text, hides_value, hides_label}
use Rattle.hidden_texts.specs.Shown.{shown_value, shown_label}
use Rattle.phrases.specs.declared.focus.Focus.{Focus}
use Rattle.phrases.specs.declared.focus.Place.{Place}
use Rattle.phrases.specs.declared.states.State.{State}
use Rattle.phrases.specs.News.{news}
use Rattle.phrases.specs.Numbers.{thousandths}
use Rattle.phrases.specs.Roles.{role_word, toggling_of}
use Rattle.speaking.specs.Levels.{level_said}
use Rattle.speaking.specs.Lines.{caret_said}

-- a text, unless it is empty
abbrev pub filled : List ℕ → Option (List ℕ)
filled text = if length text == 0 then None else Some text

-- a value as shown: the text, or else the number
abbrev pub shown : Option (List ℕ) → Option ℤ → Option (List ℕ)
shown (Some text) number = filled text
shown None number = option_map thousandths number

-- the number that is said as a value: none of a password, and none where the value is hidden
abbrev pub number_said : World → FullNodeId → NodeData → Option ℤ
number_said w id d = if hides_value w id || is_password_input d.role then None else d.numeric_value

abbrev pub value_said : World → FullNodeId → NodeData → Option (List ℕ)
value_said w id d = shown (shown_value w id) (number_said w id d)

-- a placeholder stands for a text that is empty: of a hidden text that isn't said
abbrev pub placeholder_said : World → FullNodeId → Option (List ℕ)
placeholder_said w id = if hides_text w id then None else placeholder w id

-- a text that is said only if there is no value
abbrev pub instead : Option (List ℕ) → Option (List ℕ) → Option (List ℕ)
instead (Some value) text = None
instead None text = text

-- a description, but not of a node in a password
abbrev pub description_said : World → FullNodeId → NodeData → Option (List ℕ)
description_said w id d = if is_in_password w id then None else d.description

abbrev pub state_said : NodeData → State
state_said d = record {
  toggling = toggling_of d.role;
  toggled = d.toggled;
  expanded = d.expanded;
  selected = d.selected;
  is_disabled = d.disabled;
  is_read_only = is_read_only_supported d.role && is_read_only d;
  is_required = d.required;
}

-- what isn't hidden is listed, scrolled out or not; grafts, containers and runs are passed through
abbrev pub listed_answer : World → FullNodeId → FilterResult
listed_answer w id = cond (is_hidden w id) ExcludeSubtree (cond (is_transparent w id) ExcludeNode Include)

-- a position in a set has both numbers
abbrev pub place_from : Option ℕ → Option ℕ → Option Place
place_from size position = option_and_then (λ n. option_map (λ k. record { position = k; size = n }) position) size

abbrev pub place_said : World → FullNodeId → Option Place
place_said w id = place_from (computed_size_of_set (listed_answer w) w id) (computed_position_in_set (listed_answer w) w id)

-- typing in it is said as edits of its text: it is a text input, has no number, and its text isn't hidden
abbrev pub is_edited : World → FullNodeId → NodeData → Bool
is_edited w id d = is_text_input d.role && (is_none d.numeric_value && not (hides_text w id))

-- it can have several lines, and its caret is on one: where the focus comes to it that line is said, and not the whole value
abbrev pub is_said_by_line : World → FullNodeId → NodeData → Bool
is_said_by_line w id d = is_edited w id d && (is_multiline d.role && is_some (caret_said w id))

abbrev pub value_at_focus : World → FullNodeId → NodeData → Option (List ℕ)
value_at_focus w id d = if is_said_by_line w id d then None else value_said w id d

-- what is said of a focused node is what its view shows, except empty texts and hidden ones
pub record ShowsFocus (w : World) (id : FullNodeId) (d : NodeData) (f : Focus) : Type 0 where
  pub role : f.role.now ≡ role_word d.role
  pub label : option_copied f.label ≡ news None (shown_label w id)
  pub hidden_label : f.is_label_hidden ≡ hides_label w id
  pub value : option_copied f.value ≡ value_at_focus w id d
  pub hidden_value : f.is_value_hidden ≡ hides_value w id
  pub placeholder : option_copied f.placeholder ≡ instead (value_said w id d) (news None (placeholder_said w id))
  pub state : f.state ≡ state_said d
  pub popup : f.popup ≡ d.has_popup
  pub level : f.level ≡ level_said w id d
  pub place : f.place ≡ place_said w id
  pub description : option_copied f.description ≡ news None (description_said w id d)
