-- What is said of a change on the focused node.
use Rattle.std.specs.Prelude.{◌≡◌, codes, if◌then◌else◌}
use Rattle.schema.specs.NodeData.{NodeData}
use Rattle.model.specs.World.{HasData}
use Rattle.model.specs.Events.{Seen}
use Rattle.hidden_texts.specs.Shown.{shown_label}
use Rattle.phrases.specs.declared.states.State.{State}
use Rattle.phrases.specs.News.{news}
use Rattle.phrases.specs.Sayings.{label_line, value_line, description_line, state_line}
use Rattle.phrases.specs.States.{toggled_word, expanded_word, selected_word, new_word, same_flag, same_toggle, flag_word}
use Rattle.phrases.specs.Voices.{Speech}
use Rattle.speaking.specs.Said.{said_if}
use Rattle.speaking.specs.NodeTexts.{value_said, description_said, state_said, is_edited}

abbrev pub label_said : Seen → Seen → Speech → Speech
label_said old new v = said_if label_line (news (shown_label old.world old.id) (shown_label new.world new.id)) v

-- the new value, unless typing in the node is said as edits
abbrev pub value_change : Seen → NodeData → Seen → NodeData → Speech → Speech
value_change old d new e v =
    if is_edited new.world new.id e then v else said_if value_line (news (value_said old.world old.id d) (value_said new.world new.id e)) v

abbrev pub description_change : Seen → NodeData → Seen → NodeData → Speech → Speech
description_change old d new e v =
    said_if description_line (news (description_said old.world old.id d) (description_said new.world new.id e)) v

-- words for what was toggled, expanded or selected
abbrev pub toggles_said : State → State → Speech → Speech
toggles_said s t v =
    said_if state_line (new_word same_flag selected_word s.selected t.selected)
    (said_if state_line (new_word same_flag expanded_word s.expanded t.expanded)
    (said_if state_line (new_word same_toggle (toggled_word t.toggling) s.toggled t.toggled) v))

-- words for flags that changed
abbrev pub flags_said : State → State → Speech → Speech
flags_said s t v =
    said_if state_line (flag_word (codes "required") (codes "not required") s.is_required t.is_required)
    (said_if state_line (flag_word (codes "read-only") (codes "editable") s.is_read_only t.is_read_only)
    (said_if state_line (flag_word (codes "disabled") (codes "enabled") s.is_disabled t.is_disabled) v))

-- the label, the value, the description and the state, if they are new
abbrev pub change_said : Seen → NodeData → Seen → NodeData → Speech → Speech
change_said old d new e v =
    flags_said (state_said d) (state_said e) (toggles_said (state_said d) (state_said e)
    (description_change old d new e (value_change old d new e (label_said old new v))))

pub record SaysChange (old new : Seen) (v u : Speech) : Type 0 where
  pub before : NodeData
  pub had : HasData old.world old.id before
  pub after : NodeData
  pub has : HasData new.world new.id after
  pub said : u ≡ change_said old before new after v
