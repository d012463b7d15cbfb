-- A state in words.
use Rattle.std.specs.Prelude.{ℕ, List, ◌++◌, codes, option_map}
use Rattle.phrases.specs.declared.states.State.{State}
use Rattle.phrases.specs.States.{toggled_word, expanded_word, selected_word, after_comma, where_it_is}

-- the words of a state, each after a comma
abbrev pub state_text : State → List ℕ
state_text s =
    after_comma (option_map (toggled_word s.toggling) s.toggled) ++ after_comma (option_map expanded_word s.expanded)
    ++ after_comma (option_map selected_word s.selected) ++ after_comma (where_it_is s.is_disabled (codes "disabled"))
    ++ after_comma (where_it_is s.is_read_only (codes "read-only")) ++ after_comma (where_it_is s.is_required (codes "required"))
