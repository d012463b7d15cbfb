-- What is said of the focused node.
use Rattle.std.specs.Prelude.{ℕ, ◌+◌, List, [], ◌++◌, Option, Some, None, codes, option_copied, option_map}
use Rattle.std.specs.Fmt.{decimal}
use Rattle.phrases.specs.declared.focus.Focus.{Focus}
use Rattle.phrases.specs.declared.focus.Place.{Place}
use Rattle.phrases.specs.Quoted.{named, part}
use Rattle.phrases.specs.StateTexts.{state_text}
use Rattle.phrases.specs.States.{popup_word, after_comma, where_it_is}

-- a position in a set, counted from 1
abbrev pub place_text : Option Place → List ℕ
place_text None = []
place_text (Some place) = codes ", " ++ decimal (place.position + 1) ++ codes " of " ++ decimal place.size

-- a level in a hierarchy
abbrev pub level_text : Option ℕ → List ℕ
level_text None = []
level_text (Some level) = codes ", level " ++ decimal level

-- the role, the name, the value and the placeholder; of a name and a value also that they are hidden
abbrev pub texts_said : Focus → List ℕ
texts_said s =
    s.role.now ++ named (option_copied s.label) ++ after_comma (where_it_is s.is_label_hidden (codes "label hidden"))
    ++ part (codes "value") (option_copied s.value) ++ after_comma (where_it_is s.is_value_hidden (codes "value hidden"))
    ++ part (codes "placeholder") (option_copied s.placeholder)

-- that, the state, what pops up, the level, the position in the set, and the description
abbrev pub focus_text : Focus → List ℕ
focus_text s =
    texts_said s ++ state_text s.state ++ after_comma (option_map popup_word s.popup) ++ level_text s.level ++ place_text s.place
    ++ part (codes "description") (option_copied s.description)
