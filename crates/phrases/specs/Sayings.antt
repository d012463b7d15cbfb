-- The lines of speech.
use Rattle.std.specs.Prelude.{ℕ, List, ◌++◌, Bool, Option, Some, None, codes, option_copied, length, ◌==◌, if◌then◌else◌}
use Rattle.std.specs.Fmt.{decimal}
use Rattle.schema.specs.declared.values.Live.{Live}
use Rattle.phrases.specs.declared.differences.Change.{Change}
use Rattle.phrases.specs.declared.sayings.Dialog.{Dialog}
use Rattle.phrases.specs.declared.sayings.Group.{Group}
use Rattle.phrases.specs.declared.sayings.Landmark.{Landmark}
use Rattle.phrases.specs.declared.sayings.Listing.{Listing}
use Rattle.phrases.specs.declared.sayings.Saying.{Saying}
use Rattle.phrases.specs.declared.sayings.Saying.TheVariants.{Focused, InDialog, InGroup, InList, InLandmark, Told, Named, Valued, Described, Is, Changed, OnLine, AtCharacter, AtWord, Selected, Unselected}
use Rattle.phrases.specs.Quoted.{quoted, named}
use Rattle.phrases.specs.Focus.{focus_text}
use Rattle.phrases.specs.States.{after_comma, where_it_is, live_word}

-- a title, or that it is missing
abbrev pub title_text : Option (List ℕ) → List ℕ
title_text None = codes "no name"
title_text (Some title) = quoted title

-- that, or that it is hidden
abbrev pub titled : Bool → Option (List ℕ) → List ℕ
titled hidden title = if hidden then codes "label hidden" else title_text title

abbrev pub dialog_text : Dialog → List ℕ
dialog_text d =
    d.role.now ++ codes ": " ++ titled d.is_label_hidden (option_copied d.label) ++ after_comma (where_it_is d.is_modal (codes "modal"))

-- a line that says a group
abbrev pub group_line : List ℕ → List ℕ → List ℕ
group_line role label = role ++ codes ": " ++ quoted label ++ codes "\n"

abbrev pub group_text : Group → List ℕ
group_text g = g.role.now ++ codes ": " ++ quoted g.label.now

-- how many items there are
abbrev pub items_text : ℕ → List ℕ
items_text n = if n == 1 then codes "1 item" else decimal n ++ codes " items"

-- a list by its name, if it has one, and the number of its items
abbrev pub listing_text : List ℕ → Option (List ℕ) → ℕ → List ℕ
listing_text role None n = role ++ codes ": " ++ items_text n
listing_text role (Some label) n = role ++ codes ": " ++ quoted label ++ codes ", " ++ items_text n

abbrev pub listing_line : List ℕ → Option (List ℕ) → ℕ → List ℕ
listing_line role label n = listing_text role label n ++ codes "\n"

-- a landmark by its role, and its name, if it has one
abbrev pub landmark_text : List ℕ → Option (List ℕ) → List ℕ
landmark_text role label = codes "landmark: " ++ role ++ named label

abbrev pub landmark_line : List ℕ → Option (List ℕ) → List ℕ
landmark_line role label = landmark_text role label ++ codes "\n"

-- what was removed, and what was typed
abbrev pub change_text : Change → List ℕ
change_text c =
    if length c.removed.now == 0 then codes "typed " ++ quoted c.typed.now
    else if length c.typed.now == 0 then codes "removed " ++ quoted c.removed.now
    else codes "removed " ++ quoted c.removed.now ++ codes ", typed " ++ quoted c.typed.now

-- a line that announces a text of a live region
abbrev pub live_line : Live → List ℕ → List ℕ
live_line live text = codes "live (" ++ live_word live ++ codes "): " ++ quoted text ++ codes "\n"

-- a line of the new label, of the new value, of the new description, of a word for the state, and of the line of the caret
abbrev pub label_line : List ℕ → List ℕ
label_line label = codes "label: " ++ quoted label ++ codes "\n"

abbrev pub value_line : List ℕ → List ℕ
value_line value = codes "value: " ++ quoted value ++ codes "\n"

abbrev pub description_line : List ℕ → List ℕ
description_line description = codes "description: " ++ quoted description ++ codes "\n"

abbrev pub state_line : List ℕ → List ℕ
state_line word = codes "state: " ++ word ++ codes "\n"

abbrev pub caret_line : List ℕ → List ℕ
caret_line line = codes "line: " ++ quoted line ++ codes "\n"

-- a line of the character or the word that the caret has come to
abbrev pub character_line : List ℕ → List ℕ
character_line text = codes "character: " ++ quoted text ++ codes "\n"

abbrev pub word_line : List ℕ → List ℕ
word_line text = codes "word: " ++ quoted text ++ codes "\n"

-- a line of the text that is selected, and of the one that was
abbrev pub selected_line : List ℕ → List ℕ
selected_line text = codes "text: selected " ++ quoted text ++ codes "\n"

abbrev pub unselected_line : List ℕ → List ℕ
unselected_line text = codes "text: unselected " ++ quoted text ++ codes "\n"

-- a line of speech
abbrev pub saying : Saying → List ℕ
saying (Focused focus) = codes "focus: " ++ focus_text focus ++ codes "\n"
saying (InDialog dialog) = dialog_text dialog ++ codes "\n"
saying (InGroup group) = group_text group ++ codes "\n"
saying (InList list) = listing_line list.role.now (option_copied list.label) list.items
saying (InLandmark landmark) = landmark_line landmark.role.now (option_copied landmark.label)
saying (Told live text) = live_line live text.now
saying (Named label) = label_line label.now
saying (Valued value) = value_line value.now
saying (Described description) = description_line description.now
saying (Is word) = state_line word.now
saying (Changed change) = codes "text: " ++ change_text change ++ codes "\n"
saying (OnLine line) = caret_line line.now
saying (AtCharacter text) = character_line text.now
saying (AtWord text) = word_line text.now
saying (Selected text) = selected_line text.now
saying (Unselected text) = unselected_line text.now
