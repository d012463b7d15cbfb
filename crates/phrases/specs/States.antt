-- States in words.
use Rattle.std.specs.Prelude.{ℕ, List, [], ◌++◌, Option, Some, None, Bool, true, false, codes, if◌then◌else◌}
use Rattle.schema.specs.declared.values.HasPopup.{HasPopup}
use Rattle.schema.specs.declared.values.HasPopup.TheVariants.{Menu, Listbox, Tree, Grid, Dialog}
use Rattle.schema.specs.declared.values.Live.{Live}
use Rattle.schema.specs.declared.values.Live.TheVariants.{Off, Polite, Assertive}
use Rattle.schema.specs.declared.values.Toggled.{Toggled}
use Rattle.schema.specs.declared.values.Toggled.TheVariants.{False, True, Mixed}
use Rattle.phrases.specs.declared.states.Toggling.{Toggling}
use Rattle.phrases.specs.declared.states.Toggling.TheVariants.{Checks, Presses, Switches}

abbrev pub checked_word : Toggled → List ℕ
checked_word False = codes "not checked"
checked_word True = codes "checked"
checked_word Mixed = codes "partly checked"

abbrev pub pressed_word : Toggled → List ℕ
pressed_word False = codes "not pressed"
pressed_word True = codes "pressed"
pressed_word Mixed = codes "partly pressed"

abbrev pub switched_word : Toggled → List ℕ
switched_word False = codes "off"
switched_word True = codes "on"
switched_word Mixed = codes "partly on"

-- the toggle state of a control
abbrev pub toggled_word : Toggling → Toggled → List ℕ
toggled_word Checks toggled = checked_word toggled
toggled_word Presses toggled = pressed_word toggled
toggled_word Switches toggled = switched_word toggled

abbrev pub expanded_word : Bool → List ℕ
expanded_word is = if is then codes "expanded" else codes "collapsed"

abbrev pub selected_word : Bool → List ℕ
selected_word is = if is then codes "selected" else codes "not selected"

-- what pops up from a node
abbrev pub popup_word : HasPopup → List ℕ
popup_word Menu = codes "opens a menu"
popup_word Listbox = codes "opens a list"
popup_word Tree = codes "opens a tree"
popup_word Grid = codes "opens a grid"
popup_word Dialog = codes "opens a dialog"

-- a word after a comma, if there is one
abbrev pub after_comma : Option (List ℕ) → List ℕ
after_comma None = []
after_comma (Some word) = codes ", " ++ word

-- a word if it applies
abbrev pub where_it_is : Bool → List ℕ → Option (List ℕ)
where_it_is is word = if is then Some word else None

-- what is said of a property that was `old` and is `new`: its word, if it differs
abbrev pub new_word : {A : Type 0} → (A → A → Bool) → (A → List ℕ) → Option A → Option A → Option (List ℕ)
new_word same word old None = None
new_word same word None (Some new) = Some (word new)
new_word same word (Some old) (Some new) = if same old new then None else Some (word new)

abbrev pub same_flag : Bool → Bool → Bool
same_flag true b = b
same_flag false true = false
same_flag false false = true

abbrev pub same_toggle : Toggled → Toggled → Bool
same_toggle False False = true
same_toggle True True = true
same_toggle Mixed Mixed = true
same_toggle _ _ = false

-- what is said of a flag that was `old` and is `new`
abbrev pub flag_word : List ℕ → List ℕ → Bool → Bool → Option (List ℕ)
flag_word on off old new = if same_flag old new then None else Some (if new then on else off)

-- how a change of a live region is announced
abbrev pub live_word : Live → List ℕ
live_word Off = codes "off"
live_word Polite = codes "polite"
live_word Assertive = codes "assertive"
