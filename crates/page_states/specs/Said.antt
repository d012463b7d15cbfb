-- What a page says of a node in texts and words.
use Rattle.std.specs.Prelude.{◌≡◌, ◌≢◌, ◌⊎◌, ℕ, List, [], ◌∷◌, ◌++◌, codes, Bool, ◌&&◌, Option, None, option_map, if◌then◌else◌}
use Rattle.std.specs.Option.{option_or}
use Rattle.std.specs.Io.KnownBytes.{Appends}
use Rattle.schema.specs.NodeData.{NodeData}
use Rattle.model.specs.declared.FullNodeId.{FullNodeId}
use Rattle.model.specs.World.{World}
use Rattle.model.specs.Labels.{label_of}
use Rattle.model.specs.RoleClasses.{is_read_only_supported}
use Rattle.model.specs.TextRuns.{is_password}
use Rattle.model.specs.Values.{value_of}
use Rattle.model.specs.Views.{is_read_only}
use Rattle.phrases.specs.States.{switched_word, expanded_word, selected_word, where_it_is}
use Rattle.hidden_texts.specs.Hidden.{hides_label, hides_value}
use Rattle.hidden_texts.specs.Shown.{shown_value}
use Rattle.page_states.specs.Written.{word_text}
use Rattle.page_states.specs.declared.secrets.Hidden.{Hidden}

-- which of a node's texts are hidden
abbrev pub hidden_at : World → FullNodeId → Hidden
hidden_at w id = record { label = hides_label w id; value = hides_value w id }

-- a label, and a value, as it is shown where it is hidden or isn't; what is shown of a password's own value is bullets
abbrev pub label_shown : Bool → World → FullNodeId → Option (List ℕ)
label_shown is_hidden w id = if is_hidden then None else label_of w id

abbrev pub value_shown : Bool → World → FullNodeId → Option (List ℕ)
value_shown is_hidden w id = if is_password w id then shown_value w id else (if is_hidden then None else value_of w id)

-- of a node
abbrev pub node_label : World → FullNodeId → Option (List ℕ)
node_label w id = label_shown (hides_label w id) w id

abbrev pub node_value : World → FullNodeId → Option (List ℕ)
node_value w id = value_shown (hides_value w id) w id

-- the label that is shown, or else the value that is
abbrev pub caption_shown : Hidden → World → FullNodeId → Option (List ℕ)
caption_shown hidden w id = option_or (label_shown hidden.label w id) (value_shown hidden.value w id)

abbrev pub caption_of : World → FullNodeId → Option (List ℕ)
caption_of w id = caption_shown (hidden_at w id) w id

-- what is said in place of a label and of a value that is hidden
abbrev pub hidden_label_word : Bool → Option (List ℕ)
hidden_label_word is_hidden = where_it_is is_hidden (codes "label hidden")

abbrev pub hidden_value_word : Bool → Option (List ℕ)
hidden_value_word is_hidden = where_it_is is_hidden (codes "value hidden")

-- the texts of a node's row in the outline: its label and its value, or that they are hidden
abbrev pub label_texts : Bool → World → FullNodeId → List ℕ
label_texts is_hidden w id =
    word_text (codes "q") (codes "l") (label_shown is_hidden w id) ++ word_text (codes "i") (codes "w") (hidden_label_word is_hidden)

abbrev pub value_texts : Bool → World → FullNodeId → List ℕ
value_texts is_hidden w id =
    word_text (codes "q") (codes "v") (value_shown is_hidden w id) ++ word_text (codes "i") (codes "w") (hidden_value_word is_hidden)

abbrev pub row_texts : Hidden → World → FullNodeId → List ℕ
row_texts hidden w id = label_texts hidden.label w id ++ value_texts hidden.value w id

-- the words of a node's state, each where it applies
abbrev pub state_words : NodeData → List (Option (List ℕ))
state_words d =
    option_map switched_word d.toggled ∷ option_map expanded_word d.expanded ∷ option_map selected_word d.selected
    ∷ where_it_is d.disabled (codes "disabled") ∷ where_it_is (is_read_only_supported d.role && is_read_only d) (codes "read-only")
    ∷ where_it_is d.required (codes "required") ∷ where_it_is d.busy (codes "busy") ∷ where_it_is d.modal (codes "modal") ∷ []

-- an arrow between two spaces
abbrev pub arrow : List ℕ
arrow = 32 ∷ 226 ∷ 134 ∷ 146 ∷ 32 ∷ []

-- this is written where the old and the new differ, and else nothing
abbrev pub TellsIfOther : {A : Type 0} → A → A → List ℕ → Option (List ℕ) → Option (List ℕ) → Type 0
TellsIfOther old new told before after = ((old ≡ new) × Appends before after []) ⊎ ((old ≢ new) × Appends before after told)
