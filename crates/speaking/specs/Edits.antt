-- What is said of the focused text, after all events.
use Rattle.std.specs.Prelude.{◌≡◌, ◌≢◌, ℕ, List, [], ◌∷◌, ◌++◌, true, false, IsTrue, Bool, ◌&&◌, Option, Some, None, IfSome, IsSome, option_map, option_and_then, unwrap_or, length, ◌==◌, bytes_eq, ◌⊎◌, if◌then◌else◌}
use Rattle.std.specs.String.{string_bytes}
use Rattle.schema.specs.NodeData.{NodeData}
use Rattle.model.specs.declared.FullNodeId.{FullNodeId}
use Rattle.model.specs.FlatText.{flat_text}
use Rattle.model.specs.Forest.{is_same}
use Rattle.model.specs.Ranges.{text_of, selection}
use Rattle.model.specs.RoleClasses.{is_multiline}
use Rattle.model.specs.TextRuns.{is_password, supports_text_ranges}
use Rattle.model.specs.Upward.{says}
use Rattle.model.specs.Values.{document_text}
use Rattle.model.specs.World.{World, HasData}
use Rattle.hidden_texts.specs.Shown.{shown_value}
use Rattle.phrases.specs.declared.differences.Change.{Change}
use Rattle.phrases.specs.declared.sayings.Saying.TheVariants.{Changed}
use Rattle.phrases.specs.Differences.{IsEdit}
use Rattle.phrases.specs.Sayings.{saying, caret_line, selected_line, unselected_line}
use Rattle.phrases.specs.States.{same_flag}
use Rattle.phrases.specs.Voices.{Speech, said_later, all_said}
use Rattle.speaking.specs.declared.edits.FocusedText.{FocusedText}
use Rattle.speaking.specs.declared.news.News.{News}
use Rattle.speaking.specs.declared.speaker.Speaker.{Speaker}
use Rattle.speaking.specs.Carets.{caret_place, within_said}
use Rattle.speaking.specs.Lines.{caret_said, text_of_line}
use Rattle.speaking.specs.News.{no_news}
use Rattle.speaking.specs.NodeTexts.{is_edited}
use Rattle.speaking.specs.Regions.{news_said}

-- the text of the runs, or else the value as it may be shown
abbrev pub runs_or_value : World → FullNodeId → List ℕ
runs_or_value w id = if supports_text_ranges w id then document_text w id else unwrap_or (shown_value w id) []

-- that, but of a password the value, which is bullets
abbrev pub edited_text : World → FullNodeId → List ℕ
edited_text w id = if is_password w id then unwrap_or (shown_value w id) [] else runs_or_value w id

-- the selected text: none where nothing is selected, and in a password
abbrev pub selected_text : World → FullNodeId → List ℕ
selected_text w id = if is_password w id then [] else unwrap_or (option_map (text_of (flat_text w id)) (selection w id)) []

-- what is said of a selection that was `old` and is `new`
abbrev pub selection_said : List ℕ → List ℕ → Speech → Speech
selection_said old new v = if bytes_eq old new then v else said_later v (if length new == 0 then unselected_line old else selected_line new)

-- a line of a text, without the newline at its end
abbrev pub IsWithoutNewline : List ℕ → List ℕ → Type 0
IsWithoutNewline text line = (text ≡ line ++ 10 ∷ []) ⊎ ((text ≡ line) × ((front : List ℕ) → text ≢ front ++ 10 ∷ []))

abbrev pub SaysText : Option (List ℕ) → Speech → Speech → Type 0
SaysText None v u = u ≡ v
SaysText (Some text) v u = (line : List ℕ) × IsWithoutNewline text line × (u ≡ said_later v (caret_line line))

abbrev pub SaysLine : World → FullNodeId → Option ℕ → Speech → Speech → Type 0
SaysLine w id None v u = u ≡ v
SaysLine w id (Some k) v u = SaysText (text_of_line w id k) v u

-- the current text, and the line of its caret
pub record IsReadOf (w : World) (id : FullNodeId) (t : FocusedText) : Type 0 where
  pub node : t.id ≡ id
  pub kind : t.is_password ≡ is_password w id
  pub text : string_bytes t.text ≡ edited_text w id
  pub line : t.line ≡ caret_said w id
  pub caret : t.caret ≡ caret_place w id
  pub selected : string_bytes t.selected ≡ selected_text w id

-- the line of the caret, if it moved to another line, and otherwise what it has come to in the line
pub record SaysCaret (w : World) (id : FullNodeId) (before now : FocusedText) (v u : Speech) : Type 0 where
  pub moved : before.line ≢ now.line → SaysLine w id now.line v u
  pub stayed : before.line ≡ now.line → u ≡ within_said w id (string_bytes now.selected) before.caret now.caret v

-- that, and the selection if it is new
pub record SaysMoves (w : World) (id : FullNodeId) (before now : FocusedText) (v u : Speech) : Type 0 where
  pub between : Speech
  pub caret : SaysCaret w id before now v between
  pub selection : u ≡ selection_said (string_bytes before.selected) (string_bytes now.selected) between

-- a text that was focused before: what was removed and typed, or else where the caret and the selection moved
pub record SaysEdit (w : World) (id : FullNodeId) (before now : FocusedText) (v u : Speech) : Type 0 where
  pub typed : string_bytes before.text ≢ string_bytes now.text →
      (c : Change) × IsEdit now.caret (string_bytes before.text) (string_bytes now.text) c.removed.now c.typed.now
      × (u ≡ said_later v (saying (Changed c)))
  pub same : string_bytes before.text ≡ string_bytes now.text → SaysMoves w id before now v u

-- a newly focused text: the line of the caret, if it can have several
abbrev pub SaysArrival : World → FullNodeId → FocusedText → Speech → Speech → Type 0
SaysArrival w id now v u =
    (says (λ d. is_multiline d.role) w id ≡ true → SaysLine w id now.line v u) × (says (λ d. is_multiline d.role) w id ≡ false → u ≡ v)

-- what was last said of a text, if it is the node's, and was a password then if it is one now
abbrev pub held_of : FullNodeId → Bool → Option FocusedText → Option FocusedText
held_of id password held = option_and_then (λ t. if is_same t.id id && same_flag t.is_password password then Some t else None) held

abbrev pub SaysTextOf : World → FullNodeId → Option FocusedText → FocusedText → Speech → Speech → Type 0
SaysTextOf w id None now v u = SaysArrival w id now v u
SaysTextOf w id (Some before) now v u = SaysEdit w id before now v u

-- what changed in the node's text, given what was last said
abbrev pub SaysEdited : World → FullNodeId → Option FocusedText → FocusedText → Speech → Speech → Type 0
SaysEdited w id held now v u = IsReadOf w id now × SaysTextOf w id (held_of id now.is_password held) now v u

-- without a text nothing is said or kept
abbrev pub SaysOf : World → Option FullNodeId → Option FocusedText → Option FocusedText → Speech → Speech → Type 0
SaysOf w None held now v u = (now ≡ None) × (u ≡ v)
SaysOf w (Some id) held now v u = IfSome now (λ t. SaysEdited w id held t v u) × IsSome now

-- typing in the focused node is said as edits of its text
abbrev pub IsEdited : World → Option FullNodeId → Option FullNodeId → Type 0
IsEdited w focus None = (id : FullNodeId) (d : NodeData) → focus ≡ Some id → HasData w id d → is_edited w id d ≡ false
IsEdited w focus (Some id) = (focus ≡ Some id) × ((d : NodeData) × HasData w id d × (is_edited w id d ≡ true))

-- what is said of the focused text, if typing in it is said as edits
pub record SaysFocused (w : World) (focus : Option FullNodeId) (held now : Option FocusedText) (v u : Speech) : Type 0 where
  pub node : Option FullNodeId
  pub edited : IsEdited w focus node
  pub says : SaysOf w node held now v u

-- that, and what is new in live regions; what is assertive is said first, and what is polite last
pub record SaysEnd (w : World) (focus : Option FullNodeId) (n : News) (held now : Option FocusedText) (v u : Speech) : Type 0 where
  pub between : Speech
  pub text : SaysFocused w focus held now v between
  pub waited : u ≡ all_said (news_said w n between)

-- What is said at the end of a step, if this node is focused. A speaker whose allocation fails falls silent, and has said what it
-- had said before; one that is silent does nothing. Nothing is new after it.
pub record Settles (w : World) (focus : Option FullNodeId) (s t : Speaker) : Type 0 where
  pub silent : IsTrue s.is_silent → t ≡ s
  pub says : t.is_silent ≡ false → SaysEnd w focus s.news s.text t.text s.voice t.voice × (t.news ≡ no_news)
  pub kept : IsTrue t.is_silent → t.voice ≡ s.voice
