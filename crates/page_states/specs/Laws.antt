-- What a page says doesn't depend on what is typed into a password.
use Rattle.std.specs.Prelude.{◌≡◌, ℕ, List, Option, false}
use Rattle.model.specs.declared.FullNodeId.{FullNodeId}
use Rattle.model.specs.World.{World}
use Rattle.model.specs.Forest.{IsFormed}
use Rattle.model.specs.Upward.{field_at}
use Rattle.script_nodes.specs.declared.field_kinds.Field.{Field}
use Rattle.hidden_texts.specs.Alike.{DifferInPassword}
use Rattle.hidden_texts.specs.Hidden.{hides_label, is_in_password}
use Rattle.hidden_texts.specs.Shown.{shown_label, shown_value}
use Rattle.page_states.specs.Differences.{is_value, other_field}
use Rattle.page_states.specs.Said.{caption_of, hidden_at, hidden_label_word, node_label, node_value, row_texts}

-- what an event names of a field but the value, of a node that the world has
abbrev pub node_field : World → FullNodeId → Field → Option (List ℕ)
node_field w id f = field_at (λ d. other_field (is_in_password w id) d f) w id

-- the same is said of a node in two worlds: by its row, where it is named, and where its texts and fields are compared
pub record SaysAlike (w v : World) (id : FullNodeId) : Type 0 where
  pub row : row_texts (hidden_at w id) w id ≡ row_texts (hidden_at v id) v id
  pub caption : caption_of w id ≡ caption_of v id
  pub word : hidden_label_word (hides_label w id) ≡ hidden_label_word (hides_label v id)
  pub label : node_label w id ≡ node_label v id
  pub value : node_value w id ≡ node_value v id
  pub field : (f : Field) → is_value f ≡ false → node_field w id f ≡ node_field v id f

-- a node's label and value as a page shows them are those that may be shown
pub record ShowsTexts (w : World) (id : FullNodeId) : Type 0 where
  pub label : node_label w id ≡ shown_label w id
  pub value : node_value w id ≡ shown_value w id

abbrev pub TextsMayBeShown : Type 0
TextsMayBeShown = (w : World) (id : FullNodeId) → ShowsTexts w id

-- so it is of each node of two worlds that differ at most in what is typed into a password
abbrev pub TypingSaysTheSame : Type 0
TypingSaysTheSame = (p : FullNodeId) (w v : World) → IsFormed w → DifferInPassword p w v → (id : FullNodeId) → SaysAlike w v id
