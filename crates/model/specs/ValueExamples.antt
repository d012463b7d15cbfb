-- Small interfaces, and the values and placeholders of their nodes.
use Rattle.std.specs.Prelude.{◌≡◌, ℕ, pos, true, List, [], ◌∷◌, length, map, codes, Option, Some, None}
use Rattle.std.specs.List.{concat}
use Rattle.schema.specs.NodeData.{NodeData}
use Rattle.schema.specs.declared.Role.TheVariants.{Window, Document, GenericContainer, Label, TextInput, MultilineTextInput, PasswordInput, TextRun}
use Rattle.schema.specs.declared.values.TextDirection.TheVariants.{RightToLeft}
use Rattle.model.specs.declared.FullNodeId.{FullNodeId}
use Rattle.model.specs.World.{World}
use Rattle.model.specs.ListExamples.{parent}
use Rattle.model.specs.Examples.{at}
use Rattle.model.specs.ViewExamples.{one_tree}
use Rattle.model.specs.FlatText.{FlatText, flat_text}
use Rattle.model.specs.Values.{bullets, value_of, placeholder}

abbrev pub with_value : List ℕ → NodeData → NodeData
with_value t d = record d { value = Some t }

abbrev pub alone : NodeData → World
alone d = one_tree None ((at 0 0, d) ∷ [])

-- a node that lists at 1, and this as a run of these characters
abbrev pub run_nodes : NodeData → List (List ℕ) → List (FullNodeId × NodeData)
run_nodes d cs = (at 0 0, d) ∷ (at 0 1, record (parent TextRun []) { value = Some (concat cs); character_lengths = map length cs }) ∷ []

abbrev pub with_run : NodeData → List (List ℕ) → World
with_run d cs = one_tree None (run_nodes d cs)

-- a run with this value and these lengths of characters
abbrev pub cut_nodes : NodeData → List ℕ → List ℕ → List (FullNodeId × NodeData)
cut_nodes d value lengths = (at 0 0, d) ∷ (at 0 1, record (parent TextRun []) { value = Some value; character_lengths = lengths }) ∷ []

abbrev pub with_lengths : NodeData → List ℕ → List ℕ → World
with_lengths d value lengths = one_tree None (cut_nodes d value lengths)

abbrev pub one_line : NodeData
one_line = parent TextInput (1 ∷ [])

abbrev pub many_lines : NodeData
many_lines = parent MultilineTextInput (1 ∷ [])

abbrev pub password : NodeData
password = parent PasswordInput (1 ∷ [])

abbrev pub A_UMLAUT : List ℕ
A_UMLAUT = 0xc3 ∷ 0xa4 ∷ []

-- it differs in its bytes, but not in its scalars
abbrev pub TWO_UMLAUTS : List ℕ
TWO_UMLAUTS = 0xc3 ∷ 0xa4 ∷ 0xc3 ∷ 0xa4 ∷ []

pub record Values : Type 0 where
  pub of_text : value_of (with_run one_line (codes "a" ∷ codes "b" ∷ codes "c" ∷ codes "d" ∷ [])) (at 0 0) ≡ Some (codes "abcd")
  pub of_lines : value_of (with_run many_lines (codes "a" ∷ codes "b" ∷ codes "c" ∷ codes "d" ∷ [])) (at 0 0) ≡ None
  pub of_label : value_of (with_run (parent Label (1 ∷ [])) (codes "a" ∷ codes "b" ∷ [])) (at 0 0) ≡ Some (codes "ab")
  pub of_document : value_of (with_run (parent Document (1 ∷ [])) (codes "a" ∷ codes "b" ∷ [])) (at 0 0) ≡ Some (codes "ab")
  pub of_window : value_of (with_run (parent Window (1 ∷ [])) (codes "a" ∷ codes "b" ∷ [])) (at 0 0) ≡ None
  pub without_run : value_of (alone (parent TextInput [])) (at 0 0) ≡ None
  pub over_a_character : value_of (with_lengths (parent TextInput (1 ∷ [])) A_UMLAUT (1 ∷ 1 ∷ [])) (at 0 0) ≡ None
  pub own : value_of (alone (with_value (codes "x") (parent MultilineTextInput []))) (at 0 0) ≡ Some (codes "x")
  pub counts_characters : value_of (with_run (with_value (codes "zzz") password) (codes "a" ∷ codes "b" ∷ [])) (at 0 0) ≡ Some (bullets 2)
  pub raw_where_alike : value_of (with_run (with_value (codes "xy") password) (codes "a" ∷ codes "a" ∷ [])) (at 0 0) ≡ Some (codes "xy")
  pub raw_scalars : value_of (alone (with_value TWO_UMLAUTS (parent PasswordInput []))) (at 0 0) ≡ Some TWO_UMLAUTS
  pub counts_scalars : value_of (alone (with_value (codes "ab") (parent PasswordInput []))) (at 0 0) ≡ Some (bullets 2)
  pub masked_text : value_of (with_run password (codes "p" ∷ A_UMLAUT ∷ codes "s" ∷ codes "s" ∷ [])) (at 0 0) ≡ Some (bullets 4)
  pub text_of_one_letter : value_of (with_run password (codes "a" ∷ codes "a" ∷ codes "a" ∷ codes "a" ∷ [])) (at 0 0) ≡ Some (codes "aaaa")

-- ---- placeholders

-- an input with a placeholder and runs of these values
abbrev pub held : List (Option (List ℕ)) → List (FullNodeId × NodeData)
held [] = (at 0 0, record (parent TextInput []) { placeholder = Some (codes "name") }) ∷ []
held (a ∷ []) =
    (at 0 0, record (parent TextInput (1 ∷ [])) { placeholder = Some (codes "name") })
    ∷ (at 0 1, record (parent TextRun []) { value = a }) ∷ []
held (a ∷ b ∷ cs) =
    (at 0 0, record (parent TextInput (1 ∷ 2 ∷ [])) { placeholder = Some (codes "name") })
    ∷ (at 0 1, record (parent TextRun []) { value = a }) ∷ (at 0 2, record (parent TextRun []) { value = b }) ∷ []

abbrev pub held_place : List (Option (List ℕ)) → Option (List ℕ)
held_place values = placeholder (one_tree None (held values)) (at 0 0)

pub record Placeholders : Type 0 where
  pub no_run : held_place [] ≡ Some (codes "name")
  pub absent : held_place (None ∷ []) ≡ Some (codes "name")
  pub blank : held_place (Some [] ∷ []) ≡ Some (codes "name")
  pub filled : held_place (Some (codes "x") ∷ []) ≡ None
  pub two : held_place (None ∷ None ∷ []) ≡ None

-- ---- what runs show of a world

abbrev pub moved_by : ℕ → ℕ → NodeData → NodeData
moved_by x y d = record d { transform = Some (record { x = pos x; y = pos y }) }

-- a window, in it a label that sets a size and a direction, in it a container, in it a run: each shifts its contents
abbrev pub moved_text : List (FullNodeId × NodeData)
moved_text = (at 0 0, moved_by 1000 2000 (parent Window (1 ∷ [])))
    ∷ (at 0 1, moved_by 100 200 (record (parent Label (2 ∷ [])) { font_size = Some 12; text_direction = Some RightToLeft }))
    ∷ (at 0 2, moved_by 10 20 (parent GenericContainer (3 ∷ [])))
    ∷ (
      at 0 3,
      moved_by 1 2
          (record (parent TextRun []) { value = Some (codes "a\n"); character_lengths = 1 ∷ 1 ∷ []; word_starts = 0 ∷ [] }),
    ) ∷ []

abbrev pub label_text : FlatText
label_text = flat_text (one_tree None moved_text) (at 0 1)

pub record ShownRuns : Type 0 where
  pub runs : map (λ s. s.id) label_text ≡ at 0 3 ∷ []
  pub moves : map (λ s. s.move) label_text ≡ record { x = pos 1111; y = pos 2222 } ∷ []
  pub moves_in_label : map (λ s. s.move_in_root) label_text ≡ record { x = pos 11; y = pos 22 } ∷ []
  pub sizes : map (λ s. s.style.font_size) label_text ≡ Some 12 ∷ []
  pub directions : map (λ s. s.direction) label_text ≡ Some RightToLeft ∷ []
  pub newlines : map (λ s. s.has_newline) label_text ≡ true ∷ []
  pub shown : map (λ s. s.characters) label_text ≡ (codes "a" ∷ codes "\n" ∷ []) ∷ []
  pub words : map (λ s. s.word_starts) label_text ≡ (0 ∷ []) ∷ []
