-- What an event names of a node's fields doesn't depend on what is typed into a password.
use Rattle.std.proofs.Common.{◌≡◌, ℕ, Bool, true, false, ◌&&◌, List, Option, Some, None, if◌then◌else◌, refl, sym, ap, ◌∙◌}
use Rattle.std.specs.Option.{option_and_then, option_map_or}
use Rattle.schema.specs.NodeData.{NodeData}
use Rattle.model.specs.declared.FullNodeId.{FullNodeId}
use Rattle.model.specs.Forest.{IsFormed}
use Rattle.model.specs.Outline.{without_text}
use Rattle.model.specs.RoleClasses.{is_password_input}
use Rattle.model.specs.TextRuns.{is_password}
use Rattle.model.specs.Upward.{field_at}
use Rattle.model.specs.World.{World, data_of}
use Rattle.model.proofs.Text.Outlines.{given_same, IsBlind}
use Rattle.hidden_texts.specs.Alike.{DifferInPassword}
use Rattle.hidden_texts.specs.Hidden.{is_in_password}
use Rattle.hidden_texts.proofs.HiddenAlike.{data_one, in_one, is_other, one, passwords_one}
use Rattle.script_nodes.specs.declared.field_kinds.IdsField.TheVariants as ids
use Rattle.script_nodes.specs.declared.field_kinds.IdField.TheVariants as id
use Rattle.script_nodes.specs.declared.field_kinds.TextField.TheVariants as text
use Rattle.script_nodes.specs.declared.field_kinds.FlagField.TheVariants as flag
use Rattle.script_nodes.specs.declared.field_kinds.BoolField.TheVariants as bool
use Rattle.script_nodes.specs.declared.field_kinds.ColorField.TheVariants as color
use Rattle.script_nodes.specs.declared.field_kinds.DecorationField.TheVariants as decoration
use Rattle.script_nodes.specs.declared.field_kinds.NumberField.TheVariants as number
use Rattle.script_nodes.specs.declared.field_kinds.CountField.TheVariants as count
use Rattle.script_nodes.specs.declared.field_kinds.ActionsField.TheVariants as actions
use Rattle.script_nodes.specs.declared.field_kinds.Field.{Field}
use Rattle.script_nodes.specs.declared.field_kinds.Field.TheVariants as field
use Rattle.page_states.specs.Differences.{is_measured, is_value, other_field, sent_value}
use Rattle.page_states.specs.Laws.{node_field}

-- no field but the value and what is measured of characters reads either
sent_blindly : (f : Field) → is_value f ≡ false → is_measured f ≡ false → IsBlind (λ d. sent_value d f)
sent_blindly (field.Ids ids.Children) plain other d = refl
sent_blindly (field.Id id.ActiveDescendant) plain other d = refl
sent_blindly (field.Text text.Label) plain other d = refl
sent_blindly (field.Text text.Value) plain other d = cc
sent_blindly (field.Flag flag.Hidden) plain other d = refl
sent_blindly (field.Numbers which) plain other d = cc
sent_blindly (field.Units which) plain other d = cc
sent_blindly (field.Bool bool.Expanded) plain other d = refl
sent_blindly (field.Color color.Background) plain other d = refl
sent_blindly (field.Decoration decoration.Overline) plain other d = refl
sent_blindly (field.Number number.NumericValue) plain other d = refl
sent_blindly (field.Count count.Level) plain other d = refl
sent_blindly (field.Actions actions.Own) plain other d = refl
sent_blindly _ plain other d = refl

-- so it is of any field in a password
within_blindly : (f : Field) → IsBlind (λ d. other_field true d f)
within_blindly (field.Text which) d = refl
within_blindly (field.Numbers which) d = refl
within_blindly (field.Units which) d = refl
within_blindly (field.Ids which) d = sent_blindly (field.Ids which) refl refl d
within_blindly (field.Id which) d = sent_blindly (field.Id which) refl refl d
within_blindly (field.Flag which) d = sent_blindly (field.Flag which) refl refl d
within_blindly (field.Bool which) d = sent_blindly (field.Bool which) refl refl d
within_blindly (field.Color which) d = sent_blindly (field.Color which) refl refl d
within_blindly (field.Decoration which) d = sent_blindly (field.Decoration which) refl refl d
within_blindly (field.Number which) d = sent_blindly (field.Number which) refl refl d
within_blindly (field.Count which) d = sent_blindly (field.Count which) refl refl d
within_blindly (field.Actions which) d = sent_blindly (field.Actions which) refl refl d
within_blindly _ d = refl

-- and of the password itself
abbrev unmeasured : Field → NodeData → Option (List ℕ)
unmeasured f d = if is_measured f then None else sent_value d f

unmeasured_blindly : (f : Field) → is_value f ≡ false → IsBlind (unmeasured f)
unmeasured_blindly f plain d = go (is_measured f) refl
  where
    go : (m : Bool) → is_measured f ≡ m → (if m then None else sent_value (without_text d) f) ≡ (if m then None else sent_value d f)
    go true e = refl
    go false e = sent_blindly f plain e d

secret_is : (f : Field) (o : Option NodeData) → option_map_or (λ (d : NodeData). is_password_input d.role) o false ≡ true →
    option_and_then (λ d. other_field false d f) o ≡ option_and_then (unmeasured f) o
secret_is f None e = refl
secret_is f (Some d) e = ap (λ s. if s && is_measured f then None else sent_value d f) e

module _ (p : FullNodeId) (w v : World) (formed : IsFormed w) (alike : DifferInPassword p w v) (f : Field) (plain : is_value f ≡ false)
    (id : FullNodeId) where
  same : (of : NodeData → Option (List ℕ)) → IsBlind of → field_at of w id ≡ field_at of v id
  same of blind i = one p w v formed alike (field_at of) (λ u. given_same u of blind) i id

  at_node : (u : World) (b : Bool) → is_in_password u id ≡ b → node_field u id f ≡ field_at (λ d. other_field b d f) u id
  at_node u b e = ap (λ s. field_at (λ d. other_field s d f) u id) e

  apart : (s : Bool) → is_password w id ≡ s → is_in_password w id ≡ false →
      field_at (λ d. other_field false d f) w id ≡ field_at (λ d. other_field false d f) v id
  apart false e out =
      ap (option_and_then (λ d. other_field false d f)) (data_one p w v formed alike id (is_other p w v formed alike id e) out)
  apart true e out =
      secret_is f (data_of w id) e ∙ same (unmeasured f) (unmeasured_blindly f plain)
      ∙ sym (secret_is f (data_of v id) ((λ i. sym (passwords_one p w v formed alike) i id) ∙ e))

  by_place : (b : Bool) → is_in_password w id ≡ b → field_at (λ d. other_field b d f) w id ≡ field_at (λ d. other_field b d f) v id
  by_place true e = same (λ d. other_field true d f) (within_blindly f)
  by_place false e = apart (is_password w id) refl e

  pub fields_alike : node_field w id f ≡ node_field v id f
  fields_alike =
      by_place (is_in_password w id) refl
      ∙ sym (at_node v (is_in_password w id) (λ i. sym (in_one p w v formed alike) i id))
