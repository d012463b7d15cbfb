-- What is read off the outline of a world: which nodes are in passwords, hold them, and label others.
use Rattle.std.proofs.Common.{◌≡◌, Bool, ◌&&◌, cond, [], ◌∷◌, map, drop, refl, sym, ap, ◌∙◌}
use Rattle.std.specs.Prelude.{filter_map, length, nat_lt}
use Rattle.std.specs.Bool.{then_some}
use Rattle.std.specs.Option.{option_map_or}
use Rattle.std.specs.List.{list_any}
use Rattle.std.proofs.lemmas.List.{length-map}
use Rattle.schema.specs.NodeData.{NodeData}
use Rattle.model.specs.declared.FullNodeId.{FullNodeId}
use Rattle.model.specs.declared.filters.FilterResult.TheVariants.{ExcludeSubtree}
use Rattle.model.specs.World.{World, Place, data_of, in_tree}
use Rattle.model.specs.Frontier.{filtered_children}
use Rattle.model.specs.Labels.{label_answer, label_filter, looks_within, labelled_by, own_label}
use Rattle.model.specs.Lists.{nodes_of, ancestors}
use Rattle.model.specs.Outline.{outline}
use Rattle.model.specs.RoleClasses.{holds_text, is_label, is_password_input}
use Rattle.model.specs.TextRuns.{has_runs, is_password, run_ids, sent_run, sent_runs}
use Rattle.model.specs.Upward.{says, kin}
use Rattle.model.specs.Views.{ids_in_field}
use Rattle.model.proofs.Text.Outlines.{reads_or, there, given_same, says_same, above_is, below_is, filtered_same, runs_same}
use Rattle.views.specs.Descendants.{descendants}
use Rattle.hidden_texts.specs.Hidden.{is_in_password, holds_password}

abbrev pub some_runs : World → FullNodeId → Bool
some_runs w id = has_runs w id (sent_runs w id)

module _ (w : World) where
  abbrev o : World
  o = outline w

  above_ids : ancestors o ≡ ancestors w
  above_ids i id = map (λ (p : Place). p.0) (above_is w i id)

  below_ids : descendants o ≡ descendants w
  below_ids i id = drop 1 (id ∷ nodes_of (below_is w i id))

  pub passwords_same : is_password o ≡ is_password w
  passwords_same i id = says_same w (λ d. is_password_input d.role) (λ d. refl) i id

  pub label_nodes_same : says (λ d. is_label d.role) o ≡ says (λ d. is_label d.role) w
  label_nodes_same = says_same w (λ d. is_label d.role) (λ d. refl)

  pub text_holders_same : says (λ d. holds_text d.role) o ≡ says (λ d. holds_text d.role) w
  text_holders_same = says_same w (λ d. holds_text d.role) (λ d. refl)

  pub in_same : is_in_password o ≡ is_in_password w
  in_same i id = list_any (passwords_same i) (above_ids i id)

  count_same : (id : FullNodeId) → length (sent_runs o id) ≡ length (sent_runs w id)
  count_same id = length-map (run_ids o id) (sent_run o) ∙ (λ i. length (runs_same w i id)) ∙ sym (length-map (run_ids w id) (sent_run w))

  pub with_runs : some_runs o ≡ some_runs w
  with_runs i id = text_holders_same i id && nat_lt 0 (count_same id i)

  pub holds_same : holds_password o ≡ holds_password w
  holds_same i id = with_runs i id && list_any (passwords_same i) (below_ids i id)

  pub own_labels_same : own_label o ≡ own_label w
  own_labels_same i id = given_same w (λ d. d.label) (λ d. refl) i id

  -- ---- the nodes that label a node

  kin_same : (id : FullNodeId) → kin o id ≡ kin w id
  kin_same id i n = then_some (there w (in_tree id.tree n) i) (in_tree id.tree n)

  named_same : (id : FullNodeId) → ids_in_field (λ e. e.labelled_by) o id ≡ ids_in_field (λ e. e.labelled_by) w id
  named_same id =
      reads_or (λ (d : NodeData). filter_map (kin o id) d.labelled_by) [] w id (λ d. refl)
      ∙ (λ i. option_map_or (λ (d : NodeData). filter_map (kin_same id i) d.labelled_by) (data_of w id) [])

  answers_same : label_filter o ≡ label_filter w
  answers_same i id = reads_or (λ (d : NodeData). label_answer d.role) ExcludeSubtree w id (λ d. refl) i

  within_same : (id : FullNodeId) → filtered_children (label_filter o) o id ≡ filtered_children (label_filter w) w id
  within_same id = ap (λ f. filtered_children f o id) answers_same ∙ (λ i. filtered_same w (label_filter w) i id)

  labels_at : (id : FullNodeId) → labelled_by o id ≡ labelled_by w id
  unfolding labelled_by
  labels_at id =
      reads_or (λ (d : NodeData). cond (looks_within d) (filtered_children (label_filter o) o id) (ids_in_field (λ e. e.labelled_by) o id)) [] w id (λ d. refl)
      ∙ (λ i. option_map_or (λ (d : NodeData). cond (looks_within d) (within_same id i) (named_same id i)) (data_of w id) [])

  pub labels_same : labelled_by o ≡ labelled_by w
  labels_same i id = labels_at id i
