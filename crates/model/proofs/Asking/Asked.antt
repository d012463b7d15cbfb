-- The answers to queries of small worlds, worked out.
use Rattle.std.proofs.Common.{◌≡◌, [], ◌∷◌, Some, None, refl, ap, ◌∙◌, map, true}
use Rattle.std.specs.FinMap.{get, get-from_sorted}
use Rattle.std.specs.Ordering.{nat_cmp}
use Rattle.std.specs.Prelude.{codes, is_some, option_map, option_and_then, false, unwrap_or, if◌then◌else◌}
use Rattle.std.specs.Option.{option_map_or}
use Rattle.std.specs.Bool.{then_some}
use Rattle.std.specs.Str.{chars, is_utf8}
use Rattle.std.specs.Char.{encode_utf8}
use Rattle.model.specs.declared.FullNodeId.{FullNodeId}
use Rattle.model.specs.declared.queries.At.{At}
use Rattle.model.specs.declared.queries.Move.{Move}
use Rattle.model.specs.declared.queries.Move.TheVariants.{ForwardToWordStart, ForwardToCharacterStart}
use Rattle.model.specs.declared.queries.NamedFilter.TheVariants.{All}
use Rattle.model.specs.declared.queries.Query.TheVariants as query
use Rattle.schema.specs.NodeData.{NodeData}
use Rattle.model.specs.World.{data_of, children}
use Rattle.model.specs.Upward.{kin}
use Rattle.model.specs.FocusFound.{effective_focus, active_descendant}
use Rattle.model.specs.Labels.{label_of}
use Rattle.model.specs.Moves.{to_global_usv_index, to_global_utf16_index, to_line_index}
use Rattle.model.specs.FlatText.{FlatText, shown_run, flat_text}
use Rattle.model.specs.Values.{value_of}
use Rattle.model.specs.Filters.{filter_named}
use Rattle.model.specs.Views.{computed_size_of_set, computed_position_in_set}
use Rattle.model.specs.Ranges.{text_of, document_range}
use Rattle.model.specs.TextRuns.{supports_text_ranges}
use Rattle.model.specs.Answers.{Answer}
use Rattle.model.specs.Answers as answer
use Rattle.model.specs.Examples.{at, window, button, plain_tree}
use Rattle.model.specs.EventExamples.{window_alone, window_with_button}
use Rattle.model.specs.SecretExamples.{one_secret}
use Rattle.model.specs.Queries.{node_named, of_node, of_text, of_position, raw_of, moved, text_between, text_in_runs, answer_of}
use Rattle.model.specs.QueryExamples.{in_root, start_at, end_at, OfWindow, OfSecret}
use Rattle.model.proofs.Worlds.Written.{data_written, children_written}
use Rattle.model.proofs.Examples.SecretExamples.{one_root, one_masked, one_text_is, shown_first, sent_as}

here : node_named one_secret (in_root 0) ≡ Some (at 0 0)
here = ap (λ o. then_some (is_some o) (at 0 0)) one_root

asked : (of : FullNodeId → Answer) → of_node one_secret (in_root 0) of ≡ of (at 0 0)
asked of = ap (λ o. option_map_or of o answer.NoNode) here

abbrev shown : FlatText
shown = map (shown_run one_secret (at 0 0) true true) (sent_as 1 (112 ∷ 195 ∷ 164 ∷ []) (1 ∷ 2 ∷ []) ∷ sent_as 2 (codes "ss") (1 ∷ 1 ∷ []) ∷ [])

read : (of : FlatText → Answer) → of_text one_secret (in_root 0) of ≡ of shown
read of =
    asked (λ id. if supports_text_ranges one_secret id then of (flat_text one_secret id) else answer.NotText)
    ∙ ap (λ b. if b then of (flat_text one_secret (at 0 0)) else answer.NotText) one_masked.supported
    ∙ ap of one_text_is

abbrev numbers : At → FlatText → Answer
numbers at t = of_position t at (λ p. answer.Indexes (to_global_usv_index t p) (to_global_utf16_index t p) (to_line_index t p))

abbrev led : At → Move → FlatText → Answer
led at move t = of_position t at (λ p. answer.Position (option_and_then (raw_of t) (moved t p move)))

abbrev between : At → At → FlatText → Answer
between from to t = of_position t from (λ p. of_position t to (λ q. answer.Text (Some (text_between t p q))))

pub of_secret : OfSecret
unfolding chars is_utf8 encode_utf8
of_secret = record {
  value = asked (λ id. answer.Text (value_of one_secret id)) ∙ ap answer.Text shown_first;
  runs = asked (λ id. answer.Text (text_in_runs one_secret id)) ∙ ap (λ b. answer.Text (if b then Some (text_of (flat_text one_secret (at 0 0)) (document_range (flat_text one_secret (at 0 0)))) else None)) one_masked.supported ∙ ap (λ t. answer.Text (Some (text_of t (document_range t)))) one_text_is;
  indexes = read (numbers (start_at 3));
  end_side = read (numbers (end_at 2));
  no_index = read (numbers (start_at 5));
  moved = read (led (start_at 0) ForwardToWordStart);
  last = read (led (start_at 4) ForwardToCharacterStart);
  range = read (between (start_at 1) (start_at 3));
  before = read (between (start_at 3) (start_at 1));
}

-- ---- the window

root_data : data_of (window_with_button 0) (at 0 0) ≡ Some (window (1 ∷ []))
root_data = data_written (window_with_button 0) ((at 0 0, window (1 ∷ [])) ∷ (at 0 1, button) ∷ []) tt refl (at 0 0)

no_data : data_of window_alone (at 0 1) ≡ None
no_data = data_written window_alone ((at 0 0, window []) ∷ []) tt refl (at 0 1)

of_root : (of : FullNodeId → Answer) → of_node (window_with_button 0) (in_root 0) of ≡ of (at 0 0)
of_root of = ap (λ o. option_map_or of (then_some (is_some o) (at 0 0)) answer.NoNode) root_data

focus_is : effective_focus (window_with_button 0) ≡ Some (at 0 0)
unfolding effective_focus
focus_is =
    let t : get (window_with_button 0).trees 0 ≡ Some plain_tree = get-from_sorted nat_cmp ((0, plain_tree) ∷ []) 0 tt in
    rw (t, root_data) refl

focused : answer_of (window_with_button 0) query.Focus ≡ answer.Node (Some (at 0 0))
focused =
    ap (λ o. answer.Node (option_map (λ e. unwrap_or (active_descendant (window_with_button 0) e) e) o)) focus_is
    ∙ ap (λ o. answer.Node (Some (unwrap_or (option_and_then (kin (window_with_button 0) (at 0 0)) (option_and_then (λ (d : NodeData). d.active_descendant) o)) (at 0 0)))) root_data

no_text : supports_text_ranges (window_with_button 0) (at 0 0) ≡ false
unfolding supports_text_ranges
no_text = rw root_data refl

no_size : computed_size_of_set (filter_named All (window_with_button 0)) (window_with_button 0) (at 0 0) ≡ None
no_size = rw root_data refl

no_position : computed_position_in_set (filter_named All (window_with_button 0)) (window_with_button 0) (at 0 0) ≡ None
no_position = rw root_data refl

pub of_window : OfWindow
of_window = record {
  children = of_root (λ id. answer.Ids (children (window_with_button 0) id)) ∙ ap answer.Ids (children_written (window_with_button 0) (at 0 0) (window (1 ∷ [])) root_data refl);
  gone = ap (λ o. option_map_or (λ id. answer.Text (label_of window_alone id)) (then_some (is_some o) (at 0 1)) answer.NoNode) no_data;
  unknown = refl;
  focus = focused;
  no_focus = refl;
  no_set = of_root (λ id. answer.Set (computed_size_of_set (filter_named All (window_with_button 0)) (window_with_button 0) id) (computed_position_in_set (filter_named All (window_with_button 0)) (window_with_button 0) id)) ∙ (λ i. answer.Set (no_size i) (no_position i));
  no_runs = of_root (λ id. answer.Text (text_in_runs (window_with_button 0) id)) ∙ ap (λ b. answer.Text (if b then Some (text_of (flat_text (window_with_button 0) (at 0 0)) (document_range (flat_text (window_with_button 0) (at 0 0)))) else None)) no_text;
  not_text = of_root (λ id. if supports_text_ranges (window_with_button 0) id then numbers (start_at 0) (flat_text (window_with_button 0) id) else answer.NotText) ∙ ap (λ b. if b then numbers (start_at 0) (flat_text (window_with_button 0) (at 0 0)) else answer.NotText) no_text;
}
