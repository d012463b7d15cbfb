-- The answer to a query, by the definitions of lists, labels, values, hits, focus and texts.
use Rattle.std.specs.Prelude.{ℕ, Bool, true, false, nat_lt, List, slice_get, Option, Some, None, is_some, option_map, option_and_then, if◌then◌else◌}
use Rattle.std.specs.Option.{option_map_or}
use Rattle.std.specs.Bool.{then_some}
use Rattle.schema.specs.declared.NodeId.{NodeId}
use Rattle.schema.specs.declared.TreeId.{TreeId}
use Rattle.schema.specs.declared.values.TextPosition.{TextPosition}
use Rattle.model.specs.declared.FullNodeId.{FullNodeId}
use Rattle.model.specs.declared.queries.At.{At}
use Rattle.model.specs.declared.queries.Side.{Side}
use Rattle.model.specs.declared.queries.Side.TheVariants.{Start, End}
use Rattle.model.specs.declared.queries.Move.{Move}
use Rattle.model.specs.declared.queries.Move.TheVariants as move
use Rattle.model.specs.declared.queries.Query.{Query}
use Rattle.model.specs.declared.queries.Query.TheVariants as query
use Rattle.model.specs.World.{World, data_of, in_tree, index_of, children}
use Rattle.model.specs.Lists.{following_siblings, preceding_siblings}
use Rattle.model.specs.Frontier.{filtered_children}
use Rattle.model.specs.Covers.{following_filtered_siblings, preceding_filtered_siblings}
use Rattle.model.specs.Filters.{filter_named}
use Rattle.model.specs.Labels.{label_of}
use Rattle.model.specs.Values.{value_of}
use Rattle.model.specs.Views.{computed_size_of_set, computed_position_in_set}
use Rattle.model.specs.Geometry.{hit}
use Rattle.model.specs.FocusFound.{shown_focus}
use Rattle.model.specs.TextRuns.{supports_text_ranges}
use Rattle.model.specs.FlatText.{FlatText, Position, flat_text, offset, total, document_start, document_end, biased_to_end}
use Rattle.model.specs.Moves as moves
use Rattle.model.specs.Ranges.{text_of, document_range, with_end}
use Rattle.model.specs.Answers.{Answer}
use Rattle.model.specs.Answers as answer

-- the node with this id in the tree with this name, if it exists
abbrev pub node_named : World → NodeId × TreeId → Option FullNodeId
node_named w name =
    option_and_then (λ index. then_some (is_some (data_of w (in_tree index name.0))) (in_tree index name.0)) (index_of w name.1)

-- the answer about the node with this name
abbrev pub of_node : World → NodeId × TreeId → (FullNodeId → Answer) → Answer
of_node w name answer_at = option_map_or answer_at (node_named w name) answer.NoNode

-- ---- positions

-- the position on this side of its place
abbrev pub on_side : FlatText → Side → Position → Position
on_side t Start p = p
on_side t End p = biased_to_end t p

-- the position with this index, on this side
abbrev pub position_at : FlatText → At → Option Position
position_at t at = option_map (on_side t at.side) (moves.position_from_usv t at.index)

-- the position by the name of its run
abbrev pub raw_of : FlatText → Position → Option TextPosition
raw_of t p = option_map (λ s. record { node = s.id.node; character_index = p.index }) (slice_get t p.run)

-- where a movement ends; a movement by a character needs one
abbrev pub moved : FlatText → Position → Move → Option Position
moved t p move.ForwardToCharacterStart = if nat_lt (offset t p) (total t) then Some (moves.forward_to_character_start t p) else None
moved t p move.ForwardToCharacterEnd = if nat_lt (offset t p) (total t) then Some (moves.forward_to_character_end t p) else None
moved t p move.BackwardToCharacterStart = if nat_lt 0 (offset t p) then Some (moves.backward_to_character_start t p) else None
moved t p move.ForwardToFormatStart = Some (moves.forward_to_format_start t p)
moved t p move.ForwardToFormatEnd = Some (moves.forward_to_format_end t p)
moved t p move.BackwardToFormatStart = Some (moves.backward_to_format_start t p)
moved t p move.ForwardToWordStart = Some (moves.forward_to_word_start t p)
moved t p move.ForwardToWordEnd = Some (moves.forward_to_word_end t p)
moved t p move.BackwardToWordStart = Some (moves.backward_to_word_start t p)
moved t p move.ForwardToLineStart = Some (moves.forward_to_line_start t p)
moved t p move.ForwardToLineEnd = Some (moves.forward_to_line_end t p)
moved t p move.BackwardToLineStart = Some (moves.backward_to_line_start t p)
moved t p move.ForwardToParagraphStart = Some (moves.forward_to_paragraph_start t p)
moved t p move.ForwardToParagraphEnd = Some (moves.forward_to_paragraph_end t p)
moved t p move.BackwardToParagraphStart = Some (moves.backward_to_paragraph_start t p)
moved t p move.ForwardToPageStart = Some (moves.forward_to_page_start t p)
moved t p move.ForwardToPageEnd = Some (moves.forward_to_page_end t p)
moved t p move.DocumentEnd = Some (document_end t)
moved t p move.BackwardToPageStart = Some (moves.backward_to_page_start t p)
moved t p move.DocumentStart = Some document_start

-- the answer about the text of the node with this name
abbrev pub of_text : World → NodeId × TreeId → (FlatText → Answer) → Answer
of_text w name answer_in = of_node w name (λ id. if supports_text_ranges w id then answer_in (flat_text w id) else answer.NotText)

-- and of a position in it
abbrev pub of_position : FlatText → At → (Position → Answer) → Answer
of_position t at answer_at = option_map_or answer_at (position_at t at) answer.NotText

-- a text from one position up to another
abbrev pub text_between : FlatText → Position → Position → List ℕ
text_between t from to = text_of t (with_end t (record { start = from; end = from }) to)

-- the text of all its runs, if the node has a text
abbrev pub text_in_runs : World → FullNodeId → Option (List ℕ)
text_in_runs w id = if supports_text_ranges w id then Some (text_of (flat_text w id) (document_range (flat_text w id))) else None

-- ---- answers

abbrev pub answer_of : World → Query → Answer
answer_of w (query.Children name) = of_node w name (λ id. answer.Ids (children w id))
answer_of w (query.FollowingSiblings name) = of_node w name (λ id. answer.Ids (following_siblings w id))
answer_of w (query.PrecedingSiblings name) = of_node w name (λ id. answer.Ids (preceding_siblings w id))
answer_of w (query.FilteredChildren name filter) = of_node w name (λ id. answer.Ids (filtered_children (filter_named filter w) w id))
answer_of w (query.FollowingFiltered name filter) =
    of_node w name (λ id. answer.Ids (following_filtered_siblings (filter_named filter w) w id))
answer_of w (query.PrecedingFiltered name filter) =
    of_node w name (λ id. answer.Ids (preceding_filtered_siblings (filter_named filter w) w id))
answer_of w (query.Label name) = of_node w name (λ id. answer.Text (label_of w id))
answer_of w (query.Value name) = of_node w name (λ id. answer.Text (value_of w id))
answer_of w (query.Set name filter) =
    of_node w name
    (λ id. answer.Set (computed_size_of_set (filter_named filter w) w id) (computed_position_in_set (filter_named filter w) w id))
answer_of w (query.Text name) = of_node w name (λ id. answer.Text (text_in_runs w id))
answer_of w (query.Hit name point filter) = of_node w name (λ id. answer.Node (hit (filter_named filter w) w id point))
answer_of w query.Focus = answer.Node (shown_focus w)
answer_of w (query.Move name at move) =
    of_text w name (λ t. of_position t at (λ p. answer.Position (option_and_then (raw_of t) (moved t p move))))
answer_of w (query.Indexes name at) =
    of_text w name
    (λ t. of_position t at
    (λ p. answer.Indexes (moves.to_global_usv_index t p) (moves.to_global_utf16_index t p) (moves.to_line_index t p)))
answer_of w (query.RangeText name from to) =
    of_text w name (λ t. of_position t from (λ p. of_position t to (λ q. answer.Text (Some (text_between t p q)))))

-- ---- memory

-- answers that are lists or texts allocate
abbrev pub takes_memory : Query → Bool
takes_memory (query.Children name) = true
takes_memory (query.FollowingSiblings name) = true
takes_memory (query.PrecedingSiblings name) = true
takes_memory (query.FilteredChildren name filter) = true
takes_memory (query.FollowingFiltered name filter) = true
takes_memory (query.PrecedingFiltered name filter) = true
takes_memory (query.Label name) = true
takes_memory (query.Value name) = true
takes_memory (query.Set name filter) = false
takes_memory (query.Text name) = true
takes_memory (query.Hit name point filter) = false
takes_memory query.Focus = false
takes_memory (query.Move name at move) = false
takes_memory (query.Indexes name at) = false
takes_memory (query.RangeText name from to) = true
