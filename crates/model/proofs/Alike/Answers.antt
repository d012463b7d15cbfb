-- Worlds of equal shape answer alike.
use Rattle.std.proofs.Common.{◌≡◌, Option, Some, None, refl, sym, ap, subst, ◌∙◌}
use Rattle.std.specs.Prelude.{option_and_then, if◌then◌else◌}
use Rattle.std.specs.Option.{option_map_or}
use Rattle.schema.specs.declared.NodeId.{NodeId}
use Rattle.schema.specs.declared.TreeId.{TreeId}
use Rattle.model.specs.declared.FullNodeId.{FullNodeId}
use Rattle.model.specs.declared.queries.Query.{Query}
use Rattle.model.specs.declared.queries.Query.TheVariants as query
use Rattle.model.specs.World.{World}
use Rattle.model.specs.TextRuns.{supports_text_ranges}
use Rattle.model.specs.FlatText.{FlatText, flat_text}
use Rattle.model.specs.Moves as moves
use Rattle.model.specs.Values.{value_of}
use Rattle.model.specs.Ranges.{text_of, document_range}
use Rattle.model.specs.Answers.{Answer}
use Rattle.model.specs.Answers as answer
use Rattle.model.specs.Queries.{node_named, of_node, of_text, of_position, raw_of, moved, text_between, text_in_runs, answer_of}
use Rattle.model.specs.Shape.{EqualShape}
use Rattle.model.specs.AlikeRuns.{IsAtMost, KeepsSecret}
use Rattle.model.proofs.Text.Outlines.{agree, named_is, shown_is, following_is, preceding_is, children_same, filtered_same, following_same, preceding_same, named_same, hit_same}
use Rattle.model.proofs.Text.Secrets.{one_text, one_value}
use Rattle.model.proofs.Alike.Sets.{size_same, position_same}

module _ (p : FullNodeId) (w v : World) (e : EqualShape p w v) where
  name_is : (name : NodeId × TreeId) → node_named w name ≡ node_named v name
  name_is name = agree (λ u. node_named u name) w v (λ u i. sym (named_is u) i name) e.outlines

  -- of a name that no other node has
  by_name : (a b : FullNodeId → Answer) (o : Option FullNodeId) → ((id : FullNodeId) → o ≡ Some id → id ≡ p) → a p ≡ b p → option_map_or a o answer.NoNode ≡ option_map_or b o answer.NoNode
  by_name a b None only same = refl
  by_name a b (Some id) only same = subst (λ k. a k ≡ b k) (sym (only id refl)) same

  of_secret : (name : NodeId × TreeId) → IsAtMost p w name → (of : World → FullNodeId → Answer) → of w p ≡ of v p → of_node w name (of w) ≡ of_node v name (of v)
  of_secret name only of same = by_name (of w) (of v) (node_named w name) only same ∙ ap (λ o. option_map_or (of v) o answer.NoNode) (name_is name)

  -- what is read off the text, where there is one
  if_text : {A : Type 0} (of : FlatText → A) (none : A) → (if supports_text_ranges w p then of (flat_text w p) else none) ≡ (if supports_text_ranges v p then of (flat_text v p) else none)
  if_text of none =
      ap (λ b. if b then of (flat_text w p) else none) e.first.supported
      ∙ ap of (one_text p w v e)
      ∙ sym (ap (λ b. if b then of (flat_text v p) else none) e.second.supported)

  text_of_secret : (name : NodeId × TreeId) → IsAtMost p w name → (of : FlatText → Answer) → of_text w name of ≡ of_text v name of
  text_of_secret name only of =
      of_secret name only (λ u id. if supports_text_ranges u id then of (flat_text u id) else answer.NotText) (if_text of answer.NotText)

  pub one_answer : (q : Query) → KeepsSecret p w q → answer_of w q ≡ answer_of v q
  one_answer (query.Children name) h = agree (λ u. answer_of u (query.Children name)) w v (λ u. sym (λ i. option_map_or (λ id. answer.Ids (children_same u id i)) (named_is u i name) answer.NoNode)) e.outlines
  one_answer (query.FollowingSiblings name) h = agree (λ u. answer_of u (query.FollowingSiblings name)) w v (λ u. sym (λ i. option_map_or (λ id. answer.Ids (following_is u i id)) (named_is u i name) answer.NoNode)) e.outlines
  one_answer (query.PrecedingSiblings name) h = agree (λ u. answer_of u (query.PrecedingSiblings name)) w v (λ u. sym (λ i. option_map_or (λ id. answer.Ids (preceding_is u i id)) (named_is u i name) answer.NoNode)) e.outlines
  one_answer (query.FilteredChildren name filter) h =
      agree (λ u. answer_of u (query.FilteredChildren name filter)) w v (λ u. sym (λ i. option_map_or (λ id. answer.Ids (filtered_same u (named_same u filter i) i id)) (named_is u i name) answer.NoNode)) e.outlines
  one_answer (query.FollowingFiltered name filter) h =
      agree (λ u. answer_of u (query.FollowingFiltered name filter)) w v (λ u. sym (λ i. option_map_or (λ id. answer.Ids (following_same u (named_same u filter i) i id)) (named_is u i name) answer.NoNode)) e.outlines
  one_answer (query.PrecedingFiltered name filter) h =
      agree (λ u. answer_of u (query.PrecedingFiltered name filter)) w v (λ u. sym (λ i. option_map_or (λ id. answer.Ids (preceding_same u (named_same u filter i) i id)) (named_is u i name) answer.NoNode)) e.outlines
  one_answer (query.Label name) h = absurd h
  one_answer (query.Value name) h = of_secret name h (λ u id. answer.Text (value_of u id)) (ap answer.Text (one_value p w v e))
  one_answer (query.Set name filter) h =
      agree (λ u. answer_of u (query.Set name filter)) w v
      (λ u. sym (λ i. option_map_or (λ id. answer.Set (size_same u (named_same u filter i) id i) (position_same u (named_same u filter i) id i)) (named_is u i name) answer.NoNode)) e.outlines
  one_answer (query.Text name) h = of_secret name h (λ u id. answer.Text (text_in_runs u id)) (ap answer.Text (if_text (λ t. Some (text_of t (document_range t))) None))
  one_answer (query.Hit name point filter) h =
      agree (λ u. answer_of u (query.Hit name point filter)) w v (λ u. sym (λ i. option_map_or (λ id. answer.Node (hit_same u (named_same u filter i) i id point)) (named_is u i name) answer.NoNode)) e.outlines
  one_answer query.Focus h = agree (λ u. answer_of u query.Focus) w v (λ u. sym (λ i. answer.Node (shown_is u i))) e.outlines
  one_answer (query.Move name at move) h = text_of_secret name h (λ t. of_position t at (λ q. answer.Position (option_and_then (raw_of t) (moved t q move))))
  one_answer (query.Indexes name at) h = text_of_secret name h (λ t. of_position t at (λ q. answer.Indexes (moves.to_global_usv_index t q) (moves.to_global_utf16_index t q) (moves.to_line_index t q)))
  one_answer (query.RangeText name from to) h = text_of_secret name h (λ t. of_position t from (λ q. of_position t to (λ r. answer.Text (Some (text_between t q r)))))
