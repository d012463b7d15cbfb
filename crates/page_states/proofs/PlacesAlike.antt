-- What is shown of a node is read off the outline of its world, and off the texts that may be shown.
use Rattle.std.proofs.Common.{◌≡◌, ℕ, ◌-◌, ◌^◌, ◌==◌, Bool, false, cond, not, ◌&&◌, ◌||◌, List, [], ◌∷◌, ◌++◌, drop, length, map, min, Option, Some, None, codes, inl, inr, refl, sym, ap, ◌∙◌}
use Rattle.std.specs.Prelude.{find, is_none, is_some, option_and_then, option_map, slice_get, unwrap_or, if◌then◌else◌}
use Rattle.std.specs.Option.{option_map_or}
use Rattle.std.specs.List.{list_any}
use Rattle.schema.specs.NodeData.{NodeData}
use Rattle.schema.specs.Roles.{same_role}
use Rattle.schema.specs.declared.Role.TheVariants.{TextRun}
use Rattle.schema.specs.declared.geometry.WideRect.{WideRect}
use Rattle.model.specs.declared.FullNodeId.{FullNodeId}
use Rattle.model.specs.declared.filters.FilterResult.{FilterResult}
use Rattle.model.specs.declared.filters.FilterResult.TheVariants.{Include, ExcludeNode, ExcludeSubtree}
use Rattle.model.specs.declared.queries.NamedFilter.TheVariants.{Common}
use Rattle.model.specs.Covers.{is_cut_off, is_included}
use Rattle.model.specs.Filters.{base_filter, common_filter, first_answer, is_hidden, is_transparent}
use Rattle.model.specs.FocusFound.{is_focused, is_focused_in_tree}
use Rattle.model.specs.Forest.{IsFormed, is_same}
use Rattle.model.specs.Geometry.{bounding_box}
use Rattle.model.specs.Lists.{ancestors, nodes_of}
use Rattle.model.specs.Outline.{outline}
use Rattle.model.specs.RoleClasses.{is_see_through}
use Rattle.model.specs.Upward.{says, upward}
use Rattle.model.specs.World.{World, Place as At, children, data_of, root_of}
use Rattle.model.proofs.Text.Outlines.{above_is, below_is, box_same, children_same, focus_same, focused_same, named_same, reads_or, says_same, IsBlind}
use Rattle.phrases.specs.States.{where_it_is}
use Rattle.views.specs.Nodes.{world_at, id_at, data_at}
use Rattle.views.proofs.Climbing.{data_shown}
use Rattle.hidden_texts.specs.Alike.{DifferInPassword}
use Rattle.hidden_texts.proofs.HiddenAlike.{one}
use Rattle.page_states.specs.declared.boxes.Frame.{Frame}
use Rattle.page_states.specs.declared.marks.Mark.{Mark}
use Rattle.page_states.specs.declared.places.Place.{Place}
use Rattle.page_states.specs.Boxes.{frame_of}
use Rattle.page_states.specs.Drawn.{begins_with_run, caption_in, drawn_text, included_class, is_run_with_box, transparent_class}
use Rattle.page_states.specs.Known.{clip_frame, clip_of, depth_at, is_beyond, is_excluded_alone, is_left_out, is_not_drawn}
use Rattle.page_states.specs.Named.{role_bold}
use Rattle.page_states.specs.Pictures.{rect_text}
use Rattle.page_states.specs.Places.{from_node, from_root, shown_nodes, IsPlace}
use Rattle.page_states.specs.Rows.{focus_word, row_text, words_text}
use Rattle.page_states.specs.Said.{caption_of, caption_shown, hidden_at, label_shown, node_label, row_texts, state_words}
use Rattle.page_states.specs.ShownLaws.{LookAlike, MayDiffer, TypingLooksTheSame}
use Rattle.page_states.specs.Written.{small_id, word_text}
use Rattle.page_states.proofs.SaidAlike.{typing_says_the_same}

-- ---- a place by its world and its id

abbrev data_text : (NodeData → List ℕ) → World → FullNodeId → List ℕ
data_text of w id = option_map_or of (data_of w id) []

abbrev left_out_said : Bool → Bool → Option (List ℕ)
left_out_said left_out hidden = if left_out then Some (if hidden then codes "hidden" else codes "clipped") else None

-- the row, by what it is made of
abbrev row_made : List ℕ → List ℕ → List ℕ → Option (List ℕ) → Bool → Bool → FullNodeId → List ℕ
row_made role texts words focus left_out hidden id =
    role ++ texts ++ words ++ word_text (codes "em") (codes "f") focus ++ word_text (codes "em") (codes "h") (left_out_said left_out hidden)
    ++ codes " " ++ small_id id

abbrev said_row : World → FullNodeId → List ℕ
said_row w id =
    row_made (data_text (λ d. role_bold d.role) w id) (row_texts (hidden_at w id) w id) (data_text (λ d. words_text (state_words d)) w id)
    (focus_word w id) (is_not_drawn w id) (is_hidden w id) id

abbrev text_said : World → FullNodeId → Option (List ℕ)
text_said w id = if is_none (node_label w id) && begins_with_run w id then None else caption_of w id

abbrev class_said : FilterResult → Option Mark → List ℕ
class_said answer mark = if is_included answer then included_class mark else transparent_class mark

abbrev drawn_made : Option Frame → Option WideRect → FilterResult → Option Mark → Bool → Option (List ℕ) → List ℕ
drawn_made None box answer mark leaf text = []
drawn_made (Some frame) box answer mark leaf text =
    option_map_or (λ rect. rect_text (class_said answer mark) (frame_of rect) ++ caption_in frame (frame_of rect) leaf text) box []

abbrev box_said : World → FullNodeId → Option WideRect
box_said w id = if is_not_drawn w id then None else bounding_box w id

abbrev is_leaf_at : World → FullNodeId → Bool
is_leaf_at w id = length (children w id) == 0

module _ (a : Place) (is : IsPlace a) where
  abbrev wa : World
  wa = world_at a.node

  abbrev ida : FullNodeId
  ida = id_at a.node

  data_is : data_of wa ida ≡ Some (data_at a.node)
  data_is = data_shown wa a.node refl

  row_said : row_text a ≡ said_row wa ida
  row_said i =
      row_made (option_map_or (λ d. role_bold d.role) (sym data_is i) []) (row_texts (is.texts i) wa ida)
      (option_map_or (λ d. words_text (state_words d)) (sym data_is i) []) (focus_word wa ida) (is.left_out i) (is.hidden i) ida

  box_is : (if a.is_left_out then None else a.rect) ≡ box_said wa ida
  box_is i = if is.left_out i then None else is.box i

  drawn_said : (frame : Option Frame) → drawn_text frame a ≡ drawn_made frame (box_said wa ida) (common_filter wa ida) a.mark (is_leaf_at wa ida) (text_said wa ida)
  drawn_said None = refl
  drawn_said (Some frame) = λ i.
      drawn_made (Some frame) (box_is i) (is.answer i) a.mark (is_leaf_at wa ida)
      (if is_none (label_shown (is.texts i).label wa ida) && begins_with_run wa ida then None else caption_shown (is.texts i) wa ida)

-- ---- of the outline

module _ (w : World) where
  abbrev o : World
  o = outline w

  up_same : upward o ≡ upward w
  up_same i id = id ∷ map (λ (p : At). p.0) (above_is w i id)

  ancestors_same : ancestors o ≡ ancestors w
  ancestors_same i id = map (λ (p : At). p.0) (above_is w i id)

  texts_same : (of : NodeData → List ℕ) → IsBlind of → data_text of o ≡ data_text of w
  texts_same of blind i id = reads_or of [] w id blind i

  hidden_same : is_hidden o ≡ is_hidden w
  hidden_same i id = list_any (says_same w (λ d. d.hidden) (λ d. refl) i) (up_same i id)

  transparent_same : is_transparent o ≡ is_transparent w
  transparent_same = says_same w (λ d. is_some d.tree_id || is_see_through d.role) (λ d. refl)

  settled_same : first_answer o ≡ first_answer w
  settled_same i id =
      cond (focused_same w i id) (Some Include) (cond (hidden_same i id) (Some ExcludeSubtree) (cond (transparent_same i id) (Some ExcludeNode) None))

  base_same : base_filter o ≡ base_filter w
  base_same i id = unwrap_or (settled_same i id) Include

  common_same : common_filter o ≡ common_filter w
  common_same = named_same w Common

  left_out_same : is_left_out o ≡ is_left_out w
  left_out_same i id = list_any (λ a. is_cut_off (common_same i a)) (up_same i id)

  clip_frame_same : clip_frame o ≡ clip_frame w
  clip_frame_same i id = if says_same w (λ d. d.clips_children) (λ d. refl) i id then box_same w i id else None

  clip_same : clip_of o ≡ clip_of w
  clip_same i id = option_and_then (clip_frame_same i) (find (λ a. is_included (base_same i a)) (ancestors_same i id))

  not_drawn_same : is_not_drawn o ≡ is_not_drawn w
  not_drawn_same i id = left_out_same i id || (is_excluded_alone (common_same i id) && is_beyond (clip_same i id) (box_same w i id))

  depth_same : depth_at o ≡ depth_at w
  depth_same i id = min (length (ancestors_same i id)) (2 ^ 64 - 1)

  in_tree_same : is_focused_in_tree o ≡ is_focused_in_tree w
  in_tree_same i id = option_map_or (is_same id) (focus_same w i) false

  focus_word_same : focus_word o ≡ focus_word w
  focus_word_same i id =
      if focused_same w i id then Some (codes "focus") else where_it_is (in_tree_same i id && not w.host_focused) (codes "focus in the tree")

  below_same : children o ≡ children w
  below_same i id = children_same w id i

  run_same : is_run_with_box o ≡ is_run_with_box w
  run_same = says_same w (λ d. same_role d.role TextRun && is_some d.bounds) (λ d. refl)

  begins_same : begins_with_run o ≡ begins_with_run w
  begins_same i id = option_map_or (run_same i) (slice_get (below_same i id) 0) false

-- ---- of two worlds

-- the same is read of a node in both
record ReadAlike (w v : World) (id : FullNodeId) : Type 0 where
  pub row : said_row w id ≡ said_row v id
  pub depth : depth_at w id ≡ depth_at v id
  pub answer : common_filter w id ≡ common_filter v id
  pub below : children w id ≡ children v id
  pub left_out : is_not_drawn w id ≡ is_not_drawn v id
  pub box : box_said w id ≡ box_said v id
  pub text : text_said w id ≡ text_said v id

read_in_one : (w v : World) → w ≡ v → (id : FullNodeId) → ReadAlike w v id
read_in_one w v e id = record {
  row = λ i. said_row (e i) id;
  depth = λ i. depth_at (e i) id;
  answer = λ i. common_filter (e i) id;
  below = λ i. children (e i) id;
  left_out = λ i. is_not_drawn (e i) id;
  box = λ i. box_said (e i) id;
  text = λ i. text_said (e i) id;
}

module _ (p : FullNodeId) (w v : World) (formed : IsFormed w) (alike : DifferInPassword p w v) (id : FullNodeId) where
  read_one : {A : Type 0} (of : World → A) → ((u : World) → of (outline u) ≡ of u) → of w ≡ of v
  read_one = one p w v formed alike

  pub rows_same : said_row w id ≡ said_row v id
  rows_same i =
      row_made (read_one (data_text (λ d. role_bold d.role)) (λ u. texts_same u (λ d. role_bold d.role) (λ d. refl)) i id)
      ((typing_says_the_same p w v formed alike id).row i)
      (read_one (data_text (λ d. words_text (state_words d))) (λ u. texts_same u (λ d. words_text (state_words d)) (λ d. refl)) i id)
      (read_one focus_word focus_word_same i id) (read_one is_not_drawn not_drawn_same i id) (read_one is_hidden hidden_same i id) id

  boxes_same : box_said w id ≡ box_said v id
  boxes_same i = if read_one is_not_drawn not_drawn_same i id then None else read_one bounding_box box_same i id

  text_same : text_said w id ≡ text_said v id
  text_same i =
      if is_none ((typing_says_the_same p w v formed alike id).label i) && read_one begins_with_run begins_same i id then None
      else (typing_says_the_same p w v formed alike id).caption i

  read_in_both : ReadAlike w v id
  read_in_both = record {
    row = rows_same;
    depth = λ i. read_one depth_at depth_same i id;
    answer = λ i. read_one common_filter common_same i id;
    below = λ i. read_one children below_same i id;
    left_out = λ i. read_one is_not_drawn not_drawn_same i id;
    box = boxes_same;
    text = text_same;
  }

read_alike : (p : FullNodeId) (w v : World) → IsFormed w → MayDiffer p w v → (id : FullNodeId) → ReadAlike w v id
read_alike p w v formed (inl same) id = read_in_one w v same id
read_alike p w v formed (inr alike) id = read_in_both p w v formed alike id

drawn_alike : (w v : World) (id : FullNodeId) → ReadAlike w v id → (frame : Option Frame) (mark : Option Mark) →
    drawn_made frame (box_said w id) (common_filter w id) mark (is_leaf_at w id) (text_said w id)
    ≡ drawn_made frame (box_said v id) (common_filter v id) mark (is_leaf_at v id) (text_said v id)
drawn_alike w v id read frame mark i = drawn_made frame (read.box i) (read.answer i) mark (length (read.below i) == 0) (read.text i)

module _ (w v : World) (id : FullNodeId) (read : ReadAlike w v id) where
  -- of places of the two worlds
  looks_at : (a b : Place) → IsPlace a → IsPlace b → world_at a.node ≡ w → world_at b.node ≡ v → id_at a.node ≡ id → id_at b.node ≡ id → LookAlike a b
  looks_at a b is_a is_b at_w at_v a_is b_is = record {
    id = a_is ∙ sym b_is;
    depth = is_a.depth ∙ (λ i. depth_at (at_w i) (a_is i)) ∙ read.depth ∙ sym (is_b.depth ∙ λ i. depth_at (at_v i) (b_is i));
    answer = is_a.answer ∙ (λ i. common_filter (at_w i) (a_is i)) ∙ read.answer ∙ sym (is_b.answer ∙ λ i. common_filter (at_v i) (b_is i));
    row = row_said a is_a ∙ (λ i. said_row (at_w i) (a_is i)) ∙ read.row ∙ sym (row_said b is_b ∙ λ i. said_row (at_v i) (b_is i));
    children = (λ i. children (at_w i) (a_is i)) ∙ read.below ∙ sym (λ i. children (at_v i) (b_is i));
    left_out = is_a.left_out ∙ (λ i. is_not_drawn (at_w i) (a_is i)) ∙ read.left_out ∙ sym (is_b.left_out ∙ λ i. is_not_drawn (at_v i) (b_is i));
    box = box_is a is_a ∙ (λ i. box_said (at_w i) (a_is i)) ∙ read.box ∙ sym (box_is b is_b ∙ λ i. box_said (at_v i) (b_is i));
    drawn = λ frame mark.
        drawn_said a is_a frame
        ∙ (λ i. drawn_made frame (box_said (at_w i) (a_is i)) (common_filter (at_w i) (a_is i)) (mark i) (is_leaf_at (at_w i) (a_is i)) (text_said (at_w i) (a_is i)))
        ∙ drawn_alike w v id read frame b.mark
        ∙ sym (drawn_said b is_b frame ∙ λ i. drawn_made frame (box_said (at_v i) (b_is i)) (common_filter (at_v i) (b_is i)) b.mark (is_leaf_at (at_v i) (b_is i)) (text_said (at_v i) (b_is i)));
  }

-- the nodes that are shown are the same
module _ (w : World) where
  from_same : from_node (outline w) ≡ from_node w
  from_same i top = top ∷ drop 1 (top ∷ nodes_of (below_is w i top))

  roots_same : (root : Option FullNodeId) → from_root (outline w) root ≡ from_root w root
  roots_same None = refl
  roots_same (Some root) = λ i. from_same i root

  shown_same : shown_nodes (outline w) ≡ shown_nodes w
  shown_same = roots_same (root_of w 0)

pub nodes_one : (p : FullNodeId) (w v : World) → IsFormed w → MayDiffer p w v → shown_nodes w ≡ shown_nodes v
nodes_one p w v formed (inl same) = ap shown_nodes same
nodes_one p w v formed (inr alike) = one p w v formed alike shown_nodes shown_same

pub typing_looks_the_same : TypingLooksTheSame
typing_looks_the_same p w v formed alike a b is_a is_b at_w at_v same =
    looks_at w v (id_at b.node) (read_alike p w v formed alike (id_at b.node)) a b is_a is_b at_w at_v same refl
