-- What is printed is read off the outline of a world, and off the values and labels that may be shown.
use Rattle.std.proofs.Common.{◌≡◌, ℕ, pos, ◌&&◌, ◌||◌, List, [], ◌∷◌, ◌++◌, Option, Some, None, map, refl, ap, ◌∙◌}
use Rattle.std.specs.Prelude.{codes, filter, flat_map, option_and_then, reverse, unwrap_or, if◌then◌else◌}
use Rattle.std.specs.Option.{option_map_or}
use Rattle.std.specs.List.{list_any}
use Rattle.schema.specs.NodeData.{NodeData}
use Rattle.schema.specs.declared.geometry.WideRect.{WideRect}
use Rattle.role_names.specs.Names.{shown_name}
use Rattle.model.specs.declared.FullNodeId.{FullNodeId}
use Rattle.model.specs.World.{World, Place}
use Rattle.model.specs.Covers.{is_included}
use Rattle.model.specs.declared.queries.NamedFilter.TheVariants.{Common}
use Rattle.model.specs.Filters.{common_filter}
use Rattle.model.specs.Forest.{IsFormed, is_same}
use Rattle.model.specs.Geometry.{bounding_box, direct_transform, hit}
use Rattle.model.specs.Outline.{outline}
use Rattle.model.specs.Upward.{field_at, says, upward, is_within}
use Rattle.model.proofs.Text.Outlines.{IsBlind, funext, reads_or, given_same, says_same, above_is, below_is, box_same, named_same, hit_same}
use Rattle.views.specs.Descendants.{shown_nodes}
use Rattle.atree_script.specs.Printed.{id_text}
use Rattle.atree_script.specs.Replies.{text_line}
use Rattle.hidden_texts.specs.Alike.{DifferInPassword}
use Rattle.hidden_texts.specs.Hidden.{is_in_password, hides_value, hides_label}
use Rattle.hidden_texts.specs.Shown.{shown_value, shown_label}
use Rattle.hidden_texts.proofs.HiddenAlike.{one, in_one, values_one, hidden_labels_one}
use Rattle.hidden_texts.proofs.ShownAlike.{value_shown, label_shown}
use Rattle.find.specs.Found.{shown_from, found}
use Rattle.find.specs.Laws.{TypingPrintsTheSame}
use Rattle.find.specs.Middle.{middle_seen, node_at_middle}
use Rattle.find.specs.Near.{value_text, near_line, near_lines, like_lines, role_lines, hints, sought_text, with_text_like, with_role_of}
use Rattle.find.specs.Printed.{quoted, role_at, name_text, value_line, names_text, path_line, sides_line, hit_text, middle_line, box_text, node_text, nodes_text}
use Rattle.find.specs.Wanted.{Sought, has_role, has_texts, is_text, sent_text}
use Rattle.find.specs.declared.wanted.Roles.{Roles}
use Rattle.find.specs.declared.wanted.Roles.TheVariants.{One, Aria, Any}

-- ---- of the outline

module _ (w : World) where
  abbrev o : World
  o = outline w

  up_same : upward o ≡ upward w
  up_same i id = id ∷ map (λ (p : Place). p.0) (above_is w i id)

  roles_same : role_at o ≡ role_at w
  roles_same i id = reads_or (λ (d : NodeData). shown_name d.role) [] w id (λ d. refl) i

  moves_same : direct_transform o ≡ direct_transform w
  moves_same i id = unwrap_or (given_same w (λ d. d.transform) (λ d. refl) i id) (record { x = pos 0; y = pos 0 })

  filters_same : common_filter o ≡ common_filter w
  filters_same = named_same w Common

  hits_same : hit (common_filter o) o ≡ hit (common_filter w) w
  hits_same = (λ i. hit (filters_same i) o) ∙ hit_same w (common_filter w)

  middles_same : node_at_middle o ≡ node_at_middle w
  middles_same i top r = option_and_then (hits_same i top) (middle_seen (moves_same i top) r)

  within_same : is_within o ≡ is_within w
  within_same i top id = list_any (is_same top) (up_same i id)

  shown_same : shown_from o ≡ shown_from w
  shown_same i top = (if is_included (filters_same i top) then top ∷ [] else []) ++ shown_nodes (filters_same i) (below_is w i top)

-- ---- of two worlds

module _ (p : FullNodeId) (w v : World) (formed : IsFormed w) (alike : DifferInPassword p w v) where
  read_one : {A : Type 0} (of : World → A) → ((u : World) → of (outline u) ≡ of u) → of w ≡ of v
  read_one = one p w v formed alike

  values : shown_value w ≡ shown_value v
  values = funext (shown_value w) (shown_value v) (value_shown p w v formed alike)

  labels : shown_label w ≡ shown_label v
  labels = funext (shown_label w) (shown_label v) (label_shown p w v formed alike)

  hidden_values : hides_value w ≡ hides_value v
  hidden_values = values_one p w v formed alike

  hidden_labels : hides_label w ≡ hides_label v
  hidden_labels = hidden_labels_one p w v formed alike

  roles : role_at w ≡ role_at v
  roles = read_one role_at roles_same

  names : name_text w ≡ name_text v
  names i id = codes " " ++ roles i id ++ (if hidden_labels i id then codes " label hidden" else quoted (labels i id))

  value_lines : value_line w ≡ value_line v
  value_lines i id = codes "  value " ++ (if hidden_values i id then codes "hidden\n" else text_line (values i id))

  all_names : (ids : List FullNodeId) → names_text w ids ≡ names_text v ids
  all_names [] = refl
  all_names (id ∷ ids) = λ i. names i id ++ flat_map (λ a. codes " >" ++ names i a) ids

  ways_up : upward w ≡ upward v
  ways_up = read_one upward up_same

  paths : path_line w ≡ path_line v
  paths = funext (path_line w) (path_line v) (λ id. ap (λ names. codes "  path" ++ names ++ codes "\n") (all_names (reverse (upward w id)) ∙ (λ i. names_text v (reverse (ways_up i id)))))

  places : is_within w ≡ is_within v
  places = read_one is_within within_same

  hits : hit_text w ≡ hit_text v
  hits i id found =
      if is_same found id then codes "itself\n" else (if places i id found then codes "within" else codes "perhaps covered by") ++ codes " " ++ id_text found ++ names i found ++ codes "\n"

  middles : node_at_middle w ≡ node_at_middle v
  middles = read_one node_at_middle middles_same

  middle_lines : middle_line w ≡ middle_line v
  middle_lines i top id r = codes "  middle " ++ option_map_or (hits i id) (middles i top r) (codes "none\n")

  boxes_at : (top id : FullNodeId) (box : Option WideRect) → box_text w top id box ≡ box_text v top id box
  boxes_at top id None = refl
  boxes_at top id (Some r) = λ i. sides_line r ++ middle_lines i top id r

  boxes : bounding_box w ≡ bounding_box v
  boxes = read_one bounding_box box_same

  box_texts : (top id : FullNodeId) → box_text w top id (bounding_box w id) ≡ box_text v top id (bounding_box v id)
  box_texts top id = boxes_at top id (bounding_box w id) ∙ (λ i. box_text v top id (boxes i id))

  nodes : (top id : FullNodeId) → node_text w top id ≡ node_text v top id
  nodes top id i = id_text id ++ codes "\n" ++ value_lines i id ++ paths i id ++ box_texts top id i

  all_nodes : (top : FullNodeId) (ids : List FullNodeId) → nodes_text w top ids ≡ nodes_text v top ids
  all_nodes top [] = refl
  all_nodes top (id ∷ ids) = λ i. flat_map (λ a. nodes top a i) (id ∷ ids)

  -- ---- what is found

  with_role : (sought : Sought) → says (has_role sought) w ≡ says (has_role sought) v
  with_role sought = read_one (says (has_role sought)) (λ u. says_same u (has_role sought) (λ d. refl))

  within : is_in_password w ≡ is_in_password v
  within = in_one p w v formed alike

  field_one : (field : NodeData → Option (List ℕ)) → IsBlind field → field_at field w ≡ field_at field v
  field_one field h = read_one (field_at field) (λ u. given_same u field h)

  sent_one : (field : NodeData → Option (List ℕ)) → IsBlind field → sent_text field w ≡ sent_text field v
  sent_one field h = λ i id. if within i id then None else field_one field h i id

  texts : (sought : Sought) → has_texts sought w ≡ has_texts sought v
  texts sought i id =
      is_text sought.matching sought.label (labels i id) && is_text sought.matching sought.text (values i id)
      && (is_text sought.matching sought.any (labels i id) || is_text sought.matching sought.any (values i id)
      || is_text sought.matching sought.any (sent_one (λ d. d.placeholder) (λ d. refl) i id)
      || is_text sought.matching sought.any (sent_one (λ d. d.description) (λ d. refl) i id))

  finds : (sought : Sought) (top : FullNodeId) → found sought w top ≡ found sought v top
  finds sought top i = filter (λ id. with_role sought i id && texts sought i id) (read_one shown_from shown_same i top)

  -- ---- what comes near

  near : (how : List ℕ) (id : FullNodeId) → near_line how w id ≡ near_line how v id
  near how id i = codes "  " ++ how ++ id_text id ++ names i id ++ value_text (values i id) ++ codes "\n"

  all_near : (how : List ℕ) (sought : Sought) (top : FullNodeId) → near_lines how w (found sought w top) ≡ near_lines how v (found sought v top)
  all_near how sought top i = flat_map (λ id. near how id i) (finds sought top i)

  likes : (top : FullNodeId) (text : Option (List ℕ)) → like_lines w top text ≡ like_lines v top text
  likes top None = refl
  likes top (Some text) = all_near (codes "like ") (with_text_like text) top

  of_roles : (roles : Roles) (sought : Sought) (top : FullNodeId) → role_lines roles sought w top ≡ role_lines roles sought v top
  of_roles (One role) sought top = all_near (codes "role ") (with_role_of sought) top
  of_roles (Aria name) sought top = all_near (codes "role ") (with_role_of sought) top
  of_roles Any sought top = refl

  all_hints : (sought : Sought) (top : FullNodeId) (ids : List FullNodeId) → hints sought w top ids ≡ hints sought v top ids
  all_hints sought top [] = λ i. likes top (sought_text sought) i ++ of_roles sought.roles sought top i
  all_hints sought top (id ∷ ids) = refl

pub typing_prints_the_same : TypingPrintsTheSame
typing_prints_the_same p w v formed alike near sought top =
    (λ i. all_nodes p w v formed alike top (found sought w top) i ++ (if near then all_hints p w v formed alike sought top (found sought w top) i else []))
    ∙ ap (λ ids. nodes_text v top ids ++ (if near then hints sought v top ids else [])) (finds p w v formed alike sought top)
