-- In two worlds that differ in what is typed into a password alone, the same is said of each node, of the focus, and of each event.
use Rattle.std.proofs.Common.{◌≡◌, ◌≢◌, ℕ, ◌-◌, ◌^◌, ◌⊎◌, min, slice_get, inl, inr, Bool, true, false, not, ◌&&◌, ◌||◌, cond, List, [], ◌∷◌, map, Option, Some, None, find, unwrap_or, option_map, is_some, is_none, refl, sym, ap, subst, ◌∙◌, if◌then◌else◌}
use Rattle.std.specs.Prelude.{count_by}
use Rattle.std.specs.Option.{option_map_or, option_or, option_and_then}
use Rattle.std.specs.List.{list_any}
use Rattle.std.proofs.lemmas.Option.{same_Some}
use Rattle.std.proofs.lemmas.Bool.{and_parts}
use Rattle.schema.specs.NodeData.{NodeData}
use Rattle.schema.specs.Roles.{same_role}
use Rattle.schema.specs.declared.Role.TheVariants.{TextRun}
use Rattle.schema.specs.declared.values.Live.TheVariants.{Off}
use Rattle.model.specs.declared.FullNodeId.{FullNodeId}
use Rattle.model.specs.declared.filters.FilterResult.TheVariants.{Include, ExcludeNode, ExcludeSubtree}
use Rattle.model.specs.Covers.{is_included}
use Rattle.model.specs.Events.{seen_in}
use Rattle.model.specs.Forest.{is_same, below}
use Rattle.model.specs.Frontier.{frontier}
use Rattle.model.specs.Filters.{is_hidden}
use Rattle.model.specs.Focus.{IsEffectiveFocus, IsFocusedNode, Resolves}
use Rattle.model.specs.Lists.{ancestors}
use Rattle.model.specs.Outline.{outline, without_text}
use Rattle.model.specs.RoleClasses.{is_text_input, is_password_input, is_multiline, is_see_through}
use Rattle.model.specs.TextRuns.{is_password}
use Rattle.model.specs.Upward.{says, says_upward, field_at, is_within}
use Rattle.model.specs.Views.{live, computed_size_of_set, computed_position_in_set}
use Rattle.model.specs.World.{World, Place, HasData, data_of}
use Rattle.model.proofs.Alike.Bare as bare
use Rattle.model.proofs.Alike.Bare.{SameBare}
use Rattle.model.proofs.Alike.Sets.{size_same, position_same}
use Rattle.model.proofs.Text.Outlines.{IsBlind, says_same, given_same, inherited_same, above_is, below_is, reads_or}
use Rattle.views.proofs.Climbing.{rest_above}
use Rattle.hidden_texts.specs.Alike.{DifferInPassword}
use Rattle.hidden_texts.specs.Hidden.{is_in_password, hides_text}
use Rattle.hidden_texts.proofs.HiddenAlike.{in_one, values_one, hidden_labels_one, texts_one, data_one, is_other}
use Rattle.hidden_texts.proofs.ShownAlike.{value_shown, label_shown}
use Rattle.phrases.specs.declared.focus.Focus.{Focus}
use Rattle.phrases.specs.declared.sayings.Dialog.{Dialog}
use Rattle.phrases.specs.News.{news}
use Rattle.phrases.specs.Roles.{role_word}
use Rattle.phrases.specs.Sayings.{label_line, value_line, description_line, group_line, landmark_line, listing_line}
use Rattle.phrases.specs.Voices.{Speech, said_later}
use Rattle.speaking.specs.Changes.{label_said, toggles_said, flags_said, change_said, SaysChange}
use Rattle.speaking.specs.Dialogs.{WasInside, WasOutside, Enters, ShowsDialog, SaysDialog, SaysEntered, SaysFocus, SaysMoved, around_said}
use Rattle.speaking.specs.Events.{SaysAdded, SaysUpdated}
use Rattle.speaking.specs.Said.{said_if}
use Rattle.speaking.specs.Around.{around, was_in, entered_said}
use Rattle.speaking.specs.Groups.{is_group, role_word_at, group_named, group_said}
use Rattle.speaking.specs.Headers.{column_header, row_header, was_header, header_said, headers_said}
use Rattle.speaking.specs.Laws.{AreAlike, added, updated, moved, removed, BeginsAlike, SaysAlike}
use Rattle.speaking.specs.declared.news.News.{News}
use Rattle.speaking.specs.Above.{above_of, region_of}
use Rattle.speaking.specs.Holders.{speaks_for_runs, holder_answer, speaks_itself}
use Rattle.speaking.specs.Landmarks.{is_landmark, landmark_named, landmark_said, is_list, items_of, list_named, list_said}
use Rattle.speaking.specs.Levels.{is_tree_item, depth_in_tree, level_said}
use Rattle.speaking.specs.Lines.{caret_said}
use Rattle.speaking.specs.LiveTexts.{is_live, is_told, own_text, unless_blank, told_text, TellsNew, TellsChange}
use Rattle.speaking.specs.News.{Notes}
use Rattle.speaking.specs.NodeTexts.{number_said, value_said, placeholder_said, description_said, shown, instead, state_said, listed_answer, place_from, place_said, is_edited, is_said_by_line, ShowsFocus}
use Rattle.speaking.proofs.HeadersAlike.{column_is, row_is}
use Rattle.speaking.proofs.LinesAlike.{caret_is}
use Rattle.speaking.proofs.Plain.{not_true, left_false, right_false, plain_node}
use Rattle.speaking.proofs.Same.{same, one_of, there}

-- ---- the focus of worlds of one outline

module _ {m n : World} (b : SameBare m n) where
  effective : (id : FullNodeId) → IsEffectiveFocus m id → IsEffectiveFocus n id
  effective id h = let e = bare.carried b id h.1 h.2 in (bare.chain b id h.0, e.0, e.1, ap (λ (d : NodeData). d.tree_id) e.2 ∙ h.3)

  resolves : (id active : FullNodeId) → Resolves m id active → Resolves n id active
  resolves id active h = let e = bare.carried b id h.0 h.1 in (e.0, e.1, ap (λ (d : NodeData). d.active_descendant) e.2 ∙ h.2, h.3, bare.node b active h.4)

pub focused_node : {m n : World} → SameBare m n → (id : FullNodeId) → IsFocusedNode m id → IsFocusedNode n id
focused_node {m} {n} b id h = (sym b.host ∙ h.0, h.1, effective b h.1 h.2, by_active h.3)
  where
    by_active : ((id ≡ h.1) × ((a : FullNodeId) → ¬ (Resolves m h.1 a))) ⊎ ((id ≢ h.1) × Resolves m h.1 id) → ((id ≡ h.1) × ((a : FullNodeId) → ¬ (Resolves n h.1 a))) ⊎ ((id ≢ h.1) × Resolves n h.1 id)
    by_active (inl q) = inl (q.0, λ a r. q.1 a (resolves (bare.turned b) h.1 a r))
    by_active (inr q) = inr (q.0, resolves b h.1 id q.1)

-- ---- what isn't hidden, of an outline

hidden_same : (u : World) → is_hidden (outline u) ≡ is_hidden u
hidden_same u i id = list_any (says_same u (λ d. d.hidden) (λ d. refl) i) (id ∷ map (λ (q : Place). q.0) (above_is u i id))

listed_same : (u : World) → listed_answer (outline u) ≡ listed_answer u
listed_same u i id = cond (hidden_same u i id) ExcludeSubtree (cond (says_same u (λ d. is_some d.tree_id || is_see_through d.role) (λ d. refl) i id) ExcludeNode Include)

-- ---- what is said of a node

module _ (p : FullNodeId) (w v : World) (alike : AreAlike p w v) where
  abbrev typed : DifferInPassword p w v
  typed = alike.typed

  inputs_one : says (λ d. is_text_input d.role) w ≡ says (λ d. is_text_input d.role) v
  inputs_one = one_of p w v alike (says (λ d. is_text_input d.role)) (λ u. says_same u (λ d. is_text_input d.role) (λ d. refl))

  hints_one : field_at (λ d. d.placeholder) w ≡ field_at (λ d. d.placeholder) v
  hints_one = one_of p w v alike (field_at (λ d. d.placeholder)) (λ u. given_same u (λ d. d.placeholder) (λ d. refl))

  hint_is : (id : FullNodeId) → placeholder_said w id ≡ placeholder_said v id
  hint_is id i = if texts_one p w v alike.formed typed i id then None else cond (inputs_one i id && alike.blank id i) (hints_one i id) None

  size_is : (id : FullNodeId) → computed_size_of_set (listed_answer w) w id ≡ computed_size_of_set (listed_answer v) v id
  size_is id =
      one_of p w v alike (λ u. computed_size_of_set (listed_answer u) u id) (λ u. size_same u (listed_answer (outline u)) id ∙ (λ i. computed_size_of_set (listed_same u i) u id))

  position_is : (id : FullNodeId) → computed_position_in_set (listed_answer w) w id ≡ computed_position_in_set (listed_answer v) v id
  position_is id =
      one_of p w v alike (λ u. computed_position_in_set (listed_answer u) u id)
      (λ u. position_same u (listed_answer (outline u)) id ∙ (λ i. computed_position_in_set (listed_same u i) u id))

  depth_is : (id : FullNodeId) → depth_in_tree w id ≡ depth_in_tree v id
  depth_is id =
      one_of p w v alike (λ u. depth_in_tree u id)
      (λ u i. min (count_by (says_same u is_tree_item (λ d. refl) i) (id ∷ map (λ (q : Place). q.0) (above_is u i id))) (2 ^ 64 - 1))

  place_is : (id : FullNodeId) → place_said w id ≡ place_said v id
  place_is id i = place_from (size_is id i) (position_is id i)

  -- of data that are the same but for the text
  module _ (id : FullNodeId) (d e : NodeData) (s : without_text d ≡ without_text e) where
    number_is : number_said w id d ≡ number_said v id e
    number_is i = if values_one p w v alike.formed typed i id || is_password_input (s i).role then None else (s i).numeric_value

    pub value_is : value_said w id d ≡ value_said v id e
    value_is i = shown (value_shown p w v alike.formed typed id i) (number_is i)

    pub description_is : description_said w id d ≡ description_said v id e
    description_is i = if in_one p w v alike.formed typed i id then None else (s i).description

    pub edited_is : is_edited w id d ≡ is_edited v id e
    edited_is i = is_text_input (s i).role && (is_none (s i).numeric_value && not (texts_one p w v alike.formed typed i id))

    -- one that is edited isn't hidden
    open_text : is_edited w id d ≡ true → hides_text w id ≡ false
    open_text is =
        let first = and_parts (is_text_input d.role) (is_none d.numeric_value && not (hides_text w id)) is in
        not_true (hides_text w id) (and_parts (is_none d.numeric_value) (not (hides_text w id)) first.1).1

    by_line : (b : Bool) → is_edited w id d ≡ b → is_said_by_line w id d ≡ is_said_by_line v id e
    by_line false e' =
        ap (λ b. b && (is_multiline d.role && is_some (caret_said w id))) e'
        ∙ sym (ap (λ b. b && (is_multiline e.role && is_some (caret_said v id))) (sym edited_is ∙ e'))
    by_line true e' =
        let carets : caret_said w id ≡ caret_said v id = caret_is p w v alike id (open_text e') in
        λ i. edited_is i && (is_multiline (s i).role && is_some (carets i))

    level_is : level_said w id d ≡ level_said v id e
    level_is i = option_or (s i).level (if is_tree_item (s i) then Some (depth_is id i) else None)

    by_line_is : is_said_by_line w id d ≡ is_said_by_line v id e
    by_line_is = by_line (is_edited w id d) refl

    pub shows_focus : (f : Focus) → ShowsFocus w id d f → ShowsFocus v id e f
    shows_focus f h = record {
      role = h.role ∙ ap (λ (x : NodeData). role_word x.role) s;
      label = h.label ∙ ap (news None) (label_shown p w v alike.formed typed id);
      hidden_label = h.hidden_label ∙ (λ i. hidden_labels_one p w v alike.formed typed i id);
      value = h.value ∙ (λ i. if by_line_is i then None else value_is i);
      hidden_value = h.hidden_value ∙ (λ i. values_one p w v alike.formed typed i id);
      placeholder = h.placeholder ∙ (λ i. instead (value_is i) (news None (hint_is id i)));
      state = h.state ∙ ap state_said s;
      popup = h.popup ∙ ap (λ (x : NodeData). x.has_popup) s;
      level = h.level ∙ level_is;
      place = h.place ∙ place_is id;
      description = h.description ∙ ap (news None) description_is;
    }

    pub shows_dialog : (g : Dialog) → ShowsDialog w id d g → ShowsDialog v id e g
    shows_dialog g h = record {
      role = h.role ∙ ap (λ (x : NodeData). role_word x.role) s;
      label = h.label ∙ ap (news None) (label_shown p w v alike.formed typed id);
      hidden_label = h.hidden_label ∙ (λ i. hidden_labels_one p w v alike.formed typed i id);
      modal = h.modal ∙ ap (λ (x : NodeData). x.modal) s;
    }

  -- ---- live regions

  pub live_is : (id : FullNodeId) → live w id ≡ live v id
  live_is id = one_of p w v alike (λ u. live u id) (λ u i. unwrap_or (inherited_same u (λ d. d.live) (λ d. refl) i id) Off)

  hidden_is : (id : FullNodeId) → is_hidden w id ≡ is_hidden v id
  hidden_is id = one_of p w v alike (λ u. is_hidden u id) (λ u i. hidden_same u i id)

  busy_is : (id : FullNodeId) → says_upward (λ d. d.busy) w id ≡ says_upward (λ d. d.busy) v id
  busy_is id =
      one_of p w v alike (λ u. says_upward (λ d. d.busy) u id) (λ u i. list_any (says_same u (λ d. d.busy) (λ d. refl) i) (id ∷ map (λ (q : Place). q.0) (above_is u i id)))

  told_is : (id : FullNodeId) (d e : NodeData) → without_text d ≡ without_text e → is_told (above_of w id) d ≡ is_told (above_of v id) e
  told_is id d e s i =
      is_live (live_is id i) && (not (is_text_input (s i).role) && (not (hidden_is id i) && (not (busy_is id i) && not (in_one p w v alike.formed typed i id))))

  -- what is above a node that is in no password has the same data in both
  above_one : (up : List FullNodeId) (id : FullNodeId) → ancestors w id ≡ up → list_any (is_password w) up ≡ false →
      find (λ a. is_included (holder_answer w a)) up ≡ find (λ a. is_included (holder_answer v a)) up
  above_one [] id e out = refl
  above_one (q ∷ up) id e out =
      let rest : ancestors w q ≡ up = rest_above w alike.formed id q up e in
      let plain : is_password w q ≡ false = left_false (is_password w q) (list_any (is_password w) up) out in
      let free : list_any (is_password w) up ≡ false = right_false (is_password w q) (list_any (is_password w) up) out in
      let facts : data_of w q ≡ data_of v q = data_one p w v alike.formed typed q (is_other p w v alike.formed typed q plain) (ap (list_any (is_password w)) rest ∙ free) in
      let more = above_one up q rest free in
      λ i. cond (is_included (if option_map_or speaks_for_runs (facts i) false then Include else ExcludeNode)) (Some q) (more i)

  ancestors_one : ancestors w ≡ ancestors v
  ancestors_one = one_of p w v alike ancestors (λ u i id. map (λ (q : Place). q.0) (above_is u i id))

  itself_is : (id : FullNodeId) → is_in_password w id ≡ false → speaks_itself w id ≡ speaks_itself v id
  itself_is id out =
      let found = above_one (ancestors w id) id refl out in
      ap is_none found ∙ (λ i. is_none (find (λ a. is_included (holder_answer v a)) (ancestors_one i id)))

  own_is : (id : FullNodeId) (d e : NodeData) → HasData w id d → HasData v id e → is_told (above_of w id) d ≡ true → own_text (above_of w id) d ≡ own_text (above_of v id) e
  own_is id d e h k is =
      let first = and_parts (is_live (live w id)) (not (is_text_input d.role) && (not (is_hidden w id) && (not (says_upward (λ x. x.busy) w id) && not (is_in_password w id)))) is in
      let second = and_parts (not (is_text_input d.role)) (not (is_hidden w id) && (not (says_upward (λ x. x.busy) w id) && not (is_in_password w id))) first.1 in
      let third = and_parts (not (is_hidden w id)) (not (says_upward (λ x. x.busy) w id) && not (is_in_password w id)) second.1 in
      let fourth = and_parts (not (says_upward (λ x. x.busy) w id)) (not (is_in_password w id)) third.1 in
      let out : is_in_password w id ≡ false = not_true (is_in_password w id) fourth.1 in
      let plain : is_password w id ≡ false = plain_node w id d h (not_true (is_text_input d.role) second.0) in
      let facts : data_of w id ≡ data_of v id = data_one p w v alike.formed typed id (is_other p w v alike.formed typed id plain) out in
      let q : d ≡ e = same_Some d e (sym h ∙ facts ∙ k) in
      let itself : speaks_itself w id ≡ speaks_itself v id = itself_is id out in
      λ i. if same_role (q i).role TextRun then (if not (itself i) then None else (q i).value) else option_or (q i).value (q i).label

  told_by : (a b : Bool) (x y : Option (List ℕ)) → a ≡ b → (a ≡ true → x ≡ y) → (if a then x else None) ≡ (if b then y else None)
  told_by true b x y e h = h refl ∙ ap (λ c. if c then y else None) e
  told_by false b x y e h = ap (λ c. if c then y else None) e

  pub told_text_is : (id : FullNodeId) (d e : NodeData) → HasData w id d → HasData v id e → without_text d ≡ without_text e → told_text (above_of w id) d ≡ told_text (above_of v id) e
  told_text_is id d e h k s =
      told_by (is_told (above_of w id) d) (is_told (above_of v id) e) (unless_blank (own_text (above_of w id) d)) (unless_blank (own_text (above_of v id) e)) (told_is id d e s)
      (λ is. ap unless_blank (own_is id d e h k is))

  pub region_is : (id : FullNodeId) → region_of w id ≡ region_of v id
  region_is id =
      one_of p w v alike (λ u. region_of u id) (λ u i. find (says_same u (λ d. is_some d.live) (λ d. refl) i) (id ∷ map (λ (q : Place). q.0) (above_is u i id)))

  pub tells_new : (id : FullNodeId) (m n : News) → TellsNew (seen_in w id) m n → TellsNew (seen_in v id) m n
  tells_new id m n h =
      let e = there p w v alike id h.node h.has in
      let text = told_text_is id h.node e.0 h.has e.1 (sym e.2) in
      record {
        node = e.0;
        has = e.1;
        notes =
            subst (λ t. Notes id (region_of v id) (news None t) m n) text
            (subst (λ r. Notes id r (news None (told_text (above_of w id) h.node)) m n) (region_is id) h.notes);
      }

  -- ---- what is around a node

  pub around_is : (kind : NodeData → Bool) → IsBlind kind → (id : FullNodeId) → around kind w id ≡ around kind v id
  around_is kind blind id =
      one_of p w v alike (λ u. around kind u id)
      (λ u i. find (λ a. is_included (if says_same u kind blind i a then Include else ExcludeNode)) (map (λ (q : Place). q.0) (above_is u i id)))

  word_is : (group : FullNodeId) → role_word_at w group ≡ role_word_at v group
  word_is group = one_of p w v alike (λ u. role_word_at u group) (λ u. reads_or (λ d. role_word d.role) [] u group (λ d. refl))

  pub group_named_is : (group : FullNodeId) (x : Speech) → group_named w group x ≡ group_named v group x
  group_named_is group x i = said_if (group_line (word_is group i)) (news None (label_shown p w v alike.formed typed group i)) x

  pub landmark_named_is : (id : FullNodeId) (x : Speech) → landmark_named w id x ≡ landmark_named v id x
  landmark_named_is id x i = said_later x (landmark_line (word_is id i) (news None (label_shown p w v alike.formed typed id i)))

  listed_one : listed_answer w ≡ listed_answer v
  listed_one = one_of p w v alike listed_answer listed_same

  belows_one : below w ≡ below v
  belows_one = one_of p w v alike below below_is

  items_is : (list : FullNodeId) → items_of w list ≡ items_of v list
  items_is list i = option_and_then (λ first. size_is first i) (slice_get (frontier (listed_one i) (belows_one i list)) 0)

  pub list_named_is : (id : FullNodeId) (x : Speech) → list_named w id x ≡ list_named v id x
  list_named_is id x i =
      option_map_or (λ n. said_later x (listing_line (word_is id i) (news None (label_shown p w v alike.formed typed id i)) n)) (items_is id i) x

  -- ---- the focus

  says_focus : (id : FullNodeId) (x y : Speech) → SaysFocus (seen_in w id) x y → SaysFocus (seen_in v id) x y
  says_focus id x y h =
      let e = there p w v alike id h.node h.has in
      record { node = e.0; has = e.1; focus = h.focus; shows = shows_focus id h.node e.0 (sym e.2) h.focus h.shows; said = h.said }

  says_dialog : (id : FullNodeId) (x y : Speech) → SaysDialog w id x y → SaysDialog v id x y
  says_dialog id x y h =
      let e = there p w v alike id h.node h.has in
      record { node = e.0; has = e.1; dialog = h.dialog; shows = shows_dialog id h.node e.0 (sym e.2) h.dialog h.shows; said = h.said }

  says_entered : (entered : Option FullNodeId) (x y : Speech) → SaysEntered w entered x y → SaysEntered v entered x y
  says_entered None x y h = h
  says_entered (Some dialog) x y h = says_dialog dialog x y h

-- ---- the move of the focus, from one of two worlds to another

was_inside : (o q : World) → SameBare o q → (from : Option FullNodeId) (dialog : FullNodeId) → WasInside (option_map (seen_in o) from) dialog → WasInside (option_map (seen_in q) from) dialog
was_inside o q b None dialog h = h
was_inside o q b (Some id) dialog h = bare.active_dialog b (Some dialog) h

was_outside : (o q : World) → SameBare o q → (from : Option FullNodeId) (dialog : FullNodeId) → WasOutside (option_map (seen_in o) from) dialog → WasOutside (option_map (seen_in q) from) dialog
was_outside o q b None dialog h = h
was_outside o q b (Some id) dialog h = (h.0, bare.active_dialog b h.0 h.1, h.2)

enters : (o q w v : World) → SameBare o q → SameBare w v → (from : Option FullNodeId) (id : FullNodeId) (entered : Option FullNodeId) →
    Enters (option_map (seen_in o) from) (seen_in w id) entered → Enters (option_map (seen_in q) from) (seen_in v id) entered
enters o q w v old new from id (Some dialog) h = (bare.active_dialog new (Some dialog) h.0, h.1, was_outside o q old from dialog h.2)
enters o q w v old new from id None (inl none) = inl (bare.active_dialog new None none)
enters o q w v old new from id None (inr h) = inr (h.0, bare.active_dialog new (Some h.0) h.1, by_reason h.2)
  where
    by_reason : (h.0 ≡ id) ⊎ WasInside (option_map (seen_in o) from) h.0 → (h.0 ≡ id) ⊎ WasInside (option_map (seen_in q) from) h.0
    by_reason (inl itself) = inl itself
    by_reason (inr inside) = inr (was_inside o q old from h.0 inside)

was_in_one : (p : FullNodeId) (o q : World) → AreAlike p o q → (from : Option FullNodeId) (group : FullNodeId) → was_in (option_map (seen_in o) from) group ≡ was_in (option_map (seen_in q) from) group
was_in_one p o q alike None group = refl
was_in_one p o q alike (Some id) group = one_of p o q alike (λ u. is_within u group id) (λ u i. list_any (is_same group) (id ∷ map (λ (q : Place). q.0) (above_is u i id)))

module _ (kind : NodeData → Bool) (blind : IsBlind kind) (line : World → FullNodeId → Speech → Speech) (one : (p : FullNodeId) (w v : World) → AreAlike p w v → (id : FullNodeId) (x : Speech) → line w id x ≡ line v id x) where
  entered_one : (p : FullNodeId) (o q w v : World) → AreAlike p o q → AreAlike p w v → (from : Option FullNodeId) (id : FullNodeId) (x : Speech) →
      entered_said kind line (option_map (seen_in o) from) (seen_in w id) x ≡ entered_said kind line (option_map (seen_in q) from) (seen_in v id) x
  entered_one p o q w v old new from id x i =
      option_map_or (λ top. if was_in_one p o q old from top i then x else one p w v new top x i) (around_is p w v new kind blind id i) x

module _ (header : World → FullNodeId → Option FullNodeId) (one : (p : FullNodeId) (w v : World) → AreAlike p w v → (id : FullNodeId) → header w id ≡ header v id) where
  was_header_one : (p : FullNodeId) (o q : World) → AreAlike p o q → (from : Option FullNodeId) (h : FullNodeId) → was_header header (option_map (seen_in o) from) h ≡ was_header header (option_map (seen_in q) from) h
  was_header_one p o q alike None h = refl
  was_header_one p o q alike (Some id) h = λ i. option_map_or (is_same h) (one p o q alike id i) false

  header_one : (p : FullNodeId) (o q w v : World) → AreAlike p o q → AreAlike p w v → (from : Option FullNodeId) (id : FullNodeId) (x : Speech) →
      header_said header (option_map (seen_in o) from) (seen_in w id) x ≡ header_said header (option_map (seen_in q) from) (seen_in v id) x
  header_one p o q w v old new from id x i =
      option_map_or (λ h. if was_header_one p o q old from h i then x else group_named_is p w v new h x i) (one p w v new id i) x

headers_one : (p : FullNodeId) (o q w v : World) → AreAlike p o q → AreAlike p w v → (from : Option FullNodeId) (id : FullNodeId) (x : Speech) →
    headers_said (option_map (seen_in o) from) (seen_in w id) x ≡ headers_said (option_map (seen_in q) from) (seen_in v id) x
headers_one p o q w v old new from id x =
    header_one column_header column_is p o q w v old new from id (header_said row_header (option_map (seen_in o) from) (seen_in w id) x)
    ∙ ap (header_said column_header (option_map (seen_in q) from) (seen_in v id)) (header_one row_header row_is p o q w v old new from id x)

around_one : (p : FullNodeId) (o q w v : World) → AreAlike p o q → AreAlike p w v → (from : Option FullNodeId) (id : FullNodeId) (x : Speech) →
    around_said (option_map (seen_in o) from) (seen_in w id) x ≡ around_said (option_map (seen_in q) from) (seen_in v id) x
around_one p o q w v old new from id x i =
    let landmarks : Speech = entered_one is_landmark (λ d. refl) landmark_named landmark_named_is p o q w v old new from id x i in
    let groups : Speech = entered_one is_group (λ d. refl) group_named group_named_is p o q w v old new from id landmarks i in
    let lists : Speech = entered_one is_list (λ d. refl) list_named list_named_is p o q w v old new from id groups i in
    headers_one p o q w v old new from id lists i

says_moved : (p : FullNodeId) (o q w v : World) → AreAlike p o q → AreAlike p w v → (from to : Option FullNodeId) (x y : Speech) →
    SaysMoved (option_map (seen_in o) from) (option_map (seen_in w) to) x y → SaysMoved (option_map (seen_in q) from) (option_map (seen_in v) to) x y
says_moved p o q w v old new from None x y h = h
says_moved p o q w v old new from (Some id) x y h = record {
  entered = h.entered;
  enters = enters o q w v (same p o q old) (same p w v new) from id h.entered h.enters;
  between = h.between;
  dialog = says_entered p w v new h.entered x h.between h.dialog;
  focus =
      subst (λ x. SaysFocus (seen_in v id) x y) (around_one p o q w v old new from id h.between)
      (says_focus p w v new id (around_said (option_map (seen_in o) from) (seen_in w id) h.between) y h.focus);
}

pub begins_alike : BeginsAlike
begins_alike p w v s t alike h = record {
  focus = h.focus;
  is = bare.focus (same p w v alike) h.focus h.is;
  says = λ e. says_moved p w v w v alike alike None h.focus s.voice t.voice (h.says e);
  kept = h.kept;
  news = h.news;
  text = h.text;
}

-- ---- events

says_added : (p : FullNodeId) (w v : World) (id : FullNodeId) (m n : News) → AreAlike p w v → SaysAdded (seen_in w id) m n → SaysAdded (seen_in v id) m n
says_added p w v id m n alike h =
    let turned = bare.turned (same p w v alike) in
    record {
      focus = λ f. h.focus (focused_node turned id f);
      other = λ f. tells_new p w v alike id m n (h.other (λ g. f (focused_node (same p w v alike) id g)));
    }

module _ (p : FullNodeId) (o q w v : World) (old : AreAlike p o q) (new : AreAlike p w v) (id : FullNodeId) where
  tells_change : (m n : News) → TellsChange (seen_in o id) (seen_in w id) m n → TellsChange (seen_in q id) (seen_in v id) m n
  tells_change m n h =
      let a = there p o q old id h.before h.had in
      let b = there p w v new id h.after h.has in
      let before = told_text_is p o q old id h.before a.0 h.had a.1 (sym a.2) in
      let after = told_text_is p w v new id h.after b.0 h.has b.1 (sym b.2) in
      record {
        before = a.0;
        had = a.1;
        after = b.0;
        has = b.1;
        notes =
            subst (λ t. Notes id (region_of v id) t m n) (λ i. news (before i) (after i))
            (subst (λ r. Notes id r (news (told_text (above_of o id) h.before) (told_text (above_of w id) h.after)) m n) (region_is p w v new id) h.notes);
      }

  module _ (d e f g : NodeData) (s : without_text d ≡ without_text f) (t : without_text e ≡ without_text g) where
    label_is : (x : Speech) → label_said (seen_in o id) (seen_in w id) x ≡ label_said (seen_in q id) (seen_in v id) x
    label_is x i = said_if label_line (news (label_shown p o q old.formed old.typed id i) (label_shown p w v new.formed new.typed id i)) x

    change_is : (x : Speech) → change_said (seen_in o id) d (seen_in w id) e x ≡ change_said (seen_in q id) f (seen_in v id) g x
    change_is x i =
        flags_said (state_said (s i)) (state_said (t i)) (toggles_said (state_said (s i)) (state_said (t i))
        (said_if description_line (news (description_is p o q old id d f s i) (description_is p w v new id e g t i))
        (if edited_is p w v new id e g t i then label_is x i else said_if value_line (news (value_is p o q old id d f s i) (value_is p w v new id e g t i)) (label_is x i))))

  says_change : (x y : Speech) → SaysChange (seen_in o id) (seen_in w id) x y → SaysChange (seen_in q id) (seen_in v id) x y
  says_change x y h =
      let a = there p o q old id h.before h.had in
      let b = there p w v new id h.after h.has in
      record { before = a.0; had = a.1; after = b.0; has = b.1; said = h.said ∙ change_is h.before h.after a.0 b.0 (sym a.2) (sym b.2) x }

  says_updated : (x y : Speech) (m n : News) → SaysUpdated (seen_in o id) (seen_in w id) x y m n → SaysUpdated (seen_in q id) (seen_in v id) x y m n
  says_updated x y m n h =
      let before = bare.turned (same p o q old) in
      let after = bare.turned (same p w v new) in
      record {
        stayed = λ f g. let k = h.stayed (focused_node before id f) (focused_node after id g) in (says_change x y k.0, k.1);
        come = λ f g. h.come (λ k. f (focused_node (same p o q old) id k)) (focused_node after id g);
        other = λ g. let k = h.other (λ k. g (focused_node (same p w v new) id k)) in (k.0, tells_change m n k.1);
      }

pub says_alike : SaysAlike
says_alike p e f x y m n (added w v id alike) h = (h.0, says_added p w v id m n alike h.1)
says_alike p e f x y m n (updated o q w v id old new) h = says_updated p o q w v old new id x y m n h
says_alike p e f x y m n (moved o q w v from to old new) h = (says_moved p o q w v old new from to x y h.0, h.1)
says_alike p e f x y m n (removed o q id alike) h = h
