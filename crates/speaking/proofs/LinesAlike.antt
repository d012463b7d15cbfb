-- In two worlds that differ in what is typed into a password alone, a text that isn't hidden is the same.
use Rattle.std.proofs.Common.{◌≡◌, ◌≢◌, ℕ, Bool, true, false, not, ◌&&◌, ◌||◌, ◌==◌, nat_lt, bytes_eq, List, [], ◌∷◌, map, length, Option, Some, None, unwrap_or, option_map, option_and_then, is_some, refl, sym, ap, ◌∙◌, if◌then◌else◌}
use Rattle.std.specs.Prelude.{Contains}
use Rattle.std.specs.List.{flat_map}
use Rattle.std.specs.Option.{option_map_or}
use Rattle.schema.specs.NodeData.{empty_node}
use Rattle.schema.specs.declared.Role.TheVariants.{TextRun}
use Rattle.schema.specs.declared.values.TextSelection.{TextSelection}
use Rattle.model.specs.declared.FullNodeId.{FullNodeId}
use Rattle.model.specs.FlatText.{FlatText, Position, are_alike, flat_text, needs_masking, shown_run, shown_character, metrics_of}
use Rattle.model.specs.Geometry.{transform, transform_within}
use Rattle.model.specs.Moves.{to_line_index, to_global_usv_index}
use Rattle.model.specs.Ranges.{text_of, document_range, range_between, nearest_named, selection, selection_focus}
use Rattle.model.specs.RoleClasses.{holds_text, is_multiline}
use Rattle.model.specs.Styles.{style_of}
use Rattle.model.specs.TextRuns.{SentRun, is_password, run_ids, has_runs, sent_run, sent_runs, sent_characters, ends_with_newline, lie_in_tree, are_cut, have_rising_words, are_empty_last, are_linked_in_order, have_size, are_measured, supports_text_ranges}
use Rattle.model.specs.Upward.{says, inherited_field}
use Rattle.model.specs.Values.{document_text}
use Rattle.model.specs.World.{World, data_of}
use Rattle.model.proofs.Members.{contains_first, contains_later}
use Rattle.model.proofs.Text.Outlines.{says_same, inherited_same, runs_same, style_same, transform_same, transform_within_same}
use Rattle.hidden_texts.specs.Hidden.{is_in_password, has_password_below, holds_password, hides_text}
use Rattle.hidden_texts.specs.Shown.{shown_value}
use Rattle.hidden_texts.proofs.Apart.{runs_apart}
use Rattle.hidden_texts.proofs.HiddenAlike.{passwords_one, data_one, is_other}
use Rattle.hidden_texts.proofs.Outlined.{some_runs, text_holders_same, with_runs}
use Rattle.hidden_texts.proofs.ShownAlike.{value_shown}
use Rattle.texts.specs.FoundRanges.{range_of_line}
use Rattle.phrases.specs.Voices.{Speech}
use Rattle.speaking.specs.Carets.{scalars_before, caret_place, reached_said, said_at_caret, within_said}
use Rattle.speaking.specs.Laws.{AreAlike}
use Rattle.speaking.specs.Edits.{edited_text, selected_text}
use Rattle.speaking.specs.Lines.{caret_said, text_of_line}
use Rattle.speaking.proofs.Plain.{and_false, left_false, right_false}
use Rattle.speaking.proofs.Same.{one_of}

same_images : {X Y : Type 0} (f g : X → Y) (xs : List X) → ((x : X) → Contains xs x → f x ≡ g x) → map f xs ≡ map g xs
same_images f g [] h = refl
same_images f g (x ∷ xs) h = λ i. h x (contains_first x xs) i ∷ same_images f g xs (λ y m. h y (contains_later x y xs m)) i

abbrev other_rules : World → FullNodeId → Bool
other_rules w id =
    lie_in_tree id.tree (sent_runs w id) && (are_cut (sent_runs w id) && (have_rising_words (sent_runs w id) && (are_empty_last (sent_runs w id) && (are_linked_in_order (sent_runs w id) && (have_size (sent_runs w id) && are_measured (is_password w id) (sent_runs w id))))))

-- without runs there is no text
without_runs : (w : World) (id : FullNodeId) → has_runs w id (sent_runs w id) ≡ false → supports_text_ranges w id ≡ false
unfolding supports_text_ranges
without_runs w id e = ap (λ b. b && other_rules w id) e

-- ---- a node whose text isn't hidden

module _ (p : FullNodeId) (w v : World) (alike : AreAlike p w v) (id : FullNodeId) (open' : hides_text w id ≡ false) where
  out : is_in_password w id ≡ false
  out = left_false (is_in_password w id) (holds_password w id) open'

  free : holds_password w id ≡ false
  free = right_false (is_in_password w id) (holds_password w id) open'

  pub secrets_one : is_password w id ≡ is_password v id
  secrets_one i = passwords_one p w v alike.formed alike.typed i id

  ids_one : run_ids w ≡ run_ids v
  ids_one = one_of p w v alike run_ids runs_same

  holders_one : says (λ d. holds_text d.role) w ≡ says (λ d. holds_text d.role) v
  holders_one = one_of p w v alike (says (λ d. holds_text d.role)) text_holders_same

  some_one : some_runs w ≡ some_runs v
  some_one = one_of p w v alike some_runs with_runs

  pub many_is : says (λ d. is_multiline d.role) w id ≡ says (λ d. is_multiline d.role) v id
  many_is = one_of p w v alike (λ u. says (λ d. is_multiline d.role) u id) (λ u i. says_same u (λ d. is_multiline d.role) (λ d. refl) i id)

  -- the same runs
  abbrev HasSameText : Type 0
  HasSameText = (supports_text_ranges w id ≡ supports_text_ranges v id) × (supports_text_ranges w id ≡ true → flat_text w id ≡ flat_text v id)

  module _ (other : id ≢ p) where
    module _ (none : has_password_below w id ≡ false) where
      run_one : (r : FullNodeId) → Contains (run_ids w id) r → sent_run w r ≡ sent_run v r
      run_one r m =
          let apart = runs_apart w alike.formed p id r alike.typed.password other out none m in
          λ i. record { id = r; node = unwrap_or (alike.typed.others r apart.0 apart.1 i) (empty_node TextRun) }

      sents_one : sent_runs w id ≡ sent_runs v id
      sents_one = same_images (sent_run w) (sent_run v) (run_ids w id) run_one ∙ (λ i. map (sent_run v) (ids_one i id))

      supports_one : supports_text_ranges w id ≡ supports_text_ranges v id
      unfolding supports_text_ranges
      supports_one i =
          (holders_one i id && nat_lt 0 (length (sents_one i)))
          && (lie_in_tree id.tree (sents_one i) && (are_cut (sents_one i) && (have_rising_words (sents_one i) && (are_empty_last (sents_one i) && (are_linked_in_order (sents_one i) && (have_size (sents_one i) && are_measured (secrets_one i) (sents_one i)))))))

      masks_one : needs_masking w id ≡ needs_masking v id
      unfolding needs_masking
      masks_one i = secrets_one i && not (are_alike bytes_eq (flat_map sent_characters (sents_one i)))

      styles_one : style_of w ≡ style_of v
      styles_one = one_of p w v alike style_of style_same

      moves_one : transform w ≡ transform v
      moves_one = one_of p w v alike transform transform_same

      inner_moves_one : transform_within w ≡ transform_within v
      inner_moves_one = one_of p w v alike transform_within transform_within_same

      directions_one : inherited_field (λ d. d.text_direction) w ≡ inherited_field (λ d. d.text_direction) v
      directions_one = one_of p w v alike (inherited_field (λ d. d.text_direction)) (λ u. inherited_same u (λ d. d.text_direction) (λ d. refl))

      shown_one : (r : SentRun) → shown_run w id (is_password w id) (needs_masking w id) r ≡ shown_run v id (is_password v id) (needs_masking v id) r
      shown_one r i = record {
        id = r.id;
        characters = map (shown_character (masks_one i)) (sent_characters r);
        goes_back = is_some r.node.previous_on_line;
        goes_on = is_some r.node.next_on_line;
        has_newline = ends_with_newline r;
        word_starts = if secrets_one i then [] else r.node.word_starts;
        style = styles_one i r.id;
        bounds = r.node.bounds;
        move = moves_one i r.id;
        move_in_root = inner_moves_one i id r.id;
        metrics = metrics_of (secrets_one i) r.node;
        direction = directions_one i r.id;
      }

      flat_one : flat_text w id ≡ flat_text v id
      unfolding flat_text
      flat_one i = map (λ r. shown_one r i) (sents_one i)

    by_runs : (b : Bool) → has_runs w id (sent_runs w id) ≡ b → HasSameText
    by_runs true has = let none = and_false (has_runs w id (sent_runs w id)) (has_password_below w id) free has in (supports_one none, λ s. flat_one none)
    by_runs false lacks =
        let here : supports_text_ranges w id ≡ false = without_runs w id lacks in
        let same : supports_text_ranges w id ≡ supports_text_ranges v id = here ∙ sym (without_runs v id ((λ i. sym some_one i id) ∙ lacks)) in
        (same, λ s. absurd (let clash : true ≡ false = sym s ∙ here in cc))

  plain_text : is_password w id ≡ false → HasSameText
  plain_text plain = by_runs (is_other p w v alike.formed alike.typed id plain) (has_runs w id (sent_runs w id)) refl

  -- what is read of a text that isn't a password's
  abbrev read_in : {A : Type 0} → World → Bool → Bool → (FlatText → A) → A → A
  read_in u secret s of otherwise = if secret then otherwise else (if s then of (flat_text u id) else otherwise)

  read_by : {A : Type 0} (of : FlatText → A) (otherwise : A) (secret s : Bool) → is_password w id ≡ secret → supports_text_ranges w id ≡ s →
      read_in w (is_password w id) (supports_text_ranges w id) of otherwise ≡ read_in v (is_password v id) (supports_text_ranges v id) of otherwise
  read_by of otherwise true s e h =
      ap (λ b. read_in w b (supports_text_ranges w id) of otherwise) e
      ∙ sym (ap (λ b. read_in v b (supports_text_ranges v id) of otherwise) (sym secrets_one ∙ e))
  read_by of otherwise false false e h =
      let text = plain_text e in
      ap (λ b. read_in w b (supports_text_ranges w id) of otherwise) e
      ∙ ap (λ b. read_in w false b of otherwise) h
      ∙ sym (ap (λ b. read_in v b (supports_text_ranges v id) of otherwise) (sym secrets_one ∙ e) ∙ ap (λ b. read_in v false b of otherwise) (sym text.0 ∙ h))
  read_by of otherwise false true e h =
      let text = plain_text e in
      λ i. if secrets_one i then otherwise else (if text.0 i then of (text.1 h i) else otherwise)

  read_one : {A : Type 0} (of : FlatText → A) (otherwise : A) →
      read_in w (is_password w id) (supports_text_ranges w id) of otherwise ≡ read_in v (is_password v id) (supports_text_ranges v id) of otherwise
  read_one of otherwise = read_by of otherwise (is_password w id) (supports_text_ranges w id) refl refl

  pub line_is : (k : ℕ) → text_of_line w id k ≡ text_of_line v id k
  line_is k = read_one (λ t. option_map (text_of t) (range_of_line t k)) None

  pub edited_text_is : edited_text w id ≡ edited_text v id
  edited_text_is =
      read_one (λ t. text_of t (document_range t)) (unwrap_or (shown_value w id) [])
      ∙ ap (λ o. if is_password v id then unwrap_or o [] else (if supports_text_ranges v id then document_text v id else unwrap_or o [])) (value_shown p w v alike.formed alike.typed id)

  -- what a selection, as it was sent, selects in a text
  abbrev selected_from : FlatText → Option TextSelection → List ℕ
  selected_from t sent =
      unwrap_or (option_map (text_of t) (option_and_then (λ a. option_map (range_between t a) (option_and_then (λ s. nearest_named t s.focus) sent)) (option_and_then (λ s. nearest_named t s.anchor) sent))) []

  abbrev selected_in : World → List ℕ
  selected_in u = unwrap_or (option_map (text_of (flat_text u id)) (selection u id)) []

  none_selected : (u : World) → supports_text_ranges u id ≡ false → selected_in u ≡ []
  none_selected u none = ap (λ b. selected_from (flat_text u id) (if b then option_and_then (λ d. d.text_selection) (data_of u id) else None)) none

  -- the caret: its place as it was sent, and what is read there
  abbrev read_at_caret : {A : Type 0} → (FlatText → Position → A) → World → Option A
  read_at_caret of u = option_map (of (flat_text u id)) (selection_focus u id)

  no_caret : {A : Type 0} (of : FlatText → Position → A) (u : World) → supports_text_ranges u id ≡ false → read_at_caret of u ≡ None
  no_caret of u none =
      let named : Option TextSelection → Option Position = option_and_then (λ s. nearest_named (flat_text u id) s.focus) in
      ap (λ b. option_map (of (flat_text u id)) (named (if b then option_and_then (λ d. d.text_selection) (data_of u id) else None))) none

  at_plain_caret : {A : Type 0} (of : FlatText → Position → A) (s : Bool) → is_password w id ≡ false → supports_text_ranges w id ≡ s →
      read_at_caret of w ≡ read_at_caret of v
  at_plain_caret of false e h = let text = plain_text e in no_caret of w h ∙ sym (no_caret of v (sym text.0 ∙ h))
  at_plain_caret of true e h =
      let text = plain_text e in
      let facts : data_of w id ≡ data_of v id = data_one p w v alike.formed alike.typed id (is_other p w v alike.formed alike.typed id e) out in
      λ i. option_map (of (text.1 h i))
      (option_and_then (λ s. nearest_named (text.1 h i) s.focus) (if text.0 i then option_and_then (λ d. d.text_selection) (facts i) else None))

  at_caret : {A : Type 0} (of : FlatText → Position → A) (secret : Bool) → is_password w id ≡ secret →
      (if is_password w id then None else read_at_caret of w) ≡ (if is_password v id then None else read_at_caret of v)
  at_caret of true e =
      ap (λ b. if b then None else read_at_caret of w) e
      ∙ sym (ap (λ b. if b then None else read_at_caret of v) (sym secrets_one ∙ e))
  at_caret of false e =
      ap (λ b. if b then None else read_at_caret of w) e
      ∙ at_plain_caret of (supports_text_ranges w id) e refl
      ∙ sym (ap (λ b. if b then None else read_at_caret of v) (sym secrets_one ∙ e))

  pub caret_is : caret_said w id ≡ caret_said v id
  caret_is = at_caret to_line_index (is_password w id) refl

  pub caret_place_is : caret_place w id ≡ caret_place v id
  caret_place_is = at_caret to_global_usv_index (is_password w id) refl

  -- what the caret has come to
  said_by : (k : ℕ) (x : Speech) → is_password w id ≡ false → said_at_caret w id k x ≡ said_at_caret v id k x
  said_by k x e =
      from_option w
      ∙ ap (λ o. unwrap_or o x) (at_plain_caret (λ t p. reached_said t k x p) (supports_text_ranges w id) e refl)
      ∙ sym (from_option v)
    where
      either : (f : Position → Speech) (o : Option Position) → option_map_or f o x ≡ unwrap_or (option_map f o) x
      either f None = refl
      either f (Some q) = refl

      from_option : (u : World) → said_at_caret u id k x ≡ unwrap_or (read_at_caret (λ t p. reached_said t k x p) u) x
      from_option u = either (reached_said (flat_text u id) k x) (selection_focus u id)

  pub within_is : (selected : List ℕ) (before now : Option ℕ) (x : Speech) → now ≡ caret_place w id →
      within_said w id selected before now x ≡ within_said v id selected before now x
  within_is selected None now x h = refl
  within_is selected (Some k) None x h = refl
  within_is selected (Some k) (Some l) x h = go (is_password w id) refl
    where
      go : (secret : Bool) → is_password w id ≡ secret →
          within_said w id selected (Some k) (Some l) x ≡ within_said v id selected (Some k) (Some l) x
      go true e = absurd (let clash : Some l ≡ None = h ∙ ap (λ b. if b then None else scalars_before w id) e in cc)
      go false e = ap (λ y. if k == l || not (length selected == 0) then x else y) (said_by k x e)

  -- the selection: its places as they were sent
  selected_by : (secret s : Bool) → is_password w id ≡ secret → supports_text_ranges w id ≡ s → selected_text w id ≡ selected_text v id
  selected_by true s e h =
      ap (λ b. if b then [] else selected_in w) e ∙ sym (ap (λ b. if b then [] else selected_in v) (sym secrets_one ∙ e))
  selected_by false false e h =
      let text = plain_text e in
      ap (λ b. if b then [] else selected_in w) e
      ∙ none_selected w h ∙ sym (none_selected v (sym text.0 ∙ h))
      ∙ sym (ap (λ b. if b then [] else selected_in v) (sym secrets_one ∙ e))
  selected_by false true e h =
      let text = plain_text e in
      let facts : data_of w id ≡ data_of v id = data_one p w v alike.formed alike.typed id (is_other p w v alike.formed alike.typed id e) out in
      λ i. if secrets_one i then [] else selected_from (text.1 h i) (if text.0 i then option_and_then (λ d. d.text_selection) (facts i) else None)

  pub selected_is : selected_text w id ≡ selected_text v id
  selected_is = selected_by (is_password w id) (supports_text_ranges w id) refl refl
