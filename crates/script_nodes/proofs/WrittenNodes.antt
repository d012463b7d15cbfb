-- The line of a node, as it is written, means that node.
use Rattle.std.proofs.Common.{◌≡◌, ◌≢◌, ◌⊎◌, ⊎_elim, ℕ, zero, suc, ◌++◌, ◌∷◌, [], List, All, codes, flat_map, Bool, true, false, Option, Some, None, MatchOption, option_map, append_assoc, arith, ap, refl, subst, sym, ◌∙◌}
use Rattle.std.specs.Bool.{⊤}
use Rattle.std.specs.Fmt.{decimal, signed_decimal}
use Rattle.std.specs.Str.{IsUtf8}
use Rattle.std.proofs.lemmas.List.Elements.{All-head, All-tail}
use Rattle.std.proofs.lemmas.Option.{none-some, same_Some}
use Rattle.schema.specs.Actions.{has_action}
use Rattle.schema.specs.NodeData.{NodeData, empty_node}
use Rattle.schema.specs.RoleNames.{role_text}
use Rattle.schema.specs.declared.NodeId.{NodeId}
use Rattle.schema.specs.declared.Role.{Role}
use Rattle.script_nodes.specs.ActionLists.{action_numbered, actions_among, actions_in, chosen, with_actions}
use Rattle.script_nodes.specs.FieldKinds.{actions_at, all_fields, bool_at, color_at, count_at, decoration_at, field_name, flag_at, id_at, ids_at, number_at, numbers_at, text_at, units_at, with_actions_field, with_bool, with_color, with_count, with_decoration, with_flag, with_id, with_ids, with_number, with_numbers, with_text, with_units}
use Rattle.script_nodes.specs.FieldMeaning.{adding, by_kind, field_means, fields_mean, flag_means, node_means, once, once_listed, once_set, takes_text, value_at}
use Rattle.script_nodes.specs.NodeReading.{IsNode, IsValue, IsWithout, node_args, with_field, without, without_all}
use Rattle.script_nodes.specs.NodeText.{piece, value_of}
use Rattle.script_nodes.specs.declared.field_kinds.FlagField.{FlagField}
use Rattle.script_nodes.specs.declared.field_kinds.Field.{Field}
use Rattle.script_nodes.specs.declared.field_kinds.Field.TheVariants as field
use Rattle.script_words.specs.Fields.{each_word, fields_of, one_word}
use Rattle.script_words.specs.Items.{list_text}
use Rattle.script_words.specs.Answering.{put_next}
use Rattle.script_words.specs.Meaning.{next_as, next_word, onward}
use Rattle.script_words.specs.Names.{aria_current_name, has_popup_name, live_name, orientation_name, sort_direction_name, text_align_name, text_direction_name, toggled_name, truth_name, vertical_offset_name}
use Rattle.script_words.specs.PartValues.{action_of, color_of, decoration_of, list_of, rect_of, role_of, selection_of, translation_of, unit_list_of}
use Rattle.script_words.specs.Parts.{action_text, color_text, decoration_text, id_text, list_value, rect_text, selection_text, translation_text, tree_text, units_text}
use Rattle.script_words.specs.Quoted.{quoted}
use Rattle.script_words.specs.Texts.{next_text}
use Rattle.script_words.specs.Reading.{IsAction, IsColor, IsCount, IsDecoration, IsId, IsNarrow, IsNumber, IsRect, IsSelection, IsShort, IsTranslation, IsTreeName, IsUnits, IsWord, Lacks, after}
use Rattle.script_words.specs.WordValues.{aria_current_of, has_popup_of, id_of, live_of, narrow_of, number_of, orientation_of, short_of, signed_of, sort_direction_of, text_align_of, text_direction_of, toggled_of, tree_of, truth_of, vertical_offset_of}
use Rattle.script_nodes.proofs.ActionSets.{action_list_is_word, all_actions, gathered, nothing_has}
use Rattle.script_nodes.proofs.FieldNames.{called_back}
use Rattle.script_nodes.proofs.FieldSteps.{nothing_left}
use Rattle.script_nodes.proofs.FieldTails.{all_are_tail}
use Rattle.script_nodes.proofs.FieldWords.{named_flag, node_meant, valued_field}
use Rattle.script_nodes.proofs.NodeLoop.{IsReadUpTo, NextOf, all_left, fields_left, head_begins, read_next, skipped, something}
use Rattle.script_nodes.proofs.Pieces.{piece_begins, piece_cases, name_is_word}
use Rattle.script_words.proofs.ActionNames.{action_lacks_comma}
use Rattle.script_words.proofs.CommaWords.{color_is_word, count_lacks_comma, decoration_is_word, ids_is_word, numbers_is_word, rect_is_word, selection_is_word, short_lacks_comma, translation_is_word, units_is_word}
use Rattle.script_words.proofs.Decimals.{decimal_is_word, signed_is_word}
use Rattle.script_words.proofs.FieldReads.{and_words, goes_on, map_words}
use Rattle.script_words.proofs.NamedValues.{first_aria_current, first_has_popup, first_live, first_orientation, first_sort_direction, first_text_align, first_text_direction, first_toggled, first_truth, first_vertical_offset}
use Rattle.script_words.proofs.NamedWords.{aria_current_is_word, has_popup_is_word, live_is_word, orientation_is_word, sort_direction_is_word, text_align_is_word, text_direction_is_word, toggled_is_word, truth_is_word, vertical_offset_is_word}
use Rattle.script_words.proofs.RoleWords.{role_is_word}
use Rattle.script_words.proofs.TreeNames.{tree_is_word}
use Rattle.script_words.proofs.WrittenValues.{action_written, color_written, decoration_written, id_written, list_written, narrow_written, number_written, rect_written, role_written, selection_written, short_written, signed_written, text_comes, translation_written, tree_written, unit_list_written, value_comes, word_comes}

-- ---- no actions

no_actions_among : (n : ℕ) → actions_among 0 n ≡ []
unfolding actions_among chosen
no_actions_among zero = refl
no_actions_among (suc n) =
    ap (λ xs. xs ++ chosen (has_action 0 (action_numbered n)) (action_numbered n)) (no_actions_among n) ∙ ap (λ b. chosen b (action_numbered n)) (nothing_has (action_numbered n))

no_actions_in : actions_in 0 ≡ []
unfolding actions_in
no_actions_in = no_actions_among 260

-- ---- a value

-- what is meant where this text comes next, and then the rest
abbrev MeansNext : Field → NodeData → NodeData → Option (List ℕ) → List ℕ → Type 0
MeansNext which n m rest value = value_at which (Some (value ++ after rest)) m ≡ Some (with_field which n m, rest)

module _ (n m : NodeData) (rest : Option (List ℕ)) where
  -- a field that has a value or none
  once_written : {T U : Type 0} (old : Option U) (has : Option T) (Fits : T → Type 0) (text : T → List ℕ) (meaning : List ℕ → Option T) (put : T → NodeData) (given : Option T → NodeData) (value : List ℕ)
      → ((x : T) → Fits x → IsWord (text x)) → ((x : T) → Fits x → meaning (text x) ≡ Some x) → ((x : T) → put x ≡ given (Some x))
      → old ≡ None → MatchOption has ⊤ Fits → option_map text has ≡ Some value
      → once old (option_map (put_next put) (next_as meaning (Some (value ++ after rest)))) ≡ Some (given has, rest)
  once_written old None Fits text meaning put given value word means same free fits e = absurd (none-some value e)
  once_written {T} old (Some x) Fits text meaning put given value word means same free fits e =
      ap (λ o. once o (option_map (put_next put) (next_as meaning (Some (value ++ after rest))))) free
      ∙ ap (λ v. option_map (put_next put) (next_as meaning (Some (v ++ after rest)))) (sym (same_Some (text x) value e))
      ∙ ap (option_map (put_next put)) (value_comes meaning (text x) x rest (word x fits) (means x fits))
      ∙ ap (λ (node : NodeData). Some (node, rest)) (same x)

  -- one whose values all fit
  any_written : {T U : Type 0} (old : Option U) (has : Option T) (text : T → List ℕ) (meaning : List ℕ → Option T) (put : T → NodeData) (given : Option T → NodeData) (value : List ℕ)
      → ((x : T) → IsWord (text x)) → ((x : T) → meaning (text x) ≡ Some x) → ((x : T) → put x ≡ given (Some x))
      → old ≡ None → option_map text has ≡ Some value
      → once old (option_map (put_next put) (next_as meaning (Some (value ++ after rest)))) ≡ Some (given has, rest)
  any_written {T} old has text meaning put given value word means same free e =
      once_written old has (λ x. ⊤) text meaning put given value (λ x h. word x) (λ x h. means x) same free (fit has) e
    where
      fit : (o : Option T) → MatchOption o ⊤ (λ x. ⊤)
      fit None = tt
      fit (Some x) = tt

  -- a list
  listed_written : {T U : Type 0} (old : List U) (has : List T) (Fits : T → Type 0) (text : T → List ℕ) (meaning : List ℕ → Option T) (put : List T → NodeData) (given : NodeData) (value : List ℕ)
      → ((x : T) (xs : List T) → Fits x → All Fits xs → IsWord (list_text text x xs)) → ((x : T) → Fits x → Lacks 44 (text x)) → ((x : T) → Fits x → meaning (text x) ≡ Some x)
      → put has ≡ given → old ≡ [] → All Fits has → list_value text has ≡ Some value
      → once_listed old (option_map (put_next put) (next_as (list_of meaning) (Some (value ++ after rest)))) ≡ Some (given, rest)
  unfolding once_listed
  listed_written old [] Fits text meaning put given value word apart means same free fits e = absurd (none-some value e)
  listed_written old (x ∷ xs) Fits text meaning put given value word apart means same free fits e =
      let first = All-head Fits x xs fits in
      let others = All-tail Fits x xs fits in
      ap (λ o. once_listed o (option_map (put_next put) (next_as (list_of meaning) (Some (value ++ after rest))))) free
      ∙ ap (λ v. option_map (put_next put) (next_as (list_of meaning) (Some (v ++ after rest)))) (sym (same_Some (list_text text x xs) value e))
      ∙ ap (option_map (put_next put)) (value_comes (list_of meaning) (list_text text x xs) (x ∷ xs) rest (word x xs first others) (list_written meaning text Fits apart means x xs first others))
      ∙ ap (λ (node : NodeData). Some (node, rest)) same

  text_written : (old has : Option (List ℕ)) (put : List ℕ → NodeData) (given : Option (List ℕ) → NodeData) (value : List ℕ) → ((x : List ℕ) → put x ≡ given (Some x))
      → old ≡ None → MatchOption has ⊤ IsUtf8 → option_map quoted has ≡ Some value
      → once old (option_map (put_next put) (next_text (Some (value ++ after rest)))) ≡ Some (given has, rest)
  text_written old None put given value same free utf8 e = absurd (none-some value e)
  text_written old (Some x) put given value same free utf8 e =
      ap (λ o. once o (option_map (put_next put) (next_text (Some (value ++ after rest))))) free
      ∙ ap (λ v. option_map (put_next put) (next_text (Some (v ++ after rest)))) (sym (same_Some (quoted x) value e))
      ∙ ap (option_map (put_next put)) (text_comes x rest utf8)
      ∙ ap (λ (node : NodeData). Some (node, rest)) (same x)

  value_written : (which : Field) (value : List ℕ) → IsValue which n → value_of n which ≡ Some value → IsWithout which m → MeansNext which n m rest value
  unfolding by_kind with_field
  value_written (field.Ids which) value h e free = listed_written (ids_at which m) (ids_at which n) IsId id_text id_of (λ x. with_ids which x m) (with_ids which (ids_at which n) m) value ids_is_word (λ id h. count_lacks_comma id.0 h) id_written refl free h e
  value_written (field.Id which) value h e free = once_written (id_at which m) (id_at which n) IsId id_text id_of (λ x. with_id which (Some x) m) (λ x. with_id which x m) value (λ id h. decimal_is_word id.0 h) id_written (λ x. refl) free h e
  value_written (field.Text which) value h e free = text_written (text_at which m) (text_at which n) (λ x. with_text which (Some x) m) (λ x. with_text which x m) value (λ x. refl) free h e
  value_written (field.Flag which) value h e free = absurd (none-some value e)
  value_written (field.Numbers which) value h e free = listed_written (numbers_at which m) (numbers_at which n) IsShort decimal short_of (λ x. with_numbers which x m) (with_numbers which (numbers_at which n) m) value numbers_is_word short_lacks_comma short_written refl free h e
  value_written (field.Units which) value h e free = once_written (units_at which m) (units_at which n) (λ units. All IsUnits units) units_text unit_list_of (λ x. with_units which (Some x) m) (λ x. with_units which x m) value units_is_word unit_list_written (λ x. refl) free h e
  value_written (field.Bool which) value h e free = any_written (bool_at which m) (bool_at which n) truth_name truth_of (λ x. with_bool which (Some x) m) (λ x. with_bool which x m) value truth_is_word first_truth (λ x. refl) free e
  value_written (field.Color which) value h e free = once_written (color_at which m) (color_at which n) IsColor color_text color_of (λ x. with_color which (Some x) m) (λ x. with_color which x m) value color_is_word color_written (λ x. refl) free h e
  value_written (field.Decoration which) value h e free = once_written (decoration_at which m) (decoration_at which n) IsDecoration decoration_text decoration_of (λ x. with_decoration which (Some x) m) (λ x. with_decoration which x m) value decoration_is_word decoration_written (λ x. refl) free h e
  value_written (field.Number which) value h e free = once_written (number_at which m) (number_at which n) IsNumber signed_decimal signed_of (λ x. with_number which (Some x) m) (λ x. with_number which x m) value signed_is_word signed_written (λ x. refl) free h e
  value_written (field.Count which) value h e free = once_written (count_at which m) (count_at which n) IsCount decimal number_of (λ x. with_count which (Some x) m) (λ x. with_count which x m) value decimal_is_word number_written (λ x. refl) free h e
  value_written (field.Actions which) value h e free =
      listed_written (actions_in (actions_at which m)) (actions_in (actions_at which n)) IsAction action_text action_of (adding which m) (with_actions_field which (actions_at which n) m) value action_list_is_word action_lacks_comma action_written
      (ap (λ set. with_actions_field which (with_actions set (actions_in (actions_at which n))) m) free ∙ ap (λ set. with_actions_field which set m) (gathered (actions_at which n) h))
      (ap actions_in free ∙ no_actions_in) (all_actions (actions_at which n)) e
  value_written field.Tree value h e free = once_written m.tree_id n.tree_id IsTreeName tree_text tree_of (λ x. record m { tree_id = Some x }) (λ x. record m { tree_id = x }) value (λ tree h. tree_is_word tree) tree_written (λ x. refl) free h e
  value_written field.Bounds value h e free = once_written m.bounds n.bounds IsRect rect_text rect_of (λ x. record m { bounds = Some x }) (λ x. record m { bounds = x }) value rect_is_word rect_written (λ x. refl) free h e
  value_written field.Transform value h e free = once_written m.transform n.transform IsTranslation translation_text translation_of (λ x. record m { transform = Some x }) (λ x. record m { transform = x }) value translation_is_word translation_written (λ x. refl) free h e
  value_written field.Selection value h e free = once_written m.text_selection n.text_selection IsSelection selection_text selection_of (λ x. record m { text_selection = Some x }) (λ x. record m { text_selection = x }) value selection_is_word selection_written (λ x. refl) free h e
  value_written field.Toggled value h e free = any_written m.toggled n.toggled toggled_name toggled_of (λ x. record m { toggled = Some x }) (λ x. record m { toggled = x }) value toggled_is_word first_toggled (λ x. refl) free e
  value_written field.Live value h e free = any_written m.live n.live live_name live_of (λ x. record m { live = Some x }) (λ x. record m { live = x }) value live_is_word first_live (λ x. refl) free e
  value_written field.Orientation value h e free = any_written m.orientation n.orientation orientation_name orientation_of (λ x. record m { orientation = Some x }) (λ x. record m { orientation = x }) value orientation_is_word first_orientation (λ x. refl) free e
  value_written field.SortDirection value h e free = any_written m.sort_direction n.sort_direction sort_direction_name sort_direction_of (λ x. record m { sort_direction = Some x }) (λ x. record m { sort_direction = x }) value sort_direction_is_word first_sort_direction (λ x. refl) free e
  value_written field.AriaCurrent value h e free = any_written m.aria_current n.aria_current aria_current_name aria_current_of (λ x. record m { aria_current = Some x }) (λ x. record m { aria_current = x }) value aria_current_is_word first_aria_current (λ x. refl) free e
  value_written field.HasPopup value h e free = any_written m.has_popup n.has_popup has_popup_name has_popup_of (λ x. record m { has_popup = Some x }) (λ x. record m { has_popup = x }) value has_popup_is_word first_has_popup (λ x. refl) free e
  value_written field.FontSize value h e free = once_written m.font_size n.font_size IsNarrow decimal narrow_of (λ x. record m { font_size = Some x }) (λ x. record m { font_size = x }) value (λ size h. decimal_is_word size (omega (arith, h))) narrow_written (λ x. refl) free h e
  value_written field.FontWeight value h e free = once_written m.font_weight n.font_weight IsShort decimal short_of (λ x. record m { font_weight = Some x }) (λ x. record m { font_weight = x }) value (λ weight h. decimal_is_word weight (omega (arith, h))) short_written (λ x. refl) free h e
  value_written field.TextDirection value h e free = any_written m.text_direction n.text_direction text_direction_name text_direction_of (λ x. record m { text_direction = Some x }) (λ x. record m { text_direction = x }) value text_direction_is_word first_text_direction (λ x. refl) free e
  value_written field.TextAlign value h e free = any_written m.text_align n.text_align text_align_name text_align_of (λ x. record m { text_align = Some x }) (λ x. record m { text_align = x }) value text_align_is_word first_text_align (λ x. refl) free e
  value_written field.VerticalOffset value h e free = any_written m.vertical_offset n.vertical_offset vertical_offset_name vertical_offset_of (λ x. record m { vertical_offset = Some x }) (λ x. record m { vertical_offset = x }) value vertical_offset_is_word first_vertical_offset (λ x. refl) free e

-- ---- a field, and all of them

field_written : (n m : NodeData) (which : Field) (line rest : Option (List ℕ)) → IsValue which n → after line ≡ piece n which ++ after rest → piece n which ≢ [] → IsWithout which m
    → one_word field_means (fields_of takes_text line) m ≡ Some (with_field which n m, fields_of takes_text rest)
unfolding with_field
field_written n m which line rest h e some free = ⊎_elim
    (λ valued.
    let name = name_is_word which in
    let text = field_name which ++ codes "=" ++ (valued.0 ++ after rest) in
    ap (λ l. one_word field_means (fields_of takes_text l) m) valued.2
    ∙ valued_field text (field_name which) (valued.0 ++ after rest) which m (append_assoc (field_name which) (codes "=") (valued.0 ++ after rest)) name.1 name.0.0 (called_back which)
    ∙ ap (map_words takes_text) (value_written n m rest which valued.0 h valued.1 free))
    (λ flagged.
    let name = name_is_word which in
    named_flag line rest (field_name which) which m (ap next_word flagged.3 ∙ word_comes (field_name which) rest name.0) name.1 (called_back which)
    ∙ flag_written flagged.0 flagged.1 flagged.2)
    (piece_cases n which line rest e some)
  where
    flag_written : (flag : FlagField) → which ≡ field.Flag flag → flag_at flag n ≡ true → onward (flag_means which m) (and_words (fields_of takes_text rest)) ≡ Some (with_field which n m, fields_of takes_text rest)
    flag_written flag is set =
        let off : flag_at flag m ≡ false = subst (λ f. IsWithout f m) is free in
        ap (λ f. onward (flag_means f m) (and_words (fields_of takes_text rest))) is
        ∙ ap (λ b. onward (once_set b (Some (with_flag flag true m))) (and_words (fields_of takes_text rest))) off
        ∙ ap (λ b. Some (with_flag flag b m, fields_of takes_text rest)) (sym set)
        ∙ ap (λ f. Some (with_field f n m, fields_of takes_text rest)) (sym is)

fields_written : (fields : List Field) (n read : NodeData) (line : Option (List ℕ)) → IsNode n → IsReadUpTo fields n read line → each_word field_means (fields_of takes_text line) read ≡ Some n
unfolding each_word without_all
fields_written [] n read line h up = ap (λ l. each_word field_means (fields_of takes_text l) read) (something line up.2) ∙ ap Some up.1
fields_written (which ∷ others) n read line h up = ⊎_elim
    (λ e. fields_written others n read line h (skipped n read line which others h e up))
    (λ begins.
    let k = read_next n read line which others begins.0 begins.1 up in
    let words = fields_of takes_text line in
    sym (goes_on field_means words read (with_field which n read, fields_of takes_text k.0) (each_word field_means words read) (field_written n read which line k.0 (h.1 which) k.1 k.2 k.3) refl)
    ∙ fields_written others n (with_field which n read) k.0 h k.4)
    (piece_begins n which)

-- ---- the line

pub node_written : (id : NodeId) (n : NodeData) → IsId id → IsNode n → node_means (Some (node_args id n)) ≡ Some (id, n)
node_written id n hi h =
    let behind = Some (role_text n.role ++ after (fields_left n)) in
    let begins = head_begins id n (Some (node_args id n)) refl in
    node_meant (Some (node_args id n)) behind (fields_left n) id n.role
    (ap (next_as id_of) begins ∙ value_comes id_of (decimal id.0) id behind (decimal_is_word id.0 hi) (id_written id hi))
    (value_comes role_of (role_text n.role) n.role (fields_left n) (role_is_word n.role h.0) (role_written n.role h.0))
    n (fields_written all_fields n (empty_node n.role) (fields_left n) h (all_are_tail, sym (nothing_left n), all_left n))
