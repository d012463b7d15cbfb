-- The fields of a node's line, as a reader goes over them.
use Rattle.std.proofs.Common.{◌≡◌, ◌≢◌, ℕ, List, [], ◌∷◌, ◌++◌, Bool, Bor, true, false, if◌then◌else◌, Option, Some, None, MatchOption, option_map, Result, Ok, Err, ap, refl, subst, sym, ◌∙◌}
use Rattle.std.specs.Result.{IsErrAnd}
use Rattle.std.proofs.lemmas.Option.{none-some}
use Rattle.schema.specs.NodeData.{NodeData}
use Rattle.schema.specs.declared.NodeId.{NodeId}
use Rattle.schema.specs.declared.Role.{Role}
use Rattle.script_nodes.specs.ActionLists.{actions_in}
use Rattle.script_nodes.specs.FieldKinds.{actions_at, all_fields, bool_at, color_at, count_at, decoration_at, field_name, id_at, ids_at, number_at, numbers_at, text_at, units_at, with_bool, with_color, with_count, with_decoration, with_id, with_ids, with_number, with_numbers, with_text, with_units}
use Rattle.script_nodes.specs.FieldMeaning.{adding, by_kind, by_value, field_called, field_means, fields_mean, flag_means, is_text, node_means, once, once_listed, takes_text, ReadsValue, value_at, value_means}
use Rattle.script_nodes.specs.declared.field_kinds.Field.{Field}
use Rattle.script_nodes.specs.declared.field_kinds.Field.TheVariants as field
use Rattle.script_words.specs.Cuts.{part_before, rest_behind}
use Rattle.script_words.specs.Fields.{CutsField, Spot, fields_of, name_of, one_word, value_of, value_spot, words_from}
use Rattle.script_words.specs.Fields.Spot.{Front, Plain}
use Rattle.script_words.specs.Answering.{AnswersAs, put_next}
use Rattle.script_words.specs.Meaning.{next_as, next_word, onward}
use Rattle.script_words.specs.NamedIn.{first_named}
use Rattle.script_words.specs.PartValues.{action_of, color_of, decoration_of, each_of, in_brackets_of, list_of, pair_of, parts_of, rect_of, role_of, selection_of, translation_of, unit_list_of}
use Rattle.script_words.specs.Reading.{Lacks, unread}
use Rattle.script_words.specs.Texts.{next_text, text_of}
use Rattle.script_words.specs.WordValues.{aria_current_of, has_popup_of, id_of, live_of, narrow_of, number_of, orientation_of, short_of, signed_of, sort_direction_of, text_align_of, text_direction_of, toggled_of, tree_of, truth_of, units_of, vertical_offset_of}
use Rattle.script_words.specs.declared.stops.Stop.{Stop}
use Rattle.script_words.specs.declared.words.Words.{Words}
use Rattle.script_words.specs.declared.stops.Stop.TheVariants.{BadLine, Memory, ReadFault, WriteFault}
use Rattle.script_nodes.proofs.FieldNames.{called_back, called_so}
use Rattle.script_words.proofs.FieldCuts.{flag_is, name_is, value_is}
use Rattle.script_words.proofs.FieldReads.{and_words, flag_word, map_words, no_word, plain_value, text_value, valued_word}
use Rattle.script_words.proofs.TextCuts.{front_of, others_of}

-- ---- an empty word is no value

no_number : number_of [] ≡ None
unfolding number_of
no_number = refl

no_id_word : id_of [] ≡ None
unfolding number_of
no_id_word = refl

no_short : short_of [] ≡ None
unfolding short_of number_of
no_short = refl

no_narrow : narrow_of [] ≡ None
unfolding narrow_of number_of
no_narrow = refl

no_signed : signed_of [] ≡ None
unfolding signed_of
no_signed = refl

no_tree : tree_of [] ≡ None
unfolding tree_of
no_tree = refl

no_rect : rect_of [] ≡ None
unfolding rect_of rest_behind
no_rect = refl

no_translation : translation_of [] ≡ None
unfolding translation_of pair_of rest_behind
no_translation = refl

no_selection : selection_of [] ≡ None
unfolding selection_of rest_behind
no_selection = refl

no_color : color_of [] ≡ None
unfolding color_of rest_behind
no_color = refl

no_decoration : decoration_of [] ≡ None
unfolding decoration_of rest_behind
no_decoration = refl

no_ids : list_of id_of [] ≡ None
unfolding list_of parts_of each_of number_of
no_ids = refl

no_numbers : list_of short_of [] ≡ None
unfolding list_of parts_of each_of short_of number_of
no_numbers = refl

no_unit_list : unit_list_of [] ≡ None
unfolding unit_list_of list_of parts_of each_of units_of signed_of
no_unit_list = refl

no_actions : list_of action_of [] ≡ None
unfolding list_of parts_of each_of action_of in_brackets_of
no_actions = refl

no_truth : truth_of [] ≡ None
unfolding first_named
no_truth = refl

no_toggled : toggled_of [] ≡ None
unfolding first_named
no_toggled = refl

no_live : live_of [] ≡ None
unfolding first_named
no_live = refl

no_orientation : orientation_of [] ≡ None
unfolding first_named
no_orientation = refl

no_sort_direction : sort_direction_of [] ≡ None
unfolding first_named
no_sort_direction = refl

no_aria_current : aria_current_of [] ≡ None
unfolding first_named
no_aria_current = refl

no_has_popup : has_popup_of [] ≡ None
unfolding first_named
no_has_popup = refl

no_text_direction : text_direction_of [] ≡ None
unfolding first_named
no_text_direction = refl

no_text_align : text_align_of [] ≡ None
unfolding first_named
no_text_align = refl

no_vertical_offset : vertical_offset_of [] ≡ None
unfolding first_named
no_vertical_offset = refl

-- ---- a field with its value

-- where its value begins
abbrev spot_at : Field → Spot
spot_at which = if is_text (Some which) then Front else Plain

module _ (n : NodeData) (more : List ℕ) where
  plain_once : {T U : Type 0} (old : Option U) (meaning : List ℕ → Option T) (put : T → NodeData) → meaning [] ≡ None
      → onward (once old (option_map put (meaning (front_of (words_from takes_text Plain more))))) (and_words (others_of (words_from takes_text Plain more)))
      ≡ map_words takes_text (once old (option_map (put_next put) (next_as meaning (Some more))))
  plain_once None meaning put none = plain_value takes_text meaning put more none
  plain_once (Some old) meaning put none = refl

  plain_listed : {T U : Type 0} (old : List U) (meaning : List ℕ → Option T) (put : T → NodeData) → meaning [] ≡ None
      → onward (once_listed old (option_map put (meaning (front_of (words_from takes_text Plain more))))) (and_words (others_of (words_from takes_text Plain more)))
      ≡ map_words takes_text (once_listed old (option_map (put_next put) (next_as meaning (Some more))))
  unfolding once_listed
  plain_listed [] meaning put none = plain_value takes_text meaning put more none
  plain_listed (item ∷ others) meaning put none = refl

  text_once : (old : Option (List ℕ)) (put : List ℕ → NodeData)
      → onward (once old (option_map put (text_of (front_of (words_from takes_text Front more))))) (and_words (others_of (words_from takes_text Front more)))
      ≡ map_words takes_text (once old (option_map (put_next put) (next_text (Some more))))
  text_once None put = text_value takes_text put more
  text_once (Some old) put = refl

  same_value : (which : Field) → onward (value_means which (front_of (words_from takes_text (spot_at which) more)) n) (and_words (others_of (words_from takes_text (spot_at which) more)))
      ≡ map_words takes_text (value_at which (Some more) n)
  unfolding by_kind
  same_value (field.Ids which) = plain_listed (ids_at which n) (list_of id_of) (λ ids. with_ids which ids n) no_ids
  same_value (field.Id which) = plain_once (id_at which n) id_of (λ id. with_id which (Some id) n) no_id_word
  same_value (field.Text which) = text_once (text_at which n) (λ value. with_text which (Some value) n)
  same_value (field.Flag which) = refl
  same_value (field.Numbers which) = plain_listed (numbers_at which n) (list_of short_of) (λ numbers. with_numbers which numbers n) no_numbers
  same_value (field.Units which) = plain_once (units_at which n) unit_list_of (λ units. with_units which (Some units) n) no_unit_list
  same_value (field.Bool which) = plain_once (bool_at which n) truth_of (λ is_so. with_bool which (Some is_so) n) no_truth
  same_value (field.Color which) = plain_once (color_at which n) color_of (λ color. with_color which (Some color) n) no_color
  same_value (field.Decoration which) = plain_once (decoration_at which n) decoration_of (λ decoration. with_decoration which (Some decoration) n) no_decoration
  same_value (field.Number which) = plain_once (number_at which n) signed_of (λ number. with_number which (Some number) n) no_signed
  same_value (field.Count which) = plain_once (count_at which n) number_of (λ count. with_count which (Some count) n) no_number
  same_value (field.Actions which) = plain_listed (actions_in (actions_at which n)) (list_of action_of) (adding which n) no_actions
  same_value field.Tree = plain_once n.tree_id tree_of (λ value. record n { tree_id = Some value }) no_tree
  same_value field.Bounds = plain_once n.bounds rect_of (λ value. record n { bounds = Some value }) no_rect
  same_value field.Transform = plain_once n.transform translation_of (λ value. record n { transform = Some value }) no_translation
  same_value field.Selection = plain_once n.text_selection selection_of (λ value. record n { text_selection = Some value }) no_selection
  same_value field.Toggled = plain_once n.toggled toggled_of (λ value. record n { toggled = Some value }) no_toggled
  same_value field.Live = plain_once n.live live_of (λ value. record n { live = Some value }) no_live
  same_value field.Orientation = plain_once n.orientation orientation_of (λ value. record n { orientation = Some value }) no_orientation
  same_value field.SortDirection = plain_once n.sort_direction sort_direction_of (λ value. record n { sort_direction = Some value }) no_sort_direction
  same_value field.AriaCurrent = plain_once n.aria_current aria_current_of (λ value. record n { aria_current = Some value }) no_aria_current
  same_value field.HasPopup = plain_once n.has_popup has_popup_of (λ value. record n { has_popup = Some value }) no_has_popup
  same_value field.FontSize = plain_once n.font_size narrow_of (λ value. record n { font_size = Some value }) no_narrow
  same_value field.FontWeight = plain_once n.font_weight short_of (λ value. record n { font_weight = Some value }) no_short
  same_value field.TextDirection = plain_once n.text_direction text_direction_of (λ value. record n { text_direction = Some value }) no_text_direction
  same_value field.TextAlign = plain_once n.text_align text_align_of (λ value. record n { text_align = Some value }) no_text_align
  same_value field.VerticalOffset = plain_once n.vertical_offset vertical_offset_of (λ value. record n { vertical_offset = Some value }) no_vertical_offset

-- what comes behind a name and its equals sign
behind_name : (name value : List ℕ) (others : List (List ℕ)) (n : NodeData) (called : Option Field) → Lacks 61 name → field_called name ≡ called
    → onward (field_means (name ++ 61 ∷ value) n) (and_words others) ≡ onward (onward called (λ which. value_means which value n)) (and_words others)
behind_name name value others n called lacks is =
    ap (λ w. onward (onward (field_called w) (λ which. by_value which (value_of (name ++ 61 ∷ value)) n)) (and_words others)) (name_is name value lacks)
    ∙ ap (λ v. onward (onward (field_called name) (λ which. by_value which v n)) (and_words others)) (value_is name value lacks)
    ∙ ap (λ (f : Option Field). onward (onward f (λ which. value_means which value n)) (and_words others)) is

-- a field with a value is the first word, as its value is read behind its name
pub valued_field : (line name more : List ℕ) (which : Field) (n : NodeData) → line ≡ name ++ (61 ∷ more) → Lacks 61 name → Lacks 32 name → field_called name ≡ Some which
    → one_word field_means (fields_of takes_text (Some line)) n ≡ map_words takes_text (value_at which (Some more) n)
valued_field line name more which n e equals space is =
    let words = words_from takes_text (value_spot takes_text name) more in
    valued_word takes_text field_means line name more n (value_at which (Some more) n) e equals space
    (behind_name name (front_of words) (others_of words) n (Some which) equals is
    ∙ ap (λ (f : Option Field). onward (value_means which (front_of (words_from takes_text (if is_text f then Front else Plain) more)) n) (and_words (others_of (words_from takes_text (if is_text f then Front else Plain) more)))) is
    ∙ same_value n more which)

-- one with an unknown name
pub unknown_valued : (line name more : List ℕ) (n : NodeData) → line ≡ name ++ (61 ∷ more) → Lacks 61 name → Lacks 32 name → field_called name ≡ None → one_word field_means (fields_of takes_text (Some line)) n ≡ None
unknown_valued line name more n e equals space is =
    let words = words_from takes_text (value_spot takes_text name) more in
    valued_word takes_text field_means line name more n None e equals space (behind_name name (front_of words) (others_of words) n None equals is)

-- ---- a field without a value

name_alone : (name : List ℕ) (others : List (List ℕ)) (n : NodeData) (called : Option Field) → Lacks 61 name → field_called name ≡ called
    → onward (field_means name n) (and_words others) ≡ onward (onward called (λ which. flag_means which n)) (and_words others)
name_alone name others n called lacks is =
    let k = flag_is name lacks in
    ap (λ w. onward (onward (field_called w) (λ which. by_value which (value_of name) n)) (and_words others)) k.0
    ∙ ap (λ v. onward (onward (field_called name) (λ which. by_value which v n)) (and_words others)) k.1
    ∙ ap (λ (f : Option Field). onward (onward f (λ which. flag_means which n)) (and_words others)) is

pub named_flag : (line left : Option (List ℕ)) (name : List ℕ) (which : Field) (n : NodeData) → next_word line ≡ Some (name, left) → Lacks 61 name → field_called name ≡ Some which
    → one_word field_means (fields_of takes_text line) n ≡ onward (flag_means which n) (and_words (fields_of takes_text left))
named_flag line left name which n e lacks is = flag_word takes_text field_means line name left n e lacks ∙ name_alone name (fields_of takes_text left) n (Some which) lacks is

pub unknown_flag : (line left : Option (List ℕ)) (name : List ℕ) (n : NodeData) → next_word line ≡ Some (name, left) → Lacks 61 name → field_called name ≡ None → one_word field_means (fields_of takes_text line) n ≡ None
unknown_flag line left name n e lacks is = flag_word takes_text field_means line name left n e lacks ∙ name_alone name (fields_of takes_text left) n None lacks is

pub unknown_field : (line left : Option (List ℕ)) (name : Bor (List ℕ)) (has_value : Bool) (n : NodeData) → CutsField line (Ok (name, has_value)) left → field_called name.now ≡ None
    → one_word field_means (fields_of takes_text line) n ≡ None
unknown_field line left name true n cut is =
    ap (λ l. one_word field_means (fields_of takes_text l) n) cut.2 ∙ unknown_valued (name.now ++ (61 ∷ cut.0)) name.now cut.0 n refl cut.3 cut.4 is
unknown_field line left name false n cut is = unknown_flag line left name.now n cut.1 cut.0 is

empty_name : (n : NodeData) → field_means [] n ≡ None
unfolding part_before rest_behind field_called first_named
empty_name n = refl

pub no_field : (line : Option (List ℕ)) (n : NodeData) → next_word line ≡ None → one_word field_means (fields_of takes_text line) n ≡ None
no_field line n e = no_word takes_text field_means line n (empty_name n) e

-- ---- what is answered

-- a result that says that the line is bad
pub bad_line : {T U : Type 0} (meant : Option T) (r : Result U Stop) (stop : Stop) (seen : U → T) → IsErrAnd r (λ s. s ≡ stop) → stop ≡ BadLine → meant ≡ None → AnswersAs meant r seen
bad_line meant (Ok read) stop seen is bad none = absurd is
bad_line {T} {U} meant (Err s) stop seen is bad none = subst (λ (k : Stop). AnswersAs {T = T} {U = U} meant (Err k) seen) (sym (is ∙ bad)) none

-- one that stops for what another one has stopped
pub as_stopped : {T U : Type 0} (meant : Option T) (r : Result U Stop) (stop : Stop) (seen : U → T) → IsErrAnd r (λ s. s ≡ stop) → AnswersAs meant (Err stop) seen → AnswersAs meant r seen
as_stopped meant (Ok read) stop seen is a = absurd is
as_stopped {T} {U} meant (Err s) stop seen is a = subst (λ (k : Stop). AnswersAs {T = T} {U = U} meant (Err k) seen) (sym is) a

-- what a reader of this field answers is what one of that field does
pub of_field : (line : Words) (old : NodeData) (r : Result (Unit {0}) Stop) (new : NodeData) (left : Words) (which known : Field) → which ≡ known → ReadsValue known line old r new left → ReadsValue which line old r new left
of_field line old r new left which known is reads = subst (λ (f : Field). ReadsValue f line old r new left) (sym is) reads

abbrev pub value_at_of : Words → NodeData → Field → Option (NodeData × Option (List ℕ))
value_at_of line n which = value_at which (unread line) n

-- a field is read as its value is
pub value_read : (line more left : Option (List ℕ)) (name : List ℕ) (which : Field) (n new : NodeData) (r : Result (Unit {0}) Stop)
    → (text : List ℕ) × (more ≡ Some text) × (line ≡ Some (name ++ (61 ∷ text))) × Lacks 61 name × Lacks 32 name → field_called name ≡ Some which
    → AnswersAs (value_at which more n) r (λ read. (new, left)) → AnswersAs (one_word field_means (fields_of takes_text line) n) r (λ read. (new, fields_of takes_text left))
value_read line more left name which n new r cut is a =
    let text = cut.0 in
    let same : one_word field_means (fields_of takes_text line) n ≡ map_words takes_text (value_at which (Some text) n) =
    ap (λ l. one_word field_means (fields_of takes_text l) n) cut.2 ∙ valued_field (name ++ (61 ∷ text)) name text which n refl cut.3 cut.4 is in
    subst (λ (o : Option (NodeData × List (List ℕ))). AnswersAs o r (λ read. (new, fields_of takes_text left))) (sym same)
    (mapped (value_at which (Some text) n) r (subst (λ (m : Option (List ℕ)). AnswersAs (value_at which m n) r (λ read. (new, left))) cut.1 a))
  where
    mapped : (meant : Option (NodeData × Option (List ℕ))) (r : Result (Unit {0}) Stop) → AnswersAs meant r (λ read. (new, left)) → AnswersAs (map_words takes_text meant) r (λ read. (new, fields_of takes_text left))
    mapped meant (Ok read) b = ap (map_words takes_text) b
    mapped meant (Err BadLine) b = ap (map_words takes_text) b
    mapped meant (Err Memory) b = tt
    mapped meant (Err ReadFault) b = absurd b
    mapped meant (Err WriteFault) b = absurd b

pub flag_read : (line left : Option (List ℕ)) (name : List ℕ) (which : Field) (n new : NodeData) (r : Result (Unit {0}) Stop)
    → Lacks 61 name × (next_word line ≡ Some (name, left)) → field_called name ≡ Some which
    → AnswersAs (flag_means which n) r (λ read. new) → AnswersAs (one_word field_means (fields_of takes_text line) n) r (λ read. (new, fields_of takes_text left))
flag_read line left name which n new r cut is a =
    subst (λ (o : Option (NodeData × List (List ℕ))). AnswersAs o r (λ read. (new, fields_of takes_text left))) (sym (named_flag line left name which n cut.1 cut.0 is))
    (mapped (flag_means which n) r a)
  where
    mapped : (meant : Option NodeData) (r : Result (Unit {0}) Stop) → AnswersAs meant r (λ read. new) → AnswersAs (onward meant (and_words (fields_of takes_text left))) r (λ read. (new, fields_of takes_text left))
    mapped meant (Ok read) b = ap (λ (o : Option NodeData). onward o (and_words (fields_of takes_text left))) b
    mapped meant (Err BadLine) b = ap (λ (o : Option NodeData). onward o (and_words (fields_of takes_text left))) b
    mapped meant (Err Memory) b = tt
    mapped meant (Err ReadFault) b = absurd b
    mapped meant (Err WriteFault) b = absurd b

-- ---- the field with a name

-- as `field_named` has it
pub called_is : (name : List ℕ) (result : Option Field) → MatchOption result ((which : Field) → name ≢ field_name which) (λ which. name ≡ field_name which) → field_called name ≡ result
called_is name (Some which) e = ap field_called e ∙ called_back which
called_is name None nowhere = by (field_called name) refl
  where
    by : (o : Option Field) → field_called name ≡ o → o ≡ None
    by None e = refl
    by (Some which) e = absurd (nowhere which (called_so name which e))

-- ---- the whole line

-- what it means behind the role, and behind the id
abbrev with_id_of : NodeId → NodeData → NodeId × NodeData
with_id_of id n = (id, n)

abbrev from_role : NodeId → Role × Option (List ℕ) → Option (NodeId × NodeData)
from_role id role = option_map (with_id_of id) (fields_mean role.0 role.1)

abbrev from_id : NodeId × Option (List ℕ) → Option (NodeId × NodeData)
from_id id = onward (next_as role_of id.1) (from_role id.0)

pub no_id : (line : Option (List ℕ)) → next_as id_of line ≡ None → node_means line ≡ None
no_id line e = ap (λ (o : Option (NodeId × Option (List ℕ))). onward o from_id) e

pub no_role : (line behind : Option (List ℕ)) (id : NodeId) → next_as id_of line ≡ Some (id, behind) → next_as role_of behind ≡ None → node_means line ≡ None
no_role line behind id e none = ap (λ (o : Option (NodeId × Option (List ℕ))). onward o from_id) e ∙ ap (λ (o : Option (Role × Option (List ℕ))). onward o (from_role id)) none

module _ (line behind left : Option (List ℕ)) (id : NodeId) (role : Role) (first : next_as id_of line ≡ Some (id, behind)) (second : next_as role_of behind ≡ Some (role, left)) where
  line_is : node_means line ≡ option_map (with_id_of id) (fields_mean role left)
  line_is = ap (λ (o : Option (NodeId × Option (List ℕ))). onward o from_id) first ∙ ap (λ (o : Option (Role × Option (List ℕ))). onward o (from_role id)) second

  pub node_meant : (n : NodeData) → fields_mean role left ≡ Some n → node_means line ≡ Some (id, n)
  node_meant n e = line_is ∙ ap (option_map (with_id_of id)) e

  pub node_stopped : {U V : Type 0} (stop : Stop) (one : U → NodeData) (all : V → NodeId × NodeData) → AnswersAs (fields_mean role left) (Err stop) one → AnswersAs (node_means line) (Err stop) all
  node_stopped BadLine one all a = line_is ∙ ap (option_map (with_id_of id)) a
  node_stopped Memory one all a = tt
  node_stopped ReadFault one all a = absurd a
  node_stopped WriteFault one all a = absurd a
