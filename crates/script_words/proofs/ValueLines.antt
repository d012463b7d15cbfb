-- The values of fields, as they are written, stand on one line.
use Rattle.std.proofs.Common.{◌≡◌, ℕ, ◌<◌, ◌^◌, ℤ, List, [], ◌∷◌, ◌++◌, All, Bool, true, false, codes, Option, Some, None, MatchOption, bytes_eq, arith, inl, refl, sym, subst, ◌∙◌, ⊎_elim}
use Rattle.std.specs.Bool.{⊤}
use Rattle.std.specs.Fmt.{decimal, signed_decimal}
use Rattle.std.specs.List.{list_all}
use Rattle.std.proofs.lemmas.Bool.{and_parts, cases_Bool, cond_both, cond-true, cond-false}
use Rattle.std.proofs.lemmas.List.Elements.{All-head, All-tail}
use Rattle.std.proofs.lemmas.Option.{none-some, same_Some}
use Rattle.std.proofs.lemmas.Str.{IsUtf8-from_ascii}
use Rattle.uuid.specs.Text.{hyphenated_text, lower}
use Rattle.uuid.proofs.TextLemmas.{hyphenated_ascii}
use Rattle.schema.specs.TreeIds.{root_tree_id}
use Rattle.schema.specs.RoleNames.{role_name, role_text}
use Rattle.schema.specs.declared.NodeId.{NodeId}
use Rattle.schema.specs.declared.Role.{Role}
use Rattle.schema.specs.declared.TreeId.{TreeId}
use Rattle.schema.specs.declared.actions.Action.{Action}
use Rattle.schema.specs.declared.actions.Action.TheVariants as action
use Rattle.schema.specs.declared.geometry.Rect.{Rect}
use Rattle.schema.specs.declared.geometry.Translation.{Translation}
use Rattle.schema.specs.declared.values.Color.{Color}
use Rattle.schema.specs.declared.values.TextDecoration.{TextDecoration}
use Rattle.schema.specs.declared.values.TextPosition.{TextPosition}
use Rattle.schema.specs.declared.values.TextSelection.{TextSelection}
use Rattle.script_words.specs.NamedIn.{first_named}
use Rattle.script_words.specs.NameLists.{all_roles}
use Rattle.script_words.specs.Parts.{action_text, actions_value, color_text, corners_text, decoration_text, flag_text, ids_value, numbers_value, pair_text, place_text, rect_text, selection_text, translation_text, tree_text, units_text, word_field}
use Rattle.script_words.specs.Reading.{IsAction, IsByte, IsColor, IsDecoration, IsId, IsPosition, IsRect, IsRole, IsSelection, IsShort, IsTranslation, IsUnits}
use Rattle.script_words.proofs.LineTexts.{IsLineText, decimal_line, line_append, line_by, line_joined, line_lacking, line_nothing, listed_line, shows, units_line}
use Rattle.script_words.proofs.NameLines.{decoration_style_line}
use Rattle.script_words.proofs.RoleWords.{role_found}
use Rattle.script_words.proofs.TreeNames.{uuid_lacks}

-- ---- roles and actions

pub role_shows : (word : List ℕ) (roles : List Role) (r : Role) → list_all (λ r. shows (role_text r)) roles ≡ true → first_named role_name word roles ≡ Some r → shows (role_text r) ≡ true
unfolding first_named
role_shows word [] r all e = absurd (none-some r e)
role_shows word (x ∷ roles) r all e =
    let k = and_parts (shows (role_text x)) (list_all (λ r. shows (role_text r)) roles) all in
    ⊎_elim
    (λ t. let same : x ≡ r = same_Some x r (sym (cond-true _ _ _ t) ∙ e) in subst (λ y. shows (role_text y) ≡ true) same k.0)
    (λ no. role_shows word roles r k.1 (sym (cond-false _ _ _ no) ∙ e))
    (cases_Bool (bytes_eq (role_name x) word))

pub in_brackets_line : (code : ℕ) → code < 2 ^ 64 → IsLineText (codes "Other" ++ codes "(" ++ decimal code ++ codes ")")
in_brackets_line code low = line_append (codes "Other(" ++ decimal code) (codes ")") (line_append (codes "Other(") (decimal code) (line_by (codes "Other(") refl) (decimal_line code low)) (line_by (codes ")") refl)

pub role_line : (r : Role) → IsRole r → IsLineText (role_text r)
unfolding all_roles
role_line r h = ⊎_elim
    (λ e. line_by (role_text r) (role_shows (role_text r) all_roles r refl e))
    (λ k. subst (λ x. IsLineText (role_text x)) (sym k.1) (in_brackets_line k.0 (omega (arith, h k.0 k.1))))
    (role_found r)

pub action_line : (a : Action) → IsAction a → IsLineText (action_text a)
action_line action.Click h = line_by (codes "Click") refl
action_line action.Focus h = line_by (codes "Focus") refl
action_line action.Increment h = line_by (codes "Increment") refl
action_line action.Decrement h = line_by (codes "Decrement") refl
action_line (action.Other code) h = in_brackets_line code (omega (arith, h code refl))

-- ---- values

pub tree_line : (tree : TreeId) → IsLineText (tree_text tree)
tree_line tree = cond_both (bytes_eq tree.0 root_tree_id.0) (codes "root") (hyphenated_text lower tree.0) IsLineText (λ _. line_by (codes "root") refl) (λ _.
    line_lacking (hyphenated_text lower tree.0) (uuid_lacks 10 (omega arith) tree.0) (uuid_lacks 13 (omega arith) tree.0) (IsUtf8-from_ascii (hyphenated_text lower tree.0) (hyphenated_ascii lower tree.0 (inl refl))))

pub id_line : (id : NodeId) → IsId id → IsLineText (decimal id.0)
id_line id h = decimal_line id.0 h

pub byte_line : (n : ℕ) → IsByte n → IsLineText (decimal n)
byte_line n h = decimal_line n (omega (arith, h))

pub short_line : (n : ℕ) → IsShort n → IsLineText (decimal n)
short_line n h = decimal_line n (omega (arith, h))

pub narrow_line : (n : ℕ) → n < 2 ^ 32 → IsLineText (decimal n)
narrow_line n h = decimal_line n (omega (arith, h))

pub comma : IsLineText (codes ",")
comma = line_by (codes ",") refl

pub pair_line : (x y : ℤ) → IsUnits x → IsUnits y → IsLineText (pair_text x y)
unfolding pair_text
pair_line x y hx hy = line_joined (signed_decimal x) (codes ",") (signed_decimal y) (units_line x hx) comma (units_line y hy)

pub rect_line : (r : Rect) → IsRect r → IsLineText (rect_text r)
unfolding corners_text
rect_line r h = line_joined (pair_text r.x0 r.y0) (codes ",") (pair_text r.x1 r.y1) (pair_line r.x0 r.y0 h.0 h.1) comma (pair_line r.x1 r.y1 h.2 h.3)

pub translation_line : (t : Translation) → IsTranslation t → IsLineText (translation_text t)
translation_line t h = pair_line t.x t.y h.0 h.1

pub place_line : (p : TextPosition) → IsPosition p → IsLineText (place_text p)
place_line p h = line_joined (decimal p.node.0) (codes ":") (decimal p.character_index) (decimal_line p.node.0 h.0) (line_by (codes ":") refl) (decimal_line p.character_index h.1)

pub selection_line : (s : TextSelection) → IsSelection s → IsLineText (selection_text s)
selection_line s h = line_joined (place_text s.anchor) (codes ",") (place_text s.focus) (place_line s.anchor h.0) comma (place_line s.focus h.1)

pub color_line : (c : Color) → IsColor c → IsLineText (color_text c)
color_line c h =
    let two = line_joined (decimal c.red) (codes ",") (decimal c.green) (byte_line c.red h.0) comma (byte_line c.green h.1) in
    let three = line_joined (decimal c.red ++ codes "," ++ decimal c.green) (codes ",") (decimal c.blue) two comma (byte_line c.blue h.2) in
    line_joined (decimal c.red ++ codes "," ++ decimal c.green ++ codes "," ++ decimal c.blue) (codes ",") (decimal c.alpha) three comma (byte_line c.alpha h.3)

pub decoration_line : (d : TextDecoration) → IsDecoration d → IsLineText (decoration_text d)
decoration_line d h = line_joined _ (codes ",") (color_text d.color) (decoration_style_line d.style) comma (color_line d.color h)

pub list_line : (units : List ℤ) → All IsUnits units → IsLineText (units_text units)
list_line [] h = line_by (codes "-") refl
list_line (z ∷ zs) h = listed_line signed_decimal IsUnits units_line z zs (All-head IsUnits z zs h) (All-tail IsUnits z zs h)

pub ids_line : (ids : List NodeId) → All IsId ids → MatchOption (ids_value ids) ⊤ IsLineText
ids_line [] h = tt
ids_line (id ∷ ids) h = listed_line (λ i. decimal i.0) IsId id_line id ids (All-head IsId id ids h) (All-tail IsId id ids h)

pub numbers_line : (numbers : List ℕ) → All IsShort numbers → MatchOption (numbers_value numbers) ⊤ IsLineText
numbers_line [] h = tt
numbers_line (n ∷ numbers) h = listed_line decimal IsShort short_line n numbers (All-head IsShort n numbers h) (All-tail IsShort n numbers h)

pub actions_line : (actions : List Action) → All IsAction actions → MatchOption (actions_value actions) ⊤ IsLineText
actions_line [] h = tt
actions_line (a ∷ actions) h = listed_line action_text IsAction action_line a actions (All-head IsAction a actions h) (All-tail IsAction a actions h)

-- ---- fields with their values

pub word_line : (name : List ℕ) (value : Option (List ℕ)) → IsLineText name → MatchOption value ⊤ IsLineText → IsLineText (word_field name value)
unfolding word_field
word_line name None p h = line_nothing
word_line name (Some value) p h = line_joined (codes " " ++ name) (codes "=") value (line_append (codes " ") name (line_by (codes " ") refl) p) (line_by (codes "=") refl) h

pub flag_line : (name : List ℕ) (is_set : Bool) → IsLineText name → IsLineText (flag_text name is_set)
unfolding flag_text
flag_line name true p = line_append (codes " ") name (line_by (codes " ") refl) p
flag_line name false p = line_nothing
