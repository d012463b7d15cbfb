-- The written form of a value means that value, and it comes next in a line where it is written.
use Rattle.std.proofs.Common.{◌≡◌, ◌≢◌, ℕ, ℤ, pos, negsuc, ◌==◌, suc, List, [], ◌∷◌, ◌++◌, All, codes, flat_map, bytes_eq, Bool, true, false, true≢false, Option, Some, None, option_map, arith, inl, inr, ⊎_elim, ap, ap₂, refl, sym, ◌∙◌}
use Rattle.std.proofs.lemmas.Bool.{cases_Bool, cond-false, cond-true}
use Rattle.std.proofs.lemmas.Bool.Decides.{nat_tests}
use Rattle.std.proofs.lemmas.Fmt.{decimal_is_IsNumeral}
use Rattle.std.proofs.lemmas.List.Elements.{All-cons, All-head, All-tail}
use Rattle.std.proofs.lemmas.Slice.Eq.{bytes_eq-Decides}
use Rattle.std.specs.Fmt.{decimal, signed_decimal}
use Rattle.std.specs.Str.{IsUtf8}
use Rattle.schema.specs.RoleNames.{role_name, role_text}
use Rattle.schema.specs.declared.NodeId.{NodeId}
use Rattle.schema.specs.declared.Role.{Role}
use Rattle.schema.specs.declared.Role.TheVariants as role
use Rattle.schema.specs.declared.TreeId.{TreeId}
use Rattle.schema.specs.declared.actions.Action.{Action}
use Rattle.schema.specs.declared.actions.Action.TheVariants.{Click, Focus, Increment, Decrement, Other}
use Rattle.schema.specs.declared.geometry.Rect.{Rect}
use Rattle.schema.specs.declared.geometry.Translation.{Translation}
use Rattle.schema.specs.declared.values.Color.{Color}
use Rattle.schema.specs.declared.values.TextDecoration.{TextDecoration}
use Rattle.schema.specs.declared.values.TextPosition.{TextPosition}
use Rattle.schema.specs.declared.values.TextSelection.{TextSelection}
use Rattle.script_words.specs.Cuts.{halves, part_before, rest_behind}
use Rattle.script_words.specs.Items.{comma_then, list_text}
use Rattle.script_words.specs.Meaning.{next_as, next_word, onward, some_word}
use Rattle.script_words.specs.NamedIn.{first_named}
use Rattle.script_words.specs.NameLists.{all_roles}
use Rattle.script_words.specs.Names.{decoration_style_name}
use Rattle.script_words.specs.PartValues.{action_of, begun_with_value, both_of, color_by, color_of, decoration_by, decoration_of, each_of, from_anchor, from_corners, list_of, or_else, other_of, pair_of, parts_of, place_at, place_of, rect_of, role_of, selection_of, shifted_by, translation_of, two_bytes_of, unit_list_of}
use Rattle.script_words.specs.Parts.{action_text, color_text, decoration_text, pair_text, place_text, rect_text, selection_text, translation_text, tree_text, units_text}
use Rattle.script_words.specs.Quoted.{quoted, quoted_byte}
use Rattle.script_words.specs.Reading.{IsAction, IsByte, IsColor, IsCount, IsDecoration, IsId, IsNarrow, IsNumber, IsPosition, IsRect, IsRole, IsSelection, IsShort, IsTranslation, IsTreeName, IsUnits, IsWord, Lacks, after, behind}
use Rattle.script_words.specs.Says.{SaysSigned, SaysTree}
use Rattle.script_words.specs.Texts.{as_text, behind_text, next_text, unquoted}
use Rattle.script_words.specs.WordValues.{byte_of, decoration_style_of, id_of, narrow_of, node_id, number_of, short_of, signed_of, tree_of, units_of}
use Rattle.script_words.proofs.CommaLists.{behind_listed, listed}
use Rattle.script_words.proofs.CommaWords.{byte_lacks_comma, color_cut, corners_cut, decoration_cut, id_lacks_colon, pair_cut, place_cut, place_lacks_comma, selection_cut, style_lacks_comma, units_lack_comma, units_no_minus}
use Rattle.script_words.proofs.NamedValues.{first_decoration_style}
use Rattle.script_words.proofs.Numerals.{units_are_numbers}
use Rattle.script_words.proofs.PartMeanings.{brackets_exact, parts_cut, parts_left, two_parts}
use Rattle.script_words.proofs.RoleWords.{role_found}
use Rattle.script_words.proofs.TextSteps.{kept, read_back, text_from}
use Rattle.script_words.proofs.TreeNames.{tree_word}
use Rattle.script_words.proofs.WordMeanings.{byte_exact, narrow_exact, number_exact, short_exact, signed_exact, tree_exact, units_exact}

-- ---- where a text is cut

pub not_eq : (a b : ℕ) → a ≢ b → (a == b) ≡ false
not_eq a b other = grind (arith, nat_tests, other)

cut_here : (mark : ℕ) → (mark == mark) ≡ true
cut_here mark = grind (arith, nat_tests)

pub part_of : (mark : ℕ) (text : List ℕ) (rest : Option (List ℕ)) → Lacks mark text → part_before mark (text ++ behind mark rest) ≡ text
unfolding part_before
part_of mark [] None lacks = refl
part_of mark [] (Some rest) lacks = cond-true _ _ _ (cut_here mark)
part_of mark (byte ∷ text) rest lacks = cond-false _ _ _ (not_eq byte mark (lacks 0 (omega arith))) ∙ ap (λ t. byte ∷ t) (part_of mark text rest (λ i l. lacks (suc i) (omega (arith, l))))

pub rest_of : (mark : ℕ) (text : List ℕ) (rest : Option (List ℕ)) → Lacks mark text → rest_behind mark (text ++ behind mark rest) ≡ rest
unfolding rest_behind
rest_of mark [] None lacks = refl
rest_of mark [] (Some rest) lacks = cond-true _ _ _ (cut_here mark)
rest_of mark (byte ∷ text) rest lacks = cond-false _ _ _ (not_eq byte mark (lacks 0 (omega arith))) ∙ rest_of mark text rest (λ i l. lacks (suc i) (omega (arith, l)))

pub word_comes : (word : List ℕ) (rest : Option (List ℕ)) → IsWord word → next_word (Some (word ++ after rest)) ≡ Some (word, rest)
word_comes [] rest h = absurd (omega (arith, h.1))
word_comes (byte ∷ word) rest h = ap₂ some_word (part_of 32 (byte ∷ word) rest h.0) (rest_of 32 (byte ∷ word) rest h.0)

-- a word that stands for a value
pub value_comes : {T : Type 0} (meaning : List ℕ → Option T) (word : List ℕ) (value : T) (rest : Option (List ℕ)) → IsWord word → meaning word ≡ Some value → next_as meaning (Some (word ++ after rest)) ≡ Some (value, rest)
value_comes {T} meaning word value rest h is =
    ap (λ (o : Option (List ℕ × Option (List ℕ))). onward o (λ w. onward (meaning w.0) (λ v. Some (v, w.1)))) (word_comes word rest h)
    ∙ ap (λ (o : Option T). onward o (λ v. Some (v, rest))) is

-- ---- numbers

pub number_written : (n : ℕ) → IsCount n → number_of (decimal n) ≡ Some n
number_written n h = (number_exact (decimal n) n).1 (h, decimal_is_IsNumeral n h)

pub id_written : (id : NodeId) → IsId id → id_of (decimal id.0) ≡ Some id
id_written id h = ap (option_map node_id) (number_written id.0 h)

pub narrow_written : (n : ℕ) → IsNarrow n → narrow_of (decimal n) ≡ Some n
narrow_written n h = (narrow_exact (decimal n) n).1 (h, decimal_is_IsNumeral n (omega (arith, h)))

pub short_written : (n : ℕ) → IsShort n → short_of (decimal n) ≡ Some n
short_written n h = (short_exact (decimal n) n).1 (h, decimal_is_IsNumeral n (omega (arith, h)))

byte_written : (n : ℕ) → IsByte n → byte_of (decimal n) ≡ Some n
byte_written n h = (byte_exact (decimal n) n).1 (h, decimal_is_IsNumeral n (omega (arith, h)))

signed_says : (z : ℤ) → IsNumber z → SaysSigned (signed_decimal z) z
signed_says (pos n) h = inl (n, decimal_is_IsNumeral n (omega (arith, h.sfits)), refl)
signed_says (negsuc n) h = inr (decimal (suc n), suc n, refl, decimal_is_IsNumeral (suc n) (omega (arith, h.sfits)), refl)

pub signed_written : (z : ℤ) → IsNumber z → signed_of (signed_decimal z) ≡ Some z
signed_written z h = (signed_exact (signed_decimal z) z).1 (h, signed_says z h)

units_written : (z : ℤ) → IsUnits z → units_of (signed_decimal z) ≡ Some z
units_written z h = (units_exact (signed_decimal z) z).1 (h, signed_says z (units_are_numbers z h))

-- ---- trees

tree_says : (tree : TreeId) → IsTreeName tree → SaysTree (tree_text tree) tree
tree_says tree h =
    let k = tree_word tree (tree_text tree) (bytes_eq (tree_text tree) (codes "root")) h refl refl in
    ⊎_elim (λ t. inl ((bytes_eq-Decides (tree_text tree) (codes "root")).0 t, k.0 t)) (λ f. inr (sym (k.1 f))) (cases_Bool (bytes_eq (tree_text tree) (codes "root")))

pub tree_written : (tree : TreeId) → IsTreeName tree → tree_of (tree_text tree) ≡ Some tree
tree_written tree h = (tree_exact (tree_text tree) tree).1 (tree_says tree h)

-- ---- two parts, or more

halves_written : (mark : ℕ) (front back : List ℕ) → Lacks mark front → Some (front, back) ≡ halves mark (front ++ (mark ∷ back))
halves_written mark front back lacks =
    ap (λ f. Some (f, back)) (sym (part_of mark front (Some back) lacks)) ∙ ap (option_map (λ rest. (part_before mark (front ++ (mark ∷ back)), rest))) (sym (rest_of mark front (Some back) lacks))

both_written : {T U : Type 0} (mark : ℕ) (first : List ℕ → Option T) (second : List ℕ → Option U) (word front back : List ℕ) (x : T) (y : U)
    → word ≡ front ++ (mark ∷ back) → Lacks mark front → first front ≡ Some x → second back ≡ Some y → both_of mark first second word ≡ Some (x, y)
both_written mark first second word front back x y e lacks a b =
    ap (both_of mark first second) e ∙ sym (two_parts mark first second (front ++ (mark ∷ back)) front back (halves_written mark front back lacks) x y (sym a) (sym b))

pair_written : (x y : ℤ) → IsUnits x → IsUnits y → pair_of (pair_text x y) ≡ Some (x, y)
unfolding pair_of
pair_written x y hx hy = both_written 44 units_of units_of (pair_text x y) (signed_decimal x) (signed_decimal y) x y (pair_cut x y) (units_lack_comma x hx) (units_written x hx) (units_written y hy)

pub rect_written : (r : Rect) → IsRect r → rect_of (rect_text r) ≡ Some r
unfolding rect_of
rect_written r h = ap (option_map from_corners)
    (both_written 44 units_of (both_of 44 units_of pair_of) (rect_text r) (signed_decimal r.x0) (signed_decimal r.y0 ++ (44 ∷ pair_text r.x1 r.y1)) r.x0 (r.y0, (r.x1, r.y1))
    (corners_cut r.x0 r.y0 r.x1 r.y1) (units_lack_comma r.x0 h.0) (units_written r.x0 h.0)
    (both_written 44 units_of pair_of (signed_decimal r.y0 ++ (44 ∷ pair_text r.x1 r.y1)) (signed_decimal r.y0) (pair_text r.x1 r.y1) r.y0 (r.x1, r.y1) refl (units_lack_comma r.y0 h.1) (units_written r.y0 h.1) (pair_written r.x1 r.y1 h.2 h.3)))

pub translation_written : (t : Translation) → IsTranslation t → translation_of (translation_text t) ≡ Some t
unfolding translation_of
translation_written t h = ap (option_map shifted_by) (pair_written t.x t.y h.0 h.1)

place_written : (p : TextPosition) → IsPosition p → place_of (place_text p) ≡ Some p
unfolding place_of
place_written p h = ap (option_map place_at)
    (both_written 58 id_of number_of (place_text p) (decimal p.node.0) (decimal p.character_index) p.node p.character_index (place_cut p.node.0 p.character_index) (id_lacks_colon p.node.0 h.0) (id_written p.node h.0) (number_written p.character_index h.1))

pub selection_written : (s : TextSelection) → IsSelection s → selection_of (selection_text s) ≡ Some s
unfolding selection_of
selection_written s h = ap (option_map from_anchor)
    (both_written 44 place_of place_of (selection_text s) (place_text s.anchor) (place_text s.focus) s.anchor s.focus (selection_cut s) (place_lacks_comma s.anchor h.0) (place_written s.anchor h.0) (place_written s.focus h.1))

two_bytes_written : (x y : ℕ) → IsByte x → IsByte y → two_bytes_of (decimal x ++ (44 ∷ decimal y)) ≡ Some (x, y)
unfolding two_bytes_of
two_bytes_written x y hx hy = both_written 44 byte_of byte_of (decimal x ++ (44 ∷ decimal y)) (decimal x) (decimal y) x y refl (byte_lacks_comma x hx) (byte_written x hx) (byte_written y hy)

pub color_written : (c : Color) → IsColor c → color_of (color_text c) ≡ Some c
unfolding color_of
color_written c h =
    let end = decimal c.blue ++ (44 ∷ decimal c.alpha) in
    ap (option_map color_by)
    (both_written 44 byte_of (both_of 44 byte_of two_bytes_of) (color_text c) (decimal c.red) (decimal c.green ++ (44 ∷ end)) c.red (c.green, (c.blue, c.alpha)) (color_cut c) (byte_lacks_comma c.red h.0) (byte_written c.red h.0)
    (both_written 44 byte_of two_bytes_of (decimal c.green ++ (44 ∷ end)) (decimal c.green) end c.green (c.blue, c.alpha) refl (byte_lacks_comma c.green h.1) (byte_written c.green h.1) (two_bytes_written c.blue c.alpha h.2 h.3)))

pub decoration_written : (d : TextDecoration) → IsDecoration d → decoration_of (decoration_text d) ≡ Some d
unfolding decoration_of
decoration_written d h = ap (option_map decoration_by)
    (both_written 44 decoration_style_of color_of (decoration_text d) (decoration_style_name d.style) (color_text d.color) d.style d.color (decoration_cut d) (style_lacks_comma d.style) (first_decoration_style d.style) (color_written d.color h))

-- ---- lists

module _ {T : Type 0} (meaning : List ℕ → Option T) (text : T → List ℕ) (Fits : T → Type 0) (apart : (x : T) → Fits x → Lacks 44 (text x)) (means : (x : T) → Fits x → meaning (text x) ≡ Some x) where
  items_written : (xs : List T) → All Fits xs → each_of meaning (parts_left 44 (listed text xs)) ≡ Some xs
  unfolding each_of
  items_written [] h = refl
  items_written (x ∷ xs) h =
      let first = All-head Fits x xs h in
      let whole = text x ++ behind 44 (listed text xs) in
      ap (λ t. each_of meaning (parts_of 44 (text x ++ t))) (behind_listed text xs)
      ∙ ap (each_of meaning) (parts_cut 44 whole)
      ∙ ap (λ (part : List ℕ). each_of meaning (part ∷ parts_left 44 (rest_behind 44 whole))) (part_of 44 (text x) (listed text xs) (apart x first))
      ∙ ap (λ (rest : Option (List ℕ)). each_of meaning (text x ∷ parts_left 44 rest)) (rest_of 44 (text x) (listed text xs) (apart x first))
      ∙ ap (λ (o : Option T). onward o (λ value. option_map (begun_with_value value) (each_of meaning (parts_left 44 (listed text xs))))) (means x first)
      ∙ ap (option_map (begun_with_value x)) (items_written xs (All-tail Fits x xs h))

  pub list_written : (x : T) (xs : List T) → Fits x → All Fits xs → list_of meaning (list_text text x xs) ≡ Some (x ∷ xs)
  unfolding list_of
  list_written x xs h hs = items_written (x ∷ xs) (All-cons Fits x xs h hs)

pub unit_list_written : (units : List ℤ) → All IsUnits units → unit_list_of (units_text units) ≡ Some units
unfolding unit_list_of
unit_list_written [] h = refl
unit_list_written (z ∷ zs) h =
    let first = All-head IsUnits z zs h in
    cond-false _ _ _ (other (bytes_eq (units_text (z ∷ zs)) (codes "-")) refl)
    ∙ list_written units_of signed_decimal IsUnits units_lack_comma units_written z zs first (All-tail IsUnits z zs h)
  where
    other : (b : Bool) → bytes_eq (units_text (z ∷ zs)) (codes "-") ≡ b → bytes_eq (units_text (z ∷ zs)) (codes "-") ≡ false
    other false e = e
    other true e = absurd (units_no_minus z (All-head IsUnits z zs h) (flat_map (comma_then signed_decimal) zs) ((bytes_eq-Decides (units_text (z ∷ zs)) (codes "-")).0 e))

-- ---- actions and roles

other_written : (meaning : List ℕ → Option ℕ) (n : ℕ) → meaning (decimal n) ≡ Some n → other_of meaning (codes "Other(" ++ (decimal n ++ codes ")")) ≡ Some n
other_written meaning n is = ap (λ (o : Option (List ℕ)). onward o meaning) ((brackets_exact (codes "Other(" ++ (decimal n ++ codes ")")) (decimal n)).1 refl) ∙ is

pub action_written : (action : Action) → IsAction action → action_of (action_text action) ≡ Some action
unfolding action_of
action_written Click h = refl
action_written Focus h = refl
action_written Increment h = refl
action_written Decrement h = refl
action_written (Other code) h = ap (option_map Other) (other_written byte_of code (byte_written code (h code refl)))

pub role_written : (r : Role) → IsRole r → role_of (role_text r) ≡ Some r
unfolding role_of
role_written r h = ⊎_elim
    (λ there. ap (λ (o : Option Role). or_else o (option_map role.Other (other_of short_of (role_text r)))) there)
    (λ k. ap (λ (o : Option Role). or_else o (option_map role.Other (other_of short_of (role_text r)))) k.2
    ∙ ap (λ (s : Role). option_map role.Other (other_of short_of (role_text s))) k.1
    ∙ ap (option_map role.Other) (other_written short_of k.0 (short_written k.0 (h k.0 k.1)))
    ∙ ap Some (sym k.1))
    (role_found r)

-- ---- a text

abbrev and_left : Option (List ℕ) → List ℕ → Option (List ℕ × Option (List ℕ))
and_left left text = Some (text, left)

abbrev kept_before : List ℕ → Option (List ℕ) → Option (List ℕ × Option (List ℕ))
kept_before text left = onward (as_text text) (and_left left)

behind_quote : (rest : Option (List ℕ)) → behind_text (after rest) ≡ Some rest
behind_quote None = refl
behind_quote (Some rest) = refl

pub text_comes : (text : List ℕ) (rest : Option (List ℕ)) → IsUtf8 text → next_text (Some (quoted text ++ after rest)) ≡ Some (text, rest)
text_comes text rest utf8 =
    let inner = flat_map quoted_byte text ++ codes "\"" ++ after rest in
    let line : quoted text ++ after rest ≡ 34 ∷ inner = refl in
    text_from (quoted text ++ after rest) inner text (after rest) line (read_back inner (unquoted inner) refl text (after rest) refl)
    ∙ ap (λ (o : Option (Option (List ℕ))). onward o (kept_before text)) (behind_quote rest)
    ∙ ap (λ (o : Option (List ℕ)). onward o (and_left rest)) (kept text utf8)
