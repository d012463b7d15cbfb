-- Words with commas in them: their parts, and that they are words.
use Rattle.std.proofs.Common.{Bool, true, false, true≢false, bytes_eq, flat_map, slice_index_or, sym, length-append, ◌≡◌, ◌≢◌, ℕ, ◌≤◌, List, [], ◌∷◌, ◌++◌, length, arith, ℤ, pos, negsuc, suc, All, append_assoc, ◌∙◌, ap, codes, refl}
use lib.ListN.{get_or-append}
use Rattle.std.proofs.lemmas.List.Elements.{All-head, All-tail}
use Rattle.std.proofs.lemmas.Slice.Eq.{bytes_eq-Decides}
use Rattle.std.specs.Char.{digit_value}
use Rattle.std.specs.Fmt.{decimal, signed_decimal}
use Rattle.schema.specs.declared.NodeId.{NodeId}
use Rattle.schema.specs.declared.geometry.Rect.{Rect}
use Rattle.schema.specs.declared.geometry.Translation.{Translation}
use Rattle.schema.specs.declared.values.Color.{Color}
use Rattle.schema.specs.declared.values.TextDecoration.{TextDecoration}
use Rattle.schema.specs.declared.values.TextDecorationStyle.{TextDecorationStyle}
use Rattle.schema.specs.declared.values.TextDecorationStyle.TheVariants as decoration_style
use Rattle.schema.specs.declared.values.TextPosition.{TextPosition}
use Rattle.schema.specs.declared.values.TextSelection.{TextSelection}
use Rattle.script_words.specs.Names.{decoration_style_name}
use Rattle.script_words.specs.Parts.{pair_text, corners_text, rect_text, translation_text, place_text, selection_text, color_text, decoration_text, ids_text, numbers_text, units_text}
use Rattle.script_words.specs.Items.{comma_then}
use Rattle.script_words.specs.Reading.{Lacks, IsWord, IsCount, IsUnits, IsShort, IsByte, IsId, IsRect, IsTranslation, IsPosition, IsSelection, IsColor, IsDecoration}
use Rattle.script_words.proofs.Decimals.{decimal_lacks, decimal_is_word}
use Rattle.script_words.proofs.Lacking.{lacks_nothing, lacks_cons, lacks_append, lacks_by}
use Rattle.script_words.proofs.NamedWords.{decoration_style_is_word}

pub units_lack : (c : ℕ) → 10 ≤ digit_value c → c ≢ 45 → (z : ℤ) → IsUnits z → Lacks c (signed_decimal z)
units_lack c high other (pos n) fits = decimal_lacks c high n (omega (arith, fits.sfits))
units_lack c high other (negsuc n) fits = lacks_cons c 45 (decimal (suc n)) (λ e. omega (arith, other, e)) (decimal_lacks c high (suc n) (omega (arith, fits.sfits)))

pub units_lack_comma : (z : ℤ) → IsUnits z → Lacks 44 (signed_decimal z)
units_lack_comma z fits = units_lack 44 (omega arith) (omega arith) z fits

pub pair_cut : (x y : ℤ) → pair_text x y ≡ signed_decimal x ++ (44 ∷ signed_decimal y)
unfolding pair_text
pair_cut x y = append_assoc (signed_decimal x) (codes ",") (signed_decimal y)

pub corners_cut : (x0 y0 x1 y1 : ℤ) → corners_text x0 y0 x1 y1 ≡ signed_decimal x0 ++ (44 ∷ (signed_decimal y0 ++ (44 ∷ pair_text x1 y1)))
unfolding pair_text corners_text
corners_cut x0 y0 x1 y1 =
    append_assoc (pair_text x0 y0) (codes ",") (pair_text x1 y1) ∙ append_assoc (signed_decimal x0 ++ codes ",") (signed_decimal y0) (44 ∷ pair_text x1 y1)
    ∙ append_assoc (signed_decimal x0) (codes ",") (signed_decimal y0 ++ (44 ∷ pair_text x1 y1))

pub id_lacks_colon : (n : ℕ) → IsCount n → Lacks 58 (decimal n)
id_lacks_colon n low = decimal_lacks 58 (omega arith) n low

pub count_lacks_comma : (n : ℕ) → IsCount n → Lacks 44 (decimal n)
count_lacks_comma n low = decimal_lacks 44 (omega arith) n low

pub place_cut : (node index : ℕ) → decimal node ++ codes ":" ++ decimal index ≡ decimal node ++ (58 ∷ decimal index)
place_cut node index = append_assoc (decimal node) (codes ":") (decimal index)

pub place_lacks : (c : ℕ) → 10 ≤ digit_value c → c ≢ 58 → (p : TextPosition) → IsPosition p → Lacks c (place_text p)
place_lacks c high other p h =
    lacks_append c (decimal p.node.0 ++ codes ":") (decimal p.character_index)
    (lacks_append c (decimal p.node.0) (codes ":") (decimal_lacks c high p.node.0 h.0) (lacks_cons c 58 [] (λ e. omega (arith, other, e)) (lacks_nothing c)))
    (decimal_lacks c high p.character_index h.1)

pub place_lacks_comma : (p : TextPosition) → IsPosition p → Lacks 44 (place_text p)
place_lacks_comma p h = place_lacks 44 (omega arith) (omega arith) p h

pub selection_cut : (s : TextSelection) → selection_text s ≡ place_text s.anchor ++ (44 ∷ place_text s.focus)
selection_cut s = append_assoc (place_text s.anchor) (codes ",") (place_text s.focus)

pub byte_lacks_comma : (n : ℕ) → IsByte n → Lacks 44 (decimal n)
byte_lacks_comma n low = decimal_lacks 44 (omega arith) n (omega (arith, low))

pub color_cut : (c : Color) → color_text c ≡ decimal c.red ++ (44 ∷ (decimal c.green ++ (44 ∷ (decimal c.blue ++ (44 ∷ decimal c.alpha)))))
color_cut c =
    append_assoc (decimal c.red ++ codes "," ++ decimal c.green ++ codes "," ++ decimal c.blue) (codes ",") (decimal c.alpha)
    ∙ append_assoc (decimal c.red ++ codes "," ++ decimal c.green ++ codes ",") (decimal c.blue) (44 ∷ decimal c.alpha)
    ∙ append_assoc (decimal c.red ++ codes "," ++ decimal c.green) (codes ",") (decimal c.blue ++ (44 ∷ decimal c.alpha))
    ∙ append_assoc (decimal c.red ++ codes ",") (decimal c.green) (44 ∷ (decimal c.blue ++ (44 ∷ decimal c.alpha)))
    ∙ append_assoc (decimal c.red) (codes ",") (decimal c.green ++ (44 ∷ (decimal c.blue ++ (44 ∷ decimal c.alpha))))

pub style_lacks_comma : (style : TextDecorationStyle) → Lacks 44 (decoration_style_name style)
style_lacks_comma decoration_style.Solid = lacks_by 44 (codes "solid") refl
style_lacks_comma decoration_style.Dotted = lacks_by 44 (codes "dotted") refl
style_lacks_comma decoration_style.Dashed = lacks_by 44 (codes "dashed") refl
style_lacks_comma decoration_style.Double = lacks_by 44 (codes "double") refl
style_lacks_comma decoration_style.Wavy = lacks_by 44 (codes "wavy") refl

-- a style with a comma and another text after it
pub style_cut : (style : TextDecorationStyle) (text : List ℕ) → decoration_style_name style ++ codes "," ++ text ≡ decoration_style_name style ++ (44 ∷ text)
style_cut style text = append_assoc (decoration_style_name style) (codes ",") text

pub decoration_cut : (d : TextDecoration) → decoration_text d ≡ decoration_style_name d.style ++ (44 ∷ color_text d.color)
decoration_cut d = style_cut d.style (color_text d.color)

pub short_lacks_comma : (n : ℕ) → IsShort n → Lacks 44 (decimal n)
short_lacks_comma n low = decimal_lacks 44 (omega arith) n (omega (arith, low))

-- a number and what comes after it aren't a minus sign alone
pub units_no_minus : (z : ℤ) → IsUnits z → (tail : List ℕ) → signed_decimal z ++ tail ≢ codes "-"
units_no_minus (pos n) fits tail e =
    let some = (decimal_is_word n (omega (arith, fits.sfits))).1 in
    decimal_lacks 45 (omega arith) n (omega (arith, fits.sfits)) 0 some (sym (get_or-append (decimal n) tail 0 0 some) ∙ ap (λ t. slice_index_or t 0 0) e)
units_no_minus (negsuc n) fits tail e = let some = (decimal_is_word (suc n) (omega (arith, fits.sfits))).1 in omega (arith, some, ap length e, length-append (decimal (suc n)) tail)

-- a list whose text is a minus sign has no items
pub no_units : (units : List ℤ) (text : List ℕ) (b : Bool) → All IsUnits units → text ≡ units_text units → b ≡ bytes_eq text (codes "-") → b ≡ true → units ≡ []
no_units [] text b h e is t = refl
no_units (z ∷ zs) text b h e is t = absurd (units_no_minus z (All-head IsUnits z zs h) (flat_map (comma_then signed_decimal) zs) (sym e ∙ (bytes_eq-Decides text (codes "-")).0 (sym is ∙ t)))

-- and one with another text has some
pub some_units : (P : List ℤ → Type 0) (units : List ℤ) (text : List ℕ) (b : Bool)
    → ((z : ℤ) (zs : List ℤ) → IsUnits z → All IsUnits zs → text ≡ units_text (z ∷ zs) → P (z ∷ zs)) → All IsUnits units → text ≡ units_text units → b ≡ bytes_eq text (codes "-") → b ≡ false → P units
some_units P [] text b reads h e is f = absurd (true≢false (sym ((bytes_eq-Decides text (codes "-")).1 e) ∙ sym is ∙ f))
some_units P (z ∷ zs) text b reads h e is f = reads z zs (All-head IsUnits z zs h) (All-tail IsUnits z zs h) e

-- ---- words with commas in them are words

-- two words with such a character between them
joined : (c : ℕ) → c ≢ 32 → (xs ys : List ℕ) → IsWord xs → IsWord ys → IsWord (xs ++ (c ∷ []) ++ ys)
joined c other xs ys a b = (
  lacks_append 32 (xs ++ (c ∷ [])) ys (lacks_append 32 xs (c ∷ []) a.0 (lacks_cons 32 c [] other (lacks_nothing 32))) b.0,
  omega (arith, a.1, length-append (xs ++ (c ∷ [])) ys, length-append xs (c ∷ [])),
)

with_comma : (xs ys : List ℕ) → IsWord xs → IsWord ys → IsWord (xs ++ codes "," ++ ys)
with_comma = joined 44 (λ e. omega (arith, e))

number_is_word : (z : ℤ) → IsUnits z → IsWord (signed_decimal z)
number_is_word (pos n) fits = decimal_is_word n (omega (arith, fits.sfits))
number_is_word (negsuc n) fits = (units_lack 32 (omega arith) (λ e. omega (arith, e)) (negsuc n) fits, omega arith)

pair_is_word : (x y : ℤ) → IsUnits x → IsUnits y → IsWord (pair_text x y)
unfolding pair_text
pair_is_word x y hx hy = with_comma (signed_decimal x) (signed_decimal y) (number_is_word x hx) (number_is_word y hy)

pub rect_is_word : (r : Rect) → IsRect r → IsWord (rect_text r)
unfolding corners_text
rect_is_word r h = with_comma (pair_text r.x0 r.y0) (pair_text r.x1 r.y1) (pair_is_word r.x0 r.y0 h.0 h.1) (pair_is_word r.x1 r.y1 h.2 h.3)

pub translation_is_word : (t : Translation) → IsTranslation t → IsWord (translation_text t)
translation_is_word t h = pair_is_word t.x t.y h.0 h.1

place_is_word : (p : TextPosition) → IsPosition p → IsWord (place_text p)
place_is_word p h = joined 58 (λ e. omega (arith, e)) (decimal p.node.0) (decimal p.character_index) (decimal_is_word p.node.0 h.0) (decimal_is_word p.character_index h.1)

pub selection_is_word : (s : TextSelection) → IsSelection s → IsWord (selection_text s)
selection_is_word s h = with_comma (place_text s.anchor) (place_text s.focus) (place_is_word s.anchor h.0) (place_is_word s.focus h.1)

byte_is_word : (n : ℕ) → IsByte n → IsWord (decimal n)
byte_is_word n low = decimal_is_word n (omega (arith, low))

short_is_word : (n : ℕ) → IsShort n → IsWord (decimal n)
short_is_word n low = decimal_is_word n (omega (arith, low))

pub color_is_word : (c : Color) → IsColor c → IsWord (color_text c)
color_is_word c h =
    let two = with_comma (decimal c.red) (decimal c.green) (byte_is_word c.red h.0) (byte_is_word c.green h.1) in
    let three = with_comma (decimal c.red ++ codes "," ++ decimal c.green) (decimal c.blue) two (byte_is_word c.blue h.2) in
    with_comma (decimal c.red ++ codes "," ++ decimal c.green ++ codes "," ++ decimal c.blue) (decimal c.alpha) three (byte_is_word c.alpha h.3)

pub decoration_is_word : (d : TextDecoration) → IsDecoration d → IsWord (decoration_text d)
decoration_is_word d h = with_comma (decoration_style_name d.style) (color_text d.color) (decoration_style_is_word d.style) (color_is_word d.color h)

-- ---- and so are lists with commas between their items

no_space_listed : {T : Type 0} (text : T → List ℕ) (P : T → Type 0) → ((x : T) → P x → IsWord (text x)) → (xs : List T) → All P xs → Lacks 32 (flat_map (comma_then text) xs)
no_space_listed text P word [] h = lacks_nothing 32
no_space_listed text P word (x ∷ xs) h =
    lacks_append 32 (comma_then text x) (flat_map (comma_then text) xs) (lacks_cons 32 44 (text x) (λ e. omega (arith, e)) (word x (All-head P x xs h)).0) (no_space_listed text P word xs (All-tail P x xs h))

listed_is_word : {T : Type 0} (text : T → List ℕ) (P : T → Type 0) → ((x : T) → P x → IsWord (text x)) → (x : T) (xs : List T) → P x → All P xs → IsWord (text x ++ flat_map (comma_then text) xs)
listed_is_word text P word x xs h hs = (
  lacks_append 32 (text x) (flat_map (comma_then text) xs) (word x h).0 (no_space_listed text P word xs hs),
  omega (arith, (word x h).1, length-append (text x) (flat_map (comma_then text) xs)),
)

pub ids_is_word : (id : NodeId) (others : List NodeId) → IsId id → All IsId others → IsWord (ids_text id others)
ids_is_word = listed_is_word (λ id. decimal id.0) IsId (λ id h. decimal_is_word id.0 h)

pub numbers_is_word : (number : ℕ) (others : List ℕ) → IsShort number → All IsShort others → IsWord (numbers_text number others)
numbers_is_word = listed_is_word decimal IsShort short_is_word

pub units_is_word : (units : List ℤ) → All IsUnits units → IsWord (units_text units)
units_is_word [] h = (lacks_by 32 (codes "-") refl, omega arith)
units_is_word (z ∷ zs) h = listed_is_word signed_decimal IsUnits number_is_word z zs (All-head IsUnits z zs h) (All-tail IsUnits z zs h)
