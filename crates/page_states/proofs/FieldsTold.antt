-- The fields that are told.
use Rattle.std.proofs.Common.{◌≡◌, ℕ, ◌+◌, ◌<◌, ◌≤◌, arith, List, [], ◌++◌, codes, length, map, take, drop, get_or, Bor, Bool, true, false, Option, Some, None, Result, if◌then◌else◌, refl, sym, ap, subst, ◌∙◌}
use Rattle.std.specs.Prelude.{nat_lt, IfOk}
use Rattle.std.specs.List.{FoldsTo}
use Rattle.std.proofs.lemmas.Fn.{FoldsTo-push}
use Rattle.std.proofs.lemmas.List.{get_or-map, length-map, length-append, take_all, take_more}
use Rattle.std.proofs.Math.Seq.{drop-append_seam}
use Rattle.schema.specs.NodeData.{NodeData}
use Rattle.script_nodes.specs.FieldKinds.{all_fields, field_name, flag_at}
use Rattle.script_nodes.specs.NodeText.{piece, value_of}
use Rattle.script_nodes.specs.declared.field_kinds.Field.{Field}
use Rattle.script_nodes.specs.declared.field_kinds.Field.TheVariants as field
use Rattle.script_words.specs.Parts.{field_text, flag_text, word_field}
use Rattle.page_states.specs.declared.found.View.{View}
use Rattle.page_states.specs.Differences.{flag_word, is_flag, sent_value, value_after, yes_or_no, TellsField, TellsFields, TellsText}

-- ---- a field as it is written

after_some : (name v : List ℕ) → value_after (length name) (field_text name v) ≡ Some v
after_some name v =
    let xs : List ℕ = codes " " ++ name ++ codes "=" in
    let long : length xs ≡ length name + 2 = omega (arith, length-append (codes " " ++ name) (codes "="), length-append (codes " ") name) in
    let whole : length (xs ++ v) ≡ length name + 2 + length v = omega (arith, long, length-append xs v) in
    let enough : nat_lt (length (xs ++ v)) (length name + 2) ≡ false = grind (arith, whole) in
    ap (λ b. if b then None else Some (drop (length name + 2) (xs ++ v))) enough
    ∙ ap (λ k. Some (drop k (xs ++ v))) (sym long) ∙ ap Some (drop-append_seam xs v)

after_none : (name : ℕ) → value_after name [] ≡ None
after_none name = let short : nat_lt 0 (name + 2) ≡ true = grind arith in ap (λ b. if b then None else Some (drop (name + 2) [])) short

after_of : (name : List ℕ) (value : Option (List ℕ)) → value_after (length name) (word_field name value) ≡ value
unfolding word_field
after_of name None = after_none (length name)
after_of name (Some v) = after_some name v

-- of a field that is no flag, its value stands after its name
pub value_sent : (d : NodeData) (f : Field) → is_flag f ≡ false → value_after (length (field_name f)) (piece d f) ≡ sent_value d f
value_sent d (field.Ids which) e = after_of (field_name (field.Ids which)) (value_of d (field.Ids which))
value_sent d (field.Id which) e = after_of (field_name (field.Id which)) (value_of d (field.Id which))
value_sent d (field.Text which) e = after_of (field_name (field.Text which)) (value_of d (field.Text which))
value_sent d (field.Flag which) e = cc
value_sent d (field.Numbers which) e = after_of (field_name (field.Numbers which)) (value_of d (field.Numbers which))
value_sent d (field.Units which) e = after_of (field_name (field.Units which)) (value_of d (field.Units which))
value_sent d (field.Bool which) e = after_of (field_name (field.Bool which)) (value_of d (field.Bool which))
value_sent d (field.Color which) e = after_of (field_name (field.Color which)) (value_of d (field.Color which))
value_sent d (field.Decoration which) e = after_of (field_name (field.Decoration which)) (value_of d (field.Decoration which))
value_sent d (field.Number which) e = after_of (field_name (field.Number which)) (value_of d (field.Number which))
value_sent d (field.Count which) e = after_of (field_name (field.Count which)) (value_of d (field.Count which))
value_sent d (field.Actions which) e = after_of (field_name (field.Actions which)) (value_of d (field.Actions which))
value_sent d field.Tree e = after_of (field_name field.Tree) (value_of d field.Tree)
value_sent d field.Bounds e = after_of (field_name field.Bounds) (value_of d field.Bounds)
value_sent d field.Transform e = after_of (field_name field.Transform) (value_of d field.Transform)
value_sent d field.Selection e = after_of (field_name field.Selection) (value_of d field.Selection)
value_sent d field.Toggled e = after_of (field_name field.Toggled) (value_of d field.Toggled)
value_sent d field.Live e = after_of (field_name field.Live) (value_of d field.Live)
value_sent d field.Orientation e = after_of (field_name field.Orientation) (value_of d field.Orientation)
value_sent d field.SortDirection e = after_of (field_name field.SortDirection) (value_of d field.SortDirection)
value_sent d field.AriaCurrent e = after_of (field_name field.AriaCurrent) (value_of d field.AriaCurrent)
value_sent d field.HasPopup e = after_of (field_name field.HasPopup) (value_of d field.HasPopup)
value_sent d field.FontSize e = after_of (field_name field.FontSize) (value_of d field.FontSize)
value_sent d field.FontWeight e = after_of (field_name field.FontWeight) (value_of d field.FontWeight)
value_sent d field.TextDirection e = after_of (field_name field.TextDirection) (value_of d field.TextDirection)
value_sent d field.TextAlign e = after_of (field_name field.TextAlign) (value_of d field.TextAlign)
value_sent d field.VerticalOffset e = after_of (field_name field.VerticalOffset) (value_of d field.VerticalOffset)

-- and of a flag its name stands alone
as_flag : (name : List ℕ) (is_set : Bool) → flag_word (flag_text name is_set) ≡ yes_or_no is_set
unfolding flag_text
as_flag name true = refl
as_flag name false = refl

pub flag_sent : (d : NodeData) (f : Field) → is_flag f ≡ true → Some (flag_word (piece d f)) ≡ sent_value d f
flag_sent d (field.Ids which) e = cc
flag_sent d (field.Id which) e = cc
flag_sent d (field.Text which) e = cc
flag_sent d (field.Flag which) e = ap Some (as_flag (field_name (field.Flag which)) (flag_at which d))
flag_sent d (field.Numbers which) e = cc
flag_sent d (field.Units which) e = cc
flag_sent d (field.Bool which) e = cc
flag_sent d (field.Color which) e = cc
flag_sent d (field.Decoration which) e = cc
flag_sent d (field.Number which) e = cc
flag_sent d (field.Count which) e = cc
flag_sent d (field.Actions which) e = cc
flag_sent d field.Tree e = cc
flag_sent d field.Bounds e = cc
flag_sent d field.Transform e = cc
flag_sent d field.Selection e = cc
flag_sent d field.Toggled e = cc
flag_sent d field.Live e = cc
flag_sent d field.Orientation e = cc
flag_sent d field.SortDirection e = cc
flag_sent d field.AriaCurrent e = cc
flag_sent d field.HasPopup e = cc
flag_sent d field.FontSize e = cc
flag_sent d field.FontWeight e = cc
flag_sent d field.TextDirection e = cc
flag_sent d field.TextAlign e = cc
flag_sent d field.VerticalOffset e = cc

-- the same of an equal value
pub if_ok_same : {A E B : Type 0} (r : Result A E) (of : A → B) (x y : B) → x ≡ y → IfOk r (λ a. of a ≡ x) → IfOk r (λ a. of a ≡ y)
if_ok_same r of x y e h = subst (λ z. IfOk r (λ a. of a ≡ z)) e h

-- ---- what is told

-- of equal texts the same is told
pub told_of_same : (what name element of : List ℕ) (a b c d before after : Option (List ℕ)) → what ≡ name → element ≡ of → a ≡ c → b ≡ d →
    TellsText what element a b before after → TellsText name of c d before after
told_of_same what name element of a b c d before after one two same same_too told =
    subst (λ (X : Type 0). X) (λ i. TellsText (one i) (two i) (same i) (same_too i) before after) told

module _ (old new : View) (table : List (Bor (List ℕ) × Field)) where
  -- the first fields of the table
  abbrev pub TellsSoFar : ℕ → Option (List ℕ) → Option (List ℕ) → Type 0
  TellsSoFar i before after = FoldsTo (TellsField old new) before (take i (map (λ e. e.1) table)) after

  -- one more
  pub field_more : (i : ℕ) (d : Bor (List ℕ) × Field) (before so_far after : Option (List ℕ)) → i < length table →
      TellsSoFar i before so_far → TellsField old new so_far (get_or table i d).1 after → TellsSoFar (i + 1) before after
  field_more i d before so_far after low told more =
      let within : i < length (map (λ e. e.1) table) = omega (arith, length-map table (λ e. e.1)) in
      subst (λ fields. FoldsTo (TellsField old new) before fields after) (sym (take_more (map (λ e. e.1) table) i d.1 within))
      (FoldsTo-push (TellsField old new) before (take i (map (λ e. e.1) table)) so_far (get_or (map (λ e. e.1) table) i d.1) after told
      (subst (λ f. TellsField old new so_far f after) (sym (get_or-map (λ e. e.1) table i d d.1 low)) more))

  -- all
  pub fields_told : (i : ℕ) (before after : Option (List ℕ)) → length table ≤ i → map (λ e. e.1) table ≡ all_fields →
      TellsSoFar i before after → TellsFields old new before after
  fields_told i before after whole all told =
      let long : length (map (λ e. e.1) table) ≤ i = omega (arith, length-map table (λ e. e.1)) in
      subst (λ fields. FoldsTo (TellsField old new) before fields after) (take_all i (map (λ e. e.1) table) long ∙ all) told
