-- The same rows are written alike, and the same is kept of them.
use Rattle.std.proofs.Common.{◌≡◌, ℕ, ◌+◌, ◌-◌, ◌==◌, Bool, true, false, cond, not, ◌&&◌, List, [], ◌∷◌, ◌++◌, codes, length, min, Option, Some, None, refl, sym, ap, subst, ◌∙◌}
use Rattle.std.specs.Prelude.{is_none, nat_lt, option_map, if◌then◌else◌}
use Rattle.std.specs.BTreeMap.{BTreeMap, IsEmpty, get, is_at}
use Rattle.std.specs.Io.KnownBytes.{Appends}
use Rattle.std.specs.List.{AllZip, FoldsTo}
use Rattle.std.specs.Map.{lookup}
use Rattle.model.specs.declared.FullNodeId.{FullNodeId}
use Rattle.model.specs.FullIds.{full_cmp}
use Rattle.views.specs.Nodes.{id_at}
use Rattle.page_states.specs.declared.again.Last.{Last}
use Rattle.schema.specs.declared.geometry.WideRect.{WideRect}
use Rattle.page_states.specs.declared.again.Way.{Way}
use Rattle.page_states.specs.declared.again.Way.TheVariants.{Whole, Again, Folded}
use Rattle.page_states.specs.declared.boxes.Frame.{Frame}
use Rattle.page_states.specs.declared.rows.Row.{Row}
use Rattle.page_states.specs.Again.{drawn_by, last_of, state_of, KeepsRows, Puts}
use Rattle.page_states.specs.Nesting.{folds, levels_after, most_lists, within}
use Rattle.page_states.specs.Pictures.{box_link, box_text, ends_groups, group_begun, group_text, is_empty_box, is_grouped, linked_box, part_text, picture_begun, ring_text, row_state, use_text, WritesPart, WritesPicture}
use Rattle.page_states.specs.Rows.{again_text, as_in_text, class_if, ends_text, item_text, level_text, mark_text, row_begun, row_end, whole_text, WritesItem, WritesOutline}
use Rattle.page_states.specs.Written.{anchor_text}
use Rattle.page_states.specs.WrittenLaws.{last_text, HaveSame, KeepAlike}
use Rattle.page_states.proofs.LedAlike.{IsSameRow, IsSameShown}

abbrev Bytes : Type 0
Bytes = Option (List ℕ)

-- ---- bytes

grown : (a c : Bytes) (text bytes : List ℕ) → a ≡ Some bytes → Appends a c text → c ≡ Some (bytes ++ text)
grown a c text bytes e h = go c (subst (λ o. Appends o c text) e h)
  where
    go : (o : Bytes) → Appends (Some bytes) o text → o ≡ Some (bytes ++ text)
    go None g = absurd g
    go (Some all) g = λ i. Some (g i)

-- after the same bytes the same text is written
pub appended : (a b c d : Bytes) (text other : List ℕ) → text ≡ other → HaveSame a b → Appends a c text → Appends b d other → HaveSame c d
appended a b c d text other same h p q =
    (h.0 ++ text, grown a c text h.0 h.1 p, grown b d other h.0 h.2 q ∙ ap (λ t. Some (h.0 ++ t)) (sym same))

-- a count and bytes, of which each row makes others
abbrev State : Type 0
State = ℕ × Bytes

abbrev AreOne : State → State → Type 0
AreOne a b = (a.0 ≡ b.0) × HaveSame a.1 b.1

module _ (Writes : State → Row → State → Type 0) (one : (r s : Row) → IsSameRow r s → (a b c d : State) → AreOne a b → Writes a r c → Writes b s d → AreOne c d) where
  all_same : (rows lines : List Row) (a b c d : State) → AllZip IsSameRow rows lines → AreOne a b → FoldsTo Writes a rows c → FoldsTo Writes b lines d → AreOne c d
  all_same [] [] a b c d zip same h g = subst (λ x. AreOne x d) h (subst (AreOne a) g same)
  all_same [] (s ∷ ss) a b c d zip same h g = absurd zip
  all_same (r ∷ rs) [] a b c d zip same h g = absurd zip
  all_same (r ∷ rs) (s ∷ ss) a b c d zip same h g = all_same rs ss h.0 g.0 c d zip.1 (one r s zip.0 a b h.0 g.0 same h.1 g.1) h.2 g.2

-- ---- the lists and groups that hold a row

module _ (r s : Row) (e : IsSameRow r s) where
  within_same : within r ≡ within s
  within_same i = min (e.shown.depth i) most_lists

  leaf_same : (length r.shown.look.children.items == 0) ≡ (length s.shown.look.children.items == 0)
  leaf_same i = length (e.shown.children i) == 0

  folds_same : folds r ≡ folds s
  folds_same i = nat_lt (within_same i) most_lists && not (leaf_same i)

  levels_so : (levels : ℕ) (way : Way) → levels_after levels r way ≡ levels_after levels s way
  levels_so levels Whole = λ i. if folds_same i then within_same i + 1 else within_same i
  levels_so levels (Again state) = within_same
  levels_so levels (Folded state) = refl

-- ---- the outline

module _ (number : ℕ) (r s : Row) (e : IsSameRow r s) where
  abbrev shown : IsSameShown r.shown s.shown
  shown = e.shown

  begun_same : (a b : Bool) → a ≡ b → row_begun number r.shown.place a ≡ row_begun number s.shown.place b
  begun_same a b q i =
      codes "<li id=\"" ++ anchor_text number (shown.id i) ++ level_text (class_if (shown.left_out i) (shown.mark i)) (shown.depth i) (q i)

  whole_same : whole_text number r ≡ whole_text number s
  whole_same i =
      begun_same (folds r) (folds s) (folds_same r s e) i ++ mark_text (shown.mark i) ++ shown.row i
      ++ row_end (folds_same r s e i) (within_same r s e i)

  again_same : (state : ℕ) → again_text number r state ≡ again_text number s state
  again_same state i =
      begun_same false false refl i ++ shown.row i ++ codes " <a href=\"#" ++ anchor_text state (shown.id i) ++ as_in_text state

  item_so : (lists : ℕ) (way : Way) → item_text number lists r way ≡ item_text number lists s way
  item_so lists Whole = λ i. ends_text (lists - within_same r s e i) ++ whole_same i
  item_so lists (Again state) = λ i. ends_text (lists - within_same r s e i) ++ again_same state i
  item_so lists (Folded state) = refl

  -- one item after the other
  item_same : (a b c d : State) → AreOne a b → WritesItem number a r c → WritesItem number b s d → AreOne c d
  item_same a b c d same h g = (
    h.0 ∙ ap (λ n. levels_after n r r.ways.row) same.0 ∙ levels_so r s e b.0 r.ways.row ∙ ap (levels_after b.0 s) e.row ∙ sym g.0,
    appended a.1 b.1 c.1 d.1 (item_text number a.0 r r.ways.row) (item_text number b.0 s s.ways.row)
        (ap (λ n. item_text number n r r.ways.row) same.0 ∙ item_so b.0 r.ways.row ∙ ap (item_text number b.0 s) e.row) same.1 h.1 g.1,
  )

pub outlines_same : (number : ℕ) (rows lines : List Row) (a b c d : Bytes) → AllZip IsSameRow rows lines → HaveSame a b → WritesOutline number rows a c → WritesOutline number lines b d → HaveSame c d
outlines_same number rows lines a b c d zip bytes h g =
    let begun = appended a b h.begun g.begun (codes "<ul class=\"outline\">\n") (codes "<ul class=\"outline\">\n") refl bytes h.begins g.begins in
    let all = all_same (WritesItem number) (item_same number) rows lines (0, h.begun) (0, g.begun) (h.lists, h.written) (g.lists, g.written) zip (refl, begun) h.items g.items in
    appended h.written g.written c d (ends_text h.lists ++ codes "</ul>\n") (ends_text g.lists ++ codes "</ul>\n") (ap (λ n. ends_text n ++ codes "</ul>\n") all.0) all.1 h.ends g.ends

-- ---- the picture

module _ (number : ℕ) (r s : Row) (e : IsSameRow r s) where
  grouped_same : is_grouped r ≡ is_grouped s
  grouped_same i = nat_lt (within_same r s e i) most_lists

  empty_same : is_empty_box r ≡ is_empty_box s
  empty_same i = length (e.shown.drawn i) == 0 && leaf_same r s e i

  linked_same : linked_box number r ≡ linked_box number s
  linked_same i = box_link (row_state number (e.row i)) (e.shown.id i) ++ e.shown.drawn i ++ codes "</a>"

  box_same : box_text number r ≡ box_text number s
  box_same i = if length (e.shown.drawn i) == 0 then [] else linked_same i

  group_same : group_text number r ≡ group_text number s
  group_same i =
      (if grouped_same i then group_begun number (e.shown.id i) else [])
      ++ box_same i ++ (if grouped_same i && leaf_same r s e i then codes "</g>\n" else codes "\n")

  part_so : (groups : ℕ) (way : Way) → part_text number groups r way ≡ part_text number groups s way
  part_so groups Whole = λ i. ends_groups (groups - within_same r s e i) ++ group_same i
  part_so groups (Again state) = λ i. ends_groups (groups - within_same r s e i) ++ use_text state (e.shown.id i)
  part_so groups (Folded state) = refl

  abbrev text_of : ℕ → Row → List ℕ
  text_of groups row = if is_empty_box row then [] else part_text number groups row row.ways.drawn

  abbrev count_of : ℕ → Row → ℕ
  count_of groups row = if is_empty_box row then groups else levels_after groups row row.ways.drawn

  text_same : (groups : ℕ) → text_of groups r ≡ text_of groups s
  text_same groups i = if empty_same i then [] else (part_so groups r.ways.drawn ∙ ap (part_text number groups s) e.drawn) i

  count_same : (groups : ℕ) → count_of groups r ≡ count_of groups s
  count_same groups i = if empty_same i then groups else (levels_so r s e groups r.ways.drawn ∙ ap (levels_after groups s) e.drawn) i

  part_same : (a b c d : State) → AreOne a b → WritesPart number a r c → WritesPart number b s d → AreOne c d
  part_same a b c d same h g = (
    h.0 ∙ ap (λ n. count_of n r) same.0 ∙ count_same b.0 ∙ sym g.0,
    appended a.1 b.1 c.1 d.1 (text_of a.0 r) (text_of b.0 s) (ap (λ n. text_of n r) same.0 ∙ text_same b.0) same.1 h.1 g.1,
  )

pub pictures_same : (number : ℕ) (frame : Option Frame) (rows lines : List Row) (ring round : Option WideRect) → ring ≡ round → (a b c d : Bytes) → AllZip IsSameRow rows lines → HaveSame a b →
    WritesPicture number frame rows ring a c → WritesPicture number frame lines round b d → HaveSame c d
pictures_same number None rows lines ring round rings a b c d zip bytes h g =
    let none : List ℕ = codes "<p class=\"note\">No box is shown.</p>\n" in appended a b c d none none refl bytes h g
pictures_same number (Some frame) rows lines ring round rings a b c d zip bytes h g =
    let begun = appended a b h.begun g.begun (picture_begun number frame) (picture_begun number frame) refl bytes h.begins g.begins in
    let all = all_same (WritesPart number) (part_same number) rows lines (0, h.begun) (0, g.begun) (h.groups, h.drawn) (g.groups, g.drawn) zip (refl, begun) h.parts g.parts in
    let closed : ℕ → Option WideRect → List ℕ = λ n r. ends_groups n ++ ring_text frame r ++ codes "</svg></figure>\n" in
    appended h.drawn g.drawn c d (closed h.groups ring) (closed g.groups round) (λ i. closed (all.0 i) (rings i)) all.1 h.ends g.ends

-- ---- what is kept

module _ (number : ℕ) (has : Bool) where
  last_same : (r s : Row) → IsSameRow r s → last_text (last_of number has r) ≡ last_text (last_of number has s)
  last_same r s e i = record {
    row = e.shown.row i;
    drawn = e.shown.drawn i;
    children = e.shown.children i;
    row_state = state_of number (e.row i);
    drawn_state = drawn_by number ((has && is_none (e.shown.mark i)) && nat_lt (e.shown.depth i) 100) (e.drawn i);
  }

  text_in : (b : Bool) (last : Last) (o : Option Last) → option_map last_text (cond b (Some last) o) ≡ cond b (Some (last_text last)) (option_map last_text o)
  text_in true last o = refl
  text_in false last o = refl

  put_same : (r s : Row) → IsSameRow r s → (a b c d : BTreeMap FullNodeId Last) → KeepAlike a b → Puts number has a r c → Puts number has b s d → KeepAlike c d
  put_same r s e a b c d same h g id =
      let here : FullNodeId → Bool = λ at. is_at (full_cmp at) id in
      ap (option_map last_text) (h.0 id)
      ∙ text_in (here (id_at r.shown.place.node)) (last_of number has r) (get full_cmp a id)
      ∙ (λ i. cond (here (e.shown.id i)) (Some (last_same r s e i)) (same id i))
      ∙ sym (ap (option_map last_text) (g.0 id) ∙ text_in (here (id_at s.shown.place.node)) (last_of number has s) (get full_cmp b id))

  puts_same : (rows lines : List Row) (a b c d : BTreeMap FullNodeId Last) → AllZip IsSameRow rows lines → KeepAlike a b → FoldsTo (Puts number has) a rows c → FoldsTo (Puts number has) b lines d → KeepAlike c d
  puts_same [] [] a b c d zip same h g = subst (λ x. KeepAlike x d) h (subst (KeepAlike a) g same)
  puts_same [] (s ∷ ss) a b c d zip same h g = absurd zip
  puts_same (r ∷ rs) [] a b c d zip same h g = absurd zip
  puts_same (r ∷ rs) (s ∷ ss) a b c d zip same h g = puts_same rs ss h.0 g.0 c d zip.1 (put_same r s zip.0 a b h.0 g.0 same h.1 g.1) h.2 g.2

  nothing_same : (a b : BTreeMap FullNodeId Last) → IsEmpty a → IsEmpty b → KeepAlike a b
  nothing_same a b none empty id = ap (λ es. option_map last_text (lookup (is_at (full_cmp id)) es)) (none ∙ sym empty)

  pub keeps_same : (rows lines : List Row) (c d : BTreeMap FullNodeId Last) → AllZip IsSameRow rows lines → KeepsRows number has rows c → KeepsRows number has lines d → KeepAlike c d
  keeps_same rows lines c d zip h g = puts_same rows lines h.0 g.0 c d zip (nothing_same h.0 g.0 h.1 g.1) h.2 g.2
