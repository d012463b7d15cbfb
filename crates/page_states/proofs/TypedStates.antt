-- What is written of a state in two worlds that differ in what is typed into a password.
use Rattle.std.proofs.Common.{◌≡◌, ℕ, List, [], ◌∷◌, codes, map, Option, inl, inr, refl, sym, ap, subst, ◌∙◌}
use Rattle.std.specs.Prelude.{All, is_some, option_and_then}
use Rattle.std.specs.BTreeMap.{BTreeMap, get}
use Rattle.std.specs.List.{AllZip}
use Rattle.std.proofs.lemmas.List.Elements.{All-head, All-tail}
use Rattle.model.specs.declared.FullNodeId.{FullNodeId}
use Rattle.model.specs.Focus.{IsFocus}
use Rattle.model.specs.FullIds.{full_cmp}
use Rattle.model.specs.Geometry.{bounding_box}
use Rattle.model.specs.Outline.{outline}
use Rattle.model.specs.World.{World}
use Rattle.model.proofs.Alike.Bare as bare
use Rattle.model.proofs.Focus.FocusIsOne.{focus_unique}
use Rattle.model.proofs.Text.Outlines.{agree, box_same}
use Rattle.views.specs.Nodes.{id_at}
use Rattle.page_states.specs.declared.boxes.Frame.{Frame}
use Rattle.page_states.specs.declared.marks.Mark.{Mark}
use Rattle.page_states.specs.declared.rows.Row.{Row}
use Rattle.page_states.specs.Again.{no_folds, row_shown, KeepsRows}
use Rattle.page_states.specs.Places.{HasMark}
use Rattle.page_states.specs.ShownLaws.{MayDiffer, RowsAlike}
use Rattle.page_states.specs.States.{place_of_row, WritesRows}
use Rattle.page_states.specs.WrittenLaws.{HaveSame, MarkAlike, TypingWritesTheSame}
use Rattle.page_states.proofs.LedAlike.{same_ways, AreShownSame, IsSameRow, IsSameShown}
use Rattle.page_states.proofs.StatesAlike.{typing_shows_the_same}
use Rattle.page_states.proofs.WrittenAlike.{appended, keeps_same, outlines_same, pictures_same}

abbrev Bytes : Type 0
Bytes = Option (List ℕ)

pub outlines_one : (p : FullNodeId) (w v : World) → MayDiffer p w v → outline w ≡ outline v
outlines_one p w v (inl same) = ap outline same
outlines_one p w v (inr alike) = alike.outlines

pub boxes_one : (p : FullNodeId) (w v : World) → MayDiffer p w v → bounding_box w ≡ bounding_box v
boxes_one p w v alike = agree bounding_box w v (λ u. sym (box_same u)) (outlines_one p w v alike)

-- ---- the rows

module _ (marks others : BTreeMap FullNodeId Mark) (marked : MarkAlike marks others) where
  abbrev IsMarked : BTreeMap FullNodeId Mark → Row → Type 0
  IsMarked its row = HasMark its (place_of_row row)

  shown_same : (r s : Row) → RowsAlike r s → IsMarked marks r → IsMarked others s → IsSameShown r.shown s.shown
  shown_same r s alike here there =
      let mark : r.shown.place.mark ≡ s.shown.place.mark = here ∙ marked (id_at r.shown.place.node) ∙ ap (get full_cmp others) alike.alike.id ∙ sym there in
      record {
        id = alike.alike.id;
        depth = alike.alike.depth;
        left_out = alike.alike.left_out;
        mark = mark;
        row = alike.row;
        children = alike.children;
        drawn = alike.drawn mark;
      }

  all_shown_same : (rows lines : List Row) → AllZip RowsAlike rows lines → All (IsMarked marks) rows → All (IsMarked others) lines → AllZip AreShownSame rows lines
  all_shown_same [] [] h a b = tt
  all_shown_same [] (s ∷ ss) h a b = absurd h
  all_shown_same (r ∷ rs) [] h a b = absurd h
  all_shown_same (r ∷ rs) (s ∷ ss) h a b = (
    shown_same r s h.0 (All-head (IsMarked marks) r rs a) (All-head (IsMarked others) s ss b),
    all_shown_same rs ss h.1 (All-tail (IsMarked marks) r rs a) (All-tail (IsMarked others) s ss b),
  )

-- ---- their text

module _ (p : FullNodeId) (w v : World) (alike : MayDiffer p w v) where
  focus_one : (f g : Option FullNodeId) → IsFocus w f → IsFocus v g → f ≡ g
  focus_one f g is at = focus_unique v f g (bare.focus (bare.of_outlines w v (outlines_one p w v alike)) f is) at

  rows_written : (number : ℕ) (frame : Option Frame) (rows lines : List Row) (a b c d : Bytes) → AllZip IsSameRow rows lines → HaveSame a b → WritesRows number w frame rows a c → WritesRows number v frame lines b d → HaveSame c d
  rows_written number frame rows lines a b c d zip bytes h g =
      let head : List ℕ = codes "<div class=\"state\">\n" in
      let foot : List ℕ = codes "</div>\n" in
      let begun = appended a b h.begun g.begun head head refl bytes h.begins g.begins in
      let listed = outlines_same number rows lines h.begun g.begun h.listed g.listed zip begun h.outline g.outline in
      let focus = focus_one h.focus g.focus h.is_focus g.is_focus in
      let drawn = pictures_same number frame rows lines (option_and_then (bounding_box w) h.focus) (option_and_then (bounding_box v) g.focus)
      (λ i. option_and_then (boxes_one p w v alike i) (focus i)) h.listed g.listed h.drawn g.drawn zip listed h.picture g.picture in
      appended h.drawn g.drawn c d foot foot refl drawn h.ends g.ends

pub typing_writes_the_same : TypingWritesTheSame
typing_writes_the_same p w v formed alike number marks others marked before after former later same h g =
    let shows = typing_shows_the_same p w v formed alike marks others before.0 former.0 h.frame g.frame h.rows g.rows h.are_rows g.are_rows in
    let zip = all_shown_same marks others marked h.rows g.rows shows.1 h.are_rows.marked g.are_rows.marked in
    let rows = same_ways before.0 former.0 same.0 h.rows g.rows (no_folds, map row_shown h.rows) (h.are_rows.ways.0, []) (no_folds, map row_shown g.rows) (g.are_rows.ways.0, []) zip refl refl refl refl
    h.are_rows.ways.1 g.are_rows.ways.1 in
    let framed : WritesRows number v h.frame g.rows former.1 later.1 = subst (λ frame. WritesRows number v frame g.rows former.1 later.1) (sym shows.0) g.writes in
    let keeps : KeepsRows number (is_some h.frame) g.rows later.0 = subst (λ frame. KeepsRows number (is_some frame) g.rows later.0) (sym shows.0) g.keeps in (
      keeps_same number (is_some h.frame) h.rows g.rows after.0 later.0 rows h.keeps keeps,
      rows_written p w v alike number h.frame h.rows g.rows before.1 former.1 after.1 later.1 rows same.1 h.writes framed,
    )
