-- What a page shows of two states that differ in what is typed into a password.
use Rattle.std.proofs.Common.{◌≡◌, List, [], ◌∷◌, map, Option, None, refl, sym, ap, ◌∙◌}
use Rattle.std.specs.Prelude.{◌+◌, ◌/◌, All, option_map, if◌then◌else◌}
use Rattle.std.specs.List.{fold, AllZip}
use Rattle.std.proofs.lemmas.Simd.{map-map}
use Rattle.std.proofs.lemmas.List.Elements.{All-head, All-tail}
use Rattle.model.specs.declared.FullNodeId.{FullNodeId}
use Rattle.model.specs.Covers.{is_included}
use Rattle.model.specs.Forest.{IsFormed}
use Rattle.model.specs.World.{World}
use Rattle.views.specs.Nodes.{world_at, id_at}
use Rattle.views.specs.declared.node.node_ref.NodeRef.{NodeRef}
use Rattle.page_states.specs.declared.boxes.Frame.{Frame}
use Rattle.page_states.specs.declared.places.Place.{Place}
use Rattle.page_states.specs.declared.rows.Row.{Row}
use Rattle.page_states.specs.Again.{row_shown}
use Rattle.page_states.specs.Boxes.{all_around, drawn_frame, frame_of, grown, longer_side, near_shown, picture_frame, shown_frame, widened}
use Rattle.page_states.specs.Drawn.{drawn_text}
use Rattle.page_states.specs.Looks.{IsShownIn}
use Rattle.page_states.specs.Places.{node_at, IsPlace}
use Rattle.page_states.specs.ShownLaws.{LookAlike, MayDiffer, RowsAlike, TypingShowsTheSame}
use Rattle.page_states.specs.States.{place_of_row}
use Rattle.page_states.proofs.StatesWritten.{all_mapped}
use Rattle.page_states.proofs.PlacesAlike.{nodes_one, typing_looks_the_same}

abbrev row_id : Row → FullNodeId
row_id row = id_at (node_at (place_of_row row))

abbrev AreLooks : Row → Row → Type 0
AreLooks r s = LookAlike (place_of_row r) (place_of_row s)

-- ---- frames

folds_mapped : (box : Place → Option Frame) (so_far : Option Frame) (places : List Place) →
    fold (λ (before : Option Frame) (place : Place). grown before (box place)) so_far places ≡ fold grown so_far (map box places)
folds_mapped box so_far [] = refl
folds_mapped box so_far (place ∷ places) = folds_mapped box (grown so_far (box place)) places

drawn_alike : (a b : Place) → LookAlike a b → drawn_frame a ≡ drawn_frame b
drawn_alike a b h i = option_map frame_of (h.box i)

frames_alike : (box : Place → Option Frame) → ((a b : Place) → LookAlike a b → box a ≡ box b) → (rows lines : List Row) → AllZip AreLooks rows lines →
    map box (map place_of_row rows) ≡ map box (map place_of_row lines)
frames_alike box same [] [] h = refl
frames_alike box same [] (s ∷ ss) h = absurd h
frames_alike box same (r ∷ rs) [] h = absurd h
frames_alike box same (r ∷ rs) (s ∷ ss) h = λ i. same (place_of_row r) (place_of_row s) h.0 i ∷ frames_alike box same rs ss h.1 i

around_alike : (box : Place → Option Frame) → ((a b : Place) → LookAlike a b → box a ≡ box b) → (rows lines : List Row) → AllZip AreLooks rows lines →
    all_around box (map place_of_row rows) ≡ all_around box (map place_of_row lines)
around_alike box same rows lines h =
    folds_mapped box None (map place_of_row rows) ∙ ap (fold grown None) (frames_alike box same rows lines h) ∙ sym (folds_mapped box None (map place_of_row lines))

pictures_alike : (rows lines : List Row) → AllZip AreLooks rows lines → picture_frame (map place_of_row rows) ≡ picture_frame (map place_of_row lines)
pictures_alike rows lines h i =
    let shown = around_alike shown_frame (λ a b k j. if is_included (k.answer j) then drawn_alike a b k j else None) rows lines h in
    let drawn = around_alike drawn_frame drawn_alike rows lines h in
    option_map (λ all. widened (longer_side all / 40 + 1) all) (option_map (near_shown (shown i)) (drawn i))

-- ---- rows

module _ (p : FullNodeId) (w v : World) (formed : IsFormed w) (alike : MayDiffer p w v) where
  looks : (rows lines : List Row) → map row_id rows ≡ map row_id lines → All (λ row. IsPlace (place_of_row row)) rows → All (λ row. world_at (node_at (place_of_row row)) ≡ w) rows →
      All (λ row. IsPlace (place_of_row row)) lines → All (λ row. world_at (node_at (place_of_row row)) ≡ v) lines → AllZip AreLooks rows lines
  looks [] [] ids a b c d = tt
  looks [] (s ∷ ss) ids a b c d = absurd (cc)
  looks (r ∷ rs) [] ids a b c d = absurd (cc)
  looks (r ∷ rs) (s ∷ ss) ids a b c d =
      let IsAt : Row → Type 0 = λ row. IsPlace (place_of_row row) in
      let InW : Row → Type 0 = λ row. world_at (node_at (place_of_row row)) ≡ w in
      let InV : Row → Type 0 = λ row. world_at (node_at (place_of_row row)) ≡ v in
      let id : row_id r ≡ row_id s = cc in
      let others : map row_id rs ≡ map row_id ss = cc in (
        typing_looks_the_same p w v formed alike (place_of_row r) (place_of_row s) (All-head IsAt r rs a) (All-head IsAt s ss c) (All-head InW r rs b) (All-head InV s ss d) id,
        looks rs ss others (All-tail IsAt r rs a) (All-tail InW r rs b) (All-tail IsAt s ss c) (All-tail InV s ss d),
      )

rows_alike : (frame field : Option Frame) → frame ≡ field → (rows lines : List Row) → AllZip AreLooks rows lines → All (λ row. IsShownIn frame (row_shown row)) rows →
    All (λ row. IsShownIn field (row_shown row)) lines → AllZip RowsAlike rows lines
rows_alike frame field same [] [] h a b = tt
rows_alike frame field same [] (s ∷ ss) h a b = absurd h
rows_alike frame field same (r ∷ rs) [] h a b = absurd h
rows_alike frame field same (r ∷ rs) (s ∷ ss) h a b =
    let InFrame : Row → Type 0 = λ row. IsShownIn frame (row_shown row) in
    let InField : Row → Type 0 = λ row. IsShownIn field (row_shown row) in
    let here = All-head InFrame r rs a in
    let there = All-head InField s ss b in (
      record {
        alike = h.0;
        row = here.row ∙ h.0.row ∙ sym there.row;
        children = here.children ∙ h.0.children ∙ sym there.children;
        drawn = λ mark. here.drawn ∙ h.0.drawn frame mark ∙ ap (λ f. drawn_text f (place_of_row s)) same ∙ sym there.drawn;
      },
      rows_alike frame field same rs ss h.1 (All-tail InFrame r rs a) (All-tail InField s ss b),
    )

pub typing_shows_the_same : TypingShowsTheSame
typing_shows_the_same p w v formed alike marks others kept known frame field rows lines a b =
    let ids : map row_id rows ≡ map row_id lines =
    sym (map-map id_at (λ (row : Row). node_at (place_of_row row)) rows) ∙ a.nodes.same ∙ nodes_one p w v formed alike
    ∙ sym b.nodes.same ∙ map-map id_at (λ (row : Row). node_at (place_of_row row)) lines in
    let zip = looks p w v formed alike rows lines ids a.places (all_mapped (λ (n : NodeRef). world_at n ≡ w) (λ (row : Row). node_at (place_of_row row)) rows a.nodes.world)
    b.places (all_mapped (λ (n : NodeRef). world_at n ≡ v) (λ (row : Row). node_at (place_of_row row)) lines b.nodes.world) in
    let same : frame ≡ field = a.framed ∙ pictures_alike rows lines zip ∙ sym b.framed in
    (same, rows_alike frame field same rows lines zip a.looks b.looks)
