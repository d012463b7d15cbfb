-- What is written of a state is written of its nodes.
use Rattle.std.proofs.Common.{◌≡◌, List, [], ◌∷◌, map, Option, Some, None, refl, sym, ap, subst, ◌∙◌}
use Rattle.std.specs.Prelude.{All, IfSome, option_map, option_and_then}
use Rattle.std.proofs.lemmas.Simd.{map-map}
use Rattle.std.proofs.lemmas.List.Elements.{All-cons, All-head, All-nil, All-tail}
use Rattle.model.specs.World.{World}
use Rattle.model.specs.Geometry.{bounding_box}
use Rattle.model.specs.declared.FullNodeId.{FullNodeId}
use Rattle.views.specs.declared.node.node_ref.NodeRef.{NodeRef}
use Rattle.views.specs.Nodes.{world_at, id_at}
use Rattle.std.specs.BTreeMap.{BTreeMap}
use Rattle.page_states.specs.declared.again.Last.{Last}
use Rattle.page_states.specs.declared.boxes.Frame.{Frame}
use Rattle.page_states.specs.declared.marks.Mark.{Mark}
use Rattle.page_states.specs.declared.places.Place.{Place}
use Rattle.page_states.specs.declared.rows.Row.{Row}
use Rattle.page_states.specs.declared.rows.Shown.{Shown}
use Rattle.page_states.specs.Again.{row_shown, AreLed}
use Rattle.page_states.specs.Boxes.{picture_frame}
use Rattle.page_states.specs.Looks.{place_shown, IsShownIn}
use Rattle.page_states.specs.Places.{AreNodes, HasMark, IsPlace, node_at, shown_nodes}
use Rattle.page_states.specs.States.{place_of_row, AreRows}

-- what holds of each value of a function holds at each of the items
pub all_mapped : {A B : Type 0} (P : B → Type 0) (f : A → B) (xs : List A) → All P (map f xs) → All (λ x. P (f x)) xs
all_mapped P f [] h = All-nil (λ x. P (f x))
all_mapped P f (x ∷ xs) h =
    All-cons (λ x. P (f x)) x xs (All-head P (f x) (map f xs) h) (all_mapped P f xs (All-tail P (f x) (map f xs) h))

-- the box of the focus by its view is that by its id
pub ring_of : (w : World) (focus : Option NodeRef) → IfSome focus (λ node. world_at node ≡ w) →
    option_and_then (λ node. bounding_box (world_at node) (id_at node)) focus ≡ option_and_then (bounding_box w) (option_map id_at focus)
ring_of w None e = refl
ring_of w (Some node) e = ap (λ v. bounding_box v (id_at node)) e

module _ (w : World) (marks : BTreeMap FullNodeId Mark) (kept : BTreeMap FullNodeId Last) (frame : Option Frame) (places : List Place)
    (shown : List Shown) (rows : List Row) where
  pub are_rows : map place_shown shown ≡ places → map row_shown rows ≡ shown → AreNodes w (shown_nodes w) (map node_at places) → All IsPlace places →
      All (HasMark marks) places → frame ≡ picture_frame places → All (IsShownIn frame) shown → AreLed kept shown rows → AreRows w marks kept frame rows
  are_rows placed led nodes each marked framed looks ways =
      let of_rows : map place_of_row rows ≡ places = sym (map-map place_shown row_shown rows) ∙ ap (map place_shown) led ∙ placed in
      let viewed : map node_at places ≡ map (λ row. node_at (place_of_row row)) rows = ap (map node_at) (sym of_rows) ∙ map-map node_at place_of_row rows in
      record {
        nodes = subst (AreNodes w (shown_nodes w)) viewed nodes;
        places = all_mapped IsPlace place_of_row rows (subst (All IsPlace) (sym of_rows) each);
        marked = all_mapped (HasMark marks) place_of_row rows (subst (All (HasMark marks)) (sym of_rows) marked);
        framed = framed ∙ ap picture_frame (sym of_rows);
        looks = all_mapped (IsShownIn frame) row_shown rows (subst (All (IsShownIn frame)) (sym led) looks);
        ways = subst (λ (nodes : List Shown). AreLed kept nodes rows) (sym led) ways;
      }
