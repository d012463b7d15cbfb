use Rattle.std.proofs.Common.{◌≡◌, take}
use Rattle.page_states.specs.Boxes.{all_around, drawn_frame, shown_frame}
use Rattle.page_states.proofs.boxes.extent.Given as goal

-- of the places so far
abbrev pub invariant-loop-place : goal.invariant-loop-place
invariant-loop-place l = record {
  shown : l.extents.shown ≡ all_around shown_frame (take l.place-index l.places);
  all : l.extents.all ≡ all_around drawn_frame (take l.place-index l.places);
}
