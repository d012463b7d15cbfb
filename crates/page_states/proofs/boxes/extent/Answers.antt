use Rattle.std.proofs.Common.{◌≡◌, take, arith, ap, ◌∙◌}
use Rattle.std.specs.Prelude.{option_map}
use Rattle.std.proofs.lemmas.List.{take_all}
use Rattle.page_states.specs.Boxes.{all_around, drawn_frame, grown, near_shown, shown_frame}
use Rattle.page_states.proofs.Framed.{around_more}
use Rattle.page_states.proofs.boxes.extent.Goals as goal

pub loop-place-preserved : goal.loop-place-preserved
loop-place-preserved c =
    let x = c.place-item.result in let i = c.loop-place.place-index in let places = c.args.places.now in
    let inv = c.loop-place.invariant in
    record {
      shown = c.with-extents.ensures.shown ∙ ap (λ a. grown a (shown_frame x)) inv.shown ∙ around_more shown_frame places i x c.loop-place-test.true c.place-item.is;
      all = c.with-extents.ensures.all ∙ ap (λ a. grown a (drawn_frame x)) inv.all ∙ around_more drawn_frame places i x c.loop-place-test.true c.place-item.is;
    }

pub returns : goal.returns
returns c =
    let inv = c.loop-place.invariant in
    let all : take c.loop-place.place-index c.args.places.now ≡ c.args.places.now = take_all c.loop-place.place-index c.args.places.now (omega arith) in
    c.picture.ensures ∙ λ i. option_map (near_shown ((inv.shown ∙ ap (all_around shown_frame) all) i)) ((inv.all ∙ ap (all_around drawn_frame) all) i)
