use Rattle.std.proofs.Common.{List, sym, ap, subst, ◌∙◌}
use Rattle.std.specs.Prelude.{All, is_some}
use Rattle.views.specs.ShownWorlds.{world_of}
use Rattle.page_states.specs.declared.places.Place.{Place}
use Rattle.page_states.specs.declared.rows.Row.{Row}
use Rattle.page_states.specs.Again.{KeepsRows}
use Rattle.page_states.specs.Boxes.{picture_frame}
use Rattle.page_states.specs.Found.{IsPlaceIn}
use Rattle.page_states.specs.States.{WritesRows}
use Rattle.page_states.proofs.FactsKnown.{places_in}
use Rattle.page_states.proofs.StatesWritten.{are_rows}
use Rattle.page_states.proofs.states.write_state.Goals as goal

pub shown_of-requires : goal.shown_of-requires
shown_of-requires g c =
    let w = world_of c.args.state in
    let made = c.in_ok-places.ensures in
    subst (All (IsPlaceIn w)) (sym c.deref-2.ensures.value) (places_in w c.in_ok-places.places.items made.nodes.world made.each)

pub returns : goal.returns
returns g c =
    let w = world_of c.args.state in
    let made = c.in_ok-places.ensures in
    let frame = c.frame_of-frame.result in
    let places = c.in_ok-places.places.items in
    let rows = c.in_ok-rows.rows.items in
    record {
      frame = frame;
      rows = rows;
      are_rows = are_rows w c.args.marks.now c.args.kept.now frame places c.in_ok-shown.shown.items rows
          (c.in_ok-shown.ensures.places ∙ c.deref-2.ensures.value) c.in_ok-rows.ensures.shown made.nodes made.each made.marks
          (c.frame_of-frame.ensures ∙ ap picture_frame c.deref.ensures.value) c.in_ok-shown.ensures.looks c.in_ok-rows.ensures.ways;
      writes = subst (λ (all : List Row). WritesRows c.args.number w frame all (g.O.Write.contents c.args.output.now) (g.O.Write.contents c.write_rows.new.output)) c.deref-3.ensures.value c.in_ok-write_rows.ensures;
      keeps = subst (λ has. KeepsRows c.args.number has rows c.in_ok-last.last) c.is_some.ensures c.in_ok-last.ensures;
    }
