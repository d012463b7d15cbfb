use Rattle.std.proofs.Common.{Option, subst}
use Rattle.std.specs.Prelude.{option_map}
use Rattle.std.proofs.lemmas.Result.{on_ok_weaker}
use Rattle.schema.specs.declared.geometry.WideRect.{WideRect}
use Rattle.views.specs.Nodes.{id_at}
use Rattle.views.specs.ShownWorlds.{world_of}
use Rattle.page_states.specs.Pictures.{WritesPicture}
use Rattle.page_states.specs.States.{WritesRows}
use Rattle.page_states.proofs.StatesWritten.{ring_of}
use Rattle.page_states.proofs.states.write_rows.Goals as goal

pub returns : goal.returns
returns g c =
    let contents = g.O.Write.contents in
    let listed = contents c.write_outline.new.out in
    let drawn = contents c.write_picture.new.out in
    let ringed = λ (ring : Option WideRect). WritesPicture c.args.number c.args.frame c.args.rows.now ring listed drawn in
    on_ok_weaker {Q = WritesRows c.args.number (world_of c.args.state) c.args.frame c.args.rows.now (contents c.args.output.now) (contents c.write_all-2.new.self)} _ (λ last. record {
      begun = contents c.write_all.new.self;
      begins = c.in_ok-write_all.ensures.bytes;
      listed = listed;
      outline = c.in_ok-write_outline.ensures;
      focus = option_map id_at c.focus.result;
      is_focus = c.focus.ensures.node;
      drawn = drawn;
      picture = subst ringed (ring_of (world_of c.args.state) c.focus.result c.focus.ensures.world) c.in_ok-write_picture.ensures;
      ends = last;
    }) c.write_all-2.ensures.bytes
