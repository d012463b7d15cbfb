use Rattle.std.proofs.Common.{◌≡◌, refl, sym, subst}
use Rattle.std.specs.Prelude.{All}
use Rattle.std.proofs.lemmas.List.Elements.{All-head, All-tail}
use Rattle.model.specs.declared.FullNodeId.{FullNodeId}
use Rattle.model.specs.World.{World}
use Rattle.views.specs.AllNodes.{descendants_left}
use Rattle.views.specs.Descendants.{descendants}
use Rattle.views.specs.Nodes.{world_at, id_at}
use Rattle.views.specs.PlainWalks.{node_of}
use Rattle.hidden_texts.proofs.Memo.{of_world}
use Rattle.find.specs.declared.shown.Free.{Free}
use Rattle.find.proofs.Freed.{none_free}
use Rattle.find.proofs.shown.Free.below.Goals as goal

abbrev IsOf : World → World × FullNodeId → Type 0
IsOf w n = n.0 ≡ w

pub loop-node-init : goal.loop-node-init
loop-node-init c =
    let w = world_at c.args.top in
    let first : Free = record { known = c.new.result } in
    record {
      right = c.in_ok-note.ensures w refl (none_free w first c.new.ensures);
      world = subst (All (IsOf w)) (sym c.descendants-nodes.ensures) (of_world w (descendants w (id_at c.args.top)));
    }

pub loop-node-preserved : goal.loop-node-preserved
loop-node-preserved c =
    let w = world_at c.args.top in
    let n = c.in-Some.node in
    let rest = descendants_left c.next.new.self in
    let all = subst (All (IsOf w)) c.in-Some.ensures.steps c.loop-node.invariant.world in
    record {
      right = c.in_ok-note-2.ensures w (All-head (IsOf w) (node_of n) rest all) c.loop-node.invariant.right;
      world = All-tail (IsOf w) (node_of n) rest all;
    }
