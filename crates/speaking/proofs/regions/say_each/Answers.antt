use Rattle.std.proofs.Common.{◌≡◌, ap, sym, subst, ◌∙◌}
use Rattle.std.proofs.lemmas.List.Elements.{All-get_or}
use Rattle.model.specs.World.{World}
use Rattle.phrases.specs.Voices.{Speech}
use Rattle.views.specs.Nodes.{world_at, id_at}
use Rattle.views.specs.ShownWorlds.{world_of}
use Rattle.speaking.specs.Above.{AreRight}
use Rattle.speaking.specs.Regions.{said_at}
use Rattle.speaking.proofs.Viewed.{carried_on}
use Rattle.speaking.proofs.regions.say_each.Goals as goal

pub loop-node-preserved : goal.loop-node-preserved
loop-node-preserved c =
    let x = c.node-item.result in
    let i = c.loop-node.node-index in
    let w = world_of c.args.state in
    let n = c.args.noted.now in
    let nodes = c.args.nodes.now in
    let same : world_at x ≡ w = subst (λ n. world_at n ≡ w) (sym c.node-item.is) (All-get_or (λ n. world_at n ≡ w) nodes i x c.loop-node-test.true c.requires) in
    let ready : AreRight (world_at x) c.loop-node.known = subst (λ (v : World). AreRight v c.loop-node.known) (sym same) c.loop-node.invariant.right in
    let said = subst (λ (v : World). c.say_at.new.voice ≡ said_at v n c.loop-node.voice (id_at x)) same (c.in_ok-say_at.ensures.says ready) in
    record {
      said = said ∙ ap (λ (v : Speech). said_at w n v (id_at x)) c.loop-node.invariant.said ∙ sym (carried_on (said_at w n) c.args.voice.now nodes i x c.loop-node-test.true c.node-item.is);
      right = subst (λ (v : World). AreRight v c.say_at.new.known) same (c.in_ok-say_at.ensures.known ready);
    }
