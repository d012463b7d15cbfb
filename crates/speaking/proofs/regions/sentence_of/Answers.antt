use Rattle.std.proofs.Common.{◌≡◌, [], ap, map, sym, subst, ◌∙◌}
use Rattle.std.specs.List.{fold}
use Rattle.std.specs.String.{string_bytes}
use Rattle.std.proofs.lemmas.List.{take_all}
use Rattle.std.proofs.lemmas.List.Elements.{All-get_or}
use Rattle.model.specs.World.{World}
use Rattle.views.specs.Nodes.{world_at, id_at}
use Rattle.speaking.specs.Above.{AreRight}
use Rattle.speaking.specs.Regions.{with_node}
use Rattle.speaking.proofs.Viewed.{carried_on}
use Rattle.speaking.proofs.regions.sentence_of.Goals as goal

pub add_node-requires : goal.add_node-requires
add_node-requires c =
    let x = c.node-item.result in
    let w = world_at c.args.region in
    sym (subst (λ n. world_at n ≡ w) (sym c.node-item.is) (All-get_or (λ n. world_at n ≡ w) c.args.nodes.now c.loop-node.node-index x c.loop-node-test.true c.requires))

pub loop-node-preserved : goal.loop-node-preserved
loop-node-preserved c = λ right.
    let x = c.node-item.result in
    let i = c.loop-node.node-index in
    let w = world_at c.args.region in
    let region = id_at c.args.region in
    let n = c.args.noted.now in
    let nodes = c.args.nodes.now in
    let same : world_at x ≡ w = subst (λ n. world_at n ≡ w) (sym c.node-item.is) (All-get_or (λ n. world_at n ≡ w) nodes i x c.loop-node-test.true c.requires) in
    let h = c.loop-node.invariant right in
    let ready : AreRight (world_at x) c.loop-node.known = subst (λ (v : World). AreRight v c.loop-node.known) (sym same) h.1 in
    let text = c.in_ok-add_node.ensures.text ready in
    let said = subst (λ (v : World). string_bytes c.add_node.new.text ≡ with_node v n region (string_bytes c.loop-node.text) (id_at x)) same text in (
      said ∙ ap (λ t. with_node w n region t (id_at x)) h.0 ∙ sym (carried_on (with_node w n region) [] nodes i x c.loop-node-test.true c.node-item.is),
      subst (λ (v : World). AreRight v c.add_node.new.known) same (c.in_ok-add_node.ensures.known ready),
    )

pub returns : goal.returns
returns c = λ right.
    let h = c.loop-node.invariant right in
    let said = with_node (world_at c.args.region) c.args.noted.now (id_at c.args.region) in
    (h.0 ∙ ap (λ nodes. fold said [] (map id_at nodes)) (take_all c.loop-node.node-index c.args.nodes.now c.loop-node-test.false), h.1)
