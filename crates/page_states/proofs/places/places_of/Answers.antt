use Rattle.std.proofs.Common.{◌≡◌, ◌++◌, ◌∷◌, [], ◌∙◌, map, take, sym, ap, subst}
use Rattle.std.specs.Prelude.{All}
use Rattle.std.proofs.lemmas.List.{map-append, take_more}
use Rattle.std.proofs.lemmas.List.Elements.{All-push, All-get_or}
use Rattle.views.specs.Nodes.{world_at}
use Rattle.views.specs.ShownWorlds.{world_of}
use Rattle.page_states.specs.Known.{IsStep}
use Rattle.page_states.specs.Places.{node_at, HasMark, IsPlace}
use Rattle.page_states.proofs.places.places_of.Goals as goal

pub loop-node-preserved : goal.loop-node-preserved
loop-node-preserved c =
    let x = c.node-item.result in let i = c.loop-node.node-index in let nodes = c.args.nodes.now in
    let w = world_of c.args.state in let within = c.loop-node-test.true in
    let old = c.loop-node.places.items in let place = c.in_ok-next_place.field-0 in let made = c.in_ok-next_place.ensures in
    let same : world_at x ≡ w = subst (λ n. world_at n ≡ w) (sym c.node-item.is) (All-get_or (λ n. world_at n ≡ w) nodes i x within c.requires.nodes) in
    record {
      path = subst (λ v. All (IsStep v) c.next_place.new.path.items) same c.next_place.ensures.path;
      nodes =
          ap (map node_at) c.in_ok-push.ensures.items ∙ map-append node_at old (place ∷ [])
          ∙ ap (λ l. l ++ node_at place ∷ []) c.loop-node.invariant.nodes
          ∙ ap (λ n. take i nodes ++ n ∷ []) (made.node ∙ c.node-item.is) ∙ sym (take_more nodes i x within);
      each = subst (All IsPlace) (sym c.in_ok-push.ensures.items) (All-push IsPlace old place c.loop-node.invariant.each made.place);
      marks = subst (All (HasMark c.args.marks.now)) (sym c.in_ok-push.ensures.items) (All-push (HasMark c.args.marks.now) old place c.loop-node.invariant.marks made.mark);
    }
