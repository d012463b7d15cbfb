use Rattle.std.proofs.Common.{◌≡◌, Some, cond, sym, subst}
use Rattle.std.specs.BTreeMap.{get, is_at}
use Rattle.std.proofs.lemmas.List.Elements.{All-get_or}
use Rattle.model.specs.declared.FullNodeId.{FullNodeId}
use Rattle.model.specs.FullIds.{full_cmp}
use Rattle.views.specs.Nodes.{id_at}
use Rattle.views.specs.ShownWorlds.{world_of}
use Rattle.page_states.specs.Found.{IsPlaceIn}
use Rattle.page_states.proofs.FactsKnown.{known_more}
use Rattle.page_states.proofs.found.facts_in.Goals as goal

pub loop-place-preserved : goal.loop-place-preserved
loop-place-preserved c =
    let w = world_of c.args.state in
    let x = c.place-item.result in
    let placed : IsPlaceIn w x = subst (IsPlaceIn w) (sym c.place-item.is) (All-get_or (IsPlaceIn w) c.args.places.now c.loop-place.place-index x c.loop-place-test.true c.requires) in
    let put = subst (λ (k : FullNodeId). (q : FullNodeId) → get full_cmp c.insert.new.self q ≡ cond (is_at (full_cmp k) q) (Some c.facts_at.result) (get full_cmp c.loop-place.found q)) c.id.ensures c.in_ok-insert.ensures.updates.0 in
    known_more w c.loop-place.found c.insert.new.self (id_at x.node) c.facts_at.result put (c.facts_at.ensures w placed) c.loop-place.invariant
