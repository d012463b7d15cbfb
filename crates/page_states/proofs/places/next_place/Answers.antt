use Rattle.std.proofs.Common.{rules, sym, subst}
use Rattle.std.specs.Prelude.{All}
use Rattle.std.proofs.lemmas.List.Elements.{All-push}
use Rattle.views.specs.Nodes.{world_at}
use Rattle.page_states.specs.declared.carried.Step.{Step}
use Rattle.page_states.specs.Known.{IsStep}
use Rattle.page_states.proofs.places.next_place.Goals as goal

pub returns-clause-path : goal.returns-clause-path
returns-clause-path c =
    let is_step = IsStep (world_at c.args.node) in
    let step : Step = record { id = c.id.result; known = c.known_of.result } in
    let known : is_step step = search rules in
    subst (All is_step) (sym c.in_ok-push.ensures.items) (All-push is_step c.step_above-above.new.path.items step c.step_above-above.ensures.path known)
