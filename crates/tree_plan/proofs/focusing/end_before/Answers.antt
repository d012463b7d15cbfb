use Rattle.std.proofs.Common.{◌≡◌, IsSome, length, sym, ap, subst, ◌∙◌, arith}
use Rattle.std.specs.FinMap.{get}
use Rattle.model.specs.World.{World, ROOT_NAME, focus_named}
use Rattle.model.proofs.State.StatePlaces.{IsSome_is}
use Rattle.tree_plan.proofs.FocusWays.{old_top}
use Rattle.tree_plan.proofs.focusing.end_before.Goals as goal

pub unwrap-first-requires : goal.unwrap-first-requires
unwrap-first-requires g c =
    let w : World = g.L.LookUps.world c.args.look_ups.now in
    let e = old_top w c.requires.old c.requires.present in
    subst IsSome (sym (c.declared.ensures.focus ∙ ap (focus_named w) c.root.ensures)) (IsSome_is e.0 e.1)

pub end_from-requires-clause-present : goal.end_from-requires-clause-present
end_from-requires-clause-present g c = subst (λ (v : World). IsSome (get v.trees 0)) (sym c.declared.ensures.looks.0) c.requires.present

pub end_from-requires-clause-first : goal.end_from-requires-clause-first
end_from-requires-clause-first g c =
    let w : World = g.L.LookUps.world c.args.look_ups.now in
    ap (λ (v : World). focus_named v ROOT_NAME) c.declared.ensures.looks.0 ∙ sym (c.declared.ensures.focus ∙ ap (focus_named w) c.root.ensures) ∙ c.unwrap-first.ensures

pub returns-clause-looks : goal.returns-clause-looks
returns-clause-looks g c =
    let known : length (g.L.LookUps.world c.declared.new.look_ups).known ≡ length (g.L.LookUps.world c.args.look_ups.now).known = ap (λ (v : World). length v.known) c.declared.ensures.looks.0 in
    (c.end_from.ensures.looks.0 ∙ c.declared.ensures.looks.0, (omega (arith, known, c.declared.ensures.looks.1.0, c.end_from.ensures.looks.1.0, c.end_from.ensures.known), omega (arith, c.declared.ensures.looks.1.1, c.end_from.ensures.looks.1.1)))
