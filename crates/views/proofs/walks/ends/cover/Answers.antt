use Rattle.std.proofs.Common.{◌≡◌, ◌∙◌, ap, subst, true, false, ◌||◌, Bool, refl}
use Rattle.model.specs.World.{StandsAt}
use Rattle.model.specs.Forest.{is_same as is_same_id}
use Rattle.model.specs.Covers.{cover as cover_of}
use Rattle.model.specs.Beside.{cover_through, is_below}
use Rattle.model.proofs.Walks.Between.{above_is_below}
use Rattle.model.proofs.Walks.Siblings.{cover_is_of_parent}
use Rattle.views.specs.ShownWorlds.{world_of}
use Rattle.views.specs.Spots.{place_at}
use Rattle.views.proofs.Following.{says_of}
use Rattle.views.proofs.walks.ends.cover.Goals as goal

or_right : (a b : Bool) → b ≡ true → (a || b) ≡ true
or_right true b e = refl
or_right false b e = e

pub returns-in-Include-clause-below : goal.returns-in-Include-clause-below
returns-in-Include-clause-below g c =
    let w = world_of c.args.state in
    let p = place_at c.in-Some.spot in
    let stands : StandsAt w p c.loop-spot.current.id = subst (StandsAt w p) c.in-Some.ensures.there.1 c.in-Some.ensures.there.0.stands in
    above_is_below w c.know.ensures.formed p.0 c.loop-spot.current.id c.args.node.id p.1 stands c.loop-spot.invariant.within

pub loop-spot-preserved : goal.loop-spot-preserved
loop-spot-preserved g c =
    let w = world_of c.args.state in
    let p = place_at c.in-Some.spot in
    let stands : StandsAt w p c.loop-spot.current.id = subst (StandsAt w p) c.in-Some.ensures.there.1 c.in-Some.ensures.there.0.stands in
    record {
      known = c.in-Some.ensures.there.0.parent;
      within = or_right (is_same_id p.0 c.args.node.id) (is_below w p.0 c.args.node.id) (above_is_below w c.know.ensures.formed p.0 c.loop-spot.current.id c.args.node.id p.1 stands c.loop-spot.invariant.within);
      exact = λ f follows.
          c.loop-spot.invariant.exact f follows ∙ cover_is_of_parent f w c.know.ensures.formed p c.loop-spot.current.id stands
          ∙ ap (λ r. cover_through r p.0 (cover_of f w p.0)) (says_of follows c.view.result _ _ c.view.ensures.world c.view.ensures.id c.in-ExcludeNode.ensures);
    }
