use Rattle.std.proofs.Common.{◌≡◌, [], ◌∷◌, ◌<◌, sym, ◌∙◌, subst}
use Rattle.std.specs.Prelude.{IfSome, MatchOption}
use Rattle.model.specs.Forest.{above, is_same as is_same_id}
use Rattle.model.specs.Beside.{after_in, work_after}
use Rattle.model.proofs.Walks.Beside.{after_child, work_after_child}
use Rattle.model.proofs.Walks.Between.{below_is_within}
use Rattle.views.specs.ShownWorlds.{world_of}
use Rattle.views.specs.Spots.{place_at}
use Rattle.views.proofs.walks.ends.following.Goals as goal

pub next_shown-requires-clause-within : goal.next_shown-requires-clause-within
next_shown-requires-clause-within g c =
    let w = world_of c.args.state in
    sym (below_is_within w c.know.ensures.formed c.args.top (place_at c.args.node) c.args.node.member.id c.requires.known.stands) ∙ c.requires.below

pub returns-clause-nearer : goal.returns-clause-nearer
returns-clause-nearer g c =
    let w = world_of c.args.state in
    subst (λ n. IfSome c.next_shown.result (λ r. work_after w c.args.top (above w r.member.id) < n))
    (sym (work_after_child w c.know.ensures.formed c.args.top (place_at c.args.node) c.args.node.member.id c.requires.known.stands)) c.next_shown.ensures.nearer

pub returns-clause-exact : goal.returns-clause-exact
returns-clause-exact g c = λ f follows.
    let w = world_of c.args.state in
    subst (λ xs. MatchOption c.next_shown.result (xs ≡ []) (λ r. xs ≡ r.member.id ∷ after_in f w c.args.top r.member.id))
    (sym (after_child w c.know.ensures.formed f (is_same_id c.args.top) (place_at c.args.node) c.args.node.member.id c.requires.known.stands)) (c.next_shown.ensures.exact f follows)
