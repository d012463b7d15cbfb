use Rattle.std.proofs.Common.{◌≡◌, [], ◌∷◌, ◌++◌, ◌<◌, sym, ◌∙◌, subst}
use Rattle.std.specs.Prelude.{IfSome, MatchOption}
use Rattle.model.specs.Forest.{above, is_same as is_same_id}
use Rattle.model.specs.Beside.{before_in, work_before}
use Rattle.model.proofs.Walks.Beside.{before_child, work_before_child}
use Rattle.model.proofs.Walks.Between.{below_is_within}
use Rattle.views.specs.ShownWorlds.{world_of}
use Rattle.views.specs.Spots.{place_at}
use Rattle.views.proofs.walks.ends.preceding.Goals as goal

pub previous_shown-requires-clause-within : goal.previous_shown-requires-clause-within
previous_shown-requires-clause-within g c =
    let w = world_of c.args.state in
    sym (below_is_within w c.know.ensures.formed c.args.top (place_at c.args.node) c.args.node.member.id c.requires.known.stands) ∙ c.requires.below

pub returns-clause-nearer : goal.returns-clause-nearer
returns-clause-nearer g c =
    let w = world_of c.args.state in
    subst (λ n. IfSome c.previous_shown.result (λ r. work_before w c.args.top (above w r.member.id) < n))
    (sym (work_before_child w c.know.ensures.formed c.args.top (place_at c.args.node) c.args.node.member.id c.requires.known.stands)) c.previous_shown.ensures.nearer

pub returns-clause-exact : goal.returns-clause-exact
returns-clause-exact g c = λ f follows.
    let w = world_of c.args.state in
    subst (λ xs. MatchOption c.previous_shown.result (xs ≡ []) (λ r. xs ≡ before_in f w c.args.top r.member.id ++ r.member.id ∷ []))
    (sym (before_child w c.know.ensures.formed f (is_same_id c.args.top) (place_at c.args.node) c.args.node.member.id c.requires.known.stands)) (c.previous_shown.ensures.exact f follows)
