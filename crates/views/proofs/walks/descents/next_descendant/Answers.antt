use Rattle.std.proofs.Common.{◌≡◌, false}
use Rattle.model.specs.Forest.{is_same as is_same_id}
use Rattle.model.proofs.Walks.Between.{child_within, child_is_other}
use Rattle.views.specs.ShownWorlds.{world_of}
use Rattle.views.specs.Spots.{place_at}
use Rattle.views.proofs.Descending.{next_opened}
use Rattle.views.proofs.Descended.{next_works, parent_of_below}
use Rattle.views.proofs.walks.descents.next_descendant.Goals as goal

pub next_shown-requires-clause-within : goal.next_shown-requires-clause-within
next_shown-requires-clause-within g c =
    let w = world_of c.args.state in
    child_within w c.know.ensures.formed c.args.top (place_at c.args.node) c.args.node.member.id c.requires.known.stands
    (parent_of_below w c.know.ensures.formed c.args.top (place_at c.args.node) c.args.node.member.id c.requires.known.stands c.requires.below)

pub returns-clause-nearer : goal.returns-clause-nearer
returns-clause-nearer g c =
    next_works (world_of c.args.state) c.know.ensures.formed c.args.top c.args.node.member.id c.next_shown.result c.next_shown.ensures.there c.next_shown.ensures.ahead

pub returns-clause-exact : goal.returns-clause-exact
returns-clause-exact g c = λ f follows.
    let w = world_of c.args.state in
    let other : is_same_id c.args.top c.args.node.member.id ≡ false =
    child_is_other w c.know.ensures.formed c.args.top (place_at c.args.node) c.args.node.member.id c.requires.known.stands
    (parent_of_below w c.know.ensures.formed c.args.top (place_at c.args.node) c.args.node.member.id c.requires.known.stands c.requires.below) in
    next_opened f w c.know.ensures.formed c.args.top c.args.node.member.id other c.next_shown.result (c.next_shown.ensures.exact f follows)
