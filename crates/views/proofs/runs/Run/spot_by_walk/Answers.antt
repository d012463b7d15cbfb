use Rattle.views.specs.Nodes.{world_at, id_at}
use Rattle.views.proofs.RunSteps.{runs_follow, spot_there}
use Rattle.views.proofs.runs.Run.spot_by_walk.Goals as goal

pub returns : goal.returns
returns c =
    spot_there c.args.self c.following.result c.following.ensures.there c.following.ensures.below (c.following.ensures.exact _ (runs_follow (world_at c.args.self.root) (id_at c.args.self.root)))
