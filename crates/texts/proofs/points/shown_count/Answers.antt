use Rattle.std.proofs.Common.{sym, ◌∙◌}
use Rattle.texts.proofs.PointPlaces.{count_shown}
use Rattle.texts.proofs.points.shown_count.Goals as goal

pub returns-clause-exact : goal.returns-clause-exact
returns-clause-exact c = c.character_count.ensures ∙ sym (count_shown c.args.run)
