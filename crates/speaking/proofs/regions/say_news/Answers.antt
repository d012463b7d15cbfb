use Rattle.std.proofs.Common.{sym}
use Rattle.views.specs.ShownWorlds.{world_of}
use Rattle.speaking.proofs.NoNews.{nothing_new}
use Rattle.speaking.proofs.regions.say_news.Goals as goal

pub returns-then-is_empty : goal.returns-then-is_empty
returns-then-is_empty c = sym (nothing_new (world_of c.args.state) c.args.noted.now c.args.voice.now (c.is_empty.ensures.0 c.if-is_empty.true))
