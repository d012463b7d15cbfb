use Rattle.page_states.proofs.Shared.{shown_as}
use Rattle.page_states.proofs.shown_texts.shown_source.Goals as goal

pub returns : goal.returns
returns c = shown_as c.args.place.now c.requires c.if-place.false c.args.place.now.source c.requires.source
