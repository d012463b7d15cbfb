use Rattle.model.specs.FlatText.{biased_to_end}
use Rattle.text_boundaries.proofs.FlatRuns.{first_number}
use Rattle.texts.proofs.TextEnds.{stays, goes_back}
use Rattle.texts.proofs.CharacterMoves.{stays_past_start, stays_first}
use Rattle.texts.proofs.position.TextPosition.biased_to_end.Goals as goal

pub returns-then-position-ne0 : goal.returns-then-position-ne0
returns-then-position-ne0 c = stays biased_to_end c.args.self.now (stays_past_start _ _ c.if-position-ne0.true)

pub returns-in_default : goal.returns-in_default
returns-in_default c = stays biased_to_end c.args.self.now (stays_first _ _ (first_number c.args.self.now.run c.in_default.ensures))

pub returns : goal.returns
returns c = goes_back c.args.self.now _ c.in-Some.ensures c.if-position-ne0.false c.character_count.ensures
