use Rattle.std.proofs.Common.{refl, sym, ◌∙◌}
use Rattle.model.specs.FlatText.{biased_to_start}
use Rattle.text_boundaries.proofs.FlatRuns.{count_at_number, last_number}
use Rattle.texts.proofs.TextEnds.{stays, goes_on}
use Rattle.texts.proofs.CharacterMoves.{stays_within, stays_last}
use Rattle.texts.proofs.position.TextPosition.biased_to_start.Goals as goal

pub returns-then-position-character_count : goal.returns-then-position-character_count
returns-then-position-character_count c =
    let p = c.args.self.now in
    stays biased_to_start p (stays_within _ _ (λ e. c.if-position-character_count.true (e ∙ count_at_number p.run ∙ sym c.character_count.ensures)))

pub returns-in_default : goal.returns-in_default
returns-in_default c = stays biased_to_start c.args.self.now (stays_last _ _ (last_number c.args.self.now.run c.in_default.ensures))

pub returns : goal.returns
returns c = goes_on c.args.self.now _ c.in-Some.ensures (c.if-position-character_count.false ∙ c.character_count.ensures) refl
