-- How far a position may be moved within its run.
use Rattle.std.proofs.Common.{◌≡◌, ◌<◌, sym, ap, ◌∙◌, arith}
use Rattle.model.specs.TextRuns.{said_count}
use Rattle.model.specs.FlatText.{count_in, total, offset, biased_to_start, biased_to_end}
use Rattle.texts.specs.declared.position.TextPosition.{TextPosition}
use Rattle.views.specs.Runs.{sent_of}
use Rattle.text_boundaries.specs.RunNumbers.{number_in}
use Rattle.texts.specs.Positions.{root_at, node_text, position_text, flat_position, IsPositionAt}
use Rattle.text_boundaries.proofs.FlatRuns.{count_at_number}
use Rattle.texts.proofs.FlatPositions.{text_is_whole, is_position}
use Rattle.texts.proofs.CharacterMoves.{character_follows, character_precedes}

module _ (p b : TextPosition) where
  pub room_after : IsPositionAt (root_at p) (biased_to_start (position_text p) (flat_position p)) b → offset (position_text p) (flat_position p) < total (position_text p) → b.index < said_count (sent_of b.run)
  room_after is less =
      let follows = character_follows (position_text p) (text_is_whole p) (flat_position p) (is_position p) less in
      let index : b.index ≡ (biased_to_start (position_text p) (flat_position p)).index = ap (λ q. q.index) is.at in
      let counted : said_count (sent_of b.run) ≡ count_in (position_text p) (biased_to_start (position_text p) (flat_position p)).run =
      sym (count_at_number b.run) ∙ ap (λ n. count_in (node_text n) (number_in b.run)) is.same ∙ ap (λ q. count_in (position_text p) q.run) is.at in
      omega (arith, follows, index, counted)

  pub room_before : IsPositionAt (root_at p) (biased_to_end (position_text p) (flat_position p)) b → 0 < offset (position_text p) (flat_position p) → 0 < b.index
  room_before is some =
      let precedes = character_precedes (position_text p) (text_is_whole p) (flat_position p) (is_position p) some in
      let index : b.index ≡ (biased_to_end (position_text p) (flat_position p)).index = ap (λ q. q.index) is.at in
      omega (arith, precedes, index)
