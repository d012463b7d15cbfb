-- Whether there is a character beside a position, as its sides tell.
use Rattle.std.proofs.Common.{◌≡◌, ℕ, ◌+◌, ◌<◌, Bool, true, false, length, refl, sym, ap, ◌∙◌, arith}
use Rattle.std.specs.Prelude.{nat_lt}
use Rattle.std.proofs.lemmas.Bool.{lt-ltb, ltb-true}
use Rattle.model.specs.TextRuns.{said_count}
use Rattle.model.specs.FlatText.{count_in, total, offset, biased_to_start, biased_to_end}
use Rattle.model.proofs.Text.TextFacts.{start_next, start_bias, end_bias}
use Rattle.model.proofs.Text.Sides.{start_rises, start_bias_side}
use Rattle.views.specs.Runs.{sent_of}
use Rattle.texts.specs.declared.position.TextPosition.{TextPosition}
use Rattle.text_boundaries.specs.RunNumbers.{number_in}
use Rattle.texts.specs.Characters.{has_character_after, has_character_before}
use Rattle.texts.specs.Positions.{root_at, node_text, position_text, flat_position, IsPositionAt}
use Rattle.text_boundaries.proofs.FlatRuns.{count_at_number}
use Rattle.texts.proofs.FlatPositions.{text_is_whole, is_position}
use Rattle.texts.proofs.PositionSteps.{room_after, room_before}
use Rattle.texts.proofs.CharacterMoves.{start_of_all}

-- two tests of order that say the same
pub same_test : (a b c d : ℕ) → (a < b → c < d) → (c < d → a < b) → nat_lt a b ≡ nat_lt c d
same_test a b c d there back = go (nat_lt a b) (nat_lt c d) refl refl
  where
    go : (x y : Bool) → nat_lt a b ≡ x → nat_lt c d ≡ y → nat_lt a b ≡ nat_lt c d
    go true y e f = e ∙ sym (lt-ltb c d (there (ltb-true a b e)))
    go false true e f = lt-ltb a b (back (ltb-true c d f)) ∙ sym f
    go false false e f = e ∙ sym f

module _ (p b : TextPosition) where
  pub tells_after : IsPositionAt (root_at p) (biased_to_start (position_text p) (flat_position p)) b → (n : ℕ) → n ≡ said_count (sent_of b.run) →
      nat_lt b.index n ≡ has_character_after (position_text p) (flat_position p)
  tells_after at n counted =
      let index : b.index ≡ (biased_to_start (position_text p) (flat_position p)).index = ap (λ q. q.index) at.at in
      let count : n ≡ count_in (position_text p) (biased_to_start (position_text p) (flat_position p)).run =
      counted ∙ sym (count_at_number b.run) ∙ ap (λ m. count_in (node_text m) (number_in b.run)) at.same ∙ ap (λ q. count_in (position_text p) q.run) at.at in
      same_test b.index n (offset (position_text p) (flat_position p)) (total (position_text p))
      (λ less.
      let t = position_text p in
      let side = biased_to_start t (flat_position p) in
      let run : side.run < length t = (start_bias_side t (flat_position p) (text_is_whole p) (is_position p)).run in
      let rise = start_rises t (side.run + 1) (length t) (omega (arith, run)) in
      omega (arith, rise, start_of_all t, start_next t side.run, start_bias t (flat_position p), less, index, count))
      (λ less. let room = room_after p b at less in omega (arith, room, counted))

  pub tells_before : IsPositionAt (root_at p) (biased_to_end (position_text p) (flat_position p)) b → nat_lt 0 b.index ≡ has_character_before (position_text p) (flat_position p)
  tells_before at =
      let same : offset (position_text p) (flat_position b) ≡ offset (position_text p) (flat_position p) = ap (offset (position_text p)) at.at ∙ end_bias (position_text p) (flat_position p) in
      same_test 0 b.index 0 (offset (position_text p) (flat_position p)) (λ some. omega (arith, some, same)) (λ some. room_before p b at some)
