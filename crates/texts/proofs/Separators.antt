-- The next character, and whether it ends a paragraph.
use Rattle.std.proofs.Common.{◌≡◌, ℕ, ◌+◌, ◌<◌, ◌≤◌, Bool, true, false, length, refl, sym, ap, ◌∙◌, arith}
use Rattle.std.specs.Prelude.{◌&&◌, nat_lt, not}
use Rattle.std.proofs.lemmas.Bool.{le-ltb, lt-ltb, ltb-false, ltb-true}
use Rattle.model.specs.TextRuns.{said_count}
use Rattle.model.specs.FlatText.{FlatText, Position, IsPosition, count_in, start_of, total, offset, biased_to_start, is_paragraph_end, is_document_end, is_paragraph_separator}
use Rattle.model.specs.Moves.{forward_to_character_end}
use Rattle.model.specs.TextLaws.{IsWhole}
use Rattle.model.proofs.Text.TextFacts.{start_next, start_bias}
use Rattle.model.proofs.Text.Sides.{start_bias_side, start_rises}
use Rattle.texts.specs.declared.position.TextPosition.{TextPosition}
use Rattle.views.specs.Runs.{sent_of}
use Rattle.text_boundaries.specs.RunNumbers.{number_in}
use Rattle.texts.specs.Positions.{root_at, node_text, position_text, flat_position, IsPositionAt}
use Rattle.text_boundaries.proofs.FlatRuns.{count_at_number}
use Rattle.texts.proofs.FlatPositions.{text_is_whole, is_position}
use Rattle.texts.proofs.CharacterMoves.{start_of_all}

module _ (t : FlatText) (whole : IsWhole t) (p : Position) (is : IsPosition t p) where
  abbrev side : Position
  side = biased_to_start t p

  -- the end of a run on the start side is the text's end
  none_follows : side.index ≡ count_in t side.run → total t ≤ offset t p
  none_follows e = go (nat_lt (side.run + 1) (length t)) refl
    where
      go : (b : Bool) → nat_lt (side.run + 1) (length t) ≡ b → total t ≤ offset t p
      go true h = absurd (let within = (start_bias_side t p whole is).within (ltb-true _ _ h) in omega (arith, within, e))
      go false h =
          let run = (start_bias_side t p whole is).run in
          let past = ltb-false (side.run + 1) (length t) h in
          let last : side.run + 1 ≡ length t = omega (arith, run, past) in
          let upto : start_of t (side.run + 1) ≡ total t = ap (start_of t) last ∙ start_of_all t in
          omega (arith, upto, start_next t side.run, start_bias t p, e)

  one_follows : side.index < count_in t side.run → offset t p < total t
  one_follows less =
      let run = (start_bias_side t p whole is).run in
      let rise = start_rises t (side.run + 1) (length t) (omega (arith, run)) in
      omega (arith, rise, start_of_all t, start_next t side.run, start_bias t p, less)

module _ (p b : TextPosition) (at : IsPositionAt (root_at p) (biased_to_start (position_text p) (flat_position p)) b) (n : ℕ) (counted : n ≡ said_count (sent_of b.run)) where
  index_at : b.index ≡ (biased_to_start (position_text p) (flat_position p)).index
  index_at = ap (λ q. q.index) at.at

  count_at : n ≡ count_in (position_text p) (biased_to_start (position_text p) (flat_position p)).run
  count_at = counted ∙ sym (count_at_number b.run) ∙ ap (λ m. count_in (node_text m) (number_in b.run)) at.same ∙ ap (λ q. count_in (position_text p) q.run) at.at

  pub none_to_separate : b.index ≡ n → false ≡ is_paragraph_separator (position_text p) (flat_position p)
  none_to_separate e =
      let past = none_follows (position_text p) (text_is_whole p) (flat_position p) (is_position p) (sym index_at ∙ e ∙ count_at) in
      sym (ap (λ c. c && (is_paragraph_end (position_text p) (forward_to_character_end (position_text p) (flat_position p)) && not (is_document_end (position_text p) (forward_to_character_end (position_text p) (flat_position p)))))
      (le-ltb (offset (position_text p) (flat_position p)) (total (position_text p)) past))

  pub one_to_separate : (b.index ≡ n → ⊥) → offset (position_text p) (flat_position p) < total (position_text p)
  one_to_separate apart =
      one_follows (position_text p) (text_is_whole p) (flat_position p) (is_position p) (let within = b.within in omega (arith, within, counted, apart, index_at, count_at))

pub separates : (p e : TextPosition) (x y : Bool) → offset (position_text p) (flat_position p) < total (position_text p) → IsPositionAt (root_at p) (forward_to_character_end (position_text p) (flat_position p)) e →
    x ≡ is_paragraph_end (position_text e) (flat_position e) → y ≡ is_document_end (position_text e) (flat_position e) → (x && not y) ≡ is_paragraph_separator (position_text p) (flat_position p)
separates p e x y less at xs ys =
    let moved : Position = forward_to_character_end (position_text p) (flat_position p) in
    let ends : x ≡ is_paragraph_end (position_text p) moved = xs ∙ ap (λ n. is_paragraph_end (node_text n) (flat_position e)) at.same ∙ ap (is_paragraph_end (position_text p)) at.at in
    let last : y ≡ is_document_end (position_text p) moved = ys ∙ ap (λ n. is_document_end (node_text n) (flat_position e)) at.same ∙ ap (is_document_end (position_text p)) at.at in
    ap (λ c. c && not y) ends ∙ ap (λ c. is_paragraph_end (position_text p) moved && not c) last
    ∙ sym (ap (λ c. c && (is_paragraph_end (position_text p) moved && not (is_document_end (position_text p) moved))) (lt-ltb (offset (position_text p) (flat_position p)) (total (position_text p)) less))
