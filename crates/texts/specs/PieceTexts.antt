-- The texts of pieces, as they are sent and as they are shown.
use Rattle.std.specs.Prelude.{◌≡◌, ◌≤◌, ℕ, nat_le, Bool, true, ◌&&◌, List, [], ◌∷◌, length, map, drop, take, slice_range}
use Rattle.std.specs.List.{concat}
use Rattle.std.specs.Str.{is_utf8}
use Rattle.schema.specs.RunFits.{is_cut_by}
use Rattle.model.specs.TextRuns.{run_value, said_count, sent_characters}
use Rattle.model.specs.FlatText.{shown_character}
use Rattle.texts.specs.declared.pieces.Piece.{Piece}
use Rattle.views.specs.Runs.{sent_of}

-- the lengths cut the beginning of a text at character boundaries
abbrev pub are_cut_off : List ℕ → List ℕ → Bool
are_cut_off bs [] = true
are_cut_off bs (n ∷ ns) = nat_le n (length bs) && (is_utf8 (take n bs) && are_cut_off (drop n bs) ns)

-- the rest of it
abbrev pub left_by : List ℕ → List ℕ → List ℕ
left_by bs [] = bs
left_by bs (n ∷ ns) = left_by (drop n bs) ns

-- the lengths of the run cut its value, and the piece is a part of it
pub record IsPart (p : Piece) : Type 0 where
  pub order : p.from ≤ p.to
  pub within : p.to ≤ said_count (sent_of p.run)
  pub cut : is_cut_by (run_value (sent_of p.run)) (sent_of p.run).node.character_lengths ≡ true

-- its characters as they were sent
abbrev pub sent_part : Piece → List (List ℕ)
sent_part p = slice_range (sent_characters (sent_of p.run)) p.from p.to

-- its text as it is shown
abbrev pub shown_piece : Bool → Piece → List ℕ
shown_piece masked p = concat (map (shown_character masked) (sent_part p))
