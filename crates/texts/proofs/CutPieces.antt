-- Parts of a text that is cut into characters.
use Rattle.std.proofs.Common.{◌≡◌, ℕ, zero, suc, ◌+◌, ◌-◌, ◌<◌, ◌≤◌, Bool, true, false, List, [], ◌∷◌, ◌++◌, length, map, take, drop, get_or, refl, sym, ap, ◌∙◌, arith, add-one, drop-cons, append_assoc}
use Rattle.std.specs.Prelude.{◌&&◌, nat_lt, nat_le, slice_range}
use Rattle.std.specs.Option.{option_map_or}
use Rattle.std.specs.List.{concat}
use Rattle.std.specs.Str.{is_utf8, IsUtf8, IsCharBoundary}
use Rattle.std.proofs.Math.Seq.{take-append_seam}
use Rattle.std.proofs.lemmas.Bool.{and_parts, leb-true, eqb-true}
use Rattle.std.proofs.lemmas.List.{take_all, take-append-drop, length-append, length-take-le, length-drop, take-map, drop-map}
use Rattle.std.proofs.lemmas.Str.{IsUtf8-from_is_utf8, IsCharBoundary-from_take, IsCharBoundary-at_seam}
use Rattle.schema.specs.NodeData.{NodeData}
use Rattle.schema.specs.RunFits.{is_cut_by}
use Rattle.model.specs.TextRuns.{run_value, said_count, sent_characters, cut_by}
use Rattle.model.specs.FlatText.{ShownRun, shown_character, needs_masking}
use Rattle.model.specs.Ranges.{piece_text}
use Rattle.model.specs.Values.{bullets}
use Rattle.texts.specs.declared.pieces.Piece.{Piece}
use Rattle.views.specs.Runs.{sent_of, run_world, root_id}
use Rattle.text_boundaries.specs.RunNumbers.{text_around}
use Rattle.texts.specs.Pieces.{piece_data}
use Rattle.texts.specs.PieceTexts.{are_cut_off, left_by, IsPart, sent_part, shown_piece}
use Rattle.text_boundaries.proofs.FlatRuns.{cut_count, shown_at_number}

-- ---- length by length

module _ (bs ns : List ℕ) (i n : ℕ) (h : i < length ns) (e : get_or ns i 0 ≡ n) where
  rest_is : drop i ns ≡ n ∷ drop (i + 1) ns
  rest_is = drop-cons ns i 0 h ∙ ap (λ k. k ∷ drop (suc i) ns) e ∙ ap (λ k. n ∷ drop k ns) (sym (add-one i))

  pub left_next : left_by bs (drop i ns) ≡ left_by (drop n bs) (drop (i + 1) ns)
  left_next = ap (left_by bs) rest_is

  module _ (cut : are_cut_off bs (drop i ns) ≡ true) where
    cut_parts : (nat_le n (length bs) && (is_utf8 (take n bs) && are_cut_off (drop n bs) (drop (i + 1) ns))) ≡ true
    cut_parts = sym (ap (are_cut_off bs) rest_is) ∙ cut

    pub cut_at : IsUtf8 bs → IsCharBoundary bs n
    cut_at text =
        let a = and_parts (nat_le n (length bs)) _ cut_parts in
        let b = and_parts (is_utf8 (take n bs)) _ a.1 in
        IsCharBoundary-from_take bs n text (leb-true n (length bs) a.0) (IsUtf8-from_is_utf8 (take n bs) b.0)

    pub cut_next : are_cut_off (drop n bs) (drop (i + 1) ns) ≡ true
    cut_next =
        let a = and_parts (nat_le n (length bs)) _ cut_parts in
        (and_parts (is_utf8 (take n bs)) _ a.1).1

-- ---- of lengths that cut the whole text

two_true : (a b : Bool) → a ≡ true → b ≡ true → (a && b) ≡ true
two_true true b e f = f
two_true false b e f = e

-- the first length cuts a character off, and the others cut what that leaves
cut_on : (bs : List ℕ) (n : ℕ) (ns : List ℕ) → is_cut_by bs (n ∷ ns) ≡ true → (nat_le n (length bs) ≡ true) × (is_utf8 (take n bs) ≡ true) × (is_cut_by (drop n bs) ns ≡ true)
cut_on bs n ns e =
    let a = and_parts (nat_lt 0 n) _ e in
    let b = and_parts (nat_le n (length bs)) _ a.1 in
    let c = and_parts (is_utf8 (take n bs)) _ b.1 in
    (b.0, c.0, c.1)

first_cut_off : (bs ns : List ℕ) (i : ℕ) → is_cut_by bs ns ≡ true → are_cut_off bs (take i ns) ≡ true
first_cut_off bs ns zero e = refl
first_cut_off bs [] (suc i) e = refl
first_cut_off bs (n ∷ ns) (suc i) e = let c = cut_on bs n ns e in two_true _ _ c.0 (two_true _ _ c.1 (first_cut_off (drop n bs) ns i c.2))

rest_cut : (bs ns : List ℕ) (i : ℕ) → is_cut_by bs ns ≡ true → is_cut_by (left_by bs (take i ns)) (drop i ns) ≡ true
rest_cut bs ns zero e = e
rest_cut bs [] (suc i) e = e
rest_cut bs (n ∷ ns) (suc i) e = rest_cut (drop n bs) ns i (cut_on bs n ns e).2

rest_characters : (bs ns : List ℕ) (i : ℕ) → cut_by (left_by bs (take i ns)) (drop i ns) ≡ drop i (cut_by bs ns)
rest_characters bs ns zero = refl
rest_characters bs [] (suc i) = refl
rest_characters bs (n ∷ ns) (suc i) = rest_characters (drop n bs) ns i

first_and_rest : (bs ns : List ℕ) (i : ℕ) → concat (take i (cut_by bs ns)) ++ left_by bs (take i ns) ≡ bs
first_and_rest bs ns zero = refl
first_and_rest bs [] (suc i) = refl
first_and_rest bs (n ∷ ns) (suc i) =
    append_assoc (take n bs) (concat (take i (cut_by (drop n bs) ns))) (left_by (drop n bs) (take i ns))
    ∙ ap (λ xs. take n bs ++ xs) (first_and_rest (drop n bs) ns i) ∙ take-append-drop n bs

-- all characters together are the text
no_bytes : (bs : List ℕ) → is_cut_by bs [] ≡ true → [] ≡ bs
no_bytes [] e = refl
no_bytes (b ∷ bs) e = let h : length (b ∷ bs) ≡ 0 = eqb-true (length (b ∷ bs)) 0 e in absurd (omega (arith, h))

all_characters : (bs ns : List ℕ) → is_cut_by bs ns ≡ true → concat (cut_by bs ns) ≡ bs
all_characters bs [] e = no_bytes bs e
all_characters bs (n ∷ ns) e = ap (λ xs. take n bs ++ xs) (all_characters (drop n bs) ns (cut_on bs n ns e).2) ∙ take-append-drop n bs

cut_size : (bs ns : List ℕ) → length (cut_by bs ns) ≡ length ns
cut_size bs [] = refl
cut_size bs (n ∷ ns) = ap suc (cut_size (drop n bs) ns)

-- a part, and what is left past it, are what is left before it
module _ (bs ns : List ℕ) (i j : ℕ) where
  part_and_rest : concat (slice_range (cut_by bs ns) i j) ++ left_by (left_by bs (take i ns)) (slice_range ns i j) ≡ left_by bs (take i ns)
  part_and_rest =
      ap (λ cs. concat (take (j - i) cs) ++ left_by (left_by bs (take i ns)) (slice_range ns i j)) (sym (rest_characters bs ns i))
      ∙ first_and_rest (left_by bs (take i ns)) (drop i ns) (j - i)

  -- by the texts that were cut off
  module _ (rest after : List ℕ) (r : rest ≡ left_by bs (take i ns)) (a : after ≡ left_by rest (slice_range ns i j)) where
    pub seam : rest ≡ concat (slice_range (cut_by bs ns) i j) ++ after
    seam = r ∙ sym part_and_rest ∙ ap (λ xs. concat (slice_range (cut_by bs ns) i j) ++ left_by xs (slice_range ns i j)) (sym r) ∙ ap (λ xs. concat (slice_range (cut_by bs ns) i j) ++ xs) (sym a)

    part_length : length rest - length after ≡ length (concat (slice_range (cut_by bs ns) i j))
    part_length = let e = ap length seam in omega (arith, e, length-append (concat (slice_range (cut_by bs ns) i j)) after)

    pub after_fits : length after ≤ length rest
    after_fits = let e = ap length seam in omega (arith, e, length-append (concat (slice_range (cut_by bs ns) i j)) after)

    pub part_ends : IsUtf8 after → IsCharBoundary rest (length rest - length after)
    part_ends text = rw part_length (IsCharBoundary-at_seam rest (concat (slice_range (cut_by bs ns) i j)) after seam text)

    part_is : take (length rest - length after) rest ≡ concat (slice_range (cut_by bs ns) i j)
    part_is = ap (λ k. take k rest) part_length ∙ ap (take (length (concat (slice_range (cut_by bs ns) i j)))) seam ∙ take-append_seam (concat (slice_range (cut_by bs ns) i j)) after

-- ---- by the value and the lengths of the run of a piece

module _ (p : Piece) (part : IsPart p) (value lengths : List ℕ) (node : NodeData) (v : value ≡ run_value (sent_of p.run)) (l : lengths ≡ node.character_lengths) (n : node ≡ (sent_of p.run).node) where
  lengths_are : lengths ≡ (sent_of p.run).node.character_lengths
  lengths_are = l ∙ ap (λ (d : NodeData). d.character_lengths) n

  value_cut : is_cut_by value lengths ≡ true
  value_cut = ap (λ bs. is_cut_by bs lengths) v ∙ ap (is_cut_by (run_value (sent_of p.run))) lengths_are ∙ part.cut

  -- of the whole run, and of a part of it
  pub whole_as_sent : p.from ≡ 0 → p.to ≡ length lengths → value ≡ concat (sent_part p)
  whole_as_sent f t =
      let size = cut_size value lengths in
      sym (all_characters value lengths value_cut)
      ∙ ap concat (sym (take_all (p.to - 0) (cut_by value lengths) (omega (arith, size, t))))
      ∙ ap (λ i. concat (slice_range (cut_by value lengths) i p.to)) (sym f)
      ∙ ap (λ bs. concat (slice_range (cut_by bs lengths) p.from p.to)) v
      ∙ ap (λ ns. concat (slice_range (cut_by (run_value (sent_of p.run)) ns) p.from p.to)) lengths_are

  pub before_cut_off : are_cut_off value (take p.from lengths) ≡ true
  before_cut_off = first_cut_off value lengths p.from value_cut

  module _ (rest : List ℕ) (r : rest ≡ left_by value (take p.from lengths)) where
    pub part_cut_off : are_cut_off rest (slice_range lengths p.from p.to) ≡ true
    part_cut_off = first_cut_off rest (drop p.from lengths) (p.to - p.from) (ap (λ bs. is_cut_by bs (drop p.from lengths)) r ∙ rest_cut value lengths p.from value_cut)

    pub part_as_sent : (after : List ℕ) → after ≡ left_by rest (slice_range lengths p.from p.to) → take (length rest - length after) rest ≡ concat (sent_part p)
    part_as_sent after a =
        part_is value lengths p.from p.to rest after r a
        ∙ ap (λ bs. concat (slice_range (cut_by bs lengths) p.from p.to)) v
        ∙ ap (λ ns. concat (slice_range (cut_by (run_value (sent_of p.run)) ns) p.from p.to)) lengths_are

-- ---- what is shown

plain_characters : (cs : List (List ℕ)) → map (shown_character false) cs ≡ cs
plain_characters [] = refl
plain_characters (c ∷ cs) = ap (λ ds. c ∷ ds) (plain_characters cs)

bullet_each : (cs : List (List ℕ)) → concat (map (shown_character true) cs) ≡ bullets (length cs)
bullet_each [] = refl
bullet_each (c ∷ cs) = ap (λ xs. 226 ∷ 128 ∷ 162 ∷ xs) (bullet_each cs)

module _ (p : Piece) where
  pub plain_part : concat (sent_part p) ≡ shown_piece false p
  plain_part = ap concat (sym (plain_characters (sent_part p)))

  pub masked_part : IsPart p → bullets (p.to - p.from) ≡ shown_piece true p
  masked_part is =
      let cs = sent_characters (sent_of p.run) in
      let order = is.order in
      let within = is.within in
      let counted : length cs ≡ said_count (sent_of p.run) = sym (ap length (plain_characters cs)) ∙ cut_count (shown_character false) _ _ in
      let many : length (sent_part p) ≡ p.to - p.from = length-take-le (p.to - p.from) (drop p.from cs) (omega (arith, order, within, counted, length-drop p.from cs)) in
      ap bullets (sym many) ∙ sym (bullet_each (sent_part p))

  pub text_of_part : piece_text (text_around p.run) (piece_data p) ≡ shown_piece (needs_masking (run_world p.run) (root_id p.run)) p
  text_of_part =
      let show = shown_character (needs_masking (run_world p.run) (root_id p.run)) in
      let cs = sent_characters (sent_of p.run) in
      ap (λ o. concat (slice_range (option_map_or (λ (s : ShownRun). s.characters) o []) p.from p.to)) (shown_at_number p.run)
      ∙ ap (λ xs. concat (take (p.to - p.from) xs)) (drop-map show p.from cs)
      ∙ ap concat (take-map show (p.to - p.from) (drop p.from cs))
