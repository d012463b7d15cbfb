-- The text of a range is the characters between its offsets.
use Rattle.std.proofs.Common.{◌≡◌, ◌≢◌, ℕ, suc, zero, ◌+◌, ◌-◌, ◌<◌, ◌≤◌, Bool, true, false, List, [], ◌∷◌, ◌++◌, length, map, take, drop, refl, sym, ap, subst, ◌∙◌, arith, append_assoc, append-nil}
use Rattle.std.specs.Prelude.{◌==◌, nat_lt, ◌&&◌, if◌then◌else◌, slice_get, slice_range}
use Rattle.std.specs.Option.{option_map_or}
use Rattle.std.specs.List.{flat_map, concat, range_with_len}
use Rattle.std.proofs.Math.Seq.{take-append-add, take-add}
use Rattle.std.proofs.lemmas.Bool.{ltb-true, ltb-false, eqb-true, eqb-false}
use Rattle.std.proofs.lemmas.List.{take-append-le, append_cancel_left}
use Rattle.std.proofs.lemmas.List.Folds.{concat-append, flat_map-map}
use Rattle.std.proofs.lemmas.List.Sums.{sum_by-cons}
use Rattle.model.specs.FlatText.{FlatText, characters, count, count_in, start_of, Position, IsPosition, offset, start_at, end_at, biased_to_start, biased_to_end}
use Rattle.model.specs.Ranges.{Range, piece_in, caret_piece, visited_runs, piece_text, text_of}
use Rattle.model.specs.TextLaws.{IsWhole}
use Rattle.model.proofs.Text.TextFacts.{start_next, start_bias, end_bias}
use Rattle.model.proofs.Text.Sides.{start_rises, start_bias_side, end_bias_side}

abbrev run_characters : FlatText → ℕ → List (List ℕ)
run_characters t k = option_map_or (λ s. s.characters) (slice_get t k) []

-- the characters up to a place in a run
taken : (t : FlatText) (k i : ℕ) → k < length t → i ≤ count_in t k → take (start_of t k + i) (characters t) ≡ characters (take k t) ++ take i (run_characters t k)
taken [] k i h le = absurd (omega arith)
taken (s ∷ t) zero i h le = let e : 0 + i ≡ i = omega arith in ap (λ n. take n (s.characters ++ characters t)) e ∙ take-append-le i s.characters (characters t) le
taken (s ∷ t) (suc k) i h le =
    let e : start_of (s ∷ t) (suc k) + i ≡ length s.characters + (start_of t k + i) = omega (arith, sum_by-cons count s (take k t)) in
    ap (λ n. take n (s.characters ++ characters t)) e ∙ take-append-add s.characters (characters t) (start_of t k + i)
    ∙ ap (λ xs. s.characters ++ xs) (taken t k i (omega arith) le) ∙ sym (append_assoc s.characters (characters (take k t)) (take i (run_characters t k)))

-- the text up to an offset
abbrev up_to : FlatText → ℕ → List ℕ
up_to t o = concat (take o (characters t))

piece_after : (t : FlatText) (k i j : ℕ) → k < length t → i ≤ j → j ≤ count_in t k → up_to t (start_of t k + i) ++ concat (slice_range (run_characters t k) i j) ≡ up_to t (start_of t k + j)
piece_after t k i j h le fits =
    let before = characters (take k t) in
    let cs = run_characters t k in
    let sum : i + (j - i) ≡ j = omega (arith, le) in
    ap (λ xs. concat xs ++ concat (slice_range cs i j)) (taken t k i h (omega (arith, le, fits)))
    ∙ sym (concat-append (before ++ take i cs) (take (j - i) (drop i cs)))
    ∙ ap concat (append_assoc before (take i cs) (take (j - i) (drop i cs)) ∙ ap (λ xs. before ++ xs) (sym (take-add i (j - i) cs) ∙ ap (λ n. take n cs) sum) ∙ sym (taken t k j h fits))

-- ---- the runs of a range

not_same : (a b : ℕ) → a ≢ b → (a == b) ≡ false
not_same a b h = elim (a == b) as (λ x. (a == b) ≡ x → (a == b) ≡ false) [ true ↦ λ e. absurd (h (eqb-true a b e)) | false ↦ λ e. e ] refl

same : (a : ℕ) → (a == a) ≡ true
same a = elim (a == a) as (λ x. (a == a) ≡ x → (a == a) ≡ true) [ true ↦ λ e. e | false ↦ λ e. absurd (eqb-false a a e refl) ] refl

-- in the first run the piece begins at the start's start side
first_from : (t : FlatText) (p : Position) → (if p.run == (biased_to_start t p).run then p.index else 0) ≡ (biased_to_start t p).index
first_from t p = go (p.index == count_in t p.run) (nat_lt (p.run + 1) (length t))
  where
    go : (a b : Bool) → (if p.run == (if a && b then start_at (p.run + 1) else p).run then p.index else 0) ≡ (if a && b then start_at (p.run + 1) else p).index
    go true true = ap (λ b. if b then p.index else 0) (not_same p.run (p.run + 1) (λ e. absurd (omega (arith, e))))
    go true false = ap (λ b. if b then p.index else 0) (same p.run)
    go false b = ap (λ b. if b then p.index else 0) (same p.run)

not_later : (t : FlatText) (p : Position) → p.run ≤ (biased_to_start t p).run
not_later t p = go (p.index == count_in t p.run) (nat_lt (p.run + 1) (length t))
  where
    go : (a b : Bool) → p.run ≤ (if a && b then start_at (p.run + 1) else p).run
    go true true = omega arith
    go true false = omega arith
    go false b = omega arith

-- in the last run it ends at the end's end side
last_to : (t : FlatText) (p : Position) → (if p.run == (biased_to_end t p).run then p.index else count_in t (biased_to_end t p).run) ≡ (biased_to_end t p).index
last_to t p = go (p.index == 0) (nat_lt 0 p.run) refl
  where
    go : (a b : Bool) → nat_lt 0 p.run ≡ b →
        (if p.run == (if a && b then end_at t (p.run - 1) else p).run then p.index else count_in t (if a && b then end_at t (p.run - 1) else p).run) ≡ (if a && b then end_at t (p.run - 1) else p).index
    go true true f = ap (λ b. if b then p.index else count_in t (p.run - 1)) (not_same p.run (p.run - 1) (λ e. absurd (let some = ltb-true _ _ f in omega (arith, e, some))))
    go true false f = ap (λ b. if b then p.index else count_in t p.run) (same p.run)
    go false b f = ap (λ b. if b then p.index else count_in t p.run) (same p.run)

not_earlier : (t : FlatText) (p : Position) → (biased_to_end t p).run ≤ p.run
not_earlier t p = go (p.index == 0) (nat_lt 0 p.run)
  where
    go : (a b : Bool) → (if a && b then end_at t (p.run - 1) else p).run ≤ p.run
    go true true = omega arith
    go true false = omega arith
    go false b = omega arith

-- ---- piece after piece

module _ (t : FlatText) (r : Range) where
  abbrev low : ℕ → ℕ
  low k = start_of t k + (piece_in t r k).from

  abbrev high : ℕ → ℕ
  high k = start_of t k + (piece_in t r k).to

  record IsGood (k : ℕ) : Type 0 where
    run : k < length t
    order : (piece_in t r k).from ≤ (piece_in t r k).to
    fits : (piece_in t r k).to ≤ count_in t k

  over : (n a : ℕ) → ((k : ℕ) → a ≤ k → k ≤ a + n → IsGood k) → ((k : ℕ) → a ≤ k → k < a + n → high k ≡ low (k + 1)) →
      up_to t (low a) ++ flat_map (λ k. piece_text t (piece_in t r k)) (range_with_len a (suc n)) ≡ up_to t (high (a + n))
  over zero a good joined =
      let g = good a (omega arith) (omega arith) in
      let e : a + 0 ≡ a = omega arith in
      ap (λ xs. up_to t (low a) ++ xs) (append-nil (piece_text t (piece_in t r a))) ∙ piece_after t a _ _ g.run g.order g.fits ∙ ap (λ k. up_to t (high k)) (sym e)
  over (suc n) a good joined =
      let g = good a (omega arith) (omega arith) in
      let e : a + 1 + n ≡ a + suc n = omega arith in
      sym (append_assoc (up_to t (low a)) (piece_text t (piece_in t r a)) (flat_map (λ k. piece_text t (piece_in t r k)) (range_with_len (a + 1) (suc n))))
      ∙ ap (λ xs. xs ++ flat_map (λ k. piece_text t (piece_in t r k)) (range_with_len (a + 1) (suc n))) (piece_after t a _ _ g.run g.order g.fits ∙ ap (up_to t) (joined a (omega arith) (omega arith)))
      ∙ over n (a + 1) (λ k h l. good k (omega (arith, h)) (omega (arith, l))) (λ k h l. joined k (omega (arith, h)) (omega (arith, l)))
      ∙ ap (λ k. up_to t (high k)) e

-- ---- the whole

between_is : (t : FlatText) (a b : ℕ) (x : List ℕ) → a ≤ b → up_to t a ++ x ≡ up_to t b → x ≡ concat (slice_range (characters t) a b)
between_is t a b x le e =
    let sum : a + (b - a) ≡ b = omega (arith, le) in
    append_cancel_left (up_to t a) x (concat (slice_range (characters t) a b))
    (e ∙ ap (λ n. concat (take n (characters t))) (sym sum) ∙ ap concat (take-add a (b - a) (characters t)) ∙ concat-append (take a (characters t)) (take (b - a) (drop a (characters t))))

filled : (t : FlatText) → IsWhole t → (r : Range) → IsPosition t r.start → IsPosition t r.end → offset t r.start < offset t r.end →
    flat_map (piece_text t) (map (piece_in t r) (visited_runs t r)) ≡ concat (slice_range (characters t) (offset t r.start) (offset t r.end))
filled t whole r s e lt =
    let q = biased_to_start t r.start in
    let z = biased_to_end t r.end in
    let qs = start_bias_side t r.start whole s in
    let zs = end_bias_side t r.end whole e in
    let qo = start_bias t r.start in
    let zo = end_bias t r.end in
    let qi = qs.index in
    let zi = zs.index in
    let zr = zs.run in
    let order : q.run ≤ z.run =
    elim (nat_lt z.run q.run) as (λ b. nat_lt z.run q.run ≡ b → q.run ≤ z.run) [
      | true ↦ λ f. absurd (let h = ltb-true _ _ f in let up = start_rises t (z.run + 1) q.run (omega (arith, h)) in omega (arith, up, zi, start_next t z.run, qo, zo, lt))
      | false ↦ λ f. let h = ltb-false _ _ f in omega (arith, h)
    ] refl in
    let n : ℕ = z.run - q.run in
    let many : z.run + 1 - q.run ≡ suc n = omega (arith, order) in
    let last : q.run + n ≡ z.run = omega (arith, order) in
    let before = not_later t r.start in
    let after = not_earlier t r.end in
    let from_first : (piece_in t r q.run).from ≡ q.index = first_from t r.start in
    let to_last : (piece_in t r z.run).to ≡ z.index = last_to t r.end in
    let from_later : (k : ℕ) → q.run < k → (piece_in t r k).from ≡ 0 = λ k h. ap (λ b. if b then r.start.index else 0) (not_same r.start.run k (λ x. absurd (omega (arith, x, h, before)))) in
    let to_earlier : (k : ℕ) → k < z.run → (piece_in t r k).to ≡ count_in t k = λ k h. ap (λ b. if b then r.end.index else count_in t k) (not_same r.end.run k (λ x. absurd (omega (arith, x, h, after)))) in
    let first_fits : (piece_in t r q.run).from ≤ count_in t q.run = omega (arith, from_first, qi) in
    let last_fits : (piece_in t r z.run).to ≤ count_in t z.run = omega (arith, to_last, zi) in
    let from_fits : (k : ℕ) → q.run ≤ k → (piece_in t r k).from ≤ count_in t k =
    λ k h. elim (nat_lt q.run k) as (λ b. nat_lt q.run k ≡ b → (piece_in t r k).from ≤ count_in t k) [
      | true ↦ λ f. let g = from_later k (ltb-true _ _ f) in omega (arith, g)
      | false ↦ λ f. let g = ltb-false _ _ f in let same_run : q.run ≡ k = omega (arith, g, h) in subst (λ j. (piece_in t r j).from ≤ count_in t j) same_run first_fits
    ] refl in
    let good : (k : ℕ) → q.run ≤ k → k ≤ q.run + n → IsGood t r k =
    λ k h l. elim (nat_lt k z.run) as (λ b. nat_lt k z.run ≡ b → IsGood t r k) [
      | true ↦ λ f. let g = ltb-true _ _ f in let whole_run = to_earlier k g in let ff = from_fits k h in
          record { run = omega (arith, g, zr); order = omega (arith, whole_run, ff); fits = omega (arith, whole_run) }
      | false ↦ λ f. let g = ltb-false _ _ f in let at_last : z.run ≡ k = omega (arith, g, l, last) in
          subst (IsGood t r) at_last (record {
            run = zr;
            order = elim (nat_lt q.run z.run) as (λ b. nat_lt q.run z.run ≡ b → (piece_in t r z.run).from ≤ (piece_in t r z.run).to) [
              | true ↦ λ x. let y = from_later z.run (ltb-true _ _ x) in omega (arith, y)
              | false ↦ λ x. let y = ltb-false _ _ x in let one : q.run ≡ z.run = omega (arith, y, order) in
                  let f1 : (piece_in t r z.run).from ≡ q.index = subst (λ j. (piece_in t r j).from ≡ q.index) one from_first in
                  omega (arith, f1, to_last, ap (start_of t) one, qo, zo, lt)
            ] refl;
            fits = last_fits;
          })
    ] refl in
    let joined : (k : ℕ) → q.run ≤ k → k < q.run + n → high t r k ≡ low t r (k + 1) =
    λ k h l. let a = to_earlier k (omega (arith, l, last)) in let b = from_later (k + 1) (omega (arith, h)) in omega (arith, a, b, start_next t k) in
    let low_is : low t r q.run ≡ offset t r.start = omega (arith, from_first, qo) in
    let high_is : high t r (q.run + n) ≡ offset t r.end = ap (high t r) last ∙ (let h : high t r z.run ≡ offset t r.end = omega (arith, to_last, zo) in h) in
    flat_map-map (piece_text t) (piece_in t r) (visited_runs t r)
    ∙ ap (λ m. flat_map (λ k. piece_text t (piece_in t r k)) (range_with_len q.run m)) many
    ∙ between_is t (offset t r.start) (offset t r.end) _ (omega (arith, lt)) (ap (λ o. up_to t o ++ flat_map (λ k. piece_text t (piece_in t r k)) (range_with_len q.run (suc n))) (sym low_is) ∙ over t r n q.run good joined ∙ ap (up_to t) high_is)

nothing_in : (cs xs : List (List ℕ)) (i a b : ℕ) → a ≡ b → concat (slice_range cs i i) ++ [] ≡ concat (slice_range xs a b)
nothing_in cs xs i a b e =
    let none : i - i ≡ 0 = omega arith in
    let empty : b - a ≡ 0 = omega (arith, e) in
    append-nil _ ∙ ap (λ n. concat (take n (drop i cs))) none ∙ ap (λ n. concat (take n (drop a xs))) (sym empty)

pub range_text : (t : FlatText) → IsWhole t → (r : Range) → IsPosition t r.start → IsPosition t r.end → offset t r.start ≤ offset t r.end →
    text_of t r ≡ concat (slice_range (characters t) (offset t r.start) (offset t r.end))
range_text t whole r s e le = go (offset t r.start == offset t r.end) refl
  where
    go : (b : Bool) → (offset t r.start == offset t r.end) ≡ b →
        flat_map (piece_text t) (if b then caret_piece r ∷ [] else map (piece_in t r) (visited_runs t r)) ≡ concat (slice_range (characters t) (offset t r.start) (offset t r.end))
    go true f = nothing_in (run_characters t r.start.run) (characters t) r.start.index (offset t r.start) (offset t r.end) (eqb-true _ _ f)
    go false f = let apart = eqb-false _ _ f in filled t whole r s e (omega (arith, apart, le))
