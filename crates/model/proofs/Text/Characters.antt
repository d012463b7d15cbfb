-- A character of a well-formed text has a scalar, and so a unit of UTF-16.
use Rattle.std.proofs.Common.{◌≡◌, ℕ, ◌<◌, ◌≤◌, Bool, true, false, List, [], ◌∷◌, length, map, take, drop, refl, ap, arith}
use Rattle.std.specs.Prelude.{nat_lt, nat_le, if◌then◌else◌, sum_by, All}
use Rattle.std.specs.Str.{chars, is_utf8}
use Rattle.std.proofs.lemmas.List.{length-take-le}
use Rattle.std.proofs.lemmas.Bool.{and_parts, ltb-true, leb-true}
use Rattle.std.proofs.lemmas.List.Elements.{All-append, All-cons}
use Rattle.std.proofs.lemmas.List.Sums.{sum_by-cons}
use Rattle.model.specs.declared.FullNodeId.{FullNodeId}
use Rattle.model.specs.World.{World}
use Rattle.schema.specs.RunFits.{is_cut_by}
use Rattle.model.specs.TextRuns.{SentRun, IsText, sent_runs, is_password, cut_by, run_value, are_cut}
use Rattle.model.specs.FlatText.{BULLET, shown_character, needs_masking, shown_run, flat_text, characters}
use Rattle.model.specs.Moves.{scalar_len, utf16_len}

abbrev HasLength : List ℕ → Type 0
HasLength c = (0 < scalar_len c) × (0 < utf16_len c)

abbrev units : ℕ → ℕ
units s = if nat_lt s 0x1_0000 then 1 else 2

some_unit : (s : ℕ) → 0 < units s
some_unit s = elim (nat_lt s 0x1_0000) as (λ b. 0 < (if b then 1 else 2)) [ true ↦ omega arith | false ↦ omega arith ]

some_units : (cs : List ℕ) → 0 < length cs → 0 < sum_by units cs
some_units [] h = absurd (omega arith)
some_units (s ∷ ss) h = let u = some_unit s in omega (arith, u, sum_by-cons units s ss)

none_spelled : (b : ℕ) (bs : List ℕ) → chars (b ∷ bs) ≡ [] → is_utf8 (b ∷ bs) ≡ true → ⊥
unfolding is_utf8
none_spelled b bs none e = let f = rw none at e in cc

of_piece : (c : List ℕ) → is_utf8 c ≡ true → 0 < length c → HasLength c
of_piece [] e h = absurd (omega arith)
of_piece (b ∷ bs) e h = go (chars (b ∷ bs)) refl
  where
    go : (cs : List ℕ) → chars (b ∷ bs) ≡ cs → HasLength (b ∷ bs)
    go [] none = absurd (none_spelled b bs none e)
    go (s ∷ ss) is = let some : 0 < length (chars (b ∷ bs)) = omega (arith, ap length is) in (some, some_units (chars (b ∷ bs)) some)

of_bullet : HasLength BULLET
unfolding chars
of_bullet = (omega arith, omega arith)

of_shown : (masked : Bool) (c : List ℕ) → HasLength c → HasLength (shown_character masked c)
of_shown true c h = of_bullet
of_shown false c h = h

of_cut : (masked : Bool) (bs ns : List ℕ) → is_cut_by bs ns ≡ true → All HasLength (map (shown_character masked) (cut_by bs ns))
of_cut masked bs [] e = λ k d h. absurd (omega arith)
of_cut masked bs (n ∷ ns) e =
    let a = and_parts (nat_lt 0 n) _ e in
    let b = and_parts (nat_le n (length bs)) _ a.1 in
    let c = and_parts (is_utf8 (take n bs)) _ b.1 in
    let low : 0 < n = ltb-true _ _ a.0 in
    let high : n ≤ length bs = leb-true _ _ b.0 in
    let len : length (take n bs) ≡ n = length-take-le n bs high in
    All-cons HasLength (shown_character masked (take n bs)) (map (shown_character masked) (cut_by (drop n bs) ns)) (of_shown masked (take n bs) (of_piece (take n bs) c.0 (omega (arith, low, len)))) (of_cut masked (drop n bs) ns c.1)

module _ (w : World) (root : FullNodeId) (password masked : Bool) where
  of_runs : (runs : List SentRun) → are_cut runs ≡ true → All HasLength (characters (map (shown_run w root password masked) runs))
  of_runs [] e = λ k d h. absurd (omega arith)
  of_runs (r ∷ runs) e =
      let c = and_parts (is_cut_by (run_value r) r.node.character_lengths) _ e in
      All-append HasLength (map (shown_character masked) (cut_by (run_value r) r.node.character_lengths)) (characters (map (shown_run w root password masked) runs)) (of_cut masked (run_value r) r.node.character_lengths c.0) (of_runs runs c.1)

pub have_length : (w : World) (root : FullNodeId) → IsText w root → All HasLength (characters (flat_text w root))
unfolding flat_text
have_length w root text = of_runs w root (is_password w root) (needs_masking w root) (sent_runs w root) text.cut
