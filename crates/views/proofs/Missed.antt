-- Children that a search for a hit passes over.
use Rattle.std.proofs.Common.{◌≡◌, ℕ, Bool, true, false, not, ◌&&◌, ◌||◌, length, refl, sym, ap, ◌∙◌}
use Rattle.std.specs.Prelude.{◌==◌, ◌+◌}
use Rattle.std.specs.Option.{option_map_or}
use Rattle.std.proofs.lemmas.Bool.{eqb-true}
use Rattle.model.specs.declared.FullNodeId.{FullNodeId}
use Rattle.model.specs.declared.filters.FilterResult.{FilterResult}
use Rattle.model.specs.World.{World, Place, StandsAt, children}
use Rattle.model.specs.Forest.{is_same, IsFormed}
use Rattle.model.specs.Upward.{field_at}
use Rattle.model.specs.Covers.{is_included, is_cut_off}
use Rattle.model.specs.Geometry.{WidePoint, contains_point}
use Rattle.model.specs.Hits.{is_hit, last_hit, uncut_until, seen_within}
use Rattle.model.proofs.Walks.Hits.{search_over, search_down, hit_higher}
use Rattle.views.specs.SeenPoints.{is_bare_miss}

and_first : (a b : Bool) → (a && b) ≡ true → a ≡ true
and_first true b e = refl
and_first false b e = cc

not_later : (a b : Bool) → (a && not b) ≡ true → b ≡ false
not_later true true e = cc
not_later true false e = refl
not_later false b e = cc

and_false : (a b : Bool) → b ≡ false → (a && b) ≡ false
and_false true b e = e
and_false false b e = refl

-- a child that is cut off, or that has no child and isn't at the point, leaves what is hit before it
module _ (f : FullNodeId → FilterResult) (w : World) (formed : IsFormed w) (top : FullNodeId) (q : WidePoint) (p : Place) (c : FullNodeId) (stands : StandsAt w p c) (other : is_same top c ≡ false) where
  pub missed_over : (count : ℕ) → count ≡ length (children w c) → (s : WidePoint) → s ≡ seen_within w top c q → (is_cut_off (f c) || is_bare_miss w c count s) ≡ true
      → last_hit f w top q (uncut_until f w top (p.0, p.1 + 1)) ≡ last_hit f w top q (uncut_until f w top p)
  missed_over count is s seen test = by_cut (is_cut_off (f c)) refl
    where
      by_cut : (b : Bool) → is_cut_off (f c) ≡ b → last_hit f w top q (uncut_until f w top (p.0, p.1 + 1)) ≡ last_hit f w top q (uncut_until f w top p)
      by_cut true cut = ap (last_hit f w top q) (search_over f w formed top p c stands cut)
      by_cut false kept =
          let bare : is_bare_miss w c count s ≡ true = sym (ap (λ b. b || is_bare_miss w c count s) kept) ∙ test in
          let none : count ≡ 0 = eqb-true count 0 (and_first (count == 0) (not (option_map_or (λ r. contains_point r s) (field_at (λ d. d.bounds) w c) false)) bare) in
          let away : is_hit f w c s ≡ false = and_false (is_included (f c)) (option_map_or (λ r. contains_point r s) (field_at (λ d. d.bounds) w c) false) (not_later (count == 0) (option_map_or (λ r. contains_point r s) (field_at (λ d. d.bounds) w c) false) bare) in
          ap (last_hit f w top q) (search_down f w formed top p c stands kept other)
          ∙ hit_higher f w formed top q (c, length (children w c)) p (sym is ∙ none) (ap (is_hit f w c) (sym seen) ∙ away) other stands
