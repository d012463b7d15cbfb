-- A point doesn't go far on a search.
use Rattle.std.proofs.Common.{◌≡◌, ℕ, ◌+◌, ◌*◌, ◌≤◌, cond, List, [], ◌∷◌, length, take, refl, sym, ◌∙◌, ap, arith}
use Rattle.std.specs.Prelude.{ℤ, Some}
use Rattle.std.specs.FinMap.{len}
use Rattle.std.proofs.lemmas.Int.{ints}
use Rattle.model.specs.declared.FullNodeId.{FullNodeId}
use Rattle.model.specs.World.{World, IsNode, children, root_of}
use Rattle.model.specs.State.{IsState}
use Rattle.model.specs.Forest.{plant, below, above, is_same}
use Rattle.model.specs.Beside.{weight, work_until, work_before}
use Rattle.model.proofs.Forest.PlaceOf.{test_self}
use Rattle.model.proofs.Forest.Grown.{below_is}
use Rattle.model.proofs.Forest.Rooted.{state_formed}
use Rattle.views.specs.declared.walks.hits.SeenPoint.{SeenPoint}
use Rattle.views.specs.SeenPoints.{IsNear, AreNear}
use Rattle.views.proofs.Weights.{weight_fits}

farther : (k n : ℕ) (z : ℤ) → k ≤ n → IsNear k z → IsNear n z
farther k n z l h = (omega (arith, ints), omega (arith, ints))

pub both_farther : (k n : ℕ) (s : SeenPoint) → k ≤ n → AreNear k s → AreNear n s
both_farther k n s l h = (farther k n s.x l h.0, farther k n s.y l h.1)

take_all : {A : Type 0} (xs : List A) → take (length xs) xs ≡ xs
take_all [] = refl
take_all (x ∷ xs) = ap (λ ys. x ∷ ys) (take_all xs)

-- the work of a search is bounded by the nodes that there are
pub search_work : {w : World} → IsState w → (r : FullNodeId) → root_of w 0 ≡ Some r → (top : FullNodeId) → IsNode w top → (n : ℕ) → n ≡ length (children w top) → work_until w top (top, n) ≤ 2 * len w.nodes
search_work {w} s r is top there n e =
    let own : weight (plant (below w) (take n (children w top))) ≡ weight (below w top) =
    ap (λ k. weight (plant (below w) (take k (children w top)))) e ∙ ap (λ xs. weight (plant (below w) xs)) (take_all (children w top)) ∙ ap weight (sym (below_is w (state_formed s) top)) in
    let stop : cond (is_same top top) 0 (work_before w top (above w top) + 1) ≡ 0 = ap (λ b. cond b 0 (work_before w top (above w top) + 1)) (test_self top) in
    omega (arith, own, stop, weight_fits s r is top there)
