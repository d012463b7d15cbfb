-- Ranges made of positions of one root.
use Rattle.std.proofs.Common.{◌≡◌, ◌≤◌, ◌<◌, ℕ, true, sym, ap, ◌∙◌, arith, Less, Equal, Greater}
use Rattle.std.specs.Ordering.{is_lt, nat_cmp, MatchOrdering}
use Rattle.std.specs.Cmp.{ranks}
use Rattle.std.specs.declared.cmp.Ordering.{Ordering}
use Rattle.model.specs.FlatText.{flat_text, offset, position_cmp, biased_to_start}
use Rattle.model.proofs.Text.TextFacts.{start_bias}
use Rattle.views.specs.declared.node.node_ref.NodeRef.{NodeRef}
use Rattle.texts.specs.declared.position.TextPosition.{TextPosition}
use Rattle.views.specs.Nodes.{world_at, id_at}
use Rattle.texts.specs.Positions.{root_at, node_text, position_text, flat_position, IsPositionAt}

pub same_text : (m n : NodeRef) → world_at m ≡ world_at n → id_at m ≡ id_at n → node_text m ≡ node_text n
same_text m n worlds ids = λ k. flat_text (worlds k) (ids k)

less_from : (x y : ℕ) → is_lt (nat_cmp x y) ≡ true → x < y
less_from x y = go (nat_cmp x y) (ranks x y)
  where
    go : (o : Ordering) → MatchOrdering o (x < y) (x ≡ y) (y < x) → is_lt o ≡ true → x < y
    go Less h e = h
    go Equal h e = cc
    go Greater h e = cc

-- the start side of a position is as far before another one as the position
pub bias_before : (p b e : TextPosition) → IsPositionAt (root_at p) (biased_to_start (position_text p) (flat_position p)) b → position_text e ≡ position_text p →
    is_lt (position_cmp (position_text p) (flat_position p) (position_text e) (flat_position e)) ≡ true → offset (position_text b) (flat_position b) ≤ offset (position_text b) (flat_position e)
bias_before p b e there same less =
    let text : position_text b ≡ position_text p = ap node_text there.same in
    let start : offset (position_text b) (flat_position b) ≡ offset (position_text p) (flat_position p) = ap (λ t. offset t (flat_position b)) text ∙ ap (offset (position_text p)) there.at ∙ start_bias (position_text p) (flat_position p) in
    let end : offset (position_text b) (flat_position e) ≡ offset (position_text e) (flat_position e) = ap (λ t. offset t (flat_position e)) (text ∙ sym same) in
    let before = less_from (offset (position_text p) (flat_position p)) (offset (position_text e) (flat_position e)) less in
    omega (arith, start, end, before)
