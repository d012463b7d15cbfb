-- A button that moves from one container to another, worked out.
use Rattle.std.proofs.Common.{◌≡◌, ◌≢◌, ℕ, [], ◌∷◌, Option, None, inl, inr, refl, sym, ap, ◌∙◌, arith}
use Rattle.std.specs.Option.{option_map_or}
use Rattle.std.specs.List.Sorted.{IsStrictlySortedBy}
use Rattle.model.specs.World.{Place, data_of}
use Rattle.model.specs.Forest.{place_of}
use Rattle.model.specs.Differences.{Updated, IsAscendingListOf, IsAdded, IsUpdated}
use Rattle.model.specs.Examples.{at, node, before_move, after_move}
use Rattle.model.specs.ToldExamples.{ButtonMoves}
use Rattle.model.proofs.Examples.Tested.{node_in, is_there, among, place_read}
use Rattle.model.proofs.Differences.SameWorlds.{with_same_focus}
use Rattle.model.proofs.Examples.Worlds.{before_move_written, after_move_written}
use Rattle.model.proofs.Examples.Moves.{moved_child_with_both_parents_is_accepted}
use Rattle.model.proofs.Examples.ToldTools.{listed_so, children_in, other_children, other_first, same_still, nothing_there}

none_added : IsAscendingListOf (IsAdded before_move after_move) []
unfolding IsStrictlySortedBy
none_added =
    listed_so _ [] (at 0 0 ∷ at 0 1 ∷ at 0 2 ∷ at 0 3 ∷ []) tt tt (λ y h. among after_move_written y h.0)
    (inr (λ h. h.1 (is_there before_move_written (at 0 0) refl)), (inr (λ h. h.1 (is_there before_move_written (at 0 1) refl)), (inr (λ h. h.1 (is_there before_move_written (at 0 2) refl)), (inr (λ h. h.1 (is_there before_move_written (at 0 3) refl)), tt))))

none_removed : IsAscendingListOf (IsAdded after_move before_move) []
unfolding IsStrictlySortedBy
none_removed =
    listed_so _ [] (at 0 0 ∷ at 0 1 ∷ at 0 2 ∷ at 0 3 ∷ []) tt tt (λ y h. among before_move_written y h.0)
    (inr (λ h. h.1 (is_there after_move_written (at 0 0) refl)), (inr (λ h. h.1 (is_there after_move_written (at 0 1) refl)), (inr (λ h. h.1 (is_there after_move_written (at 0 2) refl)), (inr (λ h. h.1 (is_there after_move_written (at 0 3) refl)), tt))))

first_differs : data_of before_move (at 0 1) ≢ data_of after_move (at 0 1)
first_differs =
    other_children _ _ (node 3 ∷ []) [] (ap children_in (node_in before_move_written (at 0 1))) (ap children_in (node_in after_move_written (at 0 1))) (other_first (node 3 ∷ []) [] (omega arith))

second_differs : data_of before_move (at 0 2) ≢ data_of after_move (at 0 2)
second_differs =
    other_children _ _ [] (node 3 ∷ []) (ap children_in (node_in before_move_written (at 0 2))) (ap children_in (node_in after_move_written (at 0 2))) (other_first [] (node 3 ∷ []) (omega arith))

-- places below other parents, by the number of the parent in its tree
abbrev parent_number : Option Place → ℕ
parent_number o = option_map_or (λ p. p.0.node.0) o 0

button_moves : place_of before_move (at 0 3) ≢ place_of after_move (at 0 3)
button_moves e =
    let same : 1 ≡ 2 = sym (ap parent_number (place_read before_move_written (at 0 3))) ∙ ap parent_number e ∙ ap parent_number (place_read after_move_written (at 0 3)) in
    absurd (omega (arith, same))

window_stays : ¬ (IsUpdated before_move after_move None (at 0 0))
window_stays =
    same_still before_move after_move None (at 0 0) (node_in before_move_written (at 0 0) ∙ sym (node_in after_move_written (at 0 0)))
    (place_read before_move_written (at 0 0) ∙ sym (place_read after_move_written (at 0 0))) (nothing_there (at 0 0))

updated_three : IsAscendingListOf (IsUpdated before_move after_move None) (at 0 1 ∷ at 0 2 ∷ at 0 3 ∷ [])
unfolding IsStrictlySortedBy
updated_three =
    listed_so _ (at 0 1 ∷ at 0 2 ∷ at 0 3 ∷ []) (at 0 0 ∷ at 0 1 ∷ at 0 2 ∷ at 0 3 ∷ []) ((refl, (refl, tt)), ((refl, tt), (tt, tt)))
    (((is_there before_move_written (at 0 1) refl, is_there after_move_written (at 0 1) refl), inl first_differs), (((is_there before_move_written (at 0 2) refl, is_there after_move_written (at 0 2) refl), inl second_differs), (((is_there before_move_written (at 0 3) refl, is_there after_move_written (at 0 3) refl), inr (inl button_moves)), tt)))
    (λ y h. among before_move_written y h.0.0)
    (inr window_stays, (inl (0, omega arith, refl), (inl (1, omega arith, refl), (inl (2, omega arith, refl), tt))))

pub button_moves_is_told : ButtonMoves
button_moves_is_told = (
  moved_child_with_both_parents_is_accepted,
  Updated (at 0 1) ∷ Updated (at 0 2) ∷ Updated (at 0 3) ∷ [],
  with_same_focus _ _ _ None refl refl none_added updated_three none_removed,
  refl,
)
