use Rattle.std.proofs.Common.{◌≡◌, length}
use Rattle.page_states.specs.Subtrees.{has_box, has_row, if_all, subtrees_after, subtrees_below}
use Rattle.page_states.proofs.again.with_children.Given as goal

abbrev pub decreases-loop-child : goal.decreases-loop-child
decreases-loop-child l = length l.later.items

-- what is left gives the same
abbrev pub invariant-loop-child : goal.invariant-loop-child
invariant-loop-child l = record {
  left : subtrees_after l.fn.depth l.later.items ≡ subtrees_after l.fn.depth l.fn.later.items;
  row : if_all has_row (subtrees_below l.fn.depth l.later.items) l.same.row ≡ if_all has_row (subtrees_below l.fn.depth l.fn.later.items) l.fn.own.row;
  drawn : if_all has_box (subtrees_below l.fn.depth l.later.items) l.same.drawn ≡ if_all has_box (subtrees_below l.fn.depth l.fn.later.items) l.fn.own.drawn;
}
