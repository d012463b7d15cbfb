-- The subtrees that are known while rows are compared from the last to the first.
use Rattle.std.specs.Prelude.{◌≡◌, ◌↔◌, ℕ, List, [], ◌∷◌, reverse, All, Bool, true, Option, None, is_some, if◌then◌else◌}
use Rattle.std.specs.BTreeMap.{BTreeMap}
use Rattle.std.specs.List.{list_all}
use Rattle.model.specs.declared.FullNodeId.{FullNodeId}
use Rattle.page_states.specs.declared.again.Last.{Last}
use Rattle.page_states.specs.declared.again.Same.{Same}
use Rattle.page_states.specs.declared.again.Subtree.{Subtree}
use Rattle.page_states.specs.declared.rows.Shown.{Shown}
use Rattle.page_states.specs.Again.{after_deeper, deeper, depth_shown, Finds, IsAllIn, IsBoxIn, IsInAny, IsRowIn}

abbrev pub subtree_depth : Subtree → ℕ
subtree_depth subtree = subtree.depth

-- the subtrees below a node, nearest first, and the others
abbrev pub subtrees_below : ℕ → List Subtree → List Subtree
subtrees_below depth later = deeper subtree_depth depth (reverse later)

abbrev pub subtrees_after : ℕ → List Subtree → List Subtree
subtrees_after depth later = after_deeper subtree_depth depth (reverse later)

abbrev pub has_row : Subtree → Bool
has_row subtree = is_some subtree.same.row

abbrev pub has_box : Subtree → Bool
has_box subtree = is_some subtree.same.drawn

-- the state, if all of these have one
abbrev pub if_all : (Subtree → Bool) → List Subtree → Option ℕ → Option ℕ
if_all has subtrees state = if list_all has subtrees then state else None

-- where a node was shown with all below it as it is now, or that it wasn't
pub record HasSame (kept : BTreeMap FullNodeId Last) (rest : List Shown) (shown : Shown) (same : Same) : Type 0 where
  pub row : Finds (IsAllIn (IsRowIn kept) rest shown) same.row
  pub drawn : Finds (IsAllIn (IsBoxIn kept) rest shown) same.drawn

-- so of each node
abbrev pub AreSames : BTreeMap FullNodeId Last → List Shown → List Same → Type 0
AreSames kept [] sames = sames ≡ []
AreSames kept (shown ∷ rest) [] = ⊥
AreSames kept (shown ∷ rest) (same ∷ sames) = HasSame kept rest shown same × AreSames kept rest sames

-- down to any depth the subtrees tell whether all nodes were shown as they are now
abbrev pub Tells : (Shown → ℕ → Type 0) → (Subtree → Bool) → List Shown → List Subtree → Type 0
Tells IsIn has shown subtrees =
    (depth : ℕ) → All (IsInAny IsIn) (deeper depth_shown depth shown) ↔ (list_all has (deeper subtree_depth depth subtrees) ≡ true)

pub record AreSubtrees (kept : BTreeMap FullNodeId Last) (shown : List Shown) (subtrees : List Subtree) : Type 0 where
  pub row : Tells (IsRowIn kept) has_row shown subtrees
  pub drawn : Tells (IsBoxIn kept) has_box shown subtrees
