-- A tree that comes to its graft; and trees that can't come.
use Rattle.std.proofs.Common.{◌≡◌, inr, refl, arith}
use Rattle.model.specs.Update.{NoGraft, NoFirstTreeInfo, Stands, IsAccepted}
use Rattle.model.specs.Examples.{at, node, name, plain_tree, empty_graft, ungrafted_tree, tree_without_info, pushed_tree, pushed}
use Rattle.model.proofs.Examples.Tools.{◌▸◌, names_apart}
use Rattle.model.proofs.Examples.Evidence.{each_graft}
use Rattle.model.proofs.Examples.Tested.{tree_at, grafts_in, accepted_by_tests}
use Rattle.model.proofs.Examples.Worlds.{empty_graft_nodes, empty_graft_written, pushed_written}

-- no node grafts tree 2
pub tree_without_a_graft_is_refused : Stands empty_graft ungrafted_tree (NoGraft (name 2))
tree_without_a_graft_is_refused = (
  (λ e. cc),
  refl,
  names_apart 2 0 (omega arith),
  (λ id grafts. names_apart 1 2 (omega arith) (each_graft empty_graft empty_graft_nodes empty_graft_written.nodes (λ id d k. name 1 ≡ k) (tt ▸ refl ▸ tt) id (name 2) grafts).2),
)

pub grafted_tree_is_accepted : IsAccepted empty_graft pushed_tree pushed
grafted_tree_is_accepted =
    accepted_by_tests pushed_tree empty_graft_written (node 0) refl pushed_written (refl, refl, refl)
    (inr (record { later = λ e. cc; grafted = inr (at 0 1, grafts_in empty_graft_written (at 0 1)); has_root = inr refl; index_left = inr (omega arith) }))
    (refl ▸ refl ▸ tt, refl ▸ refl ▸ refl ▸ refl ▸ tt) refl plain_tree refl refl refl

-- it can't come without tree info
pub first_tree_info_is_needed : Stands empty_graft tree_without_info (NoFirstTreeInfo (name 1))
first_tree_info_is_needed = ((λ e. cc), refl, tree_at empty_graft_written 1, refl)
