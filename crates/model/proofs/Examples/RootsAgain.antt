-- The root of a grafted tree sent again without tree info keeps its place.
use Rattle.std.proofs.Common.{inl, inr, refl, ap, option_map}
use Rattle.model.specs.World.{StandsAt, in_tree}
use Rattle.model.specs.Update.{IsAccepted}
use Rattle.model.specs.Examples.{at, node, name, plain_tree, pushed, document_again, labelled}
use Rattle.model.proofs.State.StatePlaces.{stands_grafted}
use Rattle.model.proofs.Examples.Tools.{◌▸◌}
use Rattle.model.proofs.Examples.Tested.{tree_at, is_present, grafts_in, accepted_by_tests}
use Rattle.model.proofs.Examples.Worlds.{pushed_written, labelled_written}

pub root_sent_again_keeps_its_place : IsAccepted pushed document_again labelled × StandsAt labelled (at 0 1, 0) (at 1 0)
root_sent_again_keeps_its_place = (
  accepted_by_tests document_again pushed_written (node 0) refl labelled_written (refl, refl, refl)
      (inr (record {
        later = λ e. cc;
        grafted = inr (at 0 1, grafts_in pushed_written (at 0 1));
        has_root = inl (is_present pushed_written 1 refl);
        index_left = inl refl;
      }))
      (refl ▸ refl ▸ tt, refl ▸ refl ▸ refl ▸ refl ▸ tt) refl plain_tree refl refl refl,
  stands_grafted labelled (at 0 1) (at 1 0) (name 1) (grafts_in labelled_written (at 0 1))
      (ap (option_map (λ t. in_tree 1 t.root)) (tree_at labelled_written 1)),
)
