-- The set of a node is read off the outline.
use Rattle.std.proofs.Common.{◌≡◌, refl, ◌∙◌}
use Rattle.std.specs.Prelude.{List, None, Option, length, count_by, cond, filter, option_map, option_and_then, ◌&&◌}
use Rattle.std.specs.Option.{option_or}
use Rattle.schema.specs.NodeData.{NodeData}
use Rattle.schema.specs.Roles.{same_role}
use Rattle.schema.specs.declared.Role.{Role}
use Rattle.model.specs.declared.FullNodeId.{FullNodeId}
use Rattle.model.specs.declared.filters.FilterResult.{FilterResult}
use Rattle.model.specs.World.{World, data_of}
use Rattle.model.specs.RoleClasses.{is_item_like}
use Rattle.model.specs.Covers.{is_included}
use Rattle.model.specs.Views.{set_by_role, set_of, computed_size_of_set, computed_position_in_set}
use Rattle.model.specs.Outline.{outline}
use Rattle.model.proofs.Text.Outlines.{given_same, says_same, before_same, filtered_same, cover_same, reads_given}

module _ (w : World) (f : FullNodeId → FilterResult) where
  role_set_same : (role : Role) → set_by_role role f (outline w) ≡ set_by_role role f w
  role_set_same role i id = option_map (λ c. filter (says_same w (λ d. same_role d.role role) (λ d. refl) i) (filtered_same w f i c)) (cover_same w f i id)

  set_same : (id : FullNodeId) → set_of f (outline w) id ≡ set_of f w id
  set_same id =
      let of : NodeData → Option (List FullNodeId) = λ d. cond (is_item_like d.role && is_included (f id)) (set_by_role d.role f w id) None in
      (λ i. option_and_then (λ (d : NodeData). cond (is_item_like d.role && is_included (f id)) (role_set_same d.role i id) None) (data_of (outline w) id)) ∙ reads_given of w id (λ d. refl)

  pub size_same : (id : FullNodeId) → computed_size_of_set f (outline w) id ≡ computed_size_of_set f w id
  size_same id i = option_or (given_same w (λ d. d.size_of_set) (λ d. refl) i id) (option_map length (set_same id i))

  pub position_same : (id : FullNodeId) → computed_position_in_set f (outline w) id ≡ computed_position_in_set f w id
  position_same id i = option_or (given_same w (λ d. d.position_in_set) (λ d. refl) i id) (option_map (λ set. count_by (λ m. before_same w i m id) set) (set_same id i))
