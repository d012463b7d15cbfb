-- The label of a node: its own, or one made from other nodes.
use Rattle.std.specs.Prelude.{ℕ, List, [], ◌∷◌, length, Bool, cond, ◌==◌, ◌&&◌, ◌||◌, Option, Some, None, is_some, filter_map}
use Rattle.std.specs.Option.{option_or, option_map_or}
use Rattle.std.specs.List.{list_any, join_with_byte}
use Rattle.schema.specs.NodeData.{NodeData}
use Rattle.schema.specs.declared.Role.{Role}
use Rattle.schema.specs.declared.Role.TheVariants.{Label, Image, GenericContainer}
use Rattle.model.specs.declared.FullNodeId.{FullNodeId}
use Rattle.model.specs.declared.filters.FilterResult.{FilterResult}
use Rattle.model.specs.declared.filters.FilterResult.TheVariants.{Include, ExcludeNode, ExcludeSubtree}
use Rattle.model.specs.World.{World, data_of}
use Rattle.model.specs.Frontier.{filtered_children}
use Rattle.model.specs.RoleClasses.{is_label, is_labelled_from_within}
use Rattle.model.specs.Upward.{field_at, says}
use Rattle.model.specs.Views.{ids_in_field}
use Rattle.model.specs.Values.{value_of}

-- labels and images are included, and looked for in containers alone
abbrev pub label_answer : Role → FilterResult
label_answer Label = Include
label_answer Image = Include
label_answer GenericContainer = ExcludeNode
label_answer _ = ExcludeSubtree

abbrev pub label_filter : World → FullNodeId → FilterResult
label_filter w id = option_map_or (λ d. label_answer d.role) (data_of w id) ExcludeSubtree

-- whether it is labelled by what is in it: no node is named, and the role is one of those
abbrev pub looks_within : NodeData → Bool
looks_within d = (length d.labelled_by == 0) && is_labelled_from_within d.role

unfoldable pub labelled_by : World → FullNodeId → List FullNodeId
labelled_by w id =
    option_map_or (λ d. cond (looks_within d) (filtered_children (label_filter w) w id) (ids_in_field (λ e. e.labelled_by) w id))
    (data_of w id) []

abbrev pub own_label : World → FullNodeId → Option (List ℕ)
own_label w id = field_at (λ d. d.label) w id

-- a node's part of another one's label: a label node its value, another one its own label
abbrev pub label_part : World → FullNodeId → Option (List ℕ)
label_part w id = cond (says (λ d. is_label d.role) w id) (value_of w id) (own_label w id)

-- the parts joined by spaces, empty ones too; none if there is no part
abbrev pub joined_text : List (List ℕ) → Option (List ℕ)
joined_text [] = None
joined_text (t ∷ ts) = Some (join_with_byte 32 (t ∷ ts))

unfoldable pub label_of : World → FullNodeId → Option (List ℕ)
label_of w id = option_or (own_label w id) (joined_text (filter_map (label_part w) (labelled_by w id)))

-- the own label is set, or a node that labels this one has a part
abbrev pub has_label : World → FullNodeId → Bool
has_label w id = is_some (own_label w id) || list_any (λ m. is_some (label_part w m)) (labelled_by w id)
