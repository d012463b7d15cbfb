-- The answers of the filter of items.
use Rattle.std.specs.Prelude.{◌≡◌, not, cond, ◌&&◌}
use Rattle.schema.specs.NodeData.{NodeData}
use Rattle.model.specs.declared.filters.FilterResult.{FilterResult}
use Rattle.model.specs.declared.filters.FilterResult.TheVariants.{ExcludeNode}
use Rattle.model.specs.RoleClasses.{is_item_like}
use Rattle.model.specs.Covers.{is_included}
use Rattle.views.specs.declared.node.node_ref.NodeRef.{NodeRef}
use Rattle.views.specs.Nodes.{data_at}

-- an answer for a node of this data: what is included and is no item is excluded alone
abbrev pub item_answer : FilterResult → NodeData → FilterResult
item_answer r d = cond (is_included r && not (is_item_like d.role)) ExcludeNode r

-- each answer that may come, made of one that may come from another filter
abbrev pub AnswersItems : (NodeRef → FilterResult → Type 0) → NodeRef → FilterResult → Type 0
AnswersItems answers n r = (given : FilterResult) × answers n given × (r ≡ item_answer given (data_at n))
