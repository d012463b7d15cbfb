-- What depends on the outline of a world alone: on no value of a node, and no length of a character.
use Rattle.schema.specs.declared.NodeId.{NodeId}
use Rattle.schema.specs.declared.TreeId.{TreeId}
use Rattle.schema.specs.declared.geometry.Point.{Point}
use Rattle.model.specs.declared.FullNodeId.{FullNodeId}
use Rattle.model.specs.World.{children, Reached, Kept}
use Rattle.model.specs.Focus.{OnChain, IsFocusId, IsActiveDialog}
use Rattle.model.specs.Update.{UpdateData, Stands}
use Rattle.model.specs.Forest.{place_of, below, above}
use Rattle.model.specs.Lists.{preorder, following_siblings, preceding_siblings, deepest_first_child, deepest_last_child}
use Rattle.model.specs.Paths.{index_path, relative_index_path}
use Rattle.model.specs.Frontier.{filtered_children}
use Rattle.model.specs.Covers.{following_filtered_siblings, preceding_filtered_siblings}
use Rattle.model.specs.FocusFound.{effective_focus, is_focused, shown_focus}
use Rattle.model.specs.Geometry.{transform, bounding_box, hit}
use Rattle.model.specs.Filters.{NamedFilter, filter_named}
use Rattle.model.specs.TextRuns.{run_ids}
use Rattle.model.specs.Queries.{node_named}
use Rattle.model.specs.Outline.{ReadsOutline, HoldsByOutline}

-- reached nodes, kept trees, the chain of the focus, and the rules that an update breaks
pub record OutlineRules : Type 0 where
  pub reached : HoldsByOutline Reached
  pub kept : HoldsByOutline Kept
  pub chain : HoldsByOutline OnChain
  pub faults : (u : UpdateData) → HoldsByOutline (λ w. Stands w u)

-- what is below and above a node, beside it, and so the runs of a root; the focus and the active dialog; the node that a name names;
-- boxes; and so what each named filter answers and shows, and what is hit by it
pub record OutlineShows : Type 0 where
  pub children : (id : FullNodeId) → ReadsOutline (λ w. children w id)
  pub places : (id : FullNodeId) → ReadsOutline (λ w. place_of w id)
  pub below : (id : FullNodeId) → ReadsOutline (λ w. below w id)
  pub above : (id : FullNodeId) → ReadsOutline (λ w. above w id)
  pub orders : (id : FullNodeId) → ReadsOutline (λ w. preorder w id)
  pub paths : (id : FullNodeId) → ReadsOutline (λ w. index_path w id)
  pub paths_from : (top id : FullNodeId) → ReadsOutline (λ w. relative_index_path w top id)
  pub deepest_first : (id : FullNodeId) → ReadsOutline (λ w. deepest_first_child w id)
  pub deepest_last : (id : FullNodeId) → ReadsOutline (λ w. deepest_last_child w id)
  pub following : (id : FullNodeId) → ReadsOutline (λ w. following_siblings w id)
  pub preceding : (id : FullNodeId) → ReadsOutline (λ w. preceding_siblings w id)
  pub names : (name : NodeId × TreeId) → ReadsOutline (λ w. node_named w name)
  pub runs : (root : FullNodeId) → ReadsOutline (λ w. run_ids w root)
  pub focus : ReadsOutline effective_focus
  pub shown : ReadsOutline shown_focus
  pub focused : (id : FullNodeId) → ReadsOutline (λ w. is_focused w id)
  pub focus_ids : HoldsByOutline IsFocusId
  pub dialogs : HoldsByOutline IsActiveDialog
  pub moves : (id : FullNodeId) → ReadsOutline (λ w. transform w id)
  pub boxes : (id : FullNodeId) → ReadsOutline (λ w. bounding_box w id)
  pub filters : (name : NamedFilter) (id : FullNodeId) → ReadsOutline (λ w. filter_named name w id)
  pub lists : (name : NamedFilter) (id : FullNodeId) → ReadsOutline (λ w. filtered_children (filter_named name w) w id)
  pub following_shown : (name : NamedFilter) (id : FullNodeId) → ReadsOutline (λ w. following_filtered_siblings (filter_named name w) w id)
  pub preceding_shown : (name : NamedFilter) (id : FullNodeId) → ReadsOutline (λ w. preceding_filtered_siblings (filter_named name w) w id)
  pub hits : (name : NamedFilter) (id : FullNodeId) (p : Point) → ReadsOutline (λ w. hit (filter_named name w) w id p)
