-- Nodes whose value is that of a node above them, since they have the same runs.
use Rattle.std.specs.Prelude.{◌≡◌, Bool, true, false, not, ◌&&◌, ◌||◌, [], ◌∷◌, Some, is_none, IfSome}
use Rattle.schema.specs.NodeData.{NodeData}
use Rattle.model.specs.declared.FullNodeId.{FullNodeId}
use Rattle.model.specs.World.{World, children}
use Rattle.model.specs.RoleClasses.{holds_text, is_multiline, is_password_input}
use Rattle.model.specs.TextRuns.{is_password, is_run, run_ids}
use Rattle.model.specs.Upward.{says}
use Rattle.model.specs.Values.{value_of}
use Rattle.hidden_texts.specs.Hidden.{has_password_below, hides_value, is_in_password}
use Rattle.page_states.specs.declared.sources.Source.{Source}

-- its value is the text of its runs, if they make one: it has no value of its own, and its role holds text, neither a
-- password nor more than a line
abbrev pub reads_runs : NodeData → Bool
reads_runs d = (holds_text d.role && is_none d.value) && not (is_password_input d.role || is_multiline d.role)

-- the node has the same runs as its source, and the same passwords around it and below it
pub record IsSource (w : World) (id source : FullNodeId) : Type 0 where
  pub reads : says reads_runs w source ≡ true
  pub tree : id.tree ≡ source.tree
  pub runs : run_ids w id ≡ run_ids w source
  pub plain : is_password w id ≡ false
  pub within : is_in_password w id ≡ is_in_password w source
  pub below : has_password_below w id ≡ has_password_below w source

-- what a node hands on of its source: whether the value of that is hidden, and to which child, if it has no other
pub record IsCarried (w : World) (id : FullNodeId) (s : Source) : Type 0 where
  pub same : IsSource w id s.id
  pub hides : s.is_hidden ≡ hides_value w s.id
  pub only : IfSome s.only_child (λ child. children w id ≡ child ∷ [])

-- the node is the only child to which the source is handed on, in the same tree, and neither a run nor a password
pub record IsPassed (w : World) (id : FullNodeId) (s : Source) : Type 0 where
  pub child : s.only_child ≡ Some id
  pub tree : id.tree ≡ s.id.tree
  pub run : is_run w id ≡ false
  pub plain : is_password w id ≡ false

-- the node is no password, and has the value of its source
pub record HasValueOf (w : World) (id source : FullNodeId) : Type 0 where
  pub plain : is_password w id ≡ false
  pub value : value_of w id ≡ value_of w source
