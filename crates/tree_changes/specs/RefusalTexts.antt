-- What is said of a refused update.
use Rattle.std.specs.Prelude.{ℕ, List, ◌++◌, codes}
use Rattle.std.specs.Fmt.{decimal}
use Rattle.uuid.specs.Text.{hyphenated_text, lower}
use Rattle.schema.specs.declared.NodeId.{NodeId}
use Rattle.schema.specs.declared.TreeId.{TreeId}
use Rattle.tree_changes.specs.declared.error.UpdateError.{UpdateError}
use Rattle.tree_changes.specs.declared.error.UpdateError.TheVariants.{MissingTreeInfo, NotRootTree, MissingData, NotReached, NamedTwice, ListedTwice, RootTreeGrafted, GraftWithChildren, GraftedTwice, NoGraft, NoFirstTreeInfo, FocusMissing, FocusOnEmptyGraft, IndexesUsedUp, Memory}

abbrev pub node_text : NodeId → List ℕ
node_text id = decimal id.0

abbrev pub tree_text : TreeId → List ℕ
tree_text id = hyphenated_text lower id.0

-- why an update is refused, in words
abbrev pub refusal_text : UpdateError → List ℕ
refusal_text MissingTreeInfo = codes "the first update has no tree info"
refusal_text NotRootTree = codes "the first update is not for the root tree"
refusal_text (MissingData node) = codes "no data for node " ++ node_text node
refusal_text (NotReached node) = codes "node " ++ node_text node ++ codes " is named and not reached from the root"
refusal_text (NamedTwice node) = codes "node " ++ node_text node ++ codes " is named twice"
refusal_text (ListedTwice node) = codes "node " ++ node_text node ++ codes " is listed at two places, or is the root and listed"
refusal_text (RootTreeGrafted node) = codes "node " ++ node_text node ++ codes " grafts the root tree"
refusal_text (GraftWithChildren node) = codes "node " ++ node_text node ++ codes " is a graft and lists children"
refusal_text (GraftedTwice tree) = codes "tree " ++ tree_text tree ++ codes " is grafted twice"
refusal_text (NoGraft tree) = codes "no node grafts tree " ++ tree_text tree
refusal_text (NoFirstTreeInfo tree) = codes "tree " ++ tree_text tree ++ codes " is not present, and the update has no tree info"
refusal_text (FocusMissing node) = codes "the focus " ++ node_text node ++ codes " is not reached"
refusal_text (FocusOnEmptyGraft tree) = codes "the focus is on a graft of tree " ++ tree_text tree ++ codes ", which is not present"
refusal_text IndexesUsedUp = codes "all tree indexes are used up"
refusal_text Memory = codes "out of memory"
