-- What is printed of a refused update.
use Rattle.std.specs.Prelude.{ℕ, List, ◌++◌, codes}
use Rattle.std.specs.Fmt.{decimal}
use Rattle.uuid.specs.Text.{hyphenated_text, lower}
use Rattle.schema.specs.declared.NodeId.{NodeId}
use Rattle.schema.specs.declared.TreeId.{TreeId}
use Rattle.tree_changes.specs.declared.error.UpdateError.{UpdateError}
use Rattle.tree_changes.specs.declared.error.UpdateError.TheVariants.{MissingTreeInfo, NotRootTree, MissingData, NotReached, NamedTwice, ListedTwice, RootTreeGrafted, GraftWithChildren, GraftedTwice, NoGraft, NoFirstTreeInfo, FocusMissing, FocusOnEmptyGraft, IndexesUsedUp, Memory}

-- the name of a broken rule, and its node
abbrev pub refused_node : List ℕ → NodeId → List ℕ
refused_node name id = codes "refused " ++ name ++ codes " " ++ decimal id.0 ++ codes "\n"

abbrev pub refused_tree : List ℕ → TreeId → List ℕ
refused_tree name id = codes "refused " ++ name ++ codes " " ++ hyphenated_text lower id.0 ++ codes "\n"

abbrev pub refusal_line : UpdateError → List ℕ
refusal_line MissingTreeInfo = codes "refused MissingTreeInfo\n"
refusal_line NotRootTree = codes "refused NotRootTree\n"
refusal_line (MissingData id) = refused_node (codes "MissingData") id
refusal_line (NotReached id) = refused_node (codes "NotReached") id
refusal_line (NamedTwice id) = refused_node (codes "NamedTwice") id
refusal_line (ListedTwice id) = refused_node (codes "ListedTwice") id
refusal_line (RootTreeGrafted id) = refused_node (codes "RootTreeGrafted") id
refusal_line (GraftWithChildren id) = refused_node (codes "GraftWithChildren") id
refusal_line (GraftedTwice id) = refused_tree (codes "GraftedTwice") id
refusal_line (NoGraft id) = refused_tree (codes "NoGraft") id
refusal_line (NoFirstTreeInfo id) = refused_tree (codes "NoFirstTreeInfo") id
refusal_line (FocusMissing id) = refused_node (codes "FocusMissing") id
refusal_line (FocusOnEmptyGraft id) = refused_tree (codes "FocusOnEmptyGraft") id
refusal_line IndexesUsedUp = codes "refused IndexesUsedUp\n"
refusal_line Memory = codes "refused Memory\n"
