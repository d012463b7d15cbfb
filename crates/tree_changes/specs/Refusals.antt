-- The rule that a refusal names.
use Rattle.std.specs.Prelude.{Option, Some, None, IfSome}
use Rattle.model.specs.World.{World}
use Rattle.model.specs.Update.{UpdateData, Fault, MissingTreeInfo, NotRootTree, MissingData, NotReached, NamedTwice, ListedTwice, RootTreeGrafted, GraftWithChildren, GraftedTwice, NoGraft, NoFirstTreeInfo, FocusMissing, FocusOnEmptyGraft, IndexesUsedUp, Stands}
use Rattle.tree_changes.specs.declared.error.UpdateError.{UpdateError}
use Rattle.tree_changes.specs.declared.error.UpdateError.TheVariants as error

-- the rule that an error names: none for lack of memory
abbrev pub fault_of : UpdateError → Option Fault
fault_of error.MissingTreeInfo = Some MissingTreeInfo
fault_of error.NotRootTree = Some NotRootTree
fault_of (error.MissingData n) = Some (MissingData n)
fault_of (error.NotReached n) = Some (NotReached n)
fault_of (error.NamedTwice n) = Some (NamedTwice n)
fault_of (error.ListedTwice n) = Some (ListedTwice n)
fault_of (error.RootTreeGrafted n) = Some (RootTreeGrafted n)
fault_of (error.GraftWithChildren n) = Some (GraftWithChildren n)
fault_of (error.GraftedTwice name) = Some (GraftedTwice name)
fault_of (error.NoGraft name) = Some (NoGraft name)
fault_of (error.NoFirstTreeInfo name) = Some (NoFirstTreeInfo name)
fault_of (error.FocusMissing n) = Some (FocusMissing n)
fault_of (error.FocusOnEmptyGraft name) = Some (FocusOnEmptyGraft name)
fault_of error.IndexesUsedUp = Some IndexesUsedUp
fault_of error.Memory = None

-- the update breaks the rule that the error names, or the error is lack of memory
abbrev pub IsRefusal : World → UpdateData → UpdateError → Type 0
IsRefusal w u e = IfSome (fault_of e) (Stands w u)
