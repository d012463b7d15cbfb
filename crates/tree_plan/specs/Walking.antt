-- What one walk over the nodes of an update writes.
use Rattle.std.specs.Prelude.{◌≡◌, ◌<◌, ℕ, List, [], ◌∷◌, Some, slice_get}
use Rattle.std.specs.List.{flat_map}
use Rattle.std.specs.Map.{keys_of}
use Rattle.values_by_id.specs.Rows.{Ascends}
use Rattle.model.specs.declared.FullNodeId.{FullNodeId}
use Rattle.tree_plan.specs.declared.verdicts.Found.{Found}
use Rattle.tree_plan.specs.declared.walking.Rows.{Rows}
use Rattle.tree_plan.specs.declared.walking.Walked.{Walked}
use Rattle.tree_plan.specs.declared.walking.Written.{Written}
use Rattle.tree_plan.specs.declared.writing.Group.{Group}
use Rattle.tree_plan.specs.declared.writing.Group.TheVariants as group
use Rattle.tree_changes.specs.declared.decision.NodeChange.{NodeChange}
use Rattle.tree_plan.specs.Passes.{at}
use Rattle.tree_plan.specs.Verdicts.{Transition, Becomes, Verdicts, AreSound, Adds}
use Rattle.tree_plan.specs.Writing.{change_entry, group_of}

-- a node, if it belongs to the group
abbrev pub id_in : Group → Group → FullNodeId → List FullNodeId
id_in group.Added group.Added id = id ∷ []
id_in group.Updated group.Updated id = id ∷ []
id_in group.Removed group.Removed id = id ∷ []
id_in group.Added group.Updated id = []
id_in group.Added group.Removed id = []
id_in group.Updated group.Added id = []
id_in group.Updated group.Removed id = []
id_in group.Removed group.Added id = []
id_in group.Removed group.Updated id = []

-- the nodes of a group of verdicts
abbrev pub ids_in : Group → Verdicts → List FullNodeId
ids_in g vs = flat_map (λ e. id_in g (group_of e.1) e.0) vs

-- these are the changes by verdicts, each of which changes its node, and the nodes of each group
pub record Tells (vs : Verdicts) (nodes : List (FullNodeId × NodeChange)) (added updated removed : List FullNodeId) : Type 0 where
  pub nodes_are : nodes ≡ flat_map change_entry vs
  pub each_changes : keys_of nodes ≡ keys_of vs
  pub added_are : added ≡ ids_in group.Added vs
  pub updated_are : updated ≡ ids_in group.Updated vs
  pub removed_are : removed ≡ ids_in group.Removed vs

abbrev pub TellsOf : Verdicts → Written → Type 0
TellsOf vs w = Tells vs w.nodes w.added.items w.updated.items w.removed.items

-- what is written of these nodes is added to what was written
abbrev pub Writes : Transition → List FullNodeId → Written → Written → Type 0
Writes s ids before after = (vs : Verdicts) → TellsOf vs before → AreSound s vs → (ws : Verdicts) × TellsOf ws after × Adds s ids vs ws

-- the verdicts on the entries before an index are there
abbrev pub AreJudged : {X : Type 0} → Transition → Verdicts → List (FullNodeId × X) → ℕ → Type 0
AreJudged {X} s vs es n = (k : ℕ) (e : FullNodeId × X) → k < n → slice_get es k ≡ Some e → Becomes s e.0 (at vs e.0)

-- the verdicts on these nodes, and on those before the rows, have come to what is written
pub record Reached (s : Transition) (f : Found) (ids : List FullNodeId) (rows : Rows) (vs ws : Verdicts) (w : Written) : Type 0 where
  pub tells : TellsOf ws w
  pub adds : Adds s ids vs ws
  pub named : AreJudged s ws f.compared.named rows.named
  pub entered : AreJudged s ws f.compared.entered rows.entered

-- what is written of these nodes, and of those from some rows up to others, is added to what was written
abbrev pub Walks : Transition → Found → List FullNodeId → Rows → Rows → Written → Written → Type 0
Walks s f ids from to before after =
    (vs : Verdicts) → TellsOf vs before → AreSound s vs → AreJudged s vs f.compared.named from.named → AreJudged s vs f.compared.entered from.entered
    → (ws : Verdicts) × Reached s f ids to vs ws after

-- what becomes of each node is written
abbrev pub WritesAll : Transition → Written → Type 0
WritesAll s w = (vs : Verdicts) × TellsOf vs w × ((id : FullNodeId) → Becomes s id (at vs id))

-- these are the changes and the nodes of verdicts on each node, in the order of the ids
pub record IsWalkOf (s : Transition) (vs : Verdicts) (w : Walked) : Type 0 where
  pub tells : Tells vs w.nodes w.added.items w.updated.items w.removed.items
  pub ascends : Ascends vs
  pub becomes : (id : FullNodeId) → Becomes s id (at vs id)
