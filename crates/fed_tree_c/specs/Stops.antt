-- What C learns where a tree is opened, and of lines that were fed.
use Rattle.std.specs.Prelude.{◌≡◌, ◌⊎◌, ◌==◌, ◌-◌, ℕ, List, [], ◌∷◌, codes, false, slice_get, Option, Some, None, Result, Ok, Err, if◌then◌else◌}
use Rattle.schema.specs.TreeIds.{root_tree_id}
use Rattle.fed_tree.specs.Fed.{Fed}
use Rattle.fed_tree.specs.Feeding.{Feeds}
use Rattle.fed_tree.specs.declared.feeding.FeedError.{FeedError}
use Rattle.fed_tree.specs.declared.feeding.FeedError.TheVariants as feed
use Rattle.tree_changes.specs.declared.error.UpdateError.{UpdateError}
use Rattle.tree_changes.specs.declared.error.UpdateError.TheVariants as error
use Rattle.fed_tree_c.specs.Answers.{DONE, NO_MEMORY, CLOSED, BAD_LINE, REFUSED}
use Rattle.fed_tree_c.specs.declared.records.AkStop.{AkStop}

-- a tree that was fed nothing
abbrev pub nothing_yet : Fed
nothing_yet = record { world = None; host = false; events = Some []; begun = None }

-- a handle is opened on such a tree, whatever it held; or memory ran out, and it holds what it held
abbrev pub Opens : Option Fed → ℕ → Option Fed → Type 0
Opens old status new = ((status ≡ DONE) × (new ≡ Some nothing_yet)) ⊎ (status ≡ NO_MEMORY) × (new ≡ old)

-- the number of a rule, in the order in which the rules are listed; 0 for lack of memory
abbrev pub rule_number : UpdateError → ℕ
rule_number error.Memory = 0
rule_number error.MissingTreeInfo = 1
rule_number error.NotRootTree = 2
rule_number (error.MissingData n) = 3
rule_number (error.NotReached n) = 4
rule_number (error.NamedTwice n) = 5
rule_number (error.ListedTwice n) = 6
rule_number (error.RootTreeGrafted n) = 7
rule_number (error.GraftWithChildren n) = 8
rule_number (error.GraftedTwice name) = 9
rule_number (error.NoGraft name) = 10
rule_number (error.NoFirstTreeInfo name) = 11
rule_number (error.FocusMissing n) = 12
rule_number (error.FocusOnEmptyGraft name) = 13
rule_number error.IndexesUsedUp = 14

-- the node that an error names; 0 where it names none
abbrev pub node_named : UpdateError → ℕ
node_named error.Memory = 0
node_named error.MissingTreeInfo = 0
node_named error.NotRootTree = 0
node_named (error.MissingData n) = n.0
node_named (error.NotReached n) = n.0
node_named (error.NamedTwice n) = n.0
node_named (error.ListedTwice n) = n.0
node_named (error.RootTreeGrafted n) = n.0
node_named (error.GraftWithChildren n) = n.0
node_named (error.GraftedTwice name) = 0
node_named (error.NoGraft name) = 0
node_named (error.NoFirstTreeInfo name) = 0
node_named (error.FocusMissing n) = n.0
node_named (error.FocusOnEmptyGraft name) = 0
node_named error.IndexesUsedUp = 0

-- the sixteen bytes of the id of the tree that an error names; those of the root tree's, which are zeros, where it names none
abbrev pub tree_named : UpdateError → List ℕ
tree_named error.Memory = root_tree_id.0
tree_named error.MissingTreeInfo = root_tree_id.0
tree_named error.NotRootTree = root_tree_id.0
tree_named (error.MissingData n) = root_tree_id.0
tree_named (error.NotReached n) = root_tree_id.0
tree_named (error.NamedTwice n) = root_tree_id.0
tree_named (error.ListedTwice n) = root_tree_id.0
tree_named (error.RootTreeGrafted n) = root_tree_id.0
tree_named (error.GraftWithChildren n) = root_tree_id.0
tree_named (error.GraftedTwice name) = name.0
tree_named (error.NoGraft name) = name.0
tree_named (error.NoFirstTreeInfo name) = name.0
tree_named (error.FocusMissing n) = root_tree_id.0
tree_named (error.FocusOnEmptyGraft name) = name.0
tree_named error.IndexesUsedUp = root_tree_id.0

-- the names of the rules, in the order of their numbers
abbrev pub rule_names : List (List ℕ)
rule_names =
    codes "MissingTreeInfo"
    ∷ codes "NotRootTree"
    ∷ codes "MissingData"
    ∷ codes "NotReached"
    ∷ codes "NamedTwice"
    ∷ codes "ListedTwice"
    ∷ codes "RootTreeGrafted"
    ∷ codes "GraftWithChildren"
    ∷ codes "GraftedTwice"
    ∷ codes "NoGraft"
    ∷ codes "NoFirstTreeInfo"
    ∷ codes "FocusMissing"
    ∷ codes "FocusOnEmptyGraft"
    ∷ codes "IndexesUsedUp"
    ∷ []

-- the name of the rule with this number, counted from 1
abbrev pub rule_name : ℕ → Option (List ℕ)
rule_name number = if number == 0 then None else slice_get rule_names (number - 1)

abbrev pub status_of : Result Unit FeedError → ℕ
status_of (Ok done) = DONE
status_of (Err (feed.BadLine number)) = BAD_LINE
status_of (Err (feed.Refused done why)) = REFUSED
status_of (Err (feed.Memory done)) = NO_MEMORY

abbrev pub stop_of : Result Unit FeedError → AkStop
stop_of (Ok done) = record { line = 0; done = 0; node = 0; tree_id = root_tree_id.0; rule = 0 }
stop_of (Err (feed.BadLine number)) = record { line = number; done = 0; node = 0; tree_id = root_tree_id.0; rule = 0 }
stop_of (Err (feed.Refused done why)) =
    record { line = 0; done = done; node = node_named why; tree_id = tree_named why; rule = rule_number why }
stop_of (Err (feed.Memory done)) = record { line = 0; done = done; node = 0; tree_id = root_tree_id.0; rule = 0 }

-- the lines are fed to the tree of the handle, and what became of them is answered
abbrev pub FeedsHeld : Option Fed → List ℕ → Option Fed → ℕ → AkStop → AkStop → Type 0
FeedsHeld None lines new status old_stop new_stop = (new ≡ None) × (status ≡ CLOSED) × (new_stop ≡ old_stop)
FeedsHeld (Some old) lines new status old_stop new_stop =
    (fed : Fed) × (result : Result Unit FeedError) × (new ≡ Some fed) × Feeds old lines result fed × (status ≡ status_of result)
    × (new_stop ≡ stop_of result)
