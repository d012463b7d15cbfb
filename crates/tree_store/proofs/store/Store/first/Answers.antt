use Rattle.std.proofs.Common.{◌≡◌, true, None, refl, ap, sym, subst, ◌∙◌}
use Rattle.schema.specs.UpdateData.{update_data}
use Rattle.model.specs.declared.FullNodeId.{FullNodeId}
use Rattle.model.specs.State.{empty_world}
use Rattle.model.proofs.Update.UpdateLeavesState.{first_leaves_state}
use Rattle.tree_store.specs.declared.store.Store.TheInside.{Inside}
use Rattle.tree_store.specs.Cells.{record_at}
use Rattle.tree_store.specs.Stored.{texts_shown}
use Rattle.tree_store.specs.KeptNames.{kept_in}
use Rattle.std.specs.Map.{lookup}
use Rattle.std.specs.BTreeMap.{is_at}
use Rattle.model.specs.FullIds.{name_cmp}
use Rattle.tree_changes.specs.Changes.{change_at, overlaid_world}
use Rattle.tree_store.specs.Shown.{world_shown, IsStored}
use Rattle.tree_store.specs.Commits.{changed_record, AreEntriesApart, HasNoSpare}
use Rattle.tree_store.proofs.Commits.{IsBlank, all_blank, tight}
use Rattle.tree_store.proofs.Committed.{indexes_within, committed}
use Rattle.tree_store.proofs.Decided.{entries_apart}
use Rattle.tree_store.proofs.store.Store.first.Goals as goal
use Rattle.tree_store.proofs.store.Store.first.Goals.{In_ok-make_trees, After-know}

pub first_slots-requires-clause-apart : goal.first_slots-requires-clause-apart
first_slots-requires-clause-apart c = subst AreEntriesApart (sym c.as_slice.ensures.value) (entries_apart (empty_world c.args.is_host_focused) (update_data c.args.update) c.args.decision c.requires)

-- the state to which the first trees have been made
abbrev begun : In_ok-make_trees → Inside
begun c = record { tables = c.make_trees.new.self; host_focused = c.args.is_host_focused; focus = c.args.decision.focus }

blank : (c : In_ok-make_trees) → IsBlank (begun c) c.args.is_host_focused
blank c =
    let made = c.in_ok-make_trees.ensures in
    all_blank (begun c) c.args.is_host_focused (made.known ∙ c.new-2.ensures.items) (λ id. ap (λ es. record_at es id) (made.nodes ∙ c.new.ensures))
    (λ name. made.names name ∙ ap (λ es. kept_in (lookup (is_at (name_cmp name)) es)) c.new-3.ensures.empty) (ap texts_shown made.texts) refl

pub write_trees-requires-clause-indexes : goal.write_trees-requires-clause-indexes
write_trees-requires-clause-indexes c =
    let made = (goal.at.write_trees-requires-clause-indexes c).In_ok-make_trees in
    let k = blank made in
    indexes_within (begun made) (empty_world c.args.is_host_focused) k.world k.names (update_data c.args.update) c.args.decision c.requires true refl

-- what the first commit leaves, and shows
left : (c : After-know) → IsBlank (record { tables = c.make_trees.new.self; host_focused = c.args.is_host_focused; focus = c.args.decision.focus }) c.args.is_host_focused →
    let b : Inside = record { tables = c.write_trees.new.self; host_focused = c.args.is_host_focused; focus = c.args.decision.focus } in
    IsStored b (world_shown b) × (world_shown b ≡ overlaid_world (empty_world c.args.is_host_focused) (update_data c.args.update) c.args.decision)
left c k =
    let host = c.args.is_host_focused in
    let u = update_data c.args.update in
    let changes = c.args.decision.nodes.items in
    let w = c.write_trees.ensures in
    let records : (id : FullNodeId) → record_at c.write_trees.new.self.nodes id ≡ changed_record u.nodes (change_at changes id) (record_at c.make_trees.new.self.nodes id) = λ id.
    ap (λ es. record_at es id) w.nodes ∙ c.in_ok-tables.ensures.records id ∙ ap (λ cs. changed_record u.nodes (change_at cs id) None) c.as_slice.ensures.value ∙ ap (changed_record u.nodes (change_at changes id)) (sym (k.nodes id)) in
    let a : Inside = record { tables = c.make_trees.new.self; host_focused = host; focus = c.args.decision.focus } in
    committed a (empty_world host) k.world k.names u c.args.decision c.requires true refl _ k.places (first_leaves_state host u _ c.requires.accepted) true refl records w.names w.trees w.kept w.texts refl refl c.know.ensures

pub invariant_of-result : goal.invariant_of-result
invariant_of-result c = let p = goal.at.invariant_of-result c in (left p.After-know (blank p.In_ok-make_trees)).0

pub returns-clause-world : goal.returns-clause-world
returns-clause-world c = let p = goal.at.returns-clause-world c in (left p.After-know (blank p.In_ok-make_trees)).1

pub returns-clause-tight : goal.returns-clause-tight
returns-clause-tight c = tight c.write_trees.new.self.nodes (subst HasNoSpare (sym c.write_trees.ensures.nodes) c.in_ok-tables.ensures.tight)
