use Rattle.std.proofs.Common.{◌≡◌, refl, sym, ap, subst, ◌∙◌}
use Rattle.std.specs.Prelude.{is_none, slice_index_or}
use Rattle.schema.specs.UpdateData.{update_data}
use Rattle.model.specs.State.{IsState}
use Rattle.model.proofs.Update.UpdateLeavesState.{update_leaves_state}
use Rattle.tree_store.specs.declared.store.Store.TheInside.{Inside}
use Rattle.tree_store.specs.StoreViews.{StoreView}
use Rattle.tree_changes.specs.Changes.{overlaid_world}
use Rattle.tree_store.specs.Shown.{world_shown, IsStored}
use Rattle.tree_store.specs.Commits.{IsReadyFor}
use Rattle.tree_store.proofs.Commits.{room_for, tight}
use Rattle.tree_store.proofs.Committed.{indexes_within, committed}
use Rattle.tree_store.proofs.Decided.{has_entries, entries_apart, none_is}
use Rattle.tree_store.proofs.NamesKept.{key_is_kept}
use Rattle.tree_store.proofs.store.Store.commit.Goals as goal
use Rattle.tree_store.proofs.store.Store.commit.Goals.{After-know}

pub write_decision-requires-clause-room : goal.write_decision-requires-clause-room
write_decision-requires-clause-room c =
    let r = subst (λ (k : StoreView). IsReadyFor k (update_data c.args.update) c.args.decision.now) (sym c.self.view_is) c.requires.ready in
    room_for c.self.inside.tables.nodes c.args.decision.now.nodes.items r.slots

pub write_decision-requires-clause-entries : goal.write_decision-requires-clause-entries
write_decision-requires-clause-entries c =
    has_entries c.args.self.now.world (update_data c.args.update) c.args.decision.now c.requires.decided

pub write_decision-requires-clause-apart : goal.write_decision-requires-clause-apart
write_decision-requires-clause-apart c = entries_apart c.args.self.now.world (update_data c.args.update) c.args.decision.now c.requires.decided

pub write_decision-requires-clause-indexes : goal.write_decision-requires-clause-indexes
write_decision-requires-clause-indexes c =
    let a = c.self.inside in
    let shows : world_shown a ≡ c.args.self.now.world = ap (λ (k : StoreView). k.world) c.self.view_is in
    let is_new = none_is c.is_none-is_new.result c.tree_index.result c.is_none-is_new.ensures ∙ ap is_none c.tree_index.ensures in
    indexes_within a c.args.self.now.world shows c.self.invariant.names (update_data c.args.update) c.args.decision.now c.requires.decided c.is_none-is_new.result is_new

pub write_decision-requires-clause-there : goal.write_decision-requires-clause-there
write_decision-requires-clause-there c =
    let r = subst (λ (k : StoreView). IsReadyFor k (update_data c.args.update) c.args.decision.now) (sym c.self.view_is) c.requires.ready in
    (λ k d less. key_is_kept c.self.inside.tables.names.entries (slice_index_or c.args.decision.now.trees.items k d).id (r.names k d less))

-- what the commit leaves, and shows
left : (c : After-know) →
    let b : Inside = record { tables = c.write_decision.new.self; host_focused = c.self.inside.host_focused; focus = c.args.decision.now.focus } in
    IsStored b (world_shown b) × (world_shown b ≡ overlaid_world c.args.self.now.world (update_data c.args.update) c.args.decision.now)
left c =
    let a = c.self.inside in
    let shows : world_shown a ≡ c.args.self.now.world = ap (λ (k : StoreView). k.world) c.self.view_is in
    let is_new = none_is c.is_none-is_new.result c.tree_index.result c.is_none-is_new.ensures ∙ ap is_none c.tree_index.ensures in
    let w = c.write_decision.ensures in
    let leaves = update_leaves_state c.args.self.now.world (update_data c.args.update) _ (subst IsState shows c.self.invariant.state) c.requires.decided.accepted in
    committed a c.args.self.now.world shows c.self.invariant.names (update_data c.args.update) c.args.decision.now c.requires.decided c.is_none-is_new.result is_new
    _ c.self.invariant.seated.place leaves c.is_root_index-is_root.result c.is_root_index-is_root.ensures w.records w.names w.trees w.kept w.texts refl refl c.know.ensures

pub invariant_of-self : goal.invariant_of-self
invariant_of-self c = (left (goal.at.invariant_of-self c).After-know).0

pub returns-clause-world : goal.returns-clause-world
returns-clause-world c = (left (goal.at.returns-clause-world c).After-know).1

pub returns-clause-tight : goal.returns-clause-tight
returns-clause-tight c = tight c.write_decision.new.self.nodes c.write_decision.ensures.tight
