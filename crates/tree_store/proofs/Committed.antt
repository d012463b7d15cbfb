-- A store after a decision is written, whether it kept a state before or nothing.
use Rattle.std.proofs.Common.{◌≡◌, ◌<◌, Bool, sym, ap, subst, ◌∙◌}
use Rattle.std.specs.Prelude.{IfSome, All, is_none, length, ◌==◌, if◌then◌else◌, None}
use Rattle.std.specs.Option.{option_map_or}
use Rattle.schema.specs.UpdateData.{InfoData}
use Rattle.schema.specs.declared.TreeId.{TreeId}
use Rattle.model.specs.declared.FullNodeId.{FullNodeId}
use Rattle.model.specs.World.{World, index_of}
use Rattle.model.specs.State.{IsState}
use Rattle.model.specs.Update.{UpdateData, index_for, known_after, toolkit_after}
use Rattle.tree_changes.specs.declared.decision.Decision.{Decision}
use Rattle.tree_changes.specs.Changes.{change_at, overlaid_world, put_trees, tree_change}
use Rattle.tree_changes.specs.Decisions.{IsDecision}
use Rattle.tree_store.specs.declared.store.Store.TheInside.{Inside}
use Rattle.tree_store.specs.Commits.{with_name, texts_after, changed_record}
use Rattle.tree_store.specs.KeptNames.{name_at, name_after}
use Rattle.tree_store.specs.Shown.{world_shown, NamesAreTrue, IsStored}
use Rattle.tree_store.specs.Cells.{record_at, HasOwnCells}
use Rattle.tree_store.specs.Stored.{texts_shown, names_shown, trees_shown}
use Rattle.tree_store.proofs.Commits.{HasTruePlaces, record_of_name, world_written, stored_written}
use Rattle.tree_store.proofs.Decided.{names_same, texts_same, indexes_known}

-- the store shows v, and a name that v doesn't know is new
module _ (a : Inside) (v : World) (shows : world_shown a ≡ v) (old_names : NamesAreTrue a.tables.names (world_shown a)) (u : UpdateData) (d : Decision) (decision : IsDecision v u d)
    (is_new : Bool) (new : is_new ≡ is_none (index_of v u.name)) where
  decided : IsDecision (world_shown a) u d
  decided = subst (λ w. IsDecision w u d) (sym shows) decision

  names_known : with_name is_new (world_shown a).known u.name ≡ known_after (world_shown a) u.name
  names_known = ap (λ b. with_name b (world_shown a).known u.name) (new ∙ ap (λ w. is_none (index_of w u.name)) (sym shows)) ∙ names_same (world_shown a) u.name

  -- each changed tree has an index that is known then
  pub indexes_within : All (λ r. IfSome r.index (λ i. i < length (with_name is_new (names_shown a.tables.known.items) u.name))) d.trees.items
  indexes_within = subst (λ l. All (λ r. IfSome r.index (λ i. i < length l)) d.trees.items) (sym names_known) (indexes_known (world_shown a) u d decided (λ name. record_of_name a name old_names))

  module _ (b : Inside) (old_places : HasTruePlaces a.tables.nodes (world_shown a)) (leaves : IsState (overlaid_world v u d)) (is_root : Bool) (root : is_root ≡ (index_for v u.name == 0))
      (records : (id : FullNodeId) → record_at b.tables.nodes id ≡ changed_record u.nodes (change_at d.nodes.items id) (record_at a.tables.nodes id))
      (known : names_shown b.tables.known.items ≡ with_name is_new (names_shown a.tables.known.items) u.name) (trees : trees_shown 0 b.tables.known.items ≡ put_trees (trees_shown 0 a.tables.known.items) d.trees.items)
      (names : (name : TreeId) → name_at b.tables.names name ≡ name_after (tree_change d.trees.items name) (name_at a.tables.names name))
      (texts : texts_shown b.tables.toolkit ≡ texts_after (if is_root then u.info else None) (texts_shown a.tables.toolkit)) (host : b.host_focused ≡ a.host_focused) (focus : b.focus ≡ d.focus) (cells : HasOwnCells b.tables.nodes) where
    state_left : IsState (overlaid_world (world_shown a) u d)
    state_left = subst (λ w. IsState (overlaid_world w u d)) (sym shows) leaves

    texts_left : texts_shown b.tables.toolkit ≡ toolkit_after (world_shown a) u
    texts_left =
        texts ∙ texts_same is_root u.info (world_shown a).toolkit
        ∙ ap (λ x. option_map_or (λ (i : InfoData). if x then (i.toolkit_name, i.toolkit_version) else (world_shown a).toolkit) u.info (world_shown a).toolkit) (root ∙ ap (λ w. index_for w u.name == 0) (sym shows))

    stored_after : IsStored b (world_shown b)
    stored_after = stored_written a b u d old_places old_names state_left decided records (known ∙ names_known) trees names texts_left host focus cells

    world_after : world_shown b ≡ overlaid_world v u d
    world_after = world_written a b u d old_places old_names state_left decided records (known ∙ names_known) trees names texts_left host focus cells ∙ ap (λ w. overlaid_world w u d) shows

    pub committed : IsStored b (world_shown b) × (world_shown b ≡ overlaid_world v u d)
    committed = (stored_after, world_after)
