use Rattle.std.proofs.Common.{◌≡◌, ap, subst, sym, refl, ◌∙◌}
use Rattle.std.specs.Prelude.{Contains, slice_index_or}
use Rattle.tree_store.specs.declared.store.Store.TheInside.{Inside}
use Rattle.tree_store.specs.Commits.{HasSlots}
use Rattle.tree_store.specs.Shown.{world_shown, IsStored}
use Rattle.tree_store.specs.StoreViews.{StoreView}
use Rattle.tree_store.specs.Stored.{texts_shown}
use Rattle.tree_store.proofs.Commits.{room_for, tight, world_same, stored_same}
use Rattle.tree_store.proofs.NamesKept.{kept_is_key, key_is_kept}
use Rattle.tree_store.proofs.UsedNames.{used}
use Rattle.tree_store.proofs.store.Store.release.Goals as goal

pub take_all_back-requires : goal.take_all_back-requires
take_all_back-requires c =
    room_for c.self.inside.tables.nodes c.args.decision.now.nodes.items (subst (λ (k : StoreView). HasSlots k c.args.decision.now) (sym c.self.view_is) c.requires)

pub invariant_of-self : goal.invariant_of-self
invariant_of-self c =
    let e = c.take_all_back.ensures in
    stored_same c.self.inside _ c.self.invariant e.nodes e.names (ap (λ k. k.items) e.known) (ap texts_shown e.texts) refl refl c.know.ensures

pub returns-clause-same : goal.returns-clause-same
returns-clause-same c =
    let e = c.take_all_back.ensures in
    let b : Inside = record { tables = c.take_all_back.new.self; host_focused = c.self.inside.host_focused; focus = c.self.inside.focus } in
    world_same c.self.inside b c.self.invariant e.nodes e.names (ap (λ k. k.items) e.known) (ap texts_shown e.texts) refl refl c.know.ensures
    ∙ ap (λ (k : StoreView). k.world) c.self.view_is

pub returns-clause-tight : goal.returns-clause-tight
returns-clause-tight c = tight c.take_all_back.new.self.nodes c.take_all_back.ensures.tight

pub returns-clause-fewer : goal.returns-clause-fewer
returns-clause-fewer c = λ name there.
    subst (λ (k : StoreView). Contains k.names name) c.self.view_is
    (kept_is_key c.self.inside.tables.names.entries name (c.take_all_back.ensures.fewer name (key_is_kept c.take_all_back.new.self.names.entries name there)))

pub returns-clause-used : goal.returns-clause-used
returns-clause-used c = λ k d less there.
    let e = c.take_all_back.ensures in
    let b : Inside = record { tables = c.take_all_back.new.self; host_focused = c.self.inside.host_focused; focus = c.self.inside.focus } in
    let stored : IsStored b (world_shown b) = stored_same c.self.inside b c.self.invariant e.nodes e.names (ap (λ k. k.items) e.known) (ap texts_shown e.texts) refl refl c.know.ensures in
    let name = (slice_index_or c.args.decision.now.trees.items k d).id in
    used (world_shown b) name _ (stored.names.index name) (λ g. (stored.names.graft name g).0) (e.taken k d less) (key_is_kept c.take_all_back.new.self.names.entries name there)
