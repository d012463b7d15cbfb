use Rattle.std.proofs.Common.{rules, ◌≡◌, ◌<◌, ℕ, true, nat_lt, Result, Ok, Err, sym, ap, subst, refl, ◌∙◌}
use Rattle.std.specs.Prelude.{Contains, OnOk, OnErr, is_none, slice_index_or}
use Rattle.std.specs.Vec.{vec_len, vec_capacity}
use Rattle.model.specs.World.{index_of}
use Rattle.tree_store.specs.declared.store.Store.TheInside.{Inside}
use Rattle.tree_store.specs.StoreViews.{StoreView, IsTight}
use Rattle.tree_store.specs.Stored.{texts_shown}
use Rattle.tree_store.proofs.Commits.{no_spare, tight, ready, world_same, stored_same}
use Rattle.tree_store.proofs.Decided.{none_is}
use Rattle.tree_store.proofs.NamesKept.{kept_is_key, key_is_kept}
use Rattle.tree_store.proofs.store.Store.reserve.Goals as goal

on_ok : {X Y : Type 0} (r : Result X Y) (P Q R S : Type 0) → (P → Q → R → S) → OnOk r P → OnOk r Q → OnOk r R → OnOk r S
on_ok (Ok x) P Q R S f p q h = f p q h
on_ok (Err e) P Q R S f p q h = h

on_err : {X Y : Type 0} (r : Result X Y) (P Q : Type 0) → (P → Q) → OnErr r P → OnErr r Q
on_err (Ok x) P Q f h = h
on_err (Err e) P Q f h = f h

lt_true : (a b : ℕ) → a < b → nat_lt a b ≡ true
lt_true a b less = search rules

pub make_all-made-requires : goal.make_all-made-requires
make_all-made-requires c = no_spare c.self.inside.tables.nodes (subst IsTight (sym c.self.view_is) c.requires.tight)

pub invariant_of-self : goal.invariant_of-self
invariant_of-self c = stored_same c.self.inside _ c.self.invariant c.make_all-made.ensures.nodes c.make_all-made.ensures.names c.make_all-made.ensures.known (ap texts_shown c.make_all-made.ensures.texts) refl refl c.know.ensures

pub returns-clause-same : goal.returns-clause-same
returns-clause-same c =
    let b : Inside = record { tables = c.make_all-made.new.self; host_focused = c.self.inside.host_focused; focus = c.self.inside.focus } in
    world_same c.self.inside b c.self.invariant c.make_all-made.ensures.nodes c.make_all-made.ensures.names c.make_all-made.ensures.known (ap texts_shown c.make_all-made.ensures.texts) refl refl c.know.ensures
    ∙ ap (λ (k : StoreView). k.world) c.self.view_is

pub returns-clause-ok : goal.returns-clause-ok
returns-clause-ok c =
    let b : Inside = record { tables = c.make_all-made.new.self; host_focused = c.self.inside.host_focused; focus = c.self.inside.focus } in
    let same =
    world_same c.self.inside b c.self.invariant c.make_all-made.ensures.nodes c.make_all-made.ensures.names c.make_all-made.ensures.known (ap texts_shown c.make_all-made.ensures.texts) refl refl c.know.ensures
    ∙ ap (λ (k : StoreView). k.world) c.self.view_is in
    on_ok c.make_all-made.result _ _ _ _ (λ room there spare. record {
      slots = ready c.make_all-made.new.self.nodes c.args.decision.now.nodes.items room;
      names = λ k d less. kept_is_key c.make_all-made.new.self.names.entries (slice_index_or c.args.decision.now.trees.items k d).id (there k d less);
      room = λ e. lt_true (vec_len c.make_all-made.new.self.known) (vec_capacity c.make_all-made.new.self.known) (spare (none_is c.is_none-is_new.result c.tree_index.result c.is_none-is_new.ensures ∙ ap is_none (c.tree_index.ensures ∙ ap (λ w. index_of w c.args.update.now.tree_id) (sym same) ∙ e)));
    }) c.make_all-made.ensures.room c.make_all-made.ensures.there c.make_all-made.ensures.spare

pub returns-clause-err : goal.returns-clause-err
returns-clause-err c = on_err c.make_all-made.result _ _ (λ spare. tight c.make_all-made.new.self.nodes spare) c.make_all-made.ensures.err

pub returns-clause-names : goal.returns-clause-names
returns-clause-names c =
    on_err c.make_all-made.result _ _ (λ fewer name there.
    subst (λ (k : StoreView). Contains k.names name) c.self.view_is (kept_is_key c.self.inside.tables.names.entries name (fewer name (key_is_kept c.make_all-made.new.self.names.entries name there)))) c.make_all-made.ensures.fewer
