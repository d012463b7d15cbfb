-- The way of the focus: from the root tree's declared focus, over grafts, to a node that is no graft.
use Rattle.std.proofs.Common.{◌≡◌, ◌≢◌, ◌⊎◌, ◌↔◌, ℕ, suc, ◌+◌, ◌<◌, List, [], ◌∷◌, length, slice_get, true, false, Option, Some, None, IsSome, MatchOption, option_map, option_and_then, refl, sym, ap, subst, ◌∙◌, inl, inr, ⊎_elim, arith}
use Rattle.std.specs.Option.{option_map_or}
use Rattle.std.specs.FinMap.{get, insert}
use Rattle.std.proofs.lemmas.Option.{same_Some}
use Rattle.schema.specs.NodeData.{NodeData}
use Rattle.schema.specs.declared.NodeId.{NodeId}
use Rattle.schema.specs.declared.TreeId.{TreeId}
use Rattle.model.specs.declared.FullNodeId.{FullNodeId}
use Rattle.model.specs.World.{ROOT_NAME, World, Tree, IsNode, data_of, in_tree, index_of, graft_name, root_of, root_named, focus_of, focus_named, Reached, Kept}
use Rattle.model.specs.World as world
use Rattle.model.specs.Focus.{OnChain, first, next, GoesOn, IsEffectiveFocus, IsFocus, Resolves}
use Rattle.model.specs.Update.{UpdateData, FocusOnEmptyGraft, Stands, IsNamed, IsRebuild, root_after, index_for, merged_world}
use Rattle.model.specs.Surgery.{IsOld, Gone, IsLive, IsOpened, IsPassed, IsDeep, top}
use Rattle.model.proofs.Worlds.Names.{index_of-known}
use Rattle.model.proofs.Focus.FocusIsOne.{not_graft}
use Rattle.model.proofs.State.StatePlaces.{IsSome_is, value_of, root_of_parts}
use Rattle.model.proofs.Update.Merges.{tree_elsewhere, tree_named, root_stays, known_once_after, index_for_known}
use Rattle.model.proofs.Update.RebuildKeeps.{chain_kept, reached_present}
use Rattle.model.proofs.Surgery.Spots.{unnamed_data, index_stays, index_here, index_before, name_here, first_after, root_here}
use Rattle.model.proofs.Surgery.LiveAndGone.{named_kept, live_iff, reached_node}
use Rattle.model.proofs.Surgery.FaultsStand.{empty_graft_stands}
use Rattle.model.proofs.Surgery.FocusWalk.{old_walk_short, old_next_deep, walk_short, next_deep, chain_new}
use Rattle.tree_plan.specs.declared.passes.Compared.{Compared}
use Rattle.tree_plan.specs.declared.passes.Removed.{Removed}
use Rattle.tree_plan.specs.declared.passes.Opened.{Opened}
use Rattle.tree_plan.specs.declared.focusing.Aim.{Aim}
use Rattle.tree_plan.specs.declared.focusing.End.{End}
use Rattle.tree_plan.specs.Passes.{at, has, HoldsOpened, HoldsCompared, HoldsRemoved}
use Rattle.tree_plan.specs.Aims.{IsAimIn, IsEnd, Answers, IsStaying, IsLost}

module _ (v : World) where
  rootless : (o : Option ℕ) → option_and_then (focus_of v) o ≡ None → option_and_then (root_of v) o ≡ None
  rootless None e = refl
  rootless (Some i) e = go (get v.trees i) e
    where
      go : (t : Option Tree) → option_map (λ t. in_tree i t.focus) t ≡ None → option_map (λ t. in_tree i t.root) t ≡ None
      go None e = refl
      go (Some t) e = cc

  -- a tree without a focus isn't present
  pub focus_rootless : (name : TreeId) → focus_named v name ≡ None → root_named v name ≡ None
  focus_rootless name e = rootless (index_of v name) e

  pub present_focus : (name : TreeId) → IsSome (root_named v name) → IsSome (focus_named v name)
  present_focus name there = go (focus_named v name) refl
    where
      go : (o : Option FullNodeId) → focus_named v name ≡ o → IsSome (focus_named v name)
      go None e = let r = value_of (root_named v name) there in let no : None ≡ Some r.0 = sym (focus_rootless name e) ∙ r.1 in cc
      go (Some x) e = IsSome_is x e

  pub top_focus : index_of v ROOT_NAME ≡ Some 0 → IsSome (get v.trees 0) → (e : FullNodeId) × (focus_named v ROOT_NAME ≡ Some e) × OnChain v e × (e.tree ≡ 0)
  top_focus known there =
      let t = value_of (get v.trees 0) there in
      (in_tree 0 t.0.focus, ap (option_and_then (focus_of v)) known ∙ ap (option_map (λ t. in_tree 0 t.focus)) t.1, first t.0 t.1, refl)

  goes_on : (id inner : FullNodeId) (name : TreeId) → Kept v id.tree → Reached v id → graft_name v id ≡ Some name → focus_named v name ≡ Some inner → GoesOn v id inner
  goes_on id inner name kept reached grafts declared = record { kept = kept; reached = reached; name = name; grafts = grafts; declared = declared }

  first_known : (xs : List TreeId) → v.known ≡ xs → 0 < length v.known → ((name : TreeId) → slice_get v.known 0 ≡ Some name → name ≡ ROOT_NAME) → slice_get v.known 0 ≡ Some ROOT_NAME
  first_known [] e fits is_root = let none : length v.known ≡ 0 = ap length e in absurd (omega arith)
  first_known (x ∷ xs) e fits is_root = let at : slice_get v.known 0 ≡ Some x = ap (λ k. slice_get k 0) e in at ∙ ap Some (is_root x at)

  top_present : (j : ℕ) → Kept v j → IsSome (get v.trees j) → IsSome (get v.trees 0)
  top_present j world.Kept.root there = there
  top_present j (world.Kept.grafted graft inner name kept reached grafts named) there = top_present graft.tree kept (reached_present v graft reached)

  pub aim_graft : (id : FullNodeId) (a : Aim) → IsAimIn v id a → graft_name v id ≡ a.graft
  aim_graft id a h = ap (option_and_then (λ (d : NodeData). d.tree_id)) h.1 ∙ sym h.2.0

  -- the end of the way is the effective focus, and what `focus` answers follows from which nodes are there
  pub end_effective : (e : End) → IsEnd v e → IsEffectiveFocus v e.id
  end_effective e h = (h.0, h.1, h.2, h.3)

  resolved : (e : End) (h : IsEnd v e) (a : FullNodeId) → Resolves v e.id a → e.active ≡ Some a
  resolved e h a r =
      let d : r.0 ≡ h.1 = same_Some r.0 h.1 (sym r.1 ∙ h.2) in
      let named : h.1.active_descendant ≡ Some a.node = ap (λ (d : NodeData). d.active_descendant) (sym d) ∙ r.2 in
      h.4 ∙ ap (option_map (in_tree e.id.tree)) named ∙ ap Some (λ i. record { tree = (sym r.3) i; node = a.node })

  resolves : (e : End) (h : IsEnd v e) (a : FullNodeId) → e.active ≡ Some a → IsNode v a → Resolves v e.id a
  resolves e h a is there = go h.1.active_descendant refl
    where
      go : (o : Option NodeId) → h.1.active_descendant ≡ o → Resolves v e.id a
      go None n = let no : None ≡ Some a = sym (h.4 ∙ ap (option_map (in_tree e.id.tree)) n) ∙ is in cc
      go (Some n) named =
          let same : in_tree e.id.tree n ≡ a = same_Some (in_tree e.id.tree n) a (sym (h.4 ∙ ap (option_map (in_tree e.id.tree)) named) ∙ is) in
          (h.1, h.2, named ∙ ap Some (ap (λ x. x.node) same), sym (ap (λ x. x.tree) same), there)

  pub answers_focus : v.host_focused ≡ true → (e : End) → IsEnd v e → (IsThere : FullNodeId → Type 0) → ((a : FullNodeId) → a.tree ≡ e.id.tree → IsThere a ↔ IsNode v a) → (id : FullNodeId) → Answers IsThere e id → IsFocus v (Some id)
  answers_focus host e h IsThere same id answer = (
    host,
    e.id,
    end_effective e h,
    ⊎_elim
        (λ x. let there : IsNode v id = (same id (tree id x.0)).0 x.1 in inl (resolves e h id x.0 there))
        (λ x. inr (x.0, λ a r. x.1 a (resolved e h a r) ((same a r.3).1 r.4))) answer,
  )
    where
      tree : (a : FullNodeId) → e.active ≡ Some a → a.tree ≡ e.id.tree
      tree a is = go h.1.active_descendant refl
        where
          go : (o : Option NodeId) → h.1.active_descendant ≡ o → a.tree ≡ e.id.tree
          go None n = let no : None ≡ Some a = sym (h.4 ∙ ap (option_map (in_tree e.id.tree)) n) ∙ is in cc
          go (Some n) named = sym (ap (λ x. x.tree) (same_Some (in_tree e.id.tree n) a (sym (h.4 ∙ ap (option_map (in_tree e.id.tree)) named) ∙ is)))

-- a node on the way before the update, so many grafts away from the root tree
abbrev pub OldWay : World → FullNodeId → ℕ → Type 0
OldWay w id n = OnChain w id × IsDeep w (IsNode w) id.tree n

-- a node on the way after it, so many live grafts away from the root tree
abbrev pub NewWay : World → UpdateData → FullNodeId → ℕ → Type 0
NewWay w u id n = OnChain (merged_world w u) id × IsDeep (merged_world w u) (IsLive w u) id.tree n

-- ---- before

module _ (w : World) (o : IsOld w) where
  pub old_top : IsSome (get w.trees 0) → (e : FullNodeId) × (focus_named w ROOT_NAME ≡ Some e) × OnChain w e × (e.tree ≡ 0)
  old_top there = top_focus w (index_of-known w ROOT_NAME 0 o.known_once (first_known w w.known refl (o.present_known 0 there) o.known_first)) there

  pub old_begins : IsSome (get w.trees 0) → (id : FullNodeId) → focus_named w ROOT_NAME ≡ Some id → OldWay w id 0
  old_begins there id declared =
      let e = old_top there in
      let same : e.0 ≡ id = same_Some e.0 id (sym e.1 ∙ declared) in
      subst (λ x. OldWay w x 0) same (e.2, subst (λ i. IsDeep w (IsNode w) i 0) (sym e.3) top)

  pub old_next_there : (id : FullNodeId) (name : TreeId) → OnChain w id → graft_name w id ≡ Some name → IsSome (focus_named w name)
  old_next_there id name on grafts = present_focus w name (o.focus_goes_on id name on grafts)

  pub old_goes : (id inner : FullNodeId) (name : TreeId) (n : ℕ) → OldWay w id n → graft_name w id ≡ Some name → focus_named w name ≡ Some inner → OldWay w inner (n + 1)
  old_goes id inner name n way grafts declared =
      let there = o.focus_is_node id way.0 in
      let goes = goes_on w id inner name (chain_kept w id way.0) (o.node_reached id there) grafts declared in
      let more : suc n ≡ n + 1 = omega arith in
      (next id inner way.0 goes, subst (IsDeep w (IsNode w) inner.tree) more (old_next_deep w id inner n there goes way.1))

  pub old_short : IsSome (get w.trees 0) → (id : FullNodeId) (n : ℕ) → OldWay w id n → n < length w.known
  old_short there id n way = old_walk_short w o (o.present_known 0 there) id.tree n way.1

-- ---- after

module _ (w : World) (u : UpdateData) (o : IsOld w) where
  abbrev m : World
  m = merged_world w u

  abbrev i : ℕ
  i = index_for w u.name

  focus_at : (x : FullNodeId) → root_of m i ≡ Some x → focus_of m i ≡ Some (in_tree i u.focus)
  focus_at x is = go (root_after w u) refl
    where
      t : (t : Tree) × (get m.trees i ≡ Some t) × (in_tree i t.root ≡ x)
      t = root_of_parts m i x is

      go : (r : Option NodeId) → root_after w u ≡ r → focus_of m i ≡ Some (in_tree i u.focus)
      go (Some r) e = ap (option_map (λ t. in_tree i t.focus)) (tree_named w u r e)
      go None e =
          let same : get m.trees i ≡ get w.trees i = ap (λ (r : Option NodeId). get (option_map_or (λ root. insert w.trees i (record { root = root; focus = u.focus })) r w.trees) i) e in
          let r = value_of (root_after w u) (root_stays w u (IsSome_is t.0 (sym same ∙ t.1))) in
          let no : None ≡ Some r.0 = sym e ∙ r.1 in
          cc

  pub focus_here : (op : Opened) → HoldsOpened w u op → focus_named m u.name ≡ Some (in_tree op.index u.focus)
  focus_here op h =
      let root : root_of m i ≡ Some (in_tree op.index op.root) = subst (λ k. root_of m k ≡ Some (in_tree op.index op.root)) h.index h.root in
      ap (option_and_then (focus_of m)) (index_here w u o) ∙ focus_at (in_tree op.index op.root) root ∙ ap (λ k. Some (in_tree k u.focus)) (sym h.index)

  pub focus_elsewhere : (name : TreeId) → name ≢ u.name → focus_named m name ≡ focus_named w name
  focus_elsewhere name other = go (index_of w name) refl (index_of m name) refl
    where
      apart : (k : ℕ) → index_of m name ≡ Some k → k ≢ i
      apart k is same = other (name_here w u o name (is ∙ ap Some same))

      go : (x : Option ℕ) → index_of w name ≡ x → (y : Option ℕ) → index_of m name ≡ y → focus_named m name ≡ focus_named w name
      go None e None f = ap (option_and_then (focus_of m)) f ∙ sym (ap (option_and_then (focus_of w)) e)
      go None e (Some k) f = let no : None ≡ Some k = sym e ∙ index_before w u o name k (apart k f) f in cc
      go (Some k) e y f =
          let known = index_stays w u o name k e in
          ap (option_and_then (focus_of m)) known
          ∙ ap (option_map (λ t. in_tree k t.focus)) (tree_elsewhere w u k (apart k known))
          ∙ sym (ap (option_and_then (focus_of w)) e)

  pub new_top : IsOpened w u → (e : FullNodeId) × (focus_named m ROOT_NAME ≡ Some e) × OnChain m e × (e.tree ≡ 0)
  new_top h =
      let root = root_here w u o h in
      let t = root_of_parts m i root.0 root.1 in
      let fits = index_for_known w u in
      let known = index_of-known m ROOT_NAME 0 (known_once_after w u o.known_once) (first_known m m.known refl (omega arith) (first_after w u o h)) in
      top_focus m known (top_present m i (named_kept w u o h) (IsSome_is t.0 t.1))

  pub new_begins : IsOpened w u → (id : FullNodeId) → focus_named m ROOT_NAME ≡ Some id → NewWay w u id 0
  new_begins h id declared =
      let e = new_top h in
      let same : e.0 ≡ id = same_Some e.0 id (sym e.1 ∙ declared) in
      subst (λ x. NewWay w u x 0) same (e.2, subst (λ k. IsDeep m (IsLive w u) k 0) (sym e.3) top)

  module _ (c : Compared) (r : Removed) (compared : HoldsCompared w u c) (removed : HoldsRemoved w u r) where
    pub stays_is : (id : FullNodeId) → IsStaying w c r id ↔ (IsNamed w u id ⊎ (IsNode w id × ¬ (Gone w u id)))
    stays_is id = (
      (λ h. ⊎_elim (λ named. let n = value_of (at c.named id) named in inl (compared.is_named id n.0 n.1).named) (λ k. inr (k.0, λ gone. k.1 ((removed.gone id).1 gone))) h),
      (λ h. ⊎_elim (λ named. inl (compared.has_named id named)) (λ k. inr (k.0, λ gone. k.1 ((removed.gone id).0 gone))) h),
    )

    -- what is asked of a node that isn't named
    pub unnamed_aim : (id : FullNodeId) → at c.named id ≡ None → ¬ (has r.gone id) → (a : Option Aim) → MatchOption a (¬ (IsNode w id)) (IsAimIn w id) → MatchOption a (IsLost w u id) (λ a. IsStaying w c r id × IsAimIn m id a)
    unnamed_aim id absent stays a h = go a h
      where
        unnamed : ¬ (IsNamed w u id)
        unnamed named = let n = value_of (at c.named id) (compared.has_named id named) in let no : None ≡ Some n.0 = sym absent ∙ n.1 in cc

        go : (a : Option Aim) → MatchOption a (¬ (IsNode w id)) (IsAimIn w id) → MatchOption a (IsLost w u id) (λ a. IsStaying w c r id × IsAimIn m id a)
        go None h = (unnamed, inr h)
        go (Some a) h = (inr (IsSome_is h.0 h.1, stays), (h.0, unnamed_data w u id unnamed ∙ h.1, h.2))

    module _ (p : IsPassed w u) where
      pub new_reached : (id : FullNodeId) → IsStaying w c r id → Reached m id
      new_reached id stays = ((live_iff w u o p.climbed id).1 ((stays_is id).0 stays)).1

      pub new_goes : (id inner : FullNodeId) (name : TreeId) (n : ℕ) → NewWay w u id n → IsStaying w c r id → graft_name m id ≡ Some name → focus_named m name ≡ Some inner → NewWay w u inner (n + 1)
      new_goes id inner name n way stays grafts declared =
          let goes = goes_on m id inner name (chain_kept m id way.0) (new_reached id stays) grafts declared in
          let more : suc n ≡ n + 1 = omega arith in
          (next id inner way.0 goes, subst (IsDeep m (IsLive w u) inner.tree) more (next_deep w u o p id inner n goes way.1))

      pub new_short : (id : FullNodeId) (n : ℕ) → NewWay w u id n → n < length m.known
      new_short id n way = walk_short w u o p id.tree n way.1

      pub empty_stands : (id : FullNodeId) (name : TreeId) → OnChain m id → IsStaying w c r id → graft_name m id ≡ Some name → focus_named m name ≡ None → Stands w u (FocusOnEmptyGraft name)
      empty_stands id name on stays grafts none = empty_graft_stands w u o p id name on ((stays_is id).0 stays) grafts (focus_rootless m name none)

      -- in the rebuilt world the end is the same, and there are the nodes that stay
      pub end_new : (new : World) → IsRebuild m new → (e : End) → IsEnd m e → Reached m e.id → IsEnd new e
      end_new new rebuilt e h reached = (chain_new rebuilt e.id h.0, h.1, (rebuilt.nodes e.id h.1).1 (chain_kept m e.id h.0, reached, h.2), h.3, h.4)

      pub there_new : (new : World) → IsRebuild m new → (e : End) → IsEnd m e → (a : FullNodeId) → a.tree ≡ e.id.tree → IsStaying w c r a ↔ IsNode new a
      there_new new rebuilt e h a tree = (to, from)
        where
          to : IsStaying w c r a → IsNode new a
          to stays =
              let live = (live_iff w u o p.climbed a).1 ((stays_is a).0 stays) in
              let d = value_of (data_of m a) (reached_node w u o p.climbed.refined.removed.settled a live.1) in
              IsSome_is d.0 ((rebuilt.nodes a d.0).1 (live.0, live.1, d.1))

          from : IsNode new a → IsStaying w c r a
          from there =
              let d = value_of (data_of new a) there in
              let k = (rebuilt.nodes a d.0).0 d.1 in
              (stays_is a).1 ((live_iff w u o p.climbed a).0 (k.0, k.1))

      pub after_new : (new : World) → IsRebuild m new → (e : End) → IsEnd m e → Reached m e.id → (x : Option FullNodeId) → MatchOption x (w.host_focused ≡ false) (λ id. (w.host_focused ≡ true) × Answers (IsStaying w c r) e id) → IsFocus new x
      after_new new rebuilt e h reached None host = rebuilt.host ∙ host
      after_new new rebuilt e h reached (Some id) answer =
          answers_focus new (rebuilt.host ∙ answer.0) e (end_new new rebuilt e h reached) (IsStaying w c r) (there_new new rebuilt e h) id answer.1

-- the end of the way grafts nothing
pub end_ungrafted : (v : World) (e : End) → IsEnd v e → graft_name v e.id ≡ None
end_ungrafted v e h = not_graft v e.id h.1 h.2 h.3
