-- What an update leaves, told by what goes: the named tree is kept, what goes isn't live, and what doesn't go stays.
use Rattle.std.proofs.Common.{◌≡◌, ◌≢◌, ℕ, Some, None, IsSome, option_map, ◌↔◌, ◌⊎◌, inl, inr, ⊎_elim, refl, sym, ap, ◌∙◌, subst}
use Rattle.std.proofs.lemmas.Bool.{cases_eq}
use Rattle.std.proofs.lemmas.Option.{same_Some}
use Rattle.schema.specs.declared.TreeId.{TreeId}
use Rattle.model.specs.declared.FullNodeId.{FullNodeId}
use Rattle.model.specs.World.{ROOT_NAME, World, Tree, IsNode, data_of, in_tree, index_of, listed_ids, graft_name, root_of, root_named, Place, Reached, Kept}
use Rattle.model.specs.World as world
use Rattle.model.specs.Update.{UpdateData, IsNamed, index_for, merged_world}
use Rattle.model.specs.State.{Lists}
use Rattle.model.specs.Surgery.{IsOld, Seat, IsAt, Left, Entered, HasEntered, IsGraftedByNamed, Gone, IsLive, Adopts, IsOpened, IsCompared, IsSettled, IsRemoved, IsRefined, IsClimbed, IsPassed}
use Rattle.model.specs.Surgery as surgery
use Rattle.model.proofs.Worlds.Names.{cases_id, cases_name, cases_some, certain, known-index_of, index_of_once}
use Rattle.model.proofs.State.StatePlaces.{root_of-tree, root_named_parts, listed_tree, graft_is_node}
use Rattle.model.proofs.Closure.{IsDecided}
use Rattle.model.proofs.Update.RebuildIsThere.{decide_reached, decide_kept}
use Rattle.model.proofs.Update.AcceptedOrFault.{decide_named}
use Rattle.model.proofs.Surgery.Spots.{root_named_from, root_reached, at_reached, unnamed_data, unnamed_graft, node_stays, lister_named, entered_tree, at_or_entered, at_or_left, reached_stays, index_stays, index_here, name_here, root_named_stays, spot_once, at_is_node, index_zero, zero_index, root_here}

module _ (w : World) (u : UpdateData) where
  abbrev m : World
  m = merged_world w u

  abbrev i : ℕ
  i = index_for w u.name

  -- the graft of the named tree: live, and of another tree
  abbrev pub IsItsGraft : FullNodeId → Type 0
  IsItsGraft g = (graft_name w g ≡ Some u.name) × (g.tree ≢ i) × Kept m g.tree × Reached m g

  -- the tree with this index loses no graft without getting one
  abbrev pub IsUncut : ℕ → Type 0
  IsUncut index = (g : FullNodeId) (name : TreeId) → (Gone w u g ⊎ IsNamed w u g) → graft_name w g ≡ Some name → ¬ (IsGraftedByNamed w u name) → index_of w name ≡ Some index → ⊥

  module _ (o : IsOld w) where
    -- ---- K: the named tree is kept

    -- a name that has this index in the old world is the update's
    name_at : (h : IsOpened w u) (name : TreeId) → index_of w name ≡ Some i → name ≡ u.name
    name_at h name is = name_here w u o name (index_stays w u o name i is)

    kept_or_grafted : (h : IsOpened w u) → u.name ≢ ROOT_NAME → (index : ℕ) → Kept w index → ((g : FullNodeId) × IsItsGraft g) ⊎ ((index ≢ i) × Kept m index)
    kept_or_grafted h other index world.Kept.root = inr ((λ e. other (zero_index w u o h (sym e))), world.Kept.root)
    kept_or_grafted h other index (world.Kept.grafted graft inner name kept reached grafts named) = go (kept_or_grafted h other graft.tree kept) (cases_eq inner.tree i)
      where
        go : ((g : FullNodeId) × IsItsGraft g) ⊎ ((graft.tree ≢ i) × Kept m graft.tree) → (inner.tree ≡ i) ⊎ (inner.tree ≡ i → ⊥) → ((g : FullNodeId) × IsItsGraft g) ⊎ ((inner.tree ≢ i) × Kept m inner.tree)
        go (inl g) c = inl g
        go (inr k) (inl same) = inl (graft, (grafts ∙ ap Some (name_at h name ((root_named_parts w name inner named).0 ∙ ap Some same)), k.0, k.1, reached_stays w u graft k.0 reached))
        go (inr k) (inr apart) =
            let grafts' : graft_name m graft ≡ Some name = unnamed_graft w u graft (λ n. k.0 n.0) ∙ grafts in
            inr (apart, world.Kept.grafted graft inner name k.1 (reached_stays w u graft k.0 reached) grafts' (root_named_stays w u o name inner apart named))

    pub graft_live : IsOpened w u → u.name ≢ ROOT_NAME → (g : FullNodeId) × IsItsGraft g
    graft_live h other =
        let g = h.later_grafted (λ first. other (h.first_for_root first)) other in
        let there : IsNode w g.0 = graft_is_node w g.0 u.name g.1 in
        go g.0 g.1 (o.node_reached g.0 there) (kept_or_grafted h other g.0.tree (o.present_kept g.0.tree (o.node_present g.0 there)))
      where
        go : (g : FullNodeId) → graft_name w g ≡ Some u.name → Reached w g → ((g : FullNodeId) × IsItsGraft g) ⊎ ((g.tree ≢ i) × Kept m g.tree) → (g : FullNodeId) × IsItsGraft g
        go g grafts reached (inl f) = f
        go g grafts reached (inr k) = (g, (grafts, k.0, k.1, reached_stays w u g k.0 reached))

    pub named_kept : IsOpened w u → Kept m i
    named_kept h = go (cases_name u.name ROOT_NAME)
      where
        go : (u.name ≡ ROOT_NAME) ⊎ (u.name ≢ ROOT_NAME) → Kept m i
        go (inl same) = subst (Kept m) (sym (index_zero w u o same)) world.Kept.root
        go (inr other) =
            let g = graft_live h other in
            let r = root_here w u o h in
            let grafts : graft_name m g.0 ≡ Some u.name = unnamed_graft w u g.0 (λ n. g.1.1 n.0) ∙ g.1.0 in
            let named : root_named m u.name ≡ Some r.0 = root_named_from m u.name i r.0 (index_here w u o) r.1 in
            subst (Kept m) (sym (root_of-tree m i r.0 r.1)) (world.Kept.grafted g.0 r.0 u.name g.1.2 g.1.3 grafts named)

    -- ---- U: what goes isn't live

    -- nothing that entered goes
    pub entered_stays : (s : Seat) (c : FullNodeId) → Entered w u s c → ¬ (Gone w u c)
    entered_stays s c e (surgery.Gone.left t c' l none) = none (s, e)
    entered_stays s c e (surgery.Gone.child p c' g at none) = none (s, e)
    entered_stays s c e (surgery.Gone.under g c' name gone grafts other named none) = none (s, e)
    entered_stays s c e (surgery.Gone.cut g c' name is grafts other named none) = none (s, e)

    -- a node at one place in both worlds goes only where its parent goes
    stays_below : (p : Place) (c : FullNodeId) → Lists w p c → Lists m p c → ¬ (Gone w u p.0) → ¬ (Gone w u c)
    stays_below p c was at above (surgery.Gone.left s c' l none) = l.1 (subst (λ t. IsAt m t c) (spot_once w u o (Some p) s c was l.0) at)
    stays_below p c was at above (surgery.Gone.child q c' g lists none) = above (subst (λ x. Gone w u x.0) (o.listed_once q p c lists was) g)
    stays_below p c was at above (surgery.Gone.under g c' name gone grafts other named none) = o.root_unlisted p c.tree c (root_named_parts w name c named).1 was
    stays_below p c was at above (surgery.Gone.cut g c' name is grafts other named none) = o.root_unlisted p c.tree c (root_named_parts w name c named).1 was

    -- a root of both worlds goes only where a graft is lost
    pub root_stays : (c : FullNodeId) → root_of w c.tree ≡ Some c → root_of m c.tree ≡ Some c
        → ((g : FullNodeId) (name : TreeId) → (Gone w u g ⊎ IsNamed w u g) → graft_name w g ≡ Some name → ¬ (IsGraftedByNamed w u name) → index_of w name ≡ Some c.tree → ⊥) → ¬ (Gone w u c)
    root_stays c was at kept (surgery.Gone.left s c' l none) = l.1 (subst (λ t. IsAt m t c) (spot_once w u o None s c was l.0) at)
    root_stays c was at kept (surgery.Gone.child q c' g lists none) = o.root_unlisted q c.tree c was lists
    root_stays c was at kept (surgery.Gone.under g c' name gone grafts other named none) = kept g name (inl gone) grafts other (root_named_parts w name c named).0
    root_stays c was at kept (surgery.Gone.cut g c' name is grafts other named none) = kept g name (inr is) grafts other (root_named_parts w name c named).0

    -- in a tree that loses no graft, what is reached doesn't go
    uncut_stays : (index : ℕ) → IsUncut index → (x : FullNodeId) → Reached m x → x.tree ≡ index → ¬ (Gone w u x)
    uncut_stays index uncut x (world.Reached.root j t is) same = go (at_or_entered w u None (in_tree j t.root) at)
      where
        at : root_of m j ≡ Some (in_tree j t.root)
        at = ap (option_map (λ t. in_tree j t.root)) is

        go : IsAt w None (in_tree j t.root) ⊎ Entered w u None (in_tree j t.root) → ¬ (Gone w u (in_tree j t.root))
        go (inl was) = root_stays (in_tree j t.root) was at (λ g name lost grafts other known. uncut g name lost grafts other (known ∙ ap Some same))
        go (inr e) = entered_stays None (in_tree j t.root) e
    uncut_stays index uncut x (world.Reached.child parent x' k reached at) same = go (at_or_entered w u (Some (parent, k)) x at) (uncut_stays index uncut parent reached (sym (listed_tree m (parent, k) x at) ∙ same))
      where
        go : IsAt w (Some (parent, k)) x ⊎ Entered w u (Some (parent, k)) x → ¬ (Gone w u parent) → ¬ (Gone w u x)
        go (inl was) above = stays_below (parent, k) x was at above
        go (inr e) above = entered_stays (Some (parent, k)) x e

    pub kept_uncut : (index : ℕ) → Kept m index → IsUncut index
    kept_uncut index world.Kept.root g name lost grafts other known = o.root_ungrafted g (grafts ∙ ap Some (o.known_first name (known-index_of w name 0 known)))
    kept_uncut index (world.Kept.grafted y inner v kept reached grafts' named) g name lost grafts other known = go (uncut_stays y.tree (kept_uncut y.tree kept) y reached refl) (decide_named w u y)
      where
        same : v ≡ name
        same = index_of_once m v name inner.tree (root_named_parts m v inner named).0 (index_stays w u o name inner.tree known)

        go : ¬ (Gone w u y) → IsDecided (IsNamed w u y) → ⊥
        go above (inl n) = other (y, n, grafts' ∙ ap Some same)
        go above (inr n) =
            let one : y ≡ g = o.grafted_once y g name (sym (unnamed_graft w u y n) ∙ grafts' ∙ ap Some same) grafts in
            ⊎_elim (λ gone. above (subst (Gone w u) (sym one) gone)) (λ is. n (subst (IsNamed w u) (sym one) is)) lost

    pub gone_unlive : (x : FullNodeId) → IsLive w u x → ¬ (Gone w u x)
    gone_unlive x live = uncut_stays x.tree (kept_uncut x.tree live.0) x live.1 refl

    -- the nodes that a search finds are all that go: those that left, with each its children and the root of its tree, and the roots of the trees cut off
    pub gone_found : (G : FullNodeId → Type 0)
        → ((s : Seat) (c : FullNodeId) → Left w u s c → ¬ (HasEntered w u c) → G c)
        → ((p : Place) (c : FullNodeId) → G p.0 → Lists w p c → ¬ (HasEntered w u c) → G c)
        → ((graft c : FullNodeId) (name : TreeId) → G graft ⊎ IsNamed w u graft → graft_name w graft ≡ Some name → ¬ (IsGraftedByNamed w u name) → root_named w name ≡ Some c → ¬ (HasEntered w u c) → G c)
        → (x : FullNodeId) → Gone w u x → G x
    gone_found G left below cut x (surgery.Gone.left s x' l none) = left s x l none
    gone_found G left below cut x (surgery.Gone.child p x' gone at none) = below p x (gone_found G left below cut p.0 gone) at none
    gone_found G left below cut x (surgery.Gone.under g x' name gone grafts other named none) = cut g x name (inl (gone_found G left below cut g gone)) grafts other named none
    gone_found G left below cut x (surgery.Gone.cut g x' name is grafts other named none) = cut g x name (inr is) grafts other named none

    -- ---- O: what doesn't go stays reached

    -- an old node that entered below another parent than its own is reached
    abbrev IsMovedReached : Type 0
    IsMovedReached = (p : Place) (c : FullNodeId) → IsNode w c → Entered w u (Some p) c → ((j : ℕ) → ¬ (Lists w (p.0, j) c)) → Reached m c

    abbrev IsNamedStaying : Type 0
    IsNamedStaying = (n : FullNodeId) → IsNamed w u n → ¬ (Gone w u n)

    -- the parent of a spot, if any, doesn't go
    abbrev IsUnlost : Seat → Type 0
    IsUnlost s = (p : Place) → s ≡ Some p → ¬ (Gone w u p.0)

    -- an old node that neither entered nor goes has its spot, and its parent doesn't go
    pub spot_stays : (s : Seat) (x : FullNodeId) → IsAt w s x → ¬ (HasEntered w u x) → ¬ (Gone w u x) → IsAt m s x × IsUnlost s
    spot_stays s x was none stays = (⊎_elim (λ at. at) (λ l. absurd (stays (surgery.Gone.left s x l none))) (at_or_left w u s x was), above s was)
      where
        above : (s : Seat) → IsAt w s x → IsUnlost s
        above s was p is gone = stays (surgery.Gone.child p x gone (subst (λ t. IsAt w t x) is was) none)

    -- what a node lists newly, it lists as a named node, which doesn't go
    pub entered_unlost : IsNamedStaying → (s : Seat) (x : FullNodeId) → Entered w u s x → IsUnlost s
    entered_unlost named s x e p is =
        let f : Entered w u (Some p) x = subst (λ t. Entered w u t x) is e in
        named p.0 (lister_named w u p x f.0 f.1)

    entered_reached : IsMovedReached → IsNamedStaying → (s : Seat) (x : FullNodeId) → IsAt w s x → ((q : Place) → s ≡ Some q → ¬ (Gone w u q.0) → Reached m q.0) → (t : Seat) → Entered w u t x → Reached m x
    entered_reached moved named s x was above None e = root_reached m x.tree x e.0
    entered_reached moved named None x was above (Some p) e = moved p x (at_is_node w u o None x was) e (λ j lists. o.root_unlisted (p.0, j) x.tree x was lists)
    entered_reached moved named (Some q) x was above (Some p) e = go (cases_id q.0 p.0)
      where
        go : (q.0 ≡ p.0) ⊎ (q.0 ≢ p.0) → Reached m x
        go (inl same) = world.Reached.child p.0 x p.1 (subst (Reached m) same (above q refl (subst (λ y. ¬ (Gone w u y)) (sym same) (named p.0 (lister_named w u p x e.0 e.1))))) e.0
        go (inr other) = moved p x (at_is_node w u o (Some q) x was) e (λ j lists. other (ap (λ z. z.0) (o.listed_once q (p.0, j) x was lists)))

    at_stays_reached : IsMovedReached → IsNamedStaying → (s : Seat) (x : FullNodeId) → IsAt w s x → ((q : Place) → s ≡ Some q → ¬ (Gone w u q.0) → Reached m q.0) → ¬ (Gone w u x) → Reached m x
    at_stays_reached moved named s x was above stays = certain (decide_reached m x) (λ lost.
        let none : ¬ (HasEntered w u x) = λ e. lost (entered_reached moved named s x was above e.0 e.1) in
        let f = spot_stays s x was none stays in
        lost (at_reached m s x f.0 (λ p is. above p is (f.1 p is))))

    pub stays_reached : IsMovedReached → IsNamedStaying → (x : FullNodeId) → Reached w x → ¬ (Gone w u x) → Reached m x
    stays_reached moved named x (world.Reached.root j t is) stays = at_stays_reached moved named None (in_tree j t.root) (ap (option_map (λ t. in_tree j t.root)) is) (λ q e. cc) stays
    stays_reached moved named x (world.Reached.child parent x' k reached at) stays =
        let up : ¬ (Gone w u parent) → Reached m parent = stays_reached moved named parent reached in
        at_stays_reached moved named (Some (parent, k)) x at (λ q e stay. let same : parent ≡ q.0 = ap (λ z. z.0) (same_Some (parent, k) q e) in subst (Reached m) same (up (subst (λ y. ¬ (Gone w u y)) (sym same) stay))) stays

    -- what moved is reached where those that adopt are
    pub adopted_reached : ((n : FullNodeId) → IsNamed w u n → Adopts w u n → Reached m n) → IsMovedReached
    adopted_reached adopters p c there e none = world.Reached.child p.0 c p.1 (adopters p.0 (lister_named w u p c e.0 e.1) (p.1, c, e, none)) e.0

    -- ---- O': so it is in other trees

    abbrev IsNamedLive : Type 0
    IsNamedLive = (n : FullNodeId) → IsNamed w u n → IsLive w u n

    -- with its root all of another tree goes
    tree_gone : (root : FullNodeId) → root.tree ≢ i → root_of w root.tree ≡ Some root → Gone w u root → (x : FullNodeId) → Reached w x → x.tree ≡ root.tree → Gone w u x
    tree_gone root other is gone x (world.Reached.root j t there) same =
        let root_is : root_of w root.tree ≡ Some (in_tree j t.root) = subst (λ k. root_of w k ≡ Some (in_tree j t.root)) same (ap (option_map (λ t. in_tree j t.root)) there) in
        subst (Gone w u) (same_Some root (in_tree j t.root) (sym is ∙ root_is)) gone
    tree_gone root other is gone x (world.Reached.child parent x' k reached at) same =
        let above : Gone w u parent = tree_gone root other is gone parent reached (sym (listed_tree w (parent, k) x at) ∙ same) in
        surgery.Gone.child (parent, k) x above at (λ e. other (sym same ∙ entered_tree w u e.0 x e.1))

    stays_kept : IsOpened w u → IsMovedReached → IsNamedStaying → IsNamedLive → (index : ℕ) → Kept w index → (x : FullNodeId) → IsNode w x → x.tree ≡ index → ¬ (Gone w u x) → Kept m index
    stays_kept h moved named live index world.Kept.root x there same stays = world.Kept.root
    stays_kept h moved named live index (world.Kept.grafted y inner name kept reached grafts is) x there same stays =
        certain (decide_kept m inner.tree) (λ out.
        let other : inner.tree ≢ i = λ e. out (subst (Kept m) (sym e) (named_kept h)) in
        let f = root_named_parts w name inner is in
        let spare : ¬ (Gone w u inner) = λ gone. stays (tree_gone inner other f.1 gone x (o.node_reached x there) same) in
        let none : ¬ (HasEntered w u inner) = λ e. other (entered_tree w u e.0 inner e.1) in
        let after : root_named m name ≡ Some inner = root_named_stays w u o name inner other is in
        let ungrafted : ¬ (IsGraftedByNamed w u name) = λ g. let l = live g.0 g.1 in out (world.Kept.grafted g.0 inner name l.0 l.1 g.2 after) in
        let unnamed : ¬ (IsNamed w u y) = λ n. spare (surgery.Gone.cut y inner name n grafts ungrafted is none) in
        let y_stays : ¬ (Gone w u y) = λ gone. spare (surgery.Gone.under y inner name gone grafts ungrafted is none) in
        out (world.Kept.grafted y inner name (stays_kept h moved named live y.tree kept y (graft_is_node w y name grafts) refl y_stays) (stays_reached moved named y reached y_stays) (unnamed_graft w u y unnamed ∙ grafts) after))

    pub stays_live : IsOpened w u → IsMovedReached → IsNamedStaying → IsNamedLive → (x : FullNodeId) → IsNode w x → ¬ (Gone w u x) → IsLive w u x
    stays_live h moved named live x there stays =
        (stays_kept h moved named live x.tree (o.present_kept x.tree (o.node_present x there)) x there refl stays, stays_reached moved named x (o.node_reached x there) stays)

    -- ---- N: the named nodes are reached

    pub named_reached : IsRefined w u → ((n : FullNodeId) → IsNamed w u n → Adopts w u n → Reached m n) → (n : FullNodeId) → IsNamed w u n → Reached m n
    named_reached r adopters n named = go (cases_some (data_of w n))
      where
        new : ¬ (IsNode w n) → (s : Seat) → Entered w u s n → Reached m n
        new absent None e = root_reached m n.tree n e.0
        new absent (Some p) e = world.Reached.child p.0 n p.1 (adopters p.0 (lister_named w u p n e.0 e.1) (p.1, n, e, λ j lists. absent (o.listed_is_node (p.0, j) n lists))) e.0

        go : IsSome (data_of w n) ⊎ (IsSome (data_of w n) → ⊥) → Reached m n
        go (inl there) = stays_reached (adopted_reached adopters) r.removed.named_stays n (o.node_reached n there) (r.removed.named_stays n named)
        go (inr absent) = let e = r.new_entered n named absent in new absent e.0 e.1

    pub named_live : IsClimbed w u → (n : FullNodeId) → IsNamed w u n → IsLive w u n
    named_live c n named = (subst (Kept m) (sym named.0) (named_kept c.refined.removed.settled.compared.opened), named_reached c.refined c.adopter_reached n named)

    -- ---- M: what is live

    -- what is at a spot has data
    pub at_node : IsSettled w u → (s : Seat) (c : FullNodeId) → IsAt m s c → IsNode m c
    at_node r s c at = ⊎_elim (λ was. node_stays w u c (at_is_node w u o s c was)) (λ e. r.entered_is_node s c e) (at_or_entered w u s c at)

    pub reached_node : IsSettled w u → (x : FullNodeId) → Reached m x → IsNode m x
    reached_node r x (world.Reached.root j t is) = at_node r None (in_tree j t.root) (ap (option_map (λ t. in_tree j t.root)) is)
    reached_node r x (world.Reached.child parent x' k reached at) = at_node r (Some (parent, k)) x at

    pub live_iff : IsClimbed w u → (x : FullNodeId) → IsLive w u x ↔ (IsNamed w u x ⊎ (IsNode w x × ¬ (Gone w u x)))
    live_iff c x = (λ live. to live (decide_named w u x), from)
      where
        to : IsLive w u x → IsDecided (IsNamed w u x) → IsNamed w u x ⊎ (IsNode w x × ¬ (Gone w u x))
        to live (inl named) = inl named
        to live (inr other) = inr (subst IsSome (unnamed_data w u x other) (reached_node c.refined.removed.settled x live.1), gone_unlive x live)

        from : IsNamed w u x ⊎ (IsNode w x × ¬ (Gone w u x)) → IsLive w u x
        from (inl named) = named_live c x named
        from (inr old) = stays_live c.refined.removed.settled.compared.opened (adopted_reached c.adopter_reached) c.refined.removed.named_stays (named_live c) x old.0 old.1

    -- ---- P: one spot

    -- what entered and stays at its old spot stays with a parent that goes
    entered_doubled : IsRefined w u → (s t : Seat) (c : FullNodeId) → Entered w u s c → IsAt w t c → IsAt m t c → ¬ (IsUnlost t)
    entered_doubled r None None c e was at above = e.1 was
    entered_doubled r (Some p) None c e was at above = r.removed.settled.root_unlisted p c (subst (λ k. root_of m k ≡ Some c) (entered_tree w u (Some p) c e) at) e
    entered_doubled r s (Some q) c e was at above = above q refl (r.doubled_gone s q c e was at)

    pub one_spot : IsRefined w u → (s t : Seat) (c : FullNodeId) → IsAt m s c → IsAt m t c → IsUnlost s → IsUnlost t → s ≡ t
    one_spot r s t c a b above beside = go (at_or_entered w u s c a) (at_or_entered w u t c b)
      where
        go : IsAt w s c ⊎ Entered w u s c → IsAt w t c ⊎ Entered w u t c → s ≡ t
        go (inl x) (inl y) = spot_once w u o s t c x y
        go (inr x) (inr y) = r.removed.settled.compared.entered_once s t c x y
        go (inr x) (inl y) = absurd (entered_doubled r s t c x y b beside)
        go (inl x) (inr y) = absurd (entered_doubled r t s c y x a above)

    -- ---- C: loops aren't reached

    -- a set without roots that has, with a node, its parents that don't go, has no live node
    pub closed_unlive : (S : FullNodeId → Type 0) → ((n : FullNodeId) → S n → root_of m n.tree ≢ Some n) → ((n : FullNodeId) (p : Place) → S n → Lists m p n → ¬ (Gone w u p.0) → S p.0) → (x : FullNodeId) → Kept m x.tree → Reached m x → ¬ (S x)
    closed_unlive S unrooted closed x kept (world.Reached.root j t is) «in» = unrooted (in_tree j t.root) «in» (ap (option_map (λ t. in_tree j t.root)) is)
    closed_unlive S unrooted closed x kept (world.Reached.child parent x' k reached at) «in» =
        let above : Kept m parent.tree = subst (Kept m) (listed_tree m (parent, k) x at) kept in
        closed_unlive S unrooted closed parent above reached (closed x (parent, k) «in» at (gone_unlive parent (above, reached)))

    -- a set in which each node has a parent that doesn't go has no live node: a climb that comes to its own nodes is right
    pub loop_unlive : IsRefined w u → (S : FullNodeId → Type 0) → ((n : FullNodeId) → S n → (p : Place) × Lists m p n × ¬ (Gone w u p.0) × S p.0) → (x : FullNodeId) → S x → ¬ (IsLive w u x)
    loop_unlive r S up x «in» live = closed_unlive S unrooted closed x live.0 live.1 «in»
      where
        unlost : (p : Place) → ¬ (Gone w u p.0) → IsUnlost (Some p)
        unlost p stays q is = subst (λ y. ¬ (Gone w u y.0)) (same_Some p q is) stays

        unrooted : (n : FullNodeId) → S n → root_of m n.tree ≢ Some n
        unrooted n is root = let f = up n is in let same : None ≡ Some f.0 = one_spot r None (Some f.0) n root f.1 (λ p e. cc) (unlost f.0 f.2) in cc

        closed : (n : FullNodeId) (p : Place) → S n → Lists m p n → ¬ (Gone w u p.0) → S p.0
        closed n p is at stays = let f = up n is in subst (λ y. S y.0) (same_Some f.0 p (one_spot r (Some f.0) (Some p) n f.1 at (unlost f.0 f.2) (unlost p stays))) f.3
