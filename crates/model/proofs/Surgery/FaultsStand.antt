-- The fault that a pass names stands.
use Rattle.std.proofs.Common.{[], ◌≡◌, ◌≢◌, ℕ, Some, None, IsSome, option_map, ◌⊎◌, inl, inr, ⊎_elim, refl, sym, ap, ◌∙◌, subst}
use Rattle.std.proofs.lemmas.Option.{same_Some}
use Rattle.schema.specs.declared.TreeId.{TreeId}
use Rattle.model.specs.declared.FullNodeId.{FullNodeId}
use Rattle.model.specs.World.{ROOT_NAME, World, Tree, IsNode, data_of, in_tree, listed_ids, graft_name, root_of, root_named, Place, Reached, Kept}
use Rattle.model.specs.World as world
use Rattle.model.specs.Focus.{OnChain}
use Rattle.model.specs.Update.{UpdateData, MissingData, NotReached, ListedTwice, GraftedTwice, RootTreeGrafted, GraftWithChildren, FocusOnEmptyGraft, Stands, IsJudged, IsNamed, IsListedAt, index_for, merged_world}
use Rattle.model.specs.State.{Lists}
use Rattle.model.specs.Surgery.{IsOld, Seat, IsAt, Entered, HasEntered, Gone, IsLive, IsOpened, IsRemoved, IsRefined, IsClimbed, IsPassed}
use Rattle.model.proofs.State.StatePlaces.{listed_tree, lister_is_node, graft_is_node}
use Rattle.model.proofs.Update.RebuildKeeps.{chain_kept}
use Rattle.model.proofs.Surgery.Spots.{root_at, unnamed_data, unnamed_graft, lister_named, entered_tree, at_is_node, at_or_entered}
use Rattle.model.proofs.Surgery.LiveAndGone.{named_kept, gone_unlive, stays_reached, adopted_reached, live_iff, loop_unlive}
use Rattle.model.proofs.Surgery.RulesKept.{passed_apart}

module _ (w : World) (u : UpdateData) (o : IsOld w) where
  abbrev m : World
  m = merged_world w u

  abbrev i : ℕ
  i = index_for w u.name

  -- pass 1: a named node alone, or two of them
  pub named_root_graft_stands : (n : FullNodeId) → IsNamed w u n → graft_name m n ≡ Some ROOT_NAME → Stands w u (RootTreeGrafted n.node)
  named_root_graft_stands n named grafts = (n, refl, (inl named, grafts))

  pub named_children_stand : (n : FullNodeId) (name : TreeId) → IsNamed w u n → graft_name m n ≡ Some name → listed_ids m n ≢ [] → Stands w u (GraftWithChildren n.node)
  named_children_stand n name named grafts lists = (n, refl, name, (inl named, grafts), lists)

  pub named_grafts_stand : (n k : FullNodeId) (name : TreeId) → n ≢ k → IsNamed w u n → IsNamed w u k → graft_name m n ≡ Some name → graft_name m k ≡ Some name → Stands w u (GraftedTwice name)
  named_grafts_stand n k name other a b f g = (n, k, other, (inl a, f), (inl b, g))

  -- a parent of the spot, if there is one, counts
  abbrev IsOfCounting : Seat → Type 0
  IsOfCounting s = (p : Place) → s ≡ Some p → IsJudged w u p.0

  -- what has two spots is listed twice, or as a root
  two_spots_stand : (s t : Seat) (c : FullNodeId) → s ≢ t → IsAt m s c → IsAt m t c → IsOfCounting s → IsOfCounting t → Stands w u (ListedTwice c.node)
  two_spots_stand None None c other a b above beside = absurd (other refl)
  two_spots_stand (Some p) None c other a b above beside = (c, refl, p, (above p refl, a), inr b)
  two_spots_stand None (Some q) c other a b above beside = (c, refl, q, (beside q refl, b), inr a)
  two_spots_stand (Some p) (Some q) c other a b above beside = (c, refl, p, (above p refl, a), inl (q, (λ e. other (ap Some e)), (beside q refl, b)))

  entered_counting : (s : Seat) (c : FullNodeId) → Entered w u s c → IsOfCounting s
  entered_counting s c e p is = let f : Entered w u (Some p) c = subst (λ t. Entered w u t c) is e in inl (lister_named w u p c f.0 f.1)

  -- pass 1: a node that entered two spots
  pub entered_twice_stands : (s t : Seat) (c : FullNodeId) → s ≢ t → Entered w u s c → Entered w u t c → Stands w u (ListedTwice c.node)
  entered_twice_stands s t c other a b = two_spots_stand s t c other a.0 b.0 (entered_counting s c a) (entered_counting t c b)

  -- pass 2: a root that entered a place
  pub root_entered_stands : (p : Place) (c : FullNodeId) → root_of m i ≡ Some c → Entered w u (Some p) c → Stands w u (ListedTwice c.node)
  root_entered_stands p c is e = two_spots_stand (Some p) None c (λ same. cc) e.0 (root_at m i c is) (entered_counting (Some p) c e) (λ q same. cc)

  -- pass 2: what entered, isn't named and wasn't there
  pub entered_missing_stands : (s : Seat) (c : FullNodeId) → Entered w u s c → ¬ (IsNamed w u c) → ¬ (IsNode w c) → Stands w u (MissingData c.node)
  entered_missing_stands s c e other absent = (c, refl, (λ there. absent (subst IsSome (unnamed_data w u c other) there)), spot s e)
    where
      spot : (s : Seat) → Entered w u s c → (root_of m i ≡ Some c) ⊎ ((p : Place) × IsListedAt w u p c)
      spot None e = inl (subst (λ k. root_of m k ≡ Some c) (entered_tree w u None c e) e.0)
      spot (Some p) e = inr (p, (entered_counting (Some p) c e p refl, e.0))

  not_live_stands : IsOpened w u → (n : FullNodeId) → IsNamed w u n → ¬ (IsLive w u n) → Stands w u (NotReached n.node)
  not_live_stands h n named out = (n, refl, named, λ reached. out (subst (Kept m) (sym named.0) (named_kept w u o h), reached))

  -- pass 3: a named node that goes
  pub gone_stands : IsOpened w u → (n : FullNodeId) → IsNamed w u n → Gone w u n → Stands w u (NotReached n.node)
  gone_stands h n named gone = not_live_stands h n named (λ live. gone_unlive w u o n live gone)

  -- pass 4: a new named node that didn't enter
  pub unentered_stands : (n : FullNodeId) → IsNamed w u n → ¬ (IsNode w n) → ¬ (HasEntered w u n) → Stands w u (NotReached n.node)
  unentered_stands n named absent none = (n, refl, named, out n absent none)
    where
      no_spot : (n : FullNodeId) → ¬ (IsNode w n) → ¬ (HasEntered w u n) → (s : Seat) → ¬ (IsAt m s n)
      no_spot n absent none s at = ⊎_elim (λ was. absent (at_is_node w u o s n was)) (λ e. none (s, e)) (at_or_entered w u s n at)

      out : (n : FullNodeId) → ¬ (IsNode w n) → ¬ (HasEntered w u n) → ¬ (Reached m n)
      out n absent none (world.Reached.root j t is) = no_spot (in_tree j t.root) absent none None (ap (option_map (λ t. in_tree j t.root)) is)
      out n absent none (world.Reached.child parent n' k reached at) = no_spot n absent none (Some (parent, k)) at

  -- pass 4: what entered, and stays with a parent that doesn't go, where all named nodes are reached
  pub doubled_stands : IsRemoved w u → ((n : FullNodeId) → IsNamed w u n → Reached m n) → (s : Seat) (q : Place) (c : FullNodeId) → Entered w u s c → Lists w q c → Lists m q c → ¬ (Gone w u q.0) → Stands w u (ListedTwice c.node)
  doubled_stands r named s q c e was at stays =
      let reached : Reached m q.0 = stays_reached w u o (adopted_reached w u o (λ n is adopts. named n is)) r.named_stays q.0 (o.node_reached q.0 (lister_is_node w q c was)) stays in
      let tree : i ≡ q.0.tree = sym (entered_tree w u s c e) ∙ listed_tree w q c was in
      let counts : IsJudged w u q.0 = inr (subst (Kept m) tree (named_kept w u o r.settled.compared.opened), reached) in
      two_spots_stand s (Some q) c (λ same. e.1 (subst (λ t. IsAt w t c) (sym same) was)) e.0 at (entered_counting s c e) (λ p same. subst (λ x. IsJudged w u x.0) (same_Some q p same) counts)

  -- pass 5: a climb that comes to its own nodes
  pub loop_stands : IsRefined w u → (S : FullNodeId → Type 0) → ((n : FullNodeId) → S n → (p : Place) × Lists m p n × ¬ (Gone w u p.0) × S p.0) → (n : FullNodeId) → IsNamed w u n → S n → Stands w u (NotReached n.node)
  loop_stands r S up n named «in» = not_live_stands r.removed.settled.compared.opened n named (loop_unlive w u o r S up n «in»)

  -- pass 6: a name that a named node gains, and whose graft neither goes nor is named
  pub rival_stands : IsClimbed w u → (n g : FullNodeId) (name : TreeId) → IsNamed w u n → graft_name m n ≡ Some name → graft_name w n ≢ Some name → graft_name w g ≡ Some name → ¬ (Gone w u g) → ¬ (IsNamed w u g) → Stands w u (GraftedTwice name)
  rival_stands c n g name named grafts gained was stays other =
      let live = (live_iff w u o c g).1 (inr (graft_is_node w g name was, stays)) in
      (n, g, (λ same. gained (subst (λ x. graft_name w x ≡ Some name) (sym same) was)), (inl named, grafts), (inr live, unnamed_graft w u g other ∙ was))

  -- pass 7: a node on the chain that isn't named, and goes or wasn't there, isn't reached
  pub lost_unreached : IsClimbed w u → (id : FullNodeId) → OnChain m id → ¬ (IsNamed w u id) → (Gone w u id ⊎ ¬ (IsNode w id)) → ¬ (Reached m id)
  lost_unreached c id on other absent reached = out ((live_iff w u o c id).0 (chain_kept m id on, reached))
    where
      out : IsNamed w u id ⊎ (IsNode w id × ¬ (Gone w u id)) → ⊥
      out (inl named) = other named
      out (inr k) = ⊎_elim k.1 (λ n. n k.0) absent

  -- pass 7: a graft on the chain that has data, of a tree that has no root
  pub empty_graft_stands : IsPassed w u → (id : FullNodeId) (name : TreeId) → OnChain m id → (IsNamed w u id ⊎ (IsNode w id × ¬ (Gone w u id))) → graft_name m id ≡ Some name → root_named m name ≡ None → Stands w u (FocusOnEmptyGraft name)
  empty_graft_stands c id name on there grafts none = (passed_apart w u o c, (id, on, chain_kept m id on, ((live_iff w u o c.climbed id).1 there).1, grafts, none))
