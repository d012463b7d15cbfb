-- The passes name no fault exactly where the rules are kept, and what they leave is accepted and told.
use Rattle.std.proofs.Common.{◌↔◌, ◌≡◌, ◌≢◌, List, ◌++◌, map, Option, Some, None, option_map, ◌⊎◌, inl, inr, refl, sym, ap, ◌∙◌, subst}
use Rattle.schema.specs.declared.TreeId.{TreeId}
use Rattle.model.specs.declared.FullNodeId.{FullNodeId}
use Rattle.model.specs.World.{ROOT_NAME, World, Tree, IsNode, data_of, in_tree, graft_name, root_of, Place, Reached, Kept}
use Rattle.model.specs.World as world
use Rattle.model.specs.Focus.{OnChain}
use Rattle.model.specs.Update.{UpdateData, IsNamed, IsJudged, IsListedAt, IsRebuild, IsAccepted, KeepsRules, index_for, merged_world}
use Rattle.model.specs.State.{IsState, Lists}
use Rattle.model.specs.Differences.{PlanEvent, Added, Updated, Removed, IsAscendingListOf, IsInBoth, AreOfFocus, AreDifferences}
use Rattle.model.specs.Surgery.{IsOld, Seat, IsAt, Entered, HasEntered, Gone, IsLive, IsMovedIn, IsOpened, IsPassed, IsChanged}
use Rattle.model.proofs.State.StatePlaces.{listed_tree, lister_is_node, graft_is_node}
use Rattle.model.proofs.Update.RebuildKeeps.{graft_same, chain_old}
use Rattle.model.proofs.Update.RebuildIsThere.{rebuild_exists}
use Rattle.model.proofs.Focus.FocusIsOne.{not_graft}
use Rattle.model.proofs.Focus.FocusIsThere.{effective_focus_exists}
use Rattle.model.proofs.Update.UpdateLeavesState.{update_leaves_state}
use Rattle.model.proofs.Closure.{IsDecided}
use Rattle.model.proofs.Update.AcceptedOrFault.{decide_named}
use Rattle.model.proofs.Update.RulesOrFault.{rules_or_fault}
use Rattle.model.proofs.Worlds.Names.{certain}
use Rattle.model.proofs.Surgery.Spots.{root_at, unnamed_graft, lister_named, entered_tree, at_is_node, at_or_entered}
use Rattle.model.proofs.Surgery.LiveAndGone.{named_kept, gone_unlive, stays_reached, adopted_reached, stays_live}
use Rattle.model.proofs.Surgery.WhatIsDecided.{decide_gone}
use Rattle.model.proofs.Surgery.ChangesAreTheRebuild.{changed_rebuild}
use Rattle.model.proofs.Surgery.FocusWalk.{walked_keeps}
use Rattle.model.proofs.Surgery.WhatIsTold.{added_iff, updated_iff, removed_iff}

module _ (w : World) (u : UpdateData) (o : IsOld w) where
  abbrev m : World
  m = merged_world w u

  -- where no fault is named and the chain of the focus ends at a reached node that is no graft, the update is accepted, and leaves the changed world
  pub passed_accepted : IsPassed w u → (e : FullNodeId) → OnChain m e → Reached m e → graft_name m e ≡ None → (new : World) → IsChanged w u new → IsAccepted w u new
  passed_accepted c e on reached none new changed = ((rules_or_fault w u).0 (walked_keeps w u o c e on reached none), changed_rebuild w u o c.climbed new changed)

  -- where the rules are kept, no pass names a fault
  module _ (k : KeepsRules w u) where
    opened : IsOpened w u
    opened = record {
      first_has_info = k.first_has_info;
      first_for_root = k.first_for_root;
      later_grafted = k.later_grafted;
      later_has_info = k.later_has_info;
      later_has_index = k.later_has_index;
    }

    entered_listed : (p : Place) (c : FullNodeId) → Entered w u (Some p) c → IsListedAt w u p c
    entered_listed p c e = (inl (lister_named w u p c e.0 e.1), e.0)

    entered_once : (s t : Seat) (c : FullNodeId) → Entered w u s c → Entered w u t c → s ≡ t
    entered_once None None c a b = refl
    entered_once (Some p) None c a b = absurd (k.root_unlisted p c (entered_listed p c a) b.0)
    entered_once None (Some q) c a b = absurd (k.root_unlisted q c (entered_listed q c b) a.0)
    entered_once (Some p) (Some q) c a b = ap Some (k.listed_once p q c (entered_listed p c a) (entered_listed q c b))

    entered_is_node : (s : Seat) (c : FullNodeId) → Entered w u s c → IsNode m c
    entered_is_node None c e = k.root_is_node c (subst (λ j. root_of m j ≡ Some c) (entered_tree w u None c e) e.0)
    entered_is_node (Some p) c e = k.listed_is_node p c (entered_listed p c e)

    named_live : (n : FullNodeId) → IsNamed w u n → IsLive w u n
    named_live n named = (subst (Kept m) (sym named.0) (named_kept w u o opened), k.named_reached n named)

    named_stays : (n : FullNodeId) → IsNamed w u n → ¬ (Gone w u n)
    named_stays n named = gone_unlive w u o n (named_live n named)

    new_entered : (n : FullNodeId) → Reached m n → ¬ (IsNode w n) → HasEntered w u n
    new_entered n (world.Reached.root j t is) absent = spot None (at_or_entered w u None (in_tree j t.root) (ap (option_map (λ t. in_tree j t.root)) is))
      where
        spot : (s : Seat) → IsAt w s (in_tree j t.root) ⊎ Entered w u s (in_tree j t.root) → HasEntered w u (in_tree j t.root)
        spot s (inl was) = absurd (absent (at_is_node w u o s (in_tree j t.root) was))
        spot s (inr e) = (s, e)
    new_entered n (world.Reached.child parent n' j reached at) absent = spot (at_or_entered w u (Some (parent, j)) n at)
      where
        spot : IsAt w (Some (parent, j)) n ⊎ Entered w u (Some (parent, j)) n → HasEntered w u n
        spot (inl was) = absurd (absent (at_is_node w u o (Some (parent, j)) n was))
        spot (inr e) = (Some (parent, j), e)

    doubled_gone : (s : Seat) (q : Place) (c : FullNodeId) → Entered w u s c → Lists w q c → Lists m q c → Gone w u q.0
    doubled_gone s q c e was at = certain (decide_gone w u o q.0) (λ stays.
        let reached : Reached m q.0 = stays_reached w u o (adopted_reached w u o (λ n is adopts. k.named_reached n is)) named_stays q.0 (o.node_reached q.0 (lister_is_node w q c was)) stays in
        let tree : index_for w u.name ≡ q.0.tree = sym (entered_tree w u s c e) ∙ listed_tree w q c was in
        clash s e (inr (subst (Kept m) tree (named_kept w u o opened), reached)))
      where
        clash : (s : Seat) → Entered w u s c → IsJudged w u q.0 → ⊥
        clash None e counts = k.root_unlisted q c (counts, at) e.0
        clash (Some p) e counts = e.1 (subst (λ x. Lists w x c) (sym (k.listed_once p q c (entered_listed p c e) (counts, at))) was)

    rival_gone : (n g : FullNodeId) (name : TreeId) → IsNamed w u n → graft_name m n ≡ Some name → graft_name w n ≢ Some name → graft_name w g ≡ Some name → Gone w u g ⊎ IsNamed w u g
    rival_gone n g name named grafts gained was = go (decide_gone w u o g) (decide_named w u g)
      where
        go : IsDecided (Gone w u g) → IsDecided (IsNamed w u g) → Gone w u g ⊎ IsNamed w u g
        go (inl gone) d = inl gone
        go (inr stays) (inl is) = inr is
        go (inr stays) (inr other) =
            let live = stays_live w u o opened (adopted_reached w u o (λ n is adopts. k.named_reached n is)) named_stays named_live g (graft_is_node w g name was) stays in
            let same : n ≡ g = k.grafted_once n g name (inl named, grafts) (inr live, unnamed_graft w u g other ∙ was) in
            absurd (gained (subst (λ x. graft_name w x ≡ Some name) (sym same) was))

    pub rules_passed : IsPassed w u
    rules_passed = record {
      climbed = record {
        refined = record {
          removed = record {
            settled = record {
              compared = record {
                opened = opened;
                named_once = k.named_once;
                named_ungrafting = λ n named grafts. k.root_ungrafted n (inl named, grafts);
                named_childless = λ n name named grafts. k.graft_childless n name (inl named, grafts);
                named_apart = λ a b name x y f g. k.grafted_once a b name (inl x, f) (inl y, g);
                entered_once = entered_once;
              };
              root_unlisted = λ p c is e. k.root_unlisted p c (entered_listed p c e) (root_at m (index_for w u.name) c is);
              entered_is_node = entered_is_node;
            };
            named_stays = named_stays;
          };
          new_entered = λ n named absent. new_entered n (k.named_reached n named) absent;
          doubled_gone = doubled_gone;
        };
        adopter_reached = λ n named adopts. k.named_reached n named;
      };
      rival_gone = rival_gone;
    }

  -- where the rules are kept in a state, the chain of the focus ends at a reached node that is no graft
  pub rules_walked : IsState w → KeepsRules w u → (e : FullNodeId) × OnChain m e × Reached m e × (graft_name m e ≡ None)
  rules_walked s k =
      let r = rebuild_exists m in
      let e = effective_focus_exists (update_leaves_state w u r.0 s ((rules_or_fault w u).0 k, r.1)) in
      let on : OnChain m e.0 = chain_old r.1 e.0 e.1.0 in
      let there = (r.1.nodes e.0 e.1.1).0 e.1.2 in
      (e.0, on, there.1, sym (graft_same r.1 e.0 there.0 there.1) ∙ not_graft r.0 e.0 e.1.1 e.1.2 e.1.3)

  -- the passes name no fault exactly where the rules are kept
  pub passed_iff : IsState w → KeepsRules w u ↔ (IsPassed w u × (e : FullNodeId) × OnChain m e × Reached m e × (graft_name m e ≡ None))
  passed_iff s = (λ k. let e = rules_walked s k in (rules_passed k, e.0, e.1, e.2, e.3), λ h. walked_keeps w u o h.0 h.1 h.2 h.3 h.4)

  -- (iv): what is told, from lists of what is new, of what is changed, and of what goes
  pub told_differences : (c : IsPassed w u) (k : KeepsRules w u) (new : World) (r : IsRebuild m new) (root : Option FullNodeId)
      → (added updated removed : List FullNodeId) (of_focus : List PlanEvent)
      → IsAscendingListOf (λ id. IsNamed w u id × ¬ (IsNode w id)) added
      → IsAscendingListOf (λ id. IsInBoth w new id × ((IsNamed w u id × (data_of w id ≢ data_of m id)) ⊎ (HasEntered w u id ⊎ (IsMovedIn w u id ⊎ (root ≡ Some id))))) updated
      → AreOfFocus w new updated of_focus
      → IsAscendingListOf (Gone w u) removed
      → AreDifferences w new root (map Added added ++ map Updated updated ++ of_focus ++ map Removed removed)
  told_differences c k new r root added updated removed of_focus a b f d = record {
    added = added;
    updated = updated;
    of_focus = of_focus;
    removed = removed;
    are_added = record { ascending = a.ascending; members = λ id. let x = a.members id in let y = added_iff w u o c k r id in (λ has. y.1 (x.0 has), λ is. x.1 (y.0 is)) };
    are_updated = record { ascending = b.ascending; members = λ id. let x = b.members id in let y = updated_iff w u o c k r root id in (λ has. y.1 (x.0 has), λ is. x.1 (y.0 is)) };
    are_of_focus = f;
    are_removed = record { ascending = d.ascending; members = λ id. let x = d.members id in let y = removed_iff w u o c k r id in (λ has. y.1 (x.0 has), λ is. x.1 (y.0 is)) };
    all = refl;
  }
