-- Where the passes name no fault, the rules are kept but for those of the focus.
use Rattle.std.proofs.Common.{◌≡◌, ◌≢◌, [], Some, None, IsSome, inl, inr, ⊎_elim, sym, ap, ◌∙◌, subst, arith}
use Rattle.std.specs.FinMap.{get}
use Rattle.std.proofs.lemmas.Option.{same_Some}
use Rattle.schema.specs.declared.TreeId.{TreeId}
use Rattle.model.specs.declared.FullNodeId.{FullNodeId}
use Rattle.model.specs.World.{ROOT_NAME, World, IsNode, listed_ids, graft_name, root_of, root_named, Place, Reached}
use Rattle.model.specs.Focus.{OnChain}
use Rattle.model.specs.Update.{UpdateData, Fault, MissingTreeInfo, NotRootTree, MissingData, NotReached, NamedTwice, ListedTwice, RootTreeGrafted, GraftWithChildren, GraftedTwice, NoGraft, NoFirstTreeInfo, FocusMissing, FocusOnEmptyGraft, IndexesUsedUp, StandsApart, IsJudged, IsNamed, IsListedAt, IsGraftOf, KeepsRules, index_for, merged_world}
use Rattle.model.specs.State.{Lists}
use Rattle.model.specs.Surgery.{IsOld, Gone, IsLive, IsOpened, IsCompared, IsSettled, IsClimbed, IsPassed}
use Rattle.model.proofs.Closure.{IsDecided}
use Rattle.model.proofs.Update.AcceptedOrFault.{decide_named, decide_name}
use Rattle.model.proofs.Update.RulesOrFault.{no_some}
use Rattle.model.proofs.Surgery.Spots.{root_at, unnamed_lists, unnamed_graft}
use Rattle.model.proofs.Surgery.LiveAndGone.{gone_unlive, named_live, at_node, one_spot}

module _ (w : World) (u : UpdateData) (o : IsOld w) where
  abbrev m : World
  m = merged_world w u

  unlost : (p : Place) → ¬ (Gone w u p.0) → (q : Place) → Some p ≡ Some q → ¬ (Gone w u q.0)
  unlost p stays q is = subst (λ y. ¬ (Gone w u y.0)) (same_Some p q is) stays

  -- what counts is live
  pub counts_live : IsClimbed w u → (id : FullNodeId) → IsJudged w u id → IsLive w u id
  counts_live c id (inl named) = named_live w u o c id named
  counts_live c id (inr live) = live

  pub named_root_is_node : IsSettled w u → (id : FullNodeId) → root_of m (index_for w u.name) ≡ Some id → IsNode m id
  named_root_is_node r id is = at_node w u o r None id (root_at m (index_for w u.name) id is)

  pub listed_is_node : IsSettled w u → (p : Place) (child : FullNodeId) → Lists m p child → IsNode m child
  listed_is_node r p child at = at_node w u o r (Some p) child at

  pub listed_once : IsClimbed w u → (p q : Place) (child : FullNodeId) → IsListedAt w u p child → IsListedAt w u q child → p ≡ q
  listed_once c p q child a b = same_Some p q (one_spot w u o c.refined (Some p) (Some q) child a.1 b.1 (unlost p (gone_unlive w u o p.0 (counts_live c p.0 a.0))) (unlost q (gone_unlive w u o q.0 (counts_live c q.0 b.0))))

  pub root_unlisted : IsClimbed w u → (p : Place) (id : FullNodeId) → IsListedAt w u p id → root_of m id.tree ≢ Some id
  root_unlisted c p id a is =
      let same : None ≡ Some p = one_spot w u o c.refined None (Some p) id is a.1 (λ q e. cc) (unlost p (gone_unlive w u o p.0 (counts_live c p.0 a.0))) in
      cc

  pub root_ungrafted : IsCompared w u → (id : FullNodeId) → graft_name m id ≢ Some ROOT_NAME
  root_ungrafted c id grafts = go (decide_named w u id)
    where
      go : IsDecided (IsNamed w u id) → ⊥
      go (inl named) = c.named_ungrafting id named grafts
      go (inr other) = o.root_ungrafted id (sym (unnamed_graft w u id other) ∙ grafts)

  pub graft_childless : IsCompared w u → (id : FullNodeId) (name : TreeId) → graft_name m id ≡ Some name → listed_ids m id ≡ []
  graft_childless c id name grafts = go (decide_named w u id)
    where
      go : IsDecided (IsNamed w u id) → listed_ids m id ≡ []
      go (inl named) = c.named_childless id name named grafts
      go (inr other) = unnamed_lists w u id other ∙ o.graft_childless id name (sym (unnamed_graft w u id other) ∙ grafts)

  -- a named node's tree is grafted by no other live node
  rival : IsPassed w u → (a b : FullNodeId) (name : TreeId) → IsNamed w u a → ¬ (IsNamed w u b) → IsLive w u b → graft_name m a ≡ Some name → graft_name m b ≡ Some name → a ≡ b
  rival c a b name named other live grafts grafts' = go (decide_name (graft_name w a) name)
    where
      was : graft_name w b ≡ Some name
      was = sym (unnamed_graft w u b other) ∙ grafts'

      go : IsDecided (graft_name w a ≡ Some name) → a ≡ b
      go (inl before) = o.grafted_once a b name before was
      go (inr gained) = ⊎_elim (λ gone. absurd (gone_unlive w u o b live gone)) (λ is. absurd (other is)) (c.rival_gone a b name named grafts gained was)

  pub grafted_once : IsPassed w u → (a b : FullNodeId) (name : TreeId) → IsGraftOf w u a name → IsGraftOf w u b name → a ≡ b
  grafted_once c a b name f g = go (decide_named w u a) (decide_named w u b)
    where
      go : IsDecided (IsNamed w u a) → IsDecided (IsNamed w u b) → a ≡ b
      go (inl x) (inl y) = c.climbed.refined.removed.settled.compared.named_apart a b name x y f.1 g.1
      go (inl x) (inr y) = rival c a b name x y (counts_live c.climbed b g.0) f.1 g.1
      go (inr x) (inl y) = sym (rival c b a name y x (counts_live c.climbed a f.0) g.1 f.1)
      go (inr x) (inr y) = o.grafted_once a b name (sym (unnamed_graft w u a x) ∙ f.1) (sym (unnamed_graft w u b y) ∙ g.1)

  -- no fault stands but those of the focus
  pub passed_apart : IsPassed w u → (f : Fault) → ¬ (StandsApart w u f)
  passed_apart c = go c c.climbed c.climbed.refined.removed.settled c.climbed.refined.removed.settled.compared c.climbed.refined.removed.settled.compared.opened
    where
      go : IsPassed w u → IsClimbed w u → IsSettled w u → IsCompared w u → IsOpened w u → (f : Fault) → ¬ (StandsApart w u f)
      go c b s k h MissingTreeInfo x = no_some u.info x.1 (h.first_has_info x.0)
      go c b s k h NotRootTree x = x.1 (h.first_for_root x.0)
      go c b s k h (MissingData n) x = x.2 (⊎_elim (λ is. named_root_is_node s x.0 is) (λ (l : (p : Place) × IsListedAt w u p x.0). listed_is_node s l.0 x.0 l.1.1) x.3)
      go c b s k h (NotReached n) x = x.3 (named_live w u o b x.0 x.2).1
      go c b s k h (NamedTwice n) x = x.2 (k.named_once x.0 x.1 n x.3 x.4)
      go c b s k h (ListedTwice n) x = ⊎_elim (λ (q : (q : Place) × (x.2 ≢ q) × IsListedAt w u q x.0). q.1 (listed_once b x.2 q.0 x.0 x.3 q.2)) (root_unlisted b x.2 x.0 x.3) x.4
      go c b s k h (RootTreeGrafted n) x = root_ungrafted k x.0 x.2.1
      go c b s k h (GraftWithChildren n) x = x.4 (graft_childless k x.0 x.2 x.3.1)
      go c b s k h (GraftedTwice name) x = x.2 (grafted_once c x.0 x.1 name x.3 x.4)
      go c b s k h (NoGraft name) x = let g = h.later_grafted x.0 (λ e. x.2 (sym x.1 ∙ e)) in x.3 g.0 (g.1 ∙ ap Some x.1)
      go c b s k h (NoFirstTreeInfo name) x = no_some u.info x.3 (h.later_has_info x.0 (ap (λ n. get w.trees (index_for w n)) x.1 ∙ x.2))
      go c b s k h (FocusMissing n) x = x
      go c b s k h (FocusOnEmptyGraft name) x = x
      go c b s k h IndexesUsedUp x = let left = h.later_has_index x.0 x.1 in let far = x.2 in omega arith

  -- (ii): the rules are kept, where those of the focus are
  pub passed_keeps : IsPassed w u
      → ((id : FullNodeId) → OnChain m id → Reached m id)
      → ((id : FullNodeId) (name : TreeId) → OnChain m id → graft_name m id ≡ Some name → IsSome (root_named m name))
      → KeepsRules w u
  passed_keeps c focus_reached focus_goes_on =
      let k = c.climbed.refined.removed.settled.compared in
      let h = k.opened in
      record {
        first_has_info = h.first_has_info;
        first_for_root = h.first_for_root;
        root_is_node = named_root_is_node c.climbed.refined.removed.settled;
        listed_is_node = λ p child at. listed_is_node c.climbed.refined.removed.settled p child at.1;
        named_reached = λ id named. (named_live w u o c.climbed id named).1;
        named_once = k.named_once;
        listed_once = listed_once c.climbed;
        root_unlisted = root_unlisted c.climbed;
        root_ungrafted = λ id grafts. root_ungrafted k id grafts.1;
        graft_childless = λ id name grafts. graft_childless k id name grafts.1;
        grafted_once = grafted_once c;
        later_grafted = h.later_grafted;
        later_has_info = h.later_has_info;
        later_has_index = h.later_has_index;
        focus_reached = focus_reached;
        focus_goes_on = focus_goes_on;
      }
