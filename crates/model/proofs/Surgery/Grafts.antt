-- Which node grafts a tree in the rebuild: a named one, or the one that did and neither goes nor is named.
use Rattle.std.proofs.Common.{◌≡◌, ◌≢◌, Some, ◌↔◌, ◌⊎◌, inl, inr, ⊎_elim, sym, ◌∙◌, subst}
use Rattle.schema.specs.declared.TreeId.{TreeId}
use Rattle.model.specs.declared.FullNodeId.{FullNodeId}
use Rattle.model.specs.World.{World, graft_name}
use Rattle.model.specs.Update.{UpdateData, IsNamed, IsRebuild, merged_world}
use Rattle.model.specs.Surgery.{IsOld, IsGraftedByNamed, Gone, IsLive, IsPassed}
use Rattle.model.proofs.State.StatePlaces.{graft_is_node}
use Rattle.model.proofs.Closure.{IsDecided}
use Rattle.model.proofs.Update.AcceptedOrFault.{decide_named}
use Rattle.model.proofs.Update.RebuildKeeps.{node_kept, graft_same}
use Rattle.model.proofs.Surgery.Spots.{unnamed_graft}
use Rattle.model.proofs.Surgery.LiveAndGone.{gone_unlive, named_live, live_iff}
use Rattle.model.proofs.Surgery.RulesKept.{grafted_once}
use Rattle.model.proofs.Surgery.WhatIsDecided.{decide_grafted}

module _ (w : World) (u : UpdateData) (o : IsOld w) (c : IsPassed w u) {new : World} (r : IsRebuild (merged_world w u) new) where
  abbrev m : World
  m = merged_world w u

  graft_before : (g : FullNodeId) (name : TreeId) → graft_name new g ≡ Some name → IsLive w u g × (graft_name m g ≡ Some name)
  graft_before g name is = let live = node_kept r g (graft_is_node new g name is) in ((live.0, live.1), sym (graft_same r g live.0 live.1) ∙ is)

  graft_after : (g : FullNodeId) (name : TreeId) → IsLive w u g → graft_name m g ≡ Some name → graft_name new g ≡ Some name
  graft_after g name live is = graft_same r g live.0 live.1 ∙ is

  -- a named node grafts what it says
  pub named_graft : (n : FullNodeId) (name : TreeId) → IsNamed w u n → graft_name m n ≡ Some name → (g : FullNodeId) → (graft_name new g ≡ Some name) ↔ (g ≡ n)
  named_graft n name named grafts g = (
    λ is. let f = graft_before g name is in grafted_once w u o c g n name (inr f.0, f.1) (inl named, grafts),
    λ same. subst (λ x. graft_name new x ≡ Some name) (sym same) (graft_after n name (named_live w u o c.climbed n named) grafts),
  )

  -- a tree that loses its graft and gets no other has none
  pub lost_graft : (g : FullNodeId) (name : TreeId) → graft_name w g ≡ Some name → Gone w u g ⊎ IsNamed w u g → ¬ (IsGraftedByNamed w u name) → (x : FullNodeId) → graft_name new x ≢ Some name
  lost_graft g name was lost none x is = go (decide_named w u x)
    where
      f : IsLive w u x × (graft_name m x ≡ Some name)
      f = graft_before x name is

      go : IsDecided (IsNamed w u x) → ⊥
      go (inl named) = none (x, named, f.1)
      go (inr other) =
          let same : x ≡ g = o.grafted_once x g name (sym (unnamed_graft w u x other) ∙ f.1) was in
          ⊎_elim (λ gone. gone_unlive w u o x f.0 (subst (Gone w u) (sym same) gone)) (λ named. other (subst (IsNamed w u) (sym same) named)) lost

  -- where no named node gains a tree, and its graft isn't lost, the graft stays
  pub same_graft : (name : TreeId) → ((n : FullNodeId) → IsNamed w u n → graft_name m n ≡ Some name → graft_name w n ≡ Some name)
      → ((g : FullNodeId) → graft_name w g ≡ Some name → Gone w u g ⊎ IsNamed w u g → ¬ (¬ (IsGraftedByNamed w u name)))
      → (g : FullNodeId) → (graft_name new g ≡ Some name) ↔ (graft_name w g ≡ Some name)
  same_graft name ungained unlost g = (λ is. let f = graft_before g name is in to f.0 f.1 (decide_named w u g), λ was. from was (decide_named w u g) (decide_grafted w u name))
    where
      to : IsLive w u g → graft_name m g ≡ Some name → IsDecided (IsNamed w u g) → graft_name w g ≡ Some name
      to live is (inl named) = ungained g named is
      to live is (inr other) = sym (unnamed_graft w u g other) ∙ is

      by_named : graft_name w g ≡ Some name → IsGraftedByNamed w u name → graft_name new g ≡ Some name
      by_named was h =
          let same : g ≡ h.0 = o.grafted_once g h.0 name was (ungained h.0 h.1 h.2) in
          (named_graft h.0 name h.1 h.2 g).1 same

      from : graft_name w g ≡ Some name → IsDecided (IsNamed w u g) → IsDecided (IsGraftedByNamed w u name) → graft_name new g ≡ Some name
      from was d (inl h) = by_named was h
      from was (inl named) (inr none) = absurd (unlost g was (inr named) none)
      from was (inr other) (inr none) =
          let live = (live_iff w u o c.climbed g).1 (inr (graft_is_node w g name was, λ gone. unlost g was (inl gone) none)) in
          graft_after g name live (unnamed_graft w u g other ∙ was)
