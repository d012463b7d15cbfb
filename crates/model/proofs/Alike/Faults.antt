-- Of two updates that say the same but for values and lengths of characters, the same faults stand.
use Rattle.std.proofs.Common.{◌≡◌, ◌≢◌, ◌≤◌, ℕ, length, Some, ◌⊎◌, inl, inr, refl, sym, ap, subst, ◌∙◌, map}
use Rattle.std.specs.Prelude.{Contains, unwrap_or, slice_get, ◌-◌, ◌^◌}
use Rattle.std.specs.FinMap.{get}
use Rattle.schema.specs.NodeData.{NodeData}
use Rattle.schema.specs.declared.NodeId.{NodeId}
use Rattle.schema.specs.declared.TreeId.{TreeId}
use Rattle.model.specs.declared.FullNodeId.{FullNodeId}
use Rattle.model.specs.World.{World, Place, IsNode, index_of, root_of}
use Rattle.model.specs.Update.{UpdateData, index_for, merged_world, named_at, IsFirst, IsNamed, IsJudged, IsListedAt, IsGraftOf, IsOnEmptyGraft, Fault, MissingTreeInfo, NotRootTree, MissingData, NotReached, NamedTwice, ListedTwice, RootTreeGrafted, GraftWithChildren, GraftedTwice, NoGraft, NoFirstTreeInfo, FocusMissing, FocusOnEmptyGraft, IndexesUsedUp, StandsApart, Stands}
use Rattle.model.proofs.Alike.Bare as bare
use Rattle.model.proofs.Alike.Bare.{SameBare}

pub index_same : (w v : World) (a b : TreeId) → SameBare w v → a ≡ b → index_for w a ≡ index_for v b
index_same w v a b s e = (λ i. unwrap_or (bare.index s a i) (length (s.known i))) ∙ ap (index_for v) e

-- an update u of w, and an update x of v
pub record SameOrder (w : World) (u : UpdateData) (v : World) (x : UpdateData) : Type 0 where
  pub old : SameBare w v
  pub merged : SameBare (merged_world w u) (merged_world v x)
  pub name : u.name ≡ x.name
  pub info : u.info ≡ x.info
  pub ids : map (λ (e : NodeId × NodeData). e.0) u.nodes ≡ map (λ (e : NodeId × NodeData). e.0) x.nodes

pub turned : {w : World} {u : UpdateData} {v : World} {x : UpdateData} → SameOrder w u v x → SameOrder v x w u
turned s = record { old = bare.turned s.old; merged = bare.turned s.merged; name = sym s.name; info = sym s.info; ids = sym s.ids }

module _ {w : World} {u : UpdateData} {v : World} {x : UpdateData} (s : SameOrder w u v x) where
  abbrev m : World
  m = merged_world w u

  abbrev n : World
  n = merged_world v x

  index : index_for w u.name ≡ index_for v x.name
  index = index_same w v u.name x.name s.old s.name

  first : IsFirst w → IsFirst v
  first h = sym s.old.known ∙ h

  later : ¬ (IsFirst w) → ¬ (IsFirst v)
  later h g = h (s.old.known ∙ g)

  no_node : (id : FullNodeId) → ¬ (IsNode m id) → ¬ (IsNode n id)
  no_node id h g = h (bare.node (bare.turned s.merged) id g)

  named : (id : FullNodeId) → IsNamed w u id → IsNamed v x id
  named id h = (h.0 ∙ index, subst (λ ids. Contains ids id.node) s.ids h.1)

  counts : (id : FullNodeId) → IsJudged w u id → IsJudged v x id
  counts id (inl h) = inl (named id h)
  counts id (inr h) = inr (bare.kept s.merged id.tree h.0, bare.reached s.merged id h.1)

  listed_at : (p : Place) (child : FullNodeId) → IsListedAt w u p child → IsListedAt v x p child
  listed_at p child h = (counts p.0 h.0, sym (ap (λ ids. slice_get ids p.1) (bare.listed s.merged p.0)) ∙ h.1)

  graft_of : (id : FullNodeId) (name : TreeId) → IsGraftOf w u id name → IsGraftOf v x id name
  graft_of id name h = (counts id h.0, sym (bare.grafts s.merged id) ∙ h.1)

  named_place : (i : ℕ) (k : NodeId) → named_at u i ≡ Some k → named_at x i ≡ Some k
  named_place i k h = ap (λ ids. slice_get ids i) (sym s.ids) ∙ h

  missing : (id : FullNodeId) → (root_of m (index_for w u.name) ≡ Some id) ⊎ ((p : Place) × IsListedAt w u p id) → (root_of n (index_for v x.name) ≡ Some id) ⊎ ((p : Place) × IsListedAt v x p id)
  missing id (inl h) = inl (ap (root_of n) (sym index) ∙ sym (bare.rooted s.merged (index_for w u.name)) ∙ h)
  missing id (inr h) = inr (h.0, listed_at h.0 id h.1)

  twice : (id : FullNodeId) (p : Place) → ((q : Place) × (p ≢ q) × IsListedAt w u q id) ⊎ (root_of m id.tree ≡ Some id) → ((q : Place) × (p ≢ q) × IsListedAt v x q id) ⊎ (root_of n id.tree ≡ Some id)
  twice id p (inl h) = inl (h.0, h.1, listed_at h.0 id h.2)
  twice id p (inr h) = inr (sym (bare.rooted s.merged id.tree) ∙ h)

  pub apart : (f : Fault) → StandsApart w u f → StandsApart v x f
  apart MissingTreeInfo h = (first h.0, sym s.info ∙ h.1)
  apart NotRootTree h = (first h.0, λ e. h.1 (s.name ∙ e))
  apart (MissingData k) h = (h.0, h.1, no_node h.0 h.2, missing h.0 h.3)
  apart (NotReached k) h = (h.0, h.1, named h.0 h.2, λ r. h.3 (bare.reached (bare.turned s.merged) h.0 r))
  apart (NamedTwice k) h = (h.0, h.1, h.2, named_place h.0 k h.3, named_place h.1 k h.4)
  apart (ListedTwice k) h = (h.0, h.1, h.2, listed_at h.2 h.0 h.3, twice h.0 h.2 h.4)
  apart (RootTreeGrafted k) h = (h.0, h.1, graft_of h.0 _ h.2)
  apart (GraftWithChildren k) h = (h.0, h.1, h.2, graft_of h.0 h.2 h.3, λ e. h.4 (bare.listed s.merged h.0 ∙ e))
  apart (GraftedTwice k) h = (h.0, h.1, h.2, graft_of h.0 k h.3, graft_of h.1 k h.4)
  apart (NoGraft k) h = (later h.0, sym s.name ∙ h.1, h.2, λ id e. h.3 id (bare.grafts s.old id ∙ e))
  apart (NoFirstTreeInfo k) h =
      (later h.0, sym s.name ∙ h.1, ap (get v.trees) (sym (index_same w v k k s.old refl)) ∙ sym (bare.tree s.old (index_for w k)) ∙ h.2, sym s.info ∙ h.3)
  apart IndexesUsedUp h = (later h.0, ap (index_of v) (sym s.name) ∙ sym (bare.index s.old u.name) ∙ h.1, subst (λ names. 2 ^ 32 - 1 ≤ length names) s.old.known h.2)
  apart (FocusMissing k) h = absurd h
  apart (FocusOnEmptyGraft k) h = absurd h

  empty_graft : (name : TreeId) → IsOnEmptyGraft m name → IsOnEmptyGraft n name
  empty_graft name h =
      let c = s.merged in
      (h.0, bare.chain c h.0 h.1, bare.kept c h.0.tree h.2, bare.reached c h.0 h.3, sym (bare.grafts c h.0) ∙ h.4, sym (bare.named_root c name) ∙ h.5)

pub stands : {w : World} {u : UpdateData} {v : World} {x : UpdateData} → SameOrder w u v x → (f : Fault) → Stands w u f → Stands v x f
stands s (FocusMissing k) h =
    let t = turned s in
    (λ f g. h.0 f (apart t f g), λ name g. h.1 name (empty_graft t name g), h.2, h.3, bare.chain s.merged h.2 h.4, λ r. h.5 (bare.reached t.merged h.2 r))
stands s (FocusOnEmptyGraft k) h = let t = turned s in (λ f g. h.0 f (apart t f g), empty_graft s k h.1)
stands s MissingTreeInfo h = apart s MissingTreeInfo h
stands s NotRootTree h = apart s NotRootTree h
stands s (MissingData k) h = apart s (MissingData k) h
stands s (NotReached k) h = apart s (NotReached k) h
stands s (NamedTwice k) h = apart s (NamedTwice k) h
stands s (ListedTwice k) h = apart s (ListedTwice k) h
stands s (RootTreeGrafted k) h = apart s (RootTreeGrafted k) h
stands s (GraftWithChildren k) h = apart s (GraftWithChildren k) h
stands s (GraftedTwice k) h = apart s (GraftedTwice k) h
stands s (NoGraft k) h = apart s (NoGraft k) h
stands s (NoFirstTreeInfo k) h = apart s (NoFirstTreeInfo k) h
stands s IndexesUsedUp h = apart s IndexesUsedUp h
