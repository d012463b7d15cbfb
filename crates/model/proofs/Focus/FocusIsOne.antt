-- The effective focus of a world is one.
use Rattle.std.proofs.Common.{◌≡◌, Option, Some, None, ◌⊎◌, inl, inr, refl, sym, ap, ◌∙◌, subst}
use Rattle.std.specs.FinMap.{get}
use Rattle.schema.specs.NodeData.{NodeData}
use Rattle.model.specs.declared.FullNodeId.{FullNodeId}
use Rattle.model.specs.World.{World, Tree, HasData, in_tree, graft_name, focus_named}
use Rattle.model.specs.Focus.{OnChain, first, next, GoesOn, IsEffectiveFocus, Resolves, IsFocus}

pub not_graft : (w : World) (id : FullNodeId) (d : NodeData) → HasData w id d → d.tree_id ≡ None → graft_name w id ≡ None
not_graft w id d is none = rw is none

-- the focus goes from x on to y in any number of steps
pub data Leads (w : World) (x : FullNodeId) : FullNodeId → Type 0 where
  here : Leads w x x
  step : (y z : FullNodeId) → Leads w x y → GoesOn w y z → Leads w x z

module _ {w : World} where
  goes_on_once : (x y z : FullNodeId) → GoesOn w x y → GoesOn w x z → y ≡ z
  goes_on_once x y z p q =
      let name : p.name ≡ q.name = cc (p.grafts, q.grafts) in
      cc (p.declared, q.declared, ap (focus_named w) name)

  from_first : (t : Tree) → get w.trees 0 ≡ Some t → (e : FullNodeId) → OnChain w e → Leads w (in_tree 0 t.focus) e
  from_first t is e (first t' is') = let same : t ≡ t' = cc in subst (λ u. Leads w (in_tree 0 t.focus) (in_tree 0 u.focus)) same here
  from_first t is e (next graft id on goes) = step graft id (from_first t is graft on) goes

  pub by_head : (x e : FullNodeId) → Leads w x e → (x ≡ e) ⊎ ((y : FullNodeId) × GoesOn w x y × Leads w y e)
  by_head x e here = inl refl
  by_head x e (step y z leads goes) = elim (by_head x y leads) [ inl same ↦ inr (z, subst (λ u. GoesOn w u z) (sym same) goes, here) | inr h ↦ inr (h.0, h.1, step y z h.2 goes) ]

  pub ends : (e : FullNodeId) → graft_name w e ≡ None → (y : FullNodeId) → ¬ (GoesOn w e y)
  ends e none y goes = cc (goes.grafts)

  -- from each node on the chain the focus goes on to the one from which it goes no further
  pub leads_to_end : (x e : FullNodeId) → OnChain w x → OnChain w e → ((y : FullNodeId) → ¬ (GoesOn w e y)) → Leads w x e
  leads_to_end x e (first t is) on last = from_first t is e on
  leads_to_end x e (next graft id before goes) on last = elim (by_head graft e (leads_to_end graft e before on last)) [
    | inl same ↦ absurd (last id (subst (λ u. GoesOn w u id) same goes))
    | inr h ↦ subst (λ u. Leads w u e) (goes_on_once graft h.0 id h.1 goes) h.2
  ]

  pub chain_end_unique : (a b : FullNodeId) → OnChain w a → OnChain w b → ((y : FullNodeId) → ¬ (GoesOn w a y)) → ((y : FullNodeId) → ¬ (GoesOn w b y)) → a ≡ b
  chain_end_unique a b p q last_a last_b = elim (by_head a b (leads_to_end a b p q last_b)) [ inl same ↦ same | inr h ↦ absurd (last_a h.0 h.1) ]

pub effective_focus_unique : (w : World) (a b : FullNodeId) → IsEffectiveFocus w a → IsEffectiveFocus w b → a ≡ b
effective_focus_unique w a b p q =
    chain_end_unique a b p.0 q.0 (ends a (not_graft w a p.1 p.2 p.3)) (ends b (not_graft w b q.1 q.2 q.3))

pub resolves_to_one : (w : World) (id a b : FullNodeId) → Resolves w id a → Resolves w id b → a ≡ b
resolves_to_one w id a b p q =
    let same : p.0 ≡ q.0 = cc (p.1, q.1) in
    let active : a.node ≡ b.node = cc (p.2, q.2, ap (λ d. d.active_descendant) same) in
    let tree : a.tree ≡ b.tree = p.3 ∙ sym q.3 in
    λ i. record { tree = tree i; node = active i }

-- what stands for the effective focus e
abbrev Shown : World → FullNodeId → FullNodeId → Type 0
Shown w e id = Resolves w e id ⊎ ((id ≡ e) × ((a : FullNodeId) → ¬ (Resolves w e a)))

by_active : (w : World) (e x y : FullNodeId) → Shown w e x → Shown w e y → x ≡ y
by_active w e x y (inl r) (inl s) = resolves_to_one w e x y r s
by_active w e x y (inl r) (inr s) = absurd (s.1 x r)
by_active w e x y (inr r) (inl s) = absurd (r.1 y s)
by_active w e x y (inr r) (inr s) = r.0 ∙ sym s.0

-- a world has at most one answer of `focus`
pub focus_unique : (w : World) (a b : Option FullNodeId) → IsFocus w a → IsFocus w b → a ≡ b
focus_unique w None None p q = refl
focus_unique w None (Some b) p q = cc (p, q.0)
focus_unique w (Some a) None p q = cc (p.0, q)
focus_unique w (Some a) (Some b) p q =
    let e : p.1 ≡ q.1 = effective_focus_unique w p.1 q.1 p.2 q.2 in
    ap Some (by_active w q.1 a b (subst (λ f. Shown w f a) e p.3) q.3)
