-- What a climb from a node to its ancestors finds, place by place.
use Rattle.std.proofs.Common.{◌≡◌, ℕ, ◌<◌, ◌≤◌, suc, zero, [], ◌∷◌, ◌++◌, length, refl, sym, ◌∙◌, ap, arith, inl, inr, append_assoc, drop}
use Rattle.std.specs.Prelude.{Option, Some, None, Contains, ◌⊎◌}
use Rattle.std.proofs.Math.Seq.{drop-append_seam, drop-length}
use Rattle.model.specs.declared.FullNodeId.{FullNodeId}
use Rattle.model.specs.World.{World, Place, StandsAt}
use Rattle.model.specs.Forest.{place_of, IsFormed}
use Rattle.model.specs.Lists.{ancestors, IsWithin}
use Rattle.model.specs.Paths.{depth, index_path, relative_index_path}
use Rattle.model.proofs.Forest.PlaceOf.{stands_at_place}
use Rattle.model.proofs.Forest.Grown.{above_child, above_root, depth_child}
use Rattle.model.proofs.Lists.ListFacts.{path_length, path_child, path_splits}
use Rattle.model.proofs.Members.{contains_cases, contains_head, contains_later, contains_none}

module _ (w : World) (formed : IsFormed w) where
  -- what lies within a node are the node and what lies within its children
  pub within_child : (top : FullNodeId) (p : Place) (c : FullNodeId) → StandsAt w p c → IsWithin w top p.0 → IsWithin w top c
  within_child top p c e (inl same) = inr (rw (above_child w formed p c e) (contains_head p.0 top (ancestors w p.0) same))
  within_child top p c e (inr m) = inr (rw (above_child w formed p c e) (contains_later p.0 top (ancestors w p.0) m))

  -- a node within another one is that one, or has a parent within it
  pub within_parent : (top c : FullNodeId) → IsWithin w top c → (c ≡ top) ⊎ ((p : Place) × StandsAt w p c × IsWithin w top p.0)
  within_parent top c (inl same) = inl same
  within_parent top c (inr m) = go (place_of w c) refl
    where
      go : (o : Option Place) → place_of w c ≡ o → (c ≡ top) ⊎ ((p : Place) × StandsAt w p c × IsWithin w top p.0)
      go None e = absurd (contains_none top (rw (above_root w formed c e) at m))
      go (Some p) e =
          let stands : StandsAt w p c = stands_at_place w c p e in
          let found : Contains (p.0 ∷ ancestors w p.0) top = rw (above_child w formed p c stands) at m in
          elim (contains_cases p.0 top (ancestors w p.0) found) [
            | inl here ↦ inr (p, stands, inl here)
            | inr later ↦ inr (p, stands, inr later)
          ]

  -- the root lies within no other node
  pub within_root : (top c : FullNodeId) → place_of w c ≡ None → IsWithin w top c → c ≡ top
  within_root top c e (inl same) = same
  within_root top c e (inr m) = absurd (contains_none top (rw (above_root w formed c e) at m))

  -- a parent is less deep, and every node less deep than there are nodes
  pub depth_parent : (p : Place) (c : FullNodeId) → StandsAt w p c → depth w p.0 < depth w c
  depth_parent p c e = omega (arith, depth_child w formed p c e)

  pub depth_root : (c : FullNodeId) → place_of w c ≡ None → depth w c ≡ 0
  depth_root c e = ap length (above_root w formed c e)

  pub path_root : (c : FullNodeId) → place_of w c ≡ None → index_path w c ≡ []
  path_root c e = rw (above_root w formed c e) refl

  -- the relative path is empty at the upper node, and grows by the index of each child below it
  pub relative_self : (top : FullNodeId) → relative_index_path w top top ≡ []
  relative_self top = ap (λ n. drop n (index_path w top)) (sym (path_length w top)) ∙ drop-length (index_path w top)

  pub relative_child : (top : FullNodeId) (p : Place) (c : FullNodeId) → StandsAt w p c → IsWithin w top p.0 → relative_index_path w top c ≡ relative_index_path w top p.0 ++ p.1 ∷ []
  relative_child top p c e within =
      let whole : index_path w c ≡ index_path w top ++ (relative_index_path w top p.0 ++ p.1 ∷ []) =
      path_child w formed p c e ∙ ap (λ xs. xs ++ p.1 ∷ []) (path_splits w formed top p.0 within) ∙ append_assoc (index_path w top) (relative_index_path w top p.0) (p.1 ∷ []) in
      ap (drop (depth w top)) whole ∙ ap (λ n. drop n (index_path w top ++ (relative_index_path w top p.0 ++ p.1 ∷ []))) (sym (path_length w top)) ∙ drop-append_seam (index_path w top) (relative_index_path w top p.0 ++ p.1 ∷ [])

  -- a node lies within all that a node that it lies within does
  within_up : (n : ℕ) (top middle c : FullNodeId) → depth w c ≤ n → IsWithin w top middle → IsWithin w middle c → IsWithin w top c
  within_up zero top middle c l a b = elim (within_parent middle c b) [
    | inl same ↦ rw same a
    | inr h ↦ absurd (omega (arith, depth_parent h.0 c h.1))
  ]
  within_up (suc n) top middle c l a b = elim (within_parent middle c b) [
    | inl same ↦ rw same a
    | inr h ↦ within_child top h.0 c h.1 (within_up n top middle h.0.0 (omega (arith, depth_parent h.0 c h.1)) a h.2)
  ]

  pub within_both : (top middle c : FullNodeId) → IsWithin w top middle → IsWithin w middle c → IsWithin w top c
  within_both top middle c a b = within_up (depth w c) top middle c (omega arith) a b

  -- it is no less deep, and deeper where it is another one
  depth_up : (n : ℕ) (top c : FullNodeId) → depth w c ≤ n → IsWithin w top c → depth w top ≤ depth w c
  depth_up n top c l (inl same) = omega (arith, ap (depth w) same)
  depth_up zero top c l (inr m) = elim (within_parent top c (inr m)) [
    | inl same ↦ omega (arith, ap (depth w) same)
    | inr h ↦ absurd (omega (arith, depth_parent h.0 c h.1))
  ]
  depth_up (suc n) top c l (inr m) = elim (within_parent top c (inr m)) [
    | inl same ↦ omega (arith, ap (depth w) same)
    | inr h ↦ omega (arith, depth_parent h.0 c h.1, depth_up n top h.0.0 (omega (arith, depth_parent h.0 c h.1)) h.2)
  ]

  pub within_deeper : (top c : FullNodeId) → IsWithin w top c → (c ≡ top) ⊎ (depth w top < depth w c)
  within_deeper top c b = elim (within_parent top c b) [
    | inl same ↦ inl same
    | inr h ↦ inr (omega (arith, depth_parent h.0 c h.1, depth_up (depth w h.0.0) top h.0.0 (omega arith) h.2))
  ]

  -- two nodes that lie within each other are one
  pub within_same : (a b : FullNodeId) → IsWithin w a b → IsWithin w b a → a ≡ b
  within_same a b h g = elim (within_deeper a b h) [
    | inl same ↦ sym same
    | inr up ↦ elim (within_deeper b a g) [
      | inl same ↦ same
      | inr down ↦ absurd (omega arith)
    ]
  ]
