-- A climb from a node and the way back.
use Rattle.std.proofs.Common.{◌≡◌, List, [], ◌∷◌, ◌++◌, map, Some, append_assoc, refl, sym, ap, ◌∙◌}
use Rattle.std.proofs.lemmas.List.{map-append}
use Rattle.model.specs.declared.FullNodeId.{FullNodeId}
use Rattle.model.specs.Forest.{IsFormed}
use Rattle.model.specs.Lists.{ancestors}
use Rattle.model.specs.Upward.{upward}
use Rattle.model.specs.World.{World}
use Rattle.views.specs.declared.node.node_ref.NodeRef.{NodeRef}
use Rattle.views.specs.Nodes.{world_at, id_at}
use Rattle.views.specs.PlainWalks.{node_in, node_of}
use Rattle.views.proofs.Climbing.{parent_of, parent_above, rest_above}
use Rattle.speaking.specs.Above.{LeadsTo}

abbrev pub pairs : World → List FullNodeId → List (World × FullNodeId)
pairs w ids = map (node_in w) ids

pub leads_nowhere : (w : World) (n : NodeRef) → world_at n ≡ w → LeadsTo w (id_at n) [] n
leads_nowhere w n same = record { world = same; whole = refl }

module _ (w : World) (formed : IsFormed w) where
  -- one step up
  pub leads_up : (id : FullNodeId) (path : List NodeRef) (n q : NodeRef) → LeadsTo w id path n → world_at q ≡ world_at n → Some (id_at q) ≡ parent_of (world_at n) (id_at n) → LeadsTo w id (path ++ n ∷ []) q
  leads_up id path n q h same parent = record {
    world = same ∙ h.world;
    whole =
        ap (λ xs. xs ++ pairs w (upward w (id_at q))) (map-append node_of path (n ∷ []))
        ∙ append_assoc (map node_of path) (node_of n ∷ []) (pairs w (upward w (id_at q)))
        ∙ ap (λ v. map node_of path ++ node_in v (id_at n) ∷ pairs w (upward w (id_at q))) h.world
        ∙ ap (λ ids. map node_of path ++ pairs w (id_at n ∷ ids)) (sym (parent_above w formed (id_at n) (id_at q) (parent ∙ ap (λ u. parent_of u (id_at n)) h.world)))
        ∙ h.whole;
  }

  -- of a list of pairs that is that of a node and those above it, what comes after a pair is that of those above its node
  rest_is : (front : List (World × FullNodeId)) (x : World × FullNodeId) (rest : List FullNodeId) (id : FullNodeId) → front ++ x ∷ pairs w rest ≡ pairs w (upward w id) →
      (x.0 ≡ w) × (pairs w (ancestors w x.1) ≡ pairs w rest)
  rest_is [] x rest id e =
      let same : x ∷ pairs w rest ≡ node_in w id ∷ pairs w (ancestors w id) = e in
      let first : x ≡ node_in w id = cc in
      let others : pairs w rest ≡ pairs w (ancestors w id) = cc in
      (ap (λ (p : World × FullNodeId). p.0) first, ap (λ (p : World × FullNodeId). pairs w (ancestors w p.1)) first ∙ sym others)
  rest_is (y ∷ front) x rest id e =
      let same : y ∷ (front ++ x ∷ pairs w rest) ≡ node_in w id ∷ pairs w (ancestors w id) = e in
      let others : front ++ x ∷ pairs w rest ≡ pairs w (ancestors w id) = cc in
      go (ancestors w id) refl others (λ q h. rest_is front x rest q h)
    where
      go : (up : List FullNodeId) → ancestors w id ≡ up → front ++ x ∷ pairs w rest ≡ pairs w (ancestors w id) →
          ((q : FullNodeId) → front ++ x ∷ pairs w rest ≡ pairs w (upward w q) → (x.0 ≡ w) × (pairs w (ancestors w x.1) ≡ pairs w rest)) →
          (x.0 ≡ w) × (pairs w (ancestors w x.1) ≡ pairs w rest)
      go [] at h later = absurd (no_end front (h ∙ ap (pairs w) at))
        where
          no_end : (xs : List (World × FullNodeId)) → ¬ (xs ++ x ∷ pairs w rest ≡ [])
          no_end [] k = let clash : x ∷ pairs w rest ≡ [] = k in cc
          no_end (z ∷ zs) k = let clash : z ∷ (zs ++ x ∷ pairs w rest) ≡ [] = k in cc
      go (q ∷ up) at h later = later q (h ∙ ap (pairs w) at ∙ ap (λ xs. pairs w (q ∷ xs)) (sym (rest_above w formed id q up at)))

  ids_of : (a b : List FullNodeId) → pairs w a ≡ pairs w b → a ≡ b
  ids_of [] [] e = refl
  ids_of [] (y ∷ b) e = absurd (let clash : [] ≡ node_in w y ∷ pairs w b = e in cc)
  ids_of (x ∷ a) [] e = absurd (let clash : node_in w x ∷ pairs w a ≡ [] = e in cc)
  ids_of (x ∷ a) (y ∷ b) e =
      let same : node_in w x ∷ pairs w a ≡ node_in w y ∷ pairs w b = e in
      let first : node_in w x ≡ node_in w y = cc in
      let others : pairs w a ≡ pairs w b = cc in
      λ i. (first i).1 ∷ ids_of a b others i

  -- one step down: the last of the path is a child of the end
  pub leads_down : (id : FullNodeId) (path front : List NodeRef) (n at : NodeRef) → path ≡ front ++ n ∷ [] → LeadsTo w id path at →
      (world_at n ≡ w) × (ancestors w (id_at n) ≡ id_at at ∷ ancestors w (id_at at)) × LeadsTo w id front n
  leads_down id path front n at split h =
      let whole : map node_of front ++ node_of n ∷ pairs w (upward w (id_at at)) ≡ pairs w (upward w id) =
      sym (append_assoc (map node_of front) (node_of n ∷ []) (pairs w (upward w (id_at at))))
      ∙ ap (λ xs. xs ++ pairs w (upward w (id_at at))) (sym (map-append node_of front (n ∷ [])))
      ∙ ap (λ xs. map node_of xs ++ pairs w (upward w (id_at at))) (sym split)
      ∙ h.whole in
      let found = rest_is (map node_of front) (node_of n) (upward w (id_at at)) id whole in
      let up : ancestors w (id_at n) ≡ upward w (id_at at) = ids_of (ancestors w (id_at n)) (upward w (id_at at)) found.1 in (
        found.0,
        up,
        record {
          world = found.0;
          whole =
              ap (λ ids. map node_of front ++ pairs w (id_at n ∷ ids)) up
              ∙ sym (ap (λ v. map node_of front ++ node_in v (id_at n) ∷ pairs w (upward w (id_at at))) found.0)
              ∙ whole;
        },
      )

  -- at the end of the path back is the node
  pub leads_back : (id : FullNodeId) (path : List NodeRef) (at : NodeRef) → path ≡ [] → LeadsTo w id path at → id_at at ≡ id
  leads_back id path at none h =
      let same : node_in w (id_at at) ∷ pairs w (ancestors w (id_at at)) ≡ node_in w id ∷ pairs w (ancestors w id) =
      ap (λ xs. map node_of xs ++ pairs w (upward w (id_at at))) (sym none) ∙ h.whole in
      let first : node_in w (id_at at) ≡ node_in w id = cc in
      ap (λ (p : World × FullNodeId). p.1) first
