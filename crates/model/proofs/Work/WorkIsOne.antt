-- The numbers of an update are fixed by it.
use Rattle.std.proofs.Common.{◌≡◌, ℕ, ◌+◌, List, [], ◌∷◌, length, refl, sym, ap, subst, ◌∙◌}
use Rattle.model.specs.declared.FullNodeId.{FullNodeId}
use Rattle.model.specs.World.{World, Place}
use Rattle.model.specs.Update.{UpdateData}
use Rattle.model.specs.State.{IsState}
use Rattle.model.specs.Work.{Work, HasDepthInTree, at_root, at_child, IsSumOfDepths, IsWorkOf, named_ids}
use Rattle.model.proofs.Ascending.{ascending_list_unique}

module _ (w : World) (state : IsState w) where
  pub depth_unique : (id : FullNodeId) (a b : ℕ) → HasDepthInTree w id a → HasDepthInTree w id b → a ≡ b
  depth_unique id a b (at_root index _ e) (at_root other _ f) = refl
  depth_unique id a b (at_root index _ e) (at_child p _ depth h l) = absurd (state.root_unlisted p index id e l)
  depth_unique id a b (at_child p _ depth h l) (at_root index _ e) = absurd (state.root_unlisted p index id e l)
  depth_unique id a b (at_child p _ depth h l) (at_child q _ other g m) =
      let place : p ≡ q = state.listed_once p q id l m in
      ap (λ n. n + 1) (depth_unique q.0 depth other (subst (λ (x : Place). HasDepthInTree w x.0 depth) place h) g)

  sum_unique : (ids : List FullNodeId) (a b : ℕ) → IsSumOfDepths w ids a → IsSumOfDepths w ids b → a ≡ b
  sum_unique [] a b h g = h ∙ sym g
  sum_unique (id ∷ ids) a b h g =
      h.4 ∙ ap (λ n. n + h.1) (depth_unique id h.0 g.0 h.2 g.2) ∙ ap (λ n. g.0 + n) (sum_unique ids h.1 g.1 h.3 g.3) ∙ sym g.4

pub work_unique : (old new : World) (u : UpdateData) (a b : Work) → IsState new → IsWorkOf old u new a → IsWorkOf old u new b → a ≡ b
work_unique old new u a b state h g =
    let named : a.named ≡ b.named = h.count_named ∙ sym g.count_named in
    let children : a.children ≡ b.children = h.count_children ∙ ap length (ascending_list_unique _ _ _ h.are_children g.are_children) ∙ sym g.count_children in
    let removed : a.removed ≡ b.removed = h.count_removed ∙ ap length (ascending_list_unique _ _ _ h.are_removed g.are_removed) ∙ sym g.count_removed in
    let depths : a.depths ≡ b.depths = sum_unique new state (named_ids old u) a.depths b.depths h.sum_depths g.sum_depths in
    let known : a.known ≡ b.known = h.count_known ∙ sym g.count_known in
    λ i. record { named = named i; children = children i; removed = removed i; depths = depths i; known = known i }
