-- What a filter that answers alike says of a node that is seen.
use Rattle.std.proofs.Common.{◌≡◌, Bool, sym, ◌∙◌, ap, subst}
use Rattle.model.specs.declared.FullNodeId.{FullNodeId}
use Rattle.model.specs.declared.filters.FilterResult.{FilterResult}
use Rattle.model.specs.World.{World}
use Rattle.model.specs.Covers.{is_cut_off, is_included}
use Rattle.views.specs.declared.node.node_ref.NodeRef.{NodeRef}
use Rattle.views.specs.Nodes.{world_at, id_at}
use Rattle.views.specs.Follows.{Follows}

module _ {answers : NodeRef → FilterResult → Type 0} {w : World} {f : FullNodeId → FilterResult} (follows : Follows answers w f) (n : NodeRef) where
  pub says_of : (r : FilterResult) (id : FullNodeId) → world_at n ≡ w → id_at n ≡ id → answers n r → f id ≡ r
  says_of r id same is said = sym (follows.at n r same said ∙ ap f is)

  -- the same of a test whether it is cut off
  pub says_cut : (r : Bool) (id : FullNodeId) → world_at n ≡ w → id_at n ≡ id → ((h : FullNodeId → FilterResult) → Follows answers (world_at n) h → r ≡ is_cut_off (h (id_at n))) → is_cut_off (f id) ≡ r
  says_cut r id same is said = sym (said f (subst (λ v. Follows answers v f) (sym same) follows) ∙ ap (λ i. is_cut_off (f i)) is)

  pub says_included : (r : FilterResult) → world_at n ≡ w → answers n r → is_included (f (id_at n)) ≡ is_included r
  says_included r same is = sym (ap is_included (follows.at n r same is))
