-- A merged world has one rebuild.
use Rattle.std.proofs.Common.{◌≡◌, Option, Some, None, ◌↔◌, refl, sym, ◌∙◌}
use Rattle.std.specs.FinMap.{same_map, nat_cmp-IsAntisymmetric}
use Rattle.std.specs.Cmp.{nat_cmp_total}
use Rattle.model.specs.FullIds.{full_total, exact_full}
use Rattle.model.specs.World.{World}
use Rattle.model.specs.Update.{IsRebuild}

-- two options with the same values are equal
pub same_values : {A : Type 0} (P : A → Type 0) (x y : Option A) → ((a : A) → (x ≡ Some a) ↔ P a) → ((a : A) → (y ≡ Some a) ↔ P a) → x ≡ y
same_values P None None f g = refl
same_values P None (Some b) f g = (f b).1 ((g b).0 refl)
same_values P (Some a) y f g = sym ((g a).1 ((f a).0 refl))

pub rebuild_unique : (m a b : World) → IsRebuild m a → IsRebuild m b → a ≡ b
rebuild_unique m a b p q =
    let trees : a.trees ≡ b.trees = same_map nat_cmp_total nat_cmp-IsAntisymmetric a.trees b.trees (λ i. same_values _ _ _ (p.trees i) (q.trees i)) in
    let nodes : a.nodes ≡ b.nodes = same_map full_total exact_full a.nodes b.nodes (λ id. same_values _ _ _ (p.nodes id) (q.nodes id)) in
    let known : a.known ≡ b.known = p.known ∙ sym q.known in
    let toolkit : a.toolkit ≡ b.toolkit = p.toolkit ∙ sym q.toolkit in
    let host : a.host_focused ≡ b.host_focused = p.host ∙ sym q.host in
    λ i. record { known = known i; trees = trees i; nodes = nodes i; toolkit = toolkit i; host_focused = host i }
