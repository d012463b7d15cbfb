-- Alike updates leave worlds of one outline.
use Rattle.std.proofs.Common.{◌≡◌, ◌↔◌, Option, Some, None, refl, sym, ap, ◌∙◌}
use Rattle.std.specs.Prelude.{◌==◌, option_map, if◌then◌else◌}
use Rattle.std.specs.Option.{option_map_or}
use Rattle.std.specs.FinMap.{same_map, nat_cmp-IsAntisymmetric}
use Rattle.std.specs.Cmp.{nat_cmp_total}
use Rattle.std.proofs.lemmas.Option.{none-some, same_Some}
use Rattle.schema.specs.NodeData.{NodeData}
use Rattle.model.specs.declared.FullNodeId.{FullNodeId}
use Rattle.model.specs.FullIds.{full_total, exact_full}
use Rattle.model.specs.World.{World, data_of, Reached, Kept}
use Rattle.model.specs.Update.{UpdateData, InfoData, index_for, toolkit_after, merged_world, IsRebuild, IsAccepted}
use Rattle.model.specs.Outline.{without_text, outline}
use Rattle.model.specs.Shape.{AreAlikeWorlds}
use Rattle.model.specs.AlikeRuns.{AreAlikeUpdates}
use Rattle.model.proofs.Text.Outlines.{data_bare}
use Rattle.model.proofs.Update.RebuildIsOne.{same_values}
use Rattle.model.proofs.Alike.Bare as bare
use Rattle.model.proofs.Alike.Bare.{SameBare}
use Rattle.model.proofs.Alike.Faults.{index_same}
use Rattle.model.proofs.Alike.Merging.{outlines, alike_order}

of_mapped : (o : Option NodeData) (e : NodeData) → option_map without_text o ≡ Some e → (d : NodeData) × (o ≡ Some d) × (without_text d ≡ e)
of_mapped None e h = absurd (none-some e h)
of_mapped (Some d) e h = (d, refl, same_Some (without_text d) e h)

-- what is said of a node of the outline of what a merged world leaves
abbrev IsLeft : World → FullNodeId → NodeData → Type 0
IsLeft m id e = Kept m id.tree × Reached m id × (option_map without_text (data_of m id) ≡ Some e)

left_is : (m new : World) → IsRebuild m new → (id : FullNodeId) (e : NodeData) → (option_map without_text (data_of new id) ≡ Some e) ↔ IsLeft m id e
left_is m new h id e = (
  λ is.
      let d = of_mapped (data_of new id) e is in
      let was = (h.nodes id d.0).0 d.1 in
      (was.0, was.1, ap (option_map without_text) was.2 ∙ ap Some d.2),
  λ was.
      let d = of_mapped (data_of m id) e was.2 in
      ap (option_map without_text) ((h.nodes id d.0).1 (was.0, was.1, d.1)) ∙ ap Some d.2,
)

left_alike : (m n : World) → SameBare m n → (id : FullNodeId) (e : NodeData) → IsLeft m id e → IsLeft n id e
left_alike m n s id e h = (bare.kept s id.tree h.0, bare.reached s id h.1, sym (s.bare id) ∙ h.2)

module _ (p : FullNodeId) (w v next other : World) (u x : UpdateData) (worlds : AreAlikeWorlds p w v) (updates : AreAlikeUpdates p w u x) (h : IsRebuild (merged_world w u) next) (g : IsRebuild (merged_world v x) other) where
  abbrev m : World
  m = merged_world w u

  abbrev n : World
  n = merged_world v x

  merged : SameBare m n
  merged = (alike_order p w v u x worlds updates).merged

  toolkits : toolkit_after w u ≡ toolkit_after v x
  toolkits =
      let one = outlines p w v worlds in
      let index : index_for w u.name ≡ index_for v x.name = index_same w v u.name x.name (bare.of_outlines w v one) updates.name in
      λ i. option_map_or (λ (info : InfoData). if index i == 0 then (info.toolkit_name, info.toolkit_version) else (one i).toolkit) (updates.info i) (one i).toolkit

  trees : next.trees ≡ other.trees
  trees = same_map nat_cmp_total nat_cmp-IsAntisymmetric next.trees other.trees (λ k. same_values _ _ _ (h.trees k) (λ t. (
    λ e. let was = (g.trees k t).0 e in (bare.kept (bare.turned merged) k was.0, bare.tree merged k ∙ was.1),
    λ was. (g.trees k t).1 (bare.kept merged k was.0, sym (bare.tree merged k) ∙ was.1),
  )))

  data_same : (id : FullNodeId) → option_map without_text (data_of next id) ≡ option_map without_text (data_of other id)
  data_same id = same_values (IsLeft m id) _ _ (left_is m next h id) (λ e. (
    λ is. left_alike n m (bare.turned merged) id e ((left_is n other g id e).0 is),
    λ was. (left_is n other g id e).1 (left_alike m n merged id e was),
  ))

  pub left_outlines : outline next ≡ outline other
  left_outlines =
      let known = h.known ∙ merged.known ∙ sym g.known in
      let nodes = same_map full_total exact_full (outline next).nodes (outline other).nodes (λ id. data_bare next id ∙ data_same id ∙ sym (data_bare other id)) in
      let toolkit = h.toolkit ∙ toolkits ∙ sym g.toolkit in
      let host = h.host ∙ merged.host ∙ sym g.host in
      λ i. record { known = known i; trees = trees i; nodes = nodes i; toolkit = toolkit i; host_focused = host i }

pub one_outline : (p : FullNodeId) (w v next other : World) (u x : UpdateData) → AreAlikeWorlds p w v → AreAlikeUpdates p w u x → IsAccepted w u next → IsAccepted v x other → outline next ≡ outline other
one_outline p w v next other u x worlds updates h g = left_outlines p w v next other u x worlds updates h.1 g.1
